-- Operands, one after the other.
use Rattle.std.proofs.Common.{◌≡◌, ℕ, ◌<◌, ◌≤◌, ◌+◌, Bool, List, [], ◌∷◌, ◌++◌, length, drop, get_or, map, take, Some}
use Rattle.std.proofs.Common.{None, ap, ◌∙◌, arith, ◌-◌, suc, zero, rules}
use Rattle.std.specs.Prelude.{◌||◌, codes, if◌then◌else◌, nat_lt}
use Rattle.std.specs.List.{AllZip}
use Rattle.getopts.specs.Only.{IsTheOnly}
use Rattle.getopts.specs.Usage.{description_columns, margin, next_row, spaces, usual_columns}
use Rattle.getopts.proofs.Only.{made_of_the_only}
use Rattle.std.proofs.lemmas.List.{at_drop_more}
use Rattle.std.proofs.lemmas.Grind.{common_steps}
use Rattle.getopts.specs.Wrap.{IsDescriptionRows, joined, parting}
use Rattle.getopts.specs.Names.{Text}
use Rattle.getopts_shell.specs.Program.{IsOperandRow, free_fault, operand_fault, operand_head, continued, help_front}
use Rattle.getopts_shell.specs.Program.{unexpected}
use Rattle.getopts_shell.specs.Stored.{operand_of, operands_of}
use Rattle.getopts_shell.specs.Table.{Operand, may_repeat}
use Rattle.getopts_shell.specs.declared.operand.Operand.{Operand as StoredOperand}

-- if a table has operands, the error of free words is theirs
pub fault_of_some : (operands : List StoredOperand) (free : List Text) → 0 < length operands
    → free_fault (operands_of operands) free ≡ operand_fault (operands_of operands) free
fault_of_some operands free some = grind (arith, common_steps)

-- a word is the operand's, or all from there on are
pub fault_from : (operands : List StoredOperand) (free : List Text) (at : ℕ) (d : StoredOperand)
    (again : Bool)
    → at < length operands → at < length free → may_repeat (operand_of (get_or operands at d))
    ≡ again
    → operand_fault (operands_of (drop at operands)) (drop at free)
    ≡ (if again then None else operand_fault (operands_of (drop (at + 1) operands))
    (drop (at + 1) free))
fault_from operands free at d again below more again_is =
    ap (λ (more : List StoredOperand). operand_fault (operands_of more) (drop at free))
    (at_drop_more (λ (t : List StoredOperand). t) operands at d below)
    ∙ ap (operand_fault (operands_of (get_or operands at d ∷ drop (at + 1) operands)))
    (at_drop_more (λ (t : List Text). t) free at [] more)
    ∙ ap (λ (b : Bool). if b then None else operand_fault (operands_of (drop (at + 1) operands))
    (drop (at + 1) free)) again_is

-- if each operand has its word, the next word is one too many
pub fault_past : (operands : List StoredOperand) (free : List Text) (at : ℕ) → length operands ≤ at → at < length free
    → operand_fault (operands_of (drop at operands)) (drop at free) ≡ Some (unexpected (get_or free at []))
fault_past operands free at past more = grind (arith, common_steps)

-- the items of operands
abbrev pub items_of : List StoredOperand → List Text
items_of operands = map (λ (operand : Operand). operand.item) (operands_of operands)

-- what follows the last operand, as the code reads it
abbrev pub no_operand : StoredOperand
no_operand = record {
  item = record { ref_ptr = (0, 0); now = [] };
  description = record { ref_ptr = (0, 0); now = [] };
}

-- one more operand
pub items_push : (begun parted : Bool) (operands : List StoredOperand) (at : ℕ) (d : StoredOperand)
    (old text : Text) → at < length operands → parted ≡ (begun || nat_lt 0 at)
    → text ≡ old ++ continued begun (codes " ") (items_of (take at operands))
    → (text ++ parting parted (codes " ")) ++ (get_or operands at d).item.now
    ≡ old ++ continued begun (codes " ") (items_of (take (at + 1) operands))
items_push begun parted operands at d old text below parted_is text_is = grind (arith, common_steps)

-- ---- rows

drop_spaces : (m n total : ℕ) → total ≡ m + n → drop m (spaces total) ≡ spaces n
drop_spaces zero n total e = ap spaces (omega arith)
drop_spaces (suc m) n zero e = absurd (omega arith)
drop_spaces (suc m) n (suc total) e = drop_spaces m n total (omega arith)

-- the padding of a short item is the end of the next row
pub padding_short : (columns : ℕ) → columns < margin - 4 → drop (5 + columns) next_row ≡ spaces (margin - 4 - columns)
padding_short columns short = search (rules, drop_spaces (4 + columns) (margin - 4 - columns) margin (omega arith))

-- a row made of the only description rows is the only row
pub row_made : (operand : Operand) (description : List Text) (row : Text)
    → IsTheOnly (IsDescriptionRows (description_columns usual_columns) operand.description) description
    → row ≡ operand_head operand.item ++ joined next_row description → IsTheOnly (IsOperandRow operand) row
row_made operand description row only row_is =
    made_of_the_only (IsDescriptionRows (description_columns usual_columns) operand.description)
    (λ (rows : List Text). operand_head operand.item ++ joined next_row rows) description row only
    row_is

-- what is the only row of each operand so far
abbrev pub AreOnlyRows : List Operand → List Text → Type 0
AreOnlyRows operands rows =
    AllZip (λ (operand : Operand) (row : Text). IsTheOnly (IsOperandRow operand) row) operands rows

-- one more row
pub rows_push : (operands : List Operand) (rows : List Text) (operand : Operand) (row : Text)
    → AreOnlyRows operands rows → IsTheOnly (IsOperandRow operand) row
    → AreOnlyRows (operands ++ operand ∷ []) (rows ++ row ∷ [])
rows_push [] [] operand row all is = (is, tt)
rows_push [] (other ∷ rows) operand row all is = absurd all
rows_push (other ∷ operands) [] operand row all is = absurd all
rows_push (other ∷ operands) (first ∷ rows) operand row all is = (all.0, rows_push operands rows operand row all.1 is)

-- what precedes the options in a help, without rows and with some
pub front_without : (brief : Text) (rows : List Text) → length rows ≡ 0 → help_front brief rows ≡ brief
front_without brief rows h2 = search rules

pub front_with : (brief : Text) (rows : List Text) → 0 < length rows
    → help_front brief rows ≡ brief ++ (codes "\n\nArguments:\n" ++ joined (codes "\n") rows)
front_with brief rows some = search rules
