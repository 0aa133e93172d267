-- A table declares at most one list of options, or has only one error.
use Rattle.std.proofs.Common.{◌≡◌, ℕ, true, false, List, [], ◌∷◌, ◌++◌, length, Option, Some, None, refl, sym, ap}
use Rattle.std.proofs.Common.{subst, ◌∙◌, append_assoc, arith, ◌+◌, Bool, rules}
use Rattle.std.specs.Prelude.{◌||◌, ◌&&◌, if◌then◌else◌, not}
use Rattle.std.specs.Option.{option_to_list}
use Rattle.getopts.specs.Names.{Names, Text}
use Rattle.getopts.specs.declared.kinds.HasArg.{HasArg}
use Rattle.getopts.specs.Wrap.{lines_of}
use Rattle.getopts_shell.specs.Table.{Entry, IsItem, HasParts, declares_no_option, Declares, DeclareEntries}
use Rattle.getopts_shell.specs.Table.{DeclaresOptions, OneTableOneList, DeclareOptions, name_again, TableFault}
use Rattle.getopts_shell.specs.Table.{IsLineFault, IsTableFault, Operand, late, line_number, none, operand_at}
use Rattle.getopts_shell.specs.Table.{operands_among, twice, is_operand, is_skipped, item_of}
use Rattle.getopts_shell.specs.declared.row.Frequency.{Frequency}
use Rattle.getopts_shell.proofs.Lines.{operands_around, places}
use Rattle.getopts_shell.proofs.Items.{one_bracketed, one_pair}
use Rattle.std.proofs.lemmas.Grind.{common_steps}

-- an item has only one meaning
one_item : (text : Text) (own others : Names) (kind other : HasArg) (frequency another : Frequency)
    (hint behind : Text) → IsItem text own kind frequency hint → IsItem text others other another behind
    → (others ≡ own) × (other ≡ kind) × (another ≡ frequency) × (behind ≡ hint)
one_item text own others kind other frequency another hint behind is also =
    let same = one_bracketed text is.inside also.inside frequency another is.brackets also.brackets in
    let pair = one_pair is.inside is.names also.names is.argument also.argument is.parts
    (subst (λ (t : Text). HasParts t also.names also.argument) same.0 also.parts) in
    grind (arith, common_steps)

-- an entry with these parts
abbrev made : ℕ → Names → HasArg → Frequency → Text → Text → Entry
made line names kind frequency hint description = record {
  line = line;
  names = names;
  kind = kind;
  frequency = frequency;
  hint = hint;
  description = description;
}

-- a line declares only one thing
one_declared : (number : ℕ) (line : Text) (declared other : Option Entry)
    → Declares number line declared → Declares number line other → other ≡ declared
one_declared number line None None is also = refl
one_declared number line None (Some entry) is also = search rules
one_declared number line (Some entry) None is also = search rules
one_declared number line (Some entry) (Some other) is also =
    let same = one_item _ entry.names other.names entry.kind other.kind entry.frequency other.frequency
    entry.hint other.hint is.item also.item in
    ap Some (one_entry entry other (also.number_is ∙ sym is.number_is) same.0 same.1 same.2 same.3
    (also.description ∙ sym is.description))
  where
    one_entry : (entry other : Entry) → other.line ≡ entry.line → other.names ≡ entry.names
        → other.kind ≡ entry.kind → other.frequency ≡ entry.frequency → other.hint ≡ entry.hint
        → other.description ≡ entry.description → other ≡ entry
    one_entry entry other line names kind frequency hint description = search rules

-- lines declare only one list of entries
one_entries : (before : ℕ) (lines : List Text) (entries others : List Entry)
    → DeclareEntries before lines entries → DeclareEntries before lines others → others ≡ entries
one_entries before [] entries others is also = also ∙ sym is
one_entries before (line ∷ lines) entries others is also =
    search (rules, one_declared, one_entries (before + 1) lines is.1 also.1 is.3 also.3)

-- lines declare at most one list of options
one_list : (lines : List Text) (entries others : List Entry) → DeclareOptions lines entries
    → DeclareOptions lines others → others ≡ entries
one_list lines entries others is also = search (rules, one_entries)

-- and so does a table
pub one_table : OneTableOneList
one_table table = one_list (lines_of table)

-- ---- errors

-- what a line among lines declares, if it is known what the lines before it declare
data DeclaresAt (number : ℕ) (line : Text) (entries all : List Entry) : Type 0 where
  stands : (declared : Option Entry) (others : List Entry) → Declares number line declared
      → all ≡ entries ++ (option_to_list declared ++ others) → DeclaresAt number line entries all

-- a line declares something if the lines around it do
declares_at : (count number : ℕ) (before after : List Text) (line : Text) (entries all : List Entry)
    → number ≡ line_number (count + length before) → DeclareEntries count before entries
    → DeclareEntries count (before ++ line ∷ after) all → DeclaresAt number line entries all
declares_at count number [] after line entries all number_is is also =
    stands also.0 also.1
    (subst (λ (n : ℕ). Declares n line also.0) (omega (arith, number_is)) also.2) (rw is also.4)
declares_at count number (first ∷ before) after line entries all number_is is also =
    more (declares_at (count + 1) number before after line is.1 also.1 (number_is ∙ omega arith)
    is.3 also.3)
  where
    more : DeclaresAt number line is.1 also.1 → DeclaresAt number line entries all
    more (stands declared others declares all_is) =
        let same = one_declared (line_number count) first is.0 also.0 is.2 also.2 in
        stands declared others declares
        (also.4 ∙ rw (same, all_is, is.4) (sym (append_assoc (option_to_list is.0) is.1 _)))

-- a line among lines that declare options has no error
no_fault_at : (before after : List Text) (line : Text) (entries all : List Entry) (fault : TableFault)
    → DeclareOptions before entries → DeclareOptions (before ++ line ∷ after) all
    → ¬ (IsLineFault (line_number (length before)) entries (operands_among before) line fault)
no_fault_at before after line entries all fault so_far whole =
    by_line (declares_at 0 _ before after line entries all (omega arith) so_far.declared
    whole.declared)
  where
    by_line : {fault : TableFault} → DeclaresAt (line_number (length before)) line entries all
        → ¬ (IsLineFault (line_number (length before)) entries (operands_among before) line
        fault)
    by_line (stands declared others declares all_is) (none no_declared) =
        no_declared declared declares
    by_line (stands None others declares all_is) (twice entry name of again) =
        let both : true ≡ false = sym declares ∙ of.there in cc
    by_line (stands (Some other) others declares all_is) (twice entry name of again) =
        let same = one_declared _ line (Some other) (Some entry) declares of in
        let entry_is : entry ≡ other = cc in
        let both : Some name ≡ None = sym again ∙ ap (name_again entries) entry_is
        ∙ whole.once entries others other all_is in cc
    by_line _ (late operand blocking is conflicts) = search (rules, operands_around before line after)

-- a table that declares options has no error
pub no_fault : (table : Text) (entries : List Entry) (fault : TableFault) → DeclaresOptions table entries
    → ¬ (IsTableFault table fault)
no_fault table entries fault declares is = search (rules, no_fault_at)

-- the line of an operand declares no option
operand_declares_no_option : (line : Text) (operand : Operand)
    → operand_at line ≡ Some operand → declares_no_option line ≡ true
operand_declares_no_option line operand is = by_tests _ (is_skipped line) (is_operand (item_of line)) is
  where
    by_tests : (there : Operand) (skipped of_operand : Bool)
        → (if not skipped && of_operand then Some there else None) ≡ Some operand
        → (skipped || of_operand) ≡ true
    by_tests there true of_operand is = refl
    by_tests there false true is = refl
    by_tests there false false is = absurd cc

-- a line has at most one error
one_line_fault : (number : ℕ) (entries : List Entry) (operands : List Operand) (line : Text)
    (fault other : TableFault) → IsLineFault number entries operands line fault
    → IsLineFault number entries operands line other → other ≡ fault
one_line_fault number entries operands line fault other (none is) (none also) = refl
one_line_fault number entries operands line fault other (none is) (twice entry name of again) =
    absurd (is (Some entry) of)
one_line_fault number entries operands line fault other (twice entry name of again) (none is) =
    absurd (is (Some entry) of)
one_line_fault number entries operands line fault other (twice entry name of again)
    (twice also another of_also again_also) = cc (one_declared number line (Some entry) (Some also) of of_also)
one_line_fault number entries operands line fault other (late operand blocking is conflicts)
    (late also another at_also conflicts_also) = search rules
one_line_fault number entries operands line fault other (late operand blocking is conflicts) (none also) =
    absurd (also None (operand_declares_no_option line operand is))
one_line_fault number entries operands line fault other (none is) (late operand blocking at conflicts) =
    absurd (is None (operand_declares_no_option line operand at))
one_line_fault number entries operands line fault other (late operand blocking is conflicts)
    (twice entry name of again) = search rules
one_line_fault number entries operands line fault other (twice entry name of again)
    (late operand blocking at conflicts) = search rules

-- a table has at most one error
pub one_fault : (table : Text) (fault other : TableFault) → IsTableFault table fault → IsTableFault table other
    → other ≡ fault
one_fault table fault other is also = search (rules, places, one_list, one_line_fault, no_fault_at)
