-- Lines of a table.
use Rattle.std.proofs.Common.{◌≡◌, ℕ, ◌<◌, ◌+◌, Bool, true, false, List, [], ◌∷◌, ◌++◌, length, take, drop, get_or}
use Rattle.std.proofs.Common.{map, refl, ap, ◌∙◌, arith, append-nil, append_assoc, subst, length-append, rules}
use Rattle.std.specs.Prelude.{◌&&◌, OnOk, Result, ◌||◌, ◌==◌, IfSome, Option, Some, None, slice_index, min, ◌-◌, ◌^◌}
use Rattle.std.specs.List.{list_any}
use Rattle.std.specs.Option.{option_to_list}
use Rattle.std.proofs.lemmas.List.{at_drop_more, take_more}
use Rattle.std.proofs.lemmas.List.Concat.{flat_map-append}
use Rattle.getopts.specs.Names.{Names, Text, is_empty}
use Rattle.getopts.specs.declared.kinds.HasArg.{HasArg}
use Rattle.getopts.specs.Wrap.{lines_of}
use Rattle.getopts_shell.specs.Stored.{IsOutOfMemoryOrFault}
use Rattle.getopts_shell.specs.declared.table.TableError.{TableError}
use Rattle.std.specs.Str.{IsTrimAscii}
use Rattle.std.proofs.lemmas.Str.Ascii.{trim_ascii_is}
use Rattle.getopts_shell.specs.Table.{after_blanks, trimmed, before_gap, from_gap, Entry, declares_no_option, IsItem}
use Rattle.getopts_shell.specs.Table.{DeclaresEntry, Declares, Operand, is_operand, operand_at}
use Rattle.getopts_shell.specs.Table.{operands_among, DeclareEntries, DeclareOptions, EachAfter, IsLineFault}
use Rattle.getopts_shell.specs.Table.{front_after, gap_after, is_gap, IsTableFault, TableFault, conflicting_operand}
use Rattle.getopts_shell.specs.Table.{line_number, name_again, no_option, none}
use Rattle.getopts_shell.specs.declared.row.Frequency.{Frequency}
use Rattle.std.proofs.lemmas.Grind.{common_steps}

-- a test of what is made of elements
pub list_any_map : {X Y : Type 0} (p : Y → Bool) (f : X → Y) (xs : List X)
    → list_any p (map f xs) ≡ list_any (λ x. p (f x)) xs
list_any_map p f [] = refl
list_any_map p f (x ∷ xs) = ap (λ (b : Bool). p (f x) || b) (list_any_map p f xs)

-- what the trimming of std gives
pub trimmed_is : (text other : Text) → IsTrimAscii text other → other ≡ trimmed text
trimmed_is text other is = trim_ascii_is text other (after_blanks text) refl is

-- ---- gaps

-- no gap begins with a byte that isn't blank
pub no_blank : (text : Text) (at : ℕ) → at < length text → (get_or text at 0 == 9 || get_or text at 0 == 32) ≡ false
    → is_gap (take at text) (drop at text) ≡ false
no_blank text at below is =
    ap (is_gap (take at text)) (at_drop_more (λ (t : Text). t) text at 0 below)
    ∙ by_tests (get_or text at 0 == 9) (get_or text at 0 == 32) _ _ is
  where
    by_tests : (tab space double single : Bool) → (tab || space) ≡ false
        → ((tab || (space && double)) || (space && single)) ≡ false
    by_tests false false double single is = refl
    by_tests false true double single is = absurd cc
    by_tests true space double single is = absurd cc

-- without a gap at a place, the first gap is the first after it
pub no_gap : (text : Text) (at : ℕ) → at < length text → is_gap (take at text) (drop at text) ≡ false
    → (take at text ++ front_after (take at text) (drop at text)
    ≡ take (at + 1) text ++ front_after (take (at + 1) text) (drop (at + 1) text))
    × (gap_after (take at text) (drop at text) ≡ gap_after (take (at + 1) text) (drop (at + 1) text))
no_gap text at below is =
    let more = at_drop_more (λ (t : Text). t) text at 0 below in search (rules, take_more, append_assoc)

-- ---- what a line declares

-- whether a text without blanks at its ends is the line of nothing
abbrev skips : Text → Bool
skips text = is_empty text || (slice_index text 0 == 35)

-- such a line declares no operand
pub no_operand_at : (line text item : Text) → text ≡ trimmed line → skips text ≡ false
    → item ≡ trimmed (before_gap text) → is_operand item ≡ false → operand_at line ≡ None
no_operand_at line text item text_is there item_is plain = search rules

-- a line of an operand
pub declares_operand : (line text item rest description : Text) → text ≡ trimmed line → skips text ≡ false
    → item ≡ trimmed (before_gap text) → rest ≡ from_gap text → description ≡ trimmed rest → is_operand item ≡ true
    → (declares_no_option line ≡ true) × (operand_at line ≡ Some (record { item = item; description = description }))
declares_operand line text item rest description text_is there item_is rest_is description_is
    operand = search rules

-- the operands of a line among lines
pub operands_around : (lines : List Text) (line : Text) (more : List Text)
    → operands_among (lines ++ line ∷ more)
    ≡ operands_among lines ++ (option_to_list (operand_at line) ++ operands_among more)
operands_around lines line more = simp flat_map-append

-- a line that isn't passed over and has an option declares it
pub declares_entry : (number : ℕ) (line text item rest description : Text) (entry : Entry) → entry.line ≡ number
    → text ≡ trimmed line → skips text ≡ false → item ≡ trimmed (before_gap text) → is_operand item ≡ false
    → rest ≡ from_gap text → description ≡ trimmed rest → entry.description ≡ description
    → IsItem item entry.names entry.kind entry.frequency entry.hint → DeclaresEntry number line entry
declares_entry number line text item rest description entry number_is text_is there item_is plain
    rest_is description_is is of_item = search rules

-- a line that isn't passed over and has no option has an error
pub faulty_line : (line text item : Text) (number : ℕ) (entries : List Entry)
    (operands : List Operand) → text ≡ trimmed line
    → skips text ≡ false → item ≡ trimmed (before_gap text) → is_operand item ≡ false
    → ((names : Names) (kind : HasArg) (frequency : Frequency) (hint : Text)
    → ¬ (IsItem item names kind frequency hint))
    → IsLineFault number entries operands line (no_option number item)
faulty_line line text item number entries operands text_is there item_is plain none_of =
    rw (item_is, text_is) (none declares_not)
  where
    declares_not : (declared : Option Entry) → ¬ (Declares number line declared)
    declares_not None is = search rules
    declares_not (Some entry) is = none_of entry.names entry.kind entry.frequency entry.hint
        (rw (item_is, text_is) is.item)

-- ---- lines, one after the other

-- The order of two places in a list, by what precedes each.
pub data Places {X : Type 0} (before others : List X) (x y : X) : Type 0 where
  here : others ≡ before → y ≡ x → Places before others x y
  later : (more : List X) → others ≡ before ++ x ∷ more → Places before others x y
  earlier : (more : List X) → before ≡ others ++ y ∷ more → Places before others x y

-- the same, with one more element before both
one_further : {X : Type 0} (before others : List X) (x y first other : X) → other ≡ first
    → Places before others x y → Places (first ∷ before) (other ∷ others) x y
one_further before others x y first other same (here is also) = here (cc) also
one_further before others x y first other same (later more is) = later more cc
one_further before others x y first other same (earlier more is) = earlier more cc

-- one of these is true of any two places
pub places : {X : Type 0} (before others after rest : List X) (x y : X)
    → before ++ x ∷ after ≡ others ++ y ∷ rest → Places before others x y
places [] [] after rest x y same = here refl cc
places [] (other ∷ others) after rest x y same = later others cc
places (first ∷ before) [] after rest x y same = earlier before cc
places (first ∷ before) (other ∷ others) after rest x y same =
    one_further before others x y first other (cc) (places before others after rest x y (cc))

-- and with what one more line declares
each_append : {X : Type 0} (Is : List X → X → Type 0) (xs : List X) (declared : Option X) → EachAfter Is xs
    → IfSome declared (λ x. Is xs x) → EachAfter Is (xs ++ option_to_list declared)
each_append Is xs declared each is = grind (arith, common_steps, append-nil, places)

-- one more line
one_more_line : (before : ℕ) (lines : List Text) (line : Text) (number : ℕ) (entries : List Entry)
    (declared : Option Entry) → DeclareEntries before lines entries
    → number ≡ line_number (before + length lines) → Declares number line declared
    → DeclareEntries before (lines ++ line ∷ []) (entries ++ option_to_list declared)
one_more_line before [] line number entries declared is_none number_is is =
    search (rules, append-nil (option_to_list declared))
one_more_line before (first ∷ lines) line number entries declared so_far number_is is =
    search (
      rules,
      one_more_line (before + 1) lines line number so_far.1 declared so_far.3 (number_is ∙ omega arith) is,
    )

-- The lines so far, their number, and what they declare.
pub record LinesSoFar (lines : List Text) (number : ℕ) (entries : List Entry) : Type 0 where
  pub number_is : number ≡ min (length lines) (2 ^ 64 - 1)
  pub declared : DeclareOptions lines entries

-- before the first line
each_none : {X : Type 0} (Is : List X → X → Type 0) → EachAfter Is []
each_none Is before after x is = search (rules, length-append before (x ∷ after))

pub no_lines : LinesSoFar [] 0 []
no_lines = search (rules, each_none)

-- the operands of the lines so far and of one more
pub next_operands : (lines : List Text) (line : Text) (operands more : List Operand)
    → more ≡ operands ++ option_to_list (operand_at line) → operands ≡ operands_among lines
    → more ≡ operands_among (lines ++ line ∷ [])
next_operands lines line operands more more_is is = search (rules, operands_around)

-- the lines so far, with one more
pub next_line : (lines : List Text) (line : Text) (number next : ℕ) (entries more : List Entry)
    (operands : List Operand) (declared : Option Entry) → LinesSoFar lines number entries
    → next ≡ min (number + 1) (2 ^ 64 - 1)
    → Declares next line declared → more ≡ entries ++ option_to_list declared
    → IfSome declared (λ entry. name_again entries entry ≡ None)
    → operands ≡ operands_among lines
    → IfSome (operand_at line) (λ operand. conflicting_operand operands operand ≡ None)
    → LinesSoFar (lines ++ line ∷ []) next more
next_line lines line number next entries more operands declared so_far next_is is more_is new
    operands_are follows = record {
      number_is = omega (arith, so_far.number_is, length-append lines (line ∷ []));
      declared = rw more_is (record {
        declared = search (rules, one_more_line);
        once = each_append (λ before entry. name_again before entry ≡ None) entries declared
            so_far.declared.once new;
        in_order = subst (EachAfter (λ before operand. conflicting_operand before operand ≡ None))
            (next_operands lines line (operands_among lines) _ refl refl)
            (each_append (λ before operand. conflicting_operand before operand ≡ None) (operands_among lines)
            (operand_at line) so_far.declared.in_order (rw operands_are at follows));
      });
    }

-- a list in three parts
in_parts : (all : List Text) (n : ℕ) (x : Text) → n < length all → x ≡ get_or all n x
    → all ≡ take n all ++ x ∷ drop (n + 1) all
in_parts all n x below is = grind (arith, common_steps)

-- the error of a line is the table's
pub table_fault : (table : Text) (lines : List Text) (line : Text) (number next : ℕ)
    (entries : List Entry) (operands : List Operand)
    (fault : TableFault) → lines ≡ take (length lines) (lines_of table)
    → length lines < length (lines_of table)
    → line ≡ get_or (lines_of table) (length lines) line
    → LinesSoFar lines number entries → next ≡ min (number + 1) (2 ^ 64 - 1)
    → operands ≡ operands_among lines → IsLineFault next entries operands line fault
    → IsTableFault table fault
table_fault table lines line number next entries operands fault so_far_are below line_is so_far
    next_is operands_are is = search (rules, in_parts (lines_of table) (length lines) line below line_is)

-- two facts of what succeeds give a third
pub ok_of_both : {T E P Q R : Type 0} (r : Result T E) → OnOk r P → OnOk r Q → (P → Q → R) → OnOk r R
ok_of_both r is also gives = search rules

-- what an error reports has a weaker property
pub tells_weaker : (error : TableError) (P Q : TableFault → Type 0) → IsOutOfMemoryOrFault error P
    → ((fault : TableFault) → P fault → Q fault) → IsOutOfMemoryOrFault error Q
tells_weaker error P Q tells weaker = search rules
