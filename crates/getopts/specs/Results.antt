-- The results of the calls that read a command line, as functions. Nobody has to trust these
-- definitions: `HasResults` says that each function gives what a relation of `Parse` describes.
use Rattle.std.specs.Prelude.{◌==◌, if◌then◌else◌, not, List, [], ◌∷◌, ◌++◌, length, Option, Some}
use Rattle.std.specs.Prelude.{None, Result, Ok, Err}
use Rattle.std.specs.List.{list_all}
use Rattle.getopts.specs.Names.{Text, main_name}
use Rattle.getopts.specs.Options.{Group, Grammar, Declared, grammar_of}
use Rattle.getopts.specs.Fail.{Fault}
use Rattle.getopts.specs.Reading.{dash, none, separate, one, two, Item, free, no_tail, stop, rest}
use Rattle.getopts.specs.Reading.{Reading, holds_equals, Given, order_of_reading}
use Rattle.getopts.specs.Matches.{MatchedGroup, Matched, matches_of, fits_count, count_fault}
use Rattle.getopts.specs.Canon.{Content, content_of, main_at, canonical_line}
use Rattle.getopts.specs.Step.{Step, ends, takes, faults, long_step, cluster_step}
use Rattle.getopts.specs.declared.kinds.ParsingStyle.{ParsingStyle}
use Rattle.getopts.specs.declared.kinds.ParsingStyle.TheVariants.{FloatingFrees, StopAtFirstFree}

abbrev pub free_step : ParsingStyle → Text → List Text → Step
free_step FloatingFrees word more = takes (free word) none
free_step StopAtFirstFree word more = ends (rest (word ∷ more))

-- the step of two dashes and this text
abbrev pub two_dashes_step : Grammar → Text → List Text → Step
two_dashes_step grammar [] more = ends (stop more)
two_dashes_step grammar (c ∷ text) more = long_step grammar two (c ∷ text) more

-- the step of one dash and this text, if no second dash follows
abbrev pub one_dash_step : Grammar → Text → List Text → Step
one_dash_step grammar text more =
    if grammar.long_only then long_step grammar one text more else cluster_step grammar [] text more

-- the step of the first word of a command line, with the words after it
unfoldable pub step : Grammar → Text → List Text → Step
step grammar (first ∷ second ∷ text) more = if first == dash
    then (if second == dash then two_dashes_step grammar text more else one_dash_step grammar
    (second ∷ text) more)
    else free_step grammar.style (first ∷ second ∷ text) more
step grammar word more = free_step grammar.style word more

abbrev pub with_items : List Item → Result Reading Fault → Result Reading Fault
with_items items (Ok reading) = Ok (record { items = items ++ reading.items; tail = reading.tail })
with_items items (Err fault) = Err fault

-- the result of a line, by its first step and by its results after one word and after two words
abbrev pub after_step : Step → Result Reading Fault → Result Reading Fault → Result Reading Fault
after_step (ends tail) after_one after_two = Ok (record { items = []; tail = tail })
after_step (takes item (separate word)) after_one after_two = with_items (item ∷ []) after_two
after_step (takes item argument) after_one after_two = with_items (item ∷ []) after_one
after_step (faults fault) after_one after_two = Err fault

-- the results of a line, by its first step, and of the line after one word, by those after one and two
abbrev pub both_after_step : Step → Result Reading Fault × Result Reading Fault
    → Result Reading Fault × Result Reading Fault
both_after_step step after = (after_step step after.0 after.1, after.0)

-- the results of a command line, and of the line without its first word
unfoldable pub read_both : Grammar → List Text → Result Reading Fault × Result Reading Fault
read_both grammar [] =
    (Ok (record { items = []; tail = no_tail }), Ok (record { items = []; tail = no_tail }))
read_both grammar (word ∷ more) = both_after_step (step grammar word more) (read_both grammar more)

unfoldable pub read : Grammar → List Text → Result Reading Fault
unfolding read_both
read grammar words = (read_both grammar words).0

abbrev pub broken_count : MatchedGroup → Fault
broken_count group = count_fault (main_name group.signature.names) (length group.occurrences)

abbrev pub first_count_fault : List MatchedGroup → Option Fault
first_count_fault [] = None
first_count_fault (group ∷ groups) =
    if fits_count group.signature.occur (length group.occurrences) then first_count_fault
    groups else Some (broken_count group)

abbrev pub unless_fault : {X : Type 0} → X → Option Fault → Result X Fault
unless_fault value None = Ok value
unless_fault value (Some fault) = Err fault

abbrev pub with_counts_kept : Declared → Result Reading Fault → Result Reading Fault
with_counts_kept options (Ok reading) =
    unless_fault reading (first_count_fault (matches_of options reading).groups)
with_counts_kept options (Err fault) = Err fault

unfoldable pub reading_or_error : Declared → List Text → Result Reading Fault
reading_or_error options words = read (grammar_of options) words

unfoldable pub accepted_reading : Declared → List Text → Result Reading Fault
accepted_reading options words = with_counts_kept options (read (grammar_of options) words)

-- the canonical line of a content, or none if the content isn't plain
abbrev pub written_line : List Group → Content → Option (List Text)
written_line groups content =
    if list_all (λ m. not (holds_equals (main_at groups m.place))) content.mentions then Some
    (canonical_line groups content) else None

abbrev pub made_of : {X : Type 0} → (Reading → X) → Result Reading Fault → Result X Fault
made_of make (Ok reading) = Ok (make reading)
made_of make (Err fault) = Err fault

abbrev pub parse_ignoring_counts_result : Declared → List Text → Result Matched Fault
parse_ignoring_counts_result options words =
    made_of (matches_of options) (reading_or_error options words)

abbrev pub parse_result : Declared → List Text → Result Matched Fault
parse_result options words = made_of (matches_of options) (accepted_reading options words)

-- the matches, or their count error
unfoldable pub counted_result : Matched → Result Matched Fault
counted_result matches = unless_fault matches (first_count_fault matches.groups)

abbrev pub canonical_result : Declared → List Text → Result (Option (List Text)) Fault
canonical_result options words =
    made_of (λ reading. written_line options.groups (content_of options reading))
    (accepted_reading options words)

-- the options and free words of a line in order, with counts not checked, or its error
abbrev pub order_or_error : Declared → List Text → Result (List Given) Fault
order_or_error options words =
    made_of (order_of_reading (grammar_of options)) (reading_or_error options words)

abbrev pub parse_in_order_result : Declared → List Text → Result (List Given) Fault
parse_in_order_result options words =
    made_of (order_of_reading (grammar_of options)) (accepted_reading options words)
