-- What is made of a line that was read.
use Rattle.std.proofs.Common.{ap, sym, ◌∙◌, Some, ◌≡◌, ℕ, Bool, List, length, map, Option, None, Result, Ok, Err}
use Rattle.std.proofs.Common.{refl, rules}
use Rattle.std.specs.String.{string_bytes}
use Rattle.std.proofs.lemmas.List.{length-map}
use Rattle.getopts.specs.Names.{Text}
use Rattle.getopts.specs.Options.{Declared, Grammar, signatures_of, grammar_of}
use Rattle.getopts.specs.Fail.{Fault}
use Rattle.getopts.specs.Reading.{Given, Reading, Occurrence, occurrences_of, order_of_reading}
use Rattle.getopts.specs.Matches.{matched, matches_of, occurrences_mentioning}
use Rattle.getopts.specs.Results.{made_of, accepted_reading, reading_or_error, with_counts_kept, unless_fault}
use Rattle.getopts.specs.Results.{written_line, canonical_result, parse_in_order_result}
use Rattle.getopts.specs.Stored.Index.{Indexed, count_given, count_in, first_wrong, indices_in, index_of}
use Rattle.getopts.specs.Scan.{GivesLine, order_content, reading_if}
use Rattle.getopts.specs.declared.scan.Line.{Line}
use Rattle.getopts.proofs.counts.Groups.{first_wrong-counts, first_wrong_matched}
use Rattle.getopts.proofs.Lists.{filter-map}
use Rattle.getopts.proofs.Reading.Positions.{frees_in-order, options_in-order}
use Rattle.getopts.proofs.Reading.Readings.{made_of-ok}

-- the result with its counts checked, by an index of its occurrences
pub with_counts_kept-index : (options : Declared) {result : Result Reading Fault}
    (reading : Reading) (found : List Occurrence) (index : ℕ → List ℕ) (fault : Option Fault)
    → result ≡ Ok reading → found ≡ occurrences_of (grammar_of options) reading
    → index ≡ index_of (length (signatures_of options.groups)) found
    → first_wrong 0 (signatures_of options.groups) (count_in index) ≡ fault
    → with_counts_kept options result ≡ unless_fault reading fault
with_counts_kept-index options reading found index fault result_is found_are index_is first =
    search (rules, first_wrong_matched)

-- the number of a group's occurrences, from the order
pub count_given-order : (grammar : Grammar) (reading : Reading) (i : ℕ)
    → count_given (order_of_reading grammar reading) i
    ≡ length (occurrences_mentioning i (occurrences_of grammar reading))
count_given-order grammar reading i = search (rules, options_in-order, filter-map, length-map)

-- the result with its counts checked, by its order
with_counts_kept-order : (options : Declared) {result : Result Reading Fault}
    (reading : Reading) (order : List Given) (fault : Option Fault) → result ≡ Ok reading
    → order ≡ order_of_reading (grammar_of options) reading
    → first_wrong 0 (signatures_of options.groups) (count_given order) ≡ fault
    → with_counts_kept options result ≡ unless_fault reading fault
with_counts_kept-order options reading order fault result_is order_is first =
    search (rules, first_wrong-counts, count_given-order)

-- An order was made of the result.
module _ (options : Declared) (result : Result Reading Fault) (order : List Given)
    (made : made_of (order_of_reading (grammar_of options)) result ≡ Ok order) where
  -- it keeps the counts
  pub order-kept : first_wrong 0 (signatures_of options.groups) (count_given order) ≡ None
      → made_of (order_of_reading (grammar_of options)) (with_counts_kept options result) ≡ Ok order
  order-kept first =
      let gives = made_of-ok _ _ _ made in
      ap (made_of (order_of_reading (grammar_of options)))
      (with_counts_kept-order options gives.0 order None gives.1 (sym gives.2) first)
      ∙ ap (λ (order : List Given). Ok order) gives.2

  -- it breaks them
  pub order-broken : (fault : Fault) → first_wrong 0 (signatures_of options.groups) (count_given order) ≡ Some fault
      → with_counts_kept options result ≡ Err fault
  order-broken fault first =
      let gives = made_of-ok _ _ _ made in
      with_counts_kept-order options gives.0 order (Some fault) gives.1 (sym gives.2) first

module _ (options : Declared) {result : Result Reading Fault} {line : Line}
    (is : GivesLine (grammar_of options) result line) where
  -- its matches
  pub made_of-matches : made_of (matches_of options) result ≡ Ok (record {
    groups = matched 0 (signatures_of options.groups) line.found;
    free = map string_bytes line.free.items;
    trailing_start = line.trailing_start;
  })
  made_of-matches = rw (is.result_is, is.occurrences, is.free, is.trailing) refl

  -- the result with its counts checked, by the index of the line
  module _ (index : Indexed) (index_is : indices_in index ≡ index_of (length (signatures_of options.groups)) line.found)
    where
      pub with_counts_kept-line : (fault : Option Fault)
          → first_wrong 0 (signatures_of options.groups) (count_in (indices_in index)) ≡ fault
          → with_counts_kept options result ≡ unless_fault is.reading fault
      with_counts_kept-line fault first = search (rules, with_counts_kept-index)

      -- and, if it is accepted, it still gives the line
      pub GivesLine-kept : first_wrong 0 (signatures_of options.groups) (count_in (indices_in index)) ≡ None
          → GivesLine (grammar_of options) (with_counts_kept options result) line
      GivesLine-kept first = record {
        reading = is.reading;
        result_is = with_counts_kept-line None first;
        occurrences = is.occurrences;
        free = is.free;
        trailing = is.trailing;
      }

-- an error is one if the counts are checked, too
pub reading_if-fault : (counted : Bool) (options : Declared) (words : List Text) (fault : Fault)
    → reading_or_error options words ≡ Err fault → reading_if counted options words ≡ Err fault
unfolding accepted_reading reading_or_error
reading_if-fault counted options words fault is = search rules

-- the order of accepted words gives their canonical line, if no main name in it contains `=`
pub canonical_result-order : (options : Declared) (words : List Text) (order : List Given)
    → parse_in_order_result options words ≡ Ok order
    → canonical_result options words ≡ Ok (written_line options.groups (order_content order))
canonical_result-order options words order is = search (rules, made_of-ok, options_in-order, frees_in-order)
