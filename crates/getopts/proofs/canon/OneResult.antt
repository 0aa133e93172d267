-- Words have one result.
use Rattle.std.proofs.Common.{◌≡◌, ◌<◌, ℕ, Bool, true, List, rules, length, get_or, Option, Some, None, Result, Ok, Err, refl, sym, ap, ◌∙◌, subst, inl, inr}
use Rattle.std.proofs.lemmas.Bool.{true≢false}
use Rattle.std.proofs.lemmas.List.Folds.{list_any_at}
use Rattle.getopts.specs.Names.{Text}
use Rattle.getopts.specs.Options.{Declared, MayBeDeclared, grammar_of}
use Rattle.getopts.specs.Fail.{Fault}
use Rattle.getopts.specs.Reading.{equals_sign, holds_equals, Reading, IsScanFault, Given}
use Rattle.getopts.specs.Reading.{order_of_reading}
use Rattle.getopts.specs.Matches.{Matched, matches_of, KeepsCounts}
use Rattle.std.specs.Prelude.{MatchOption, MatchResult}
use Rattle.getopts.specs.Parse.{Reads, IsAccepted, HasReading, HasNoReading, IsRefused, IsReadResult, IsAcceptedWith}
use Rattle.getopts.specs.Parse.{IsWritten, IsUnwritable, IsParseResult, IsCanonicalResult, IsOrderResult, IsOrder}
use Rattle.getopts.specs.Parse.{KeepsLineLaws}
use Rattle.getopts.specs.Canon.{Content, IsCountKeeping, IsPlain}
use Rattle.getopts.proofs.canon.Lines.{HasCanonicalLine-says, Says-accepted}
use Rattle.getopts.proofs.counts.FirstFault.{first_count_fault-kept, first_count_fault-broken}
use Rattle.getopts.proofs.Only.{meets}
use Rattle.getopts.proofs.parse.Parsed.{text_names_here}
use Rattle.getopts.proofs.scan.Words.{holds_equals-none}

-- a test that finds `=` exactly if it is there
pub holds_equals-is : (text : Text) (holds : Bool)
    → (holds ≡ true → (k : ℕ) × (k < length text) × (get_or text k 0 ≡ equals_sign))
    → ((k : ℕ) → k < length text → get_or text k 0 ≡ equals_sign → holds ≡ true) → holds ≡ holds_equals text
holds_equals-is text holds there at = search (rules, list_any_at, holds_equals-none, true≢false)

-- words are accepted with the content of a reading that keeps the counts
pub count_keeping : (options : Declared) (words : List Text) (content : Content)
    (is : IsAcceptedWith options words content) → IsCountKeeping options is.reading words
count_keeping options words content is = search (rules, meets)

-- the lines that `canonical` returns keep their laws
pub KeepsLineLaws-lawful : (options : Declared) → MayBeDeclared options.groups → KeepsLineLaws options
KeepsLineLaws-lawful options declared words line written =
    HasCanonicalLine-says options words written.content declared.named (text_names_here options declared)
    (Says-accepted options options.style options.long_only words written.content written.accepted)
    written.plain

-- two results are equal if values are, errors are, and no value has an error beside it
only_result : {X : Type 0} {Is : X → Type 0} (No : Fault → Type 0) → ((x : X) (fault : Fault) → Is x → No fault → ⊥)
    → ((fault other : Fault) → No fault → No other → fault ≡ other) → ((x y : X) → Is x → Is y → x ≡ y)
    → (result other : Result X Fault) → MatchResult result Is No → MatchResult other Is No → result ≡ other
only_result No apart only_no only (Ok x) (Ok y) is also = ap Ok (only x y is also)
only_result No apart only_no only (Ok x) (Err fault) is refused = absurd (apart x fault is refused)
only_result No apart only_no only (Err fault) (Ok x) refused is = absurd (apart x fault is refused)
only_result No apart only_no only (Err fault) (Err other) refused also = search rules

module _ (options : Declared) (words : List Text) where
  -- words that have a reading have it
  pub reads_of : (m : Matched) (has : HasReading options words m) → Reads options words has.reading
  reads_of m has = meets (Reads options words) has.reading has.only

  -- the reading of accepted words keeps the counts
  pub keeps_accepted : (m : Matched) (is : IsAccepted options words m) → IsCountKeeping options is.read.reading words
  keeps_accepted m is = record {
    reads = reads_of m is.read;
    keeps = subst (λ (m : Matched). KeepsCounts m.groups) is.read.matches_are is.counts;
  }

  -- words have one reading's matches
  pub only_matches : (m n : Matched) → HasReading options words m → HasReading options words n → m ≡ n
  only_matches m n has other = search (rules, reads_of m has)

  only_refusal : (fault other : Fault) → IsRefused options words fault → IsRefused options words other → fault ≡ other
  only_refusal fault other (inl is) (inl is_other) =
      (is_other.only fault).0 (meets (IsScanFault (grammar_of options) words) fault is.only)
  only_refusal fault other (inl is) (inr is_other) =
      absurd (is.no_reading is_other.read.reading (reads_of is_other.matches is_other.read))
  only_refusal fault other (inr is) (inl is_other) = search (rules, reads_of is.matches is.read)
  only_refusal fault other (inr is) (inr is_other) =
      cc (
        only_matches is.matches is_other.matches is.read is_other.read,
        first_count_fault-broken is.matches.groups fault is.breaks,
        first_count_fault-broken is_other.matches.groups other is_other.breaks,
      )

  -- words with a reading that keeps the counts aren't rejected
  pub not_refused : (reading : Reading) (fault : Fault) → IsCountKeeping options reading words
      → IsRefused options words fault → ⊥
  not_refused reading fault keeps (inl is) = is.no_reading reading keeps.reads
  not_refused reading fault keeps (inr is) =
      search (
        rules,
        first_count_fault-kept (matches_of options reading).groups keeps.keeps,
        first_count_fault-broken is.matches.groups fault is.breaks,
      )

  -- words have one error, and none if something was made of a reading that keeps the counts
  pub only_accepted : {X : Type 0} {Is : X → Type 0}
      → ((x : X) → Is x → (reading : Reading) × IsCountKeeping options reading words)
      → ((x y : X) → Is x → Is y → x ≡ y) → (result other : Result X Fault)
      → MatchResult result Is (IsRefused options words)
      → MatchResult other Is (IsRefused options words) → result ≡ other
  only_accepted {Is = Is} reading = only_result {Is = Is} (IsRefused options words)
      (λ x fault is refused. let keeps = reading x is in not_refused keeps.0 fault keeps.1 refused)
      only_refusal

  -- words have one result of `parse`
  pub only_parse_result : (result other : Result Matched Fault) → IsParseResult options words result
      → IsParseResult options words other → result ≡ other
  only_parse_result = only_accepted {Is = IsAccepted options words} (λ m is. (is.read.reading, keeps_accepted m is))
      (λ m n is also. only_matches m n is.read also.read)

  -- words have one scan error, and none if they have a reading
  pub only_of_reading : {X : Type 0} {Is : X → Type 0}
      → ((x : X) → Is x → (reading : Reading) × Reads options words reading) → ((x y : X) → Is x → Is y → x ≡ y)
      → (result other : Result X Fault) → MatchResult result Is (HasNoReading options words)
      → MatchResult other Is (HasNoReading options words) → result ≡ other
  only_of_reading {Is = Is} reading = only_result {Is = Is} (HasNoReading options words)
      (λ x fault is none. let reads = reading x is in none.no_reading reads.0 reads.1)
      (λ fault other is also. (also.only fault).0 ((is.only fault).1 refl))

  -- words have one result of `parse_ignoring_counts`
  pub only_read_result : (result other : Result Matched Fault) → IsReadResult options words result
      → IsReadResult options words other → result ≡ other
  only_read_result = only_of_reading {Is = HasReading options words}
      (λ m has. (has.reading, reads_of m has)) only_matches

  -- words are accepted with one content
  pub only_content : (content other : Content) → IsAcceptedWith options words content
      → IsAcceptedWith options words other → content ≡ other
  only_content content other is is_other = search (rules, count_keeping options words content is)

  pub only_line : (line other : List Text) → IsWritten options words line
      → IsWritten options words other → line ≡ other
  only_line line other is is_other = cc (only_content is.content is_other.content is.accepted is_other.accepted)

  -- words have one result of `parse_in_order`
  pub only_order_result : (result other : Result (List Given) Fault)
      → IsOrderResult options words result → IsOrderResult options words other → result ≡ other
  only_order_result = only_accepted {Is = IsOrder options words}
      (λ order is. (is.accepted.reading, count_keeping options words is.content is.accepted))
      (λ order other is also. is.order_is
      ∙ ap (order_of_reading (grammar_of options)) ((also.accepted.only is.accepted.reading).0
      (count_keeping options words is.content is.accepted).reads) ∙ sym also.order_is)

  -- words aren't both written and unwritable
  not_both : (line : List Text) → IsWritten options words line → IsUnwritable options words → ⊥
  not_both line is is_other = is_other.not_plain (subst (IsPlain options.groups)
      (only_content is.content is_other.content is.accepted is_other.accepted) is.plain)

  -- words have one result of `canonical`
  pub only_canonical_result : (result other : Result (Option (List Text)) Fault)
      → IsCanonicalResult options words result → IsCanonicalResult options words other → result ≡ other
  only_canonical_result =
      only_accepted {Is = λ written. MatchOption written (IsUnwritable options words) (IsWritten options words)}
      keeps only where
        keeps : (written : Option (List Text))
            → MatchOption written (IsUnwritable options words) (IsWritten options words)
            → (reading : Reading) × IsCountKeeping options reading words
        keeps (Some line) is = (is.accepted.reading, count_keeping options words is.content is.accepted)
        keeps None is = (is.accepted.reading, count_keeping options words is.content is.accepted)

        only : (written other : Option (List Text))
            → MatchOption written (IsUnwritable options words) (IsWritten options words)
            → MatchOption other (IsUnwritable options words) (IsWritten options words) → written ≡ other
        only (Some line) (Some other) is also = ap Some (only_line line other is also)
        only (Some line) None is also = absurd (not_both line is also)
        only None (Some other) is also = absurd (not_both other also is)
        only None None is also = refl
