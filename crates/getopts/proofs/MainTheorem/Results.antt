-- The functions that compute results return what the relations describe.
use Rattle.std.proofs.Common.{◌≡◌, Bool, true, false, List, Option, Some, None, Result, Ok, Err, refl, sym, inl, ◌∙◌, rules}
use Rattle.std.specs.List.{list_all}
use Rattle.std.specs.Prelude.{MatchResult, not, if◌then◌else◌}
use Rattle.getopts.specs.Only.{IsTheOnly}
use Rattle.getopts.specs.Names.{Text, AreTexts}
use Rattle.getopts.specs.Options.{Declared, MayBeDeclared, grammar_of}
use Rattle.getopts.specs.Fail.{Fault}
use Rattle.getopts.specs.Reading.{Reading, IsReading, holds_equals, order_of_reading}
use Rattle.getopts.specs.Matches.{Matched, matches_of}
use Rattle.getopts.specs.Parse.{Reads, IsRefused, HasReading, HasNoReading, Accepts, IsAcceptedWith, IsCanonicalResult}
use Rattle.getopts.specs.Parse.{IsOrder}
use Rattle.getopts.specs.Canon.{Content, content_of, main_at, canonical_line, IsCountKeeping}
use Rattle.getopts.specs.Results as Spec
use Rattle.getopts.specs.Parse.{IsLineOf, HasResults}
use Rattle.getopts.proofs.canon.Lines.{is_plain-true, is_plain-from, Says-accepted, IsSound-says}
use Rattle.getopts.proofs.canon.Lines.{HasUnwritable-content}
use Rattle.getopts.proofs.canon.OneResult as OneResult
use Rattle.getopts.proofs.counts.FirstFault.{HaveFault, first_count_fault-is}
use Rattle.getopts.proofs.MainTheorem.BeforeFree.{Accepts-accepted}
use Rattle.getopts.proofs.Only.{IsTheOnly-from}
use Rattle.getopts.proofs.parse.Parsed.{only_reads, text_names_here, HasNoReading-fault, HasReading-reading, IsAccepted-reading}
use Rattle.getopts.proofs.Reading.Positions.{options_in-order, frees_in-order}
use Rattle.getopts.proofs.Reading.Readings.{IsSoundResult, read_sound}
use Rattle.std.proofs.lemmas.Bool.{true≢false}
use Rattle.std.proofs.lemmas.Result.{MatchResult-weaker}
pub use Rattle.getopts.proofs.Reading.Readings.{made_of-ok}

-- if at most one value has a property, a value that has it is the only one
the_only : {X : Type 0} {Is : X → Type 0} → ((x y : X) → Is x → Is y → x ≡ y) → (value : X) → Is value
    → IsTheOnly Is value
the_only {Is = Is} only value is = IsTheOnly-from Is value is (λ other also. only other value also is)

-- a result made of a reading has a property that follows from what is known of the reading
made_of-is : {X : Type 0} (Is : X → Type 0) (No : Fault → Type 0) (Reads : Reading → Type 0)
    (make : Reading → X) (result : Result Reading Fault) → ((r : Reading) → Reads r → Is (make r))
    → MatchResult result Reads No → MatchResult (Spec.made_of make result) Is No
made_of-is Is No Reads make result so reads = search rules

module _ (options : Declared) (declared : MayBeDeclared options.groups) (words : List Text) where
  written_result : (content : Content) → IsAcceptedWith options words content → (plain : Bool)
      → list_all (λ m. not (holds_equals (main_at options.groups m.place))) content.mentions ≡ plain
      → IsCanonicalResult options words (Ok (if plain then Some (canonical_line options.groups content) else None))
  written_result content accepted true plain = search (rules, is_plain-true)
  written_result content accepted false some = record {
    content = content;
    accepted = accepted;
    sound = IsSound-says options words content
        (Says-accepted options options.style options.long_only words content accepted);
    not_plain = λ plain. true≢false
        (sym (is_plain-from options.groups content.mentions plain) ∙ some);
    unwritable = HasUnwritable-content options content some;
  }

  -- the reading that keeps the counts, or the first error
  counted : (reading : Reading) → IsReading (grammar_of options) reading words → (fault : Option Fault)
      → HaveFault (matches_of options reading).groups fault → IsLineOf options words (Spec.unless_fault reading fault)
  counted reading reads None kept = record { reads = reads; keeps = kept }
  counted reading reads (Some fault) breaks = search (rules, HasReading-reading options declared words reading reads)

  line_result : (result : Result Reading Fault) → IsSoundResult (grammar_of options) words result
      → IsLineOf options words (Spec.with_counts_kept options result)
  line_result (Ok reading) reads = search (rules, counted, first_count_fault-is)
  line_result (Err fault) fails = inl (HasNoReading-fault options declared words fault fails)

  -- the only content of words that are accepted
  abbrev with_content : (reading : Reading) → IsCountKeeping options reading words
      → IsAcceptedWith options words (content_of options reading)
  with_content reading keeps = record {
    reading = reading;
    only = only_reads options declared words reading keeps.reads;
    counts = keeps.keeps;
    content_is = refl;
  }

  once : (reading other : Reading) → Reads options words reading → Reads options words other → reading ≡ other
  once reading other reads also = (only_reads options declared words other also reading).0 reads

  -- the results are the computed ones
  pub HasResults-declared : AreTexts words → HasResults options words
  unfolding Spec.reading_or_error Spec.accepted_reading
  HasResults-declared texts =
      let sound = read_sound (grammar_of options)
      (text_names_here options declared) words texts _ refl in
      let reading = MatchResult-weaker (Spec.read (grammar_of options) words) sound (λ r reads. reads)
      (HasNoReading-fault options declared words) in
      let line = line_result (Spec.read (grammar_of options) words) sound in
      let matches = made_of-is (HasReading options words) (HasNoReading options words) (Reads options words)
      (matches_of options) (Spec.reading_or_error options words)
      (HasReading-reading options declared words) reading in
      record {
        reading = search (rules, the_only, OneResult.only_of_reading, once);
        line = search (rules, the_only, OneResult.only_accepted, once);
        parse = the_only (OneResult.only_parse_result options words) (Spec.parse_result options words)
            (search (rules, made_of-is, IsAccepted-reading));
        read = search (rules, the_only, OneResult.only_read_result);
        canonical =
            search (rules, the_only, OneResult.only_canonical_result, made_of-is, written_result, with_content);
        order = the_only (OneResult.only_order_result options words) (Spec.parse_in_order_result options words)
            (made_of-is (IsOrder options words) (IsRefused options words) (λ r. IsCountKeeping options r words)
            (order_of_reading (grammar_of options)) (Spec.accepted_reading options words) (λ r keeps. record {
              content = content_of options r;
              accepted = with_content r keeps;
              order_is = refl;
              options_are = options_in-order (grammar_of options) r;
              frees_are = frees_in-order (grammar_of options) r;
            }) line);
      }

-- What the result of a call says about the words, as lemmas for `search`.
module _ (options : Declared) (words : List Text) where
  -- matches, with counts ignored, are those of the only reading
  pub is_read : (matches : Matched) → Spec.parse_ignoring_counts_result options words ≡ Ok matches
      → MayBeDeclared options.groups → AreTexts words → HasReading options words matches
  is_read matches is declared texts =
      ((HasResults-declared options declared words texts).read (Ok matches)).1 (sym is)

  -- an error, with counts ignored, is the only scan error
  pub isnt_read : (fault : Fault) → Spec.parse_ignoring_counts_result options words ≡ Err fault
      → MayBeDeclared options.groups → AreTexts words → HasNoReading options words fault
  isnt_read fault is declared texts = ((HasResults-declared options declared words texts).read (Err fault)).1 (sym is)

  -- matches accept the words
  pub is_accepted : (matches : Matched) → Spec.parse_result options words ≡ Ok matches
      → MayBeDeclared options.groups → AreTexts words → Accepts options words matches
  is_accepted matches is declared texts = Accepts-accepted options declared words matches
      (((HasResults-declared options declared words texts).parse (Ok matches)).1 (sym is))

  -- and an error rejects them
  pub is_refused : (fault : Fault) → Spec.parse_result options words ≡ Err fault
      → MayBeDeclared options.groups → AreTexts words → IsRefused options words fault
  is_refused fault is declared texts =
      ((HasResults-declared options declared words texts).parse (Err fault)).1 (sym is)
