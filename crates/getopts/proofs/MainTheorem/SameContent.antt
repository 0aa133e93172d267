-- Lines with the same content: their matches hold the same.
use Rattle.std.proofs.Common.{◌≡◌, Bool, List, [], rules, map, refl, ap, sym, subst, ◌∙◌}
use Rattle.std.specs.Option.{option_map_or}
use Rattle.getopts.specs.Names.{Text, resolution}
use Rattle.getopts.specs.Options.{Declared, MayBeDeclared, names_of, signatures_of, grammar_of}
use Rattle.getopts.specs.Reading.{Reading, Occurrence, free_words}
use Rattle.getopts.specs.ReadingLaws.{mentions_of}
use Rattle.getopts.specs.Canon.{Content, content_of, canonical_reading, with_setting}
use Rattle.getopts.specs.Parse.{KeepsLineLaws}
use Rattle.getopts.specs.Matches.{Matched, matched, matches_of, KeepsCounts}
use Rattle.getopts.specs.Accessors.{occurrences_of_name, each_value}
use Rattle.getopts.specs.Theorem.{AcceptedExactlyWhen, HaveSameValues, OneContentHoldsSame, LinesReadAgain}
use Rattle.getopts.specs.declared.kinds.ParsingStyle.{ParsingStyle}
use Rattle.getopts.proofs.canon.Lines.{KeepsCounts-mentions, values_at, values-occurrences_mentioning}
use Rattle.getopts.proofs.canon.OneResult.{reads_of}
use Rattle.getopts.proofs.parse.Holds.{occurrences-named}
use Rattle.getopts.proofs.parse.Parsed.{IsAccepted-reading}

-- the values of a name, from the mentions
values-named : (options : Declared) (os : List Occurrence) (name : Text)
    → each_value (occurrences_of_name (matched 0 (signatures_of options.groups) os) name)
    ≡ option_map_or (λ place. values_at place (map (λ (o : Occurrence). o.mention) os))
    (resolution (names_of options.groups) name) []
values-named options os = occurrences-named each_value _ options os
    (λ place. values-occurrences_mentioning place os)

-- readings with the same content give matches that hold the same
HaveSameValues-content : (options : Declared) (style : ParsingStyle) (long_only : Bool) → (old new : Reading)
    → mentions_of (grammar_of (with_setting options style long_only)) new ≡ mentions_of (grammar_of options) old
    → free_words new ≡ free_words old
    → HaveSameValues (matches_of options old) (matches_of (with_setting options style long_only) new)
HaveSameValues-content options style long_only old new same free = search (rules, values-named, values_at)

-- words with the content of accepted words are accepted, with matches that hold the same
pub OneContentHoldsSame_lem : (options : Declared) → AcceptedExactlyWhen options → OneContentHoldsSame options
OneContentHoldsSame_lem options accepted_when words others old new matches accepted
    reads reads_new same =
    let grammar = grammar_of options in
    let told : mentions_of grammar new ≡ mentions_of grammar old =
    ap (λ (content : Content). content.mentions) same in
    let free : free_words new ≡ free_words old = ap (λ (content : Content). content.free) same in
    let matches_are : matches_of options old ≡ matches =
    ap (matches_of options) ((accepted.read.only old).0 reads) ∙ sym accepted.read.matches_are in
    let kept : KeepsCounts (matches_of options old).groups =
    subst (λ (those : Matched). KeepsCounts those.groups) (sym matches_are) accepted.counts in
    let keeps : KeepsCounts (matches_of options new).groups = search (rules, KeepsCounts-mentions) in (
      (accepted_when others (matches_of options new)).1
          (new, record { reads = reads_new; keeps = keeps }, refl),
      subst (λ (those : Matched). HaveSameValues those (matches_of options new)) matches_are
          (HaveSameValues-content options options.style options.long_only old new told free),
    )

-- a canonical line, read again in any style and mode, gives matches that hold the same
pub LinesReadAgain_lem : (options : Declared) → MayBeDeclared options.groups
    → KeepsLineLaws options → LinesReadAgain options
LinesReadAgain_lem options declared line_laws words line matches written has style long_only =
    let with = written.accepted in
    let other = with_setting options style long_only in
    let back = (line_laws words line written).reads_back style long_only in
    let matches_are : matches ≡ matches_of options with.reading =
    search (rules, reads_of options words matches has) in
    let reading = canonical_reading options.groups written.content in
    let said : content_of other reading ≡ content_of options with.reading =
    back.same ∙ with.content_is in
    record {
      again = matches_of other reading;
      accepted = IsAccepted-reading other declared line reading
          (rw (← written.line_is) at back.reads);
      same = subst (λ (those : Matched). HaveSameValues those (matches_of other reading))
          (sym matches_are)
          (HaveSameValues-content options style long_only with.reading reading
          (ap (λ (content : Content). content.mentions) said)
          (ap (λ (content : Content). content.free) said));
    }
