-- Under `StopAtFirstFree` the words before the free ones give the same options.
use Rattle.std.proofs.Common.{◌≡◌, List, [], ◌∷◌, ◌++◌, None, refl, sym, append-nil, rules}
use Rattle.std.specs.List.{AllByRecursion}
use Rattle.getopts.specs.Names.{Text}
use Rattle.getopts.specs.Options.{Declared, Grammar, MayBeDeclared, grammar_of}
use Rattle.getopts.specs.Reading.{Item, free, long, cluster, Tail, no_tail, stop, rest, Reading, IsLawfulItem}
use Rattle.getopts.specs.Reading.{free_items, spelled_all, stop_word, tail_frees, tail_words}
use Rattle.getopts.specs.Matches.{Matched}
use Rattle.getopts.specs.Parse.{Reads, HasReading, IsAccepted, HaveLastWordsFree, Accepts}
use Rattle.getopts.proofs.parse.Holds.{EndsInTrailing-read}
use Rattle.getopts.specs.declared.kinds.ParsingStyle.TheVariants.{StopAtFirstFree}
use Rattle.getopts.proofs.MainTheorem.Accepted.{parse_result-accepted}
use Rattle.getopts.proofs.Only.{meets}
use Rattle.getopts.proofs.parse.Parsed.{only_reads}
use Rattle.getopts.proofs.Reading.Readings.{followed-other, spelled_all-append}
use Rattle.getopts.proofs.Reading.Positions.{HavePositionsBelow-matched}

-- a tail without its free words
abbrev cut_tail : Tail → Tail
cut_tail (stop words) = stop []
cut_tail tail = no_tail

-- under `StopAtFirstFree` no item is free
pub no_free_items : (grammar : Grammar) → grammar.style ≡ StopAtFirstFree → (items : List Item)
    → AllByRecursion (IsLawfulItem grammar) items → free_items items ≡ []
no_free_items grammar style [] lawful = refl
no_free_items grammar style (free word ∷ items) lawful = search rules
no_free_items grammar style (long dashes name argument ∷ items) lawful = no_free_items grammar style items lawful.1
no_free_items grammar style (cluster names end ∷ items) lawful = no_free_items grammar style items lawful.1

words_cut : (items : List Item) (tail : Tail)
    → spelled_all items (tail_words tail) ≡ spelled_all items (tail_words (cut_tail tail)) ++ tail_frees tail
words_cut items no_tail = sym (append-nil (spelled_all items []))
words_cut items (stop words) = spelled_all-append items (stop_word ∷ []) words
words_cut items (rest words) = spelled_all-append items [] words

HaveLastWordsFree-accepted : (options : Declared) → MayBeDeclared options.groups → (words : List Text) (m : Matched)
    → IsAccepted options words m → HaveLastWordsFree options words m
HaveLastWordsFree-accepted options declared words m accepted style =
    let has = accepted.read in
    let reading = has.reading in
    let reads = meets (Reads options words) reading has.only in
    let none = no_free_items (grammar_of options) style reading.items reads.items in
    let cut : Reading = record { items = reading.items; tail = cut_tail reading.tail } in
    let before = spelled_all reading.items (tail_words cut.tail) in
    let free : m.free ≡ tail_frees reading.tail = search rules in
    let read : HasReading options before (record m { free = []; trailing_start = None }) = record {
      reading = cut;
      only = only_reads options declared before cut (search (rules, followed-other));
      matches_are = search rules;
    } in
    record {
      before = before;
      words_are = search (rules, words_cut);
      alone = search (rules, parse_result-accepted);
    }

-- what accepted matches say
pub Accepts-accepted : (options : Declared) → MayBeDeclared options.groups → (words : List Text)
    → (m : Matched) → IsAccepted options words m → Accepts options words m
Accepts-accepted options declared words m accepted = record {
  accepted = accepted;
  positions_below = search (rules, HavePositionsBelow-matched, meets);
  free_last = HaveLastWordsFree-accepted options declared words m accepted;
  trailing = EndsInTrailing-read options words m accepted.read;
}
