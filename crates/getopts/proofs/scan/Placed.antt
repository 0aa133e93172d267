-- A line that was read up to a place: what it has so far, and what it gives at its end.
use Rattle.std.proofs.Common.{sym, ◌≡◌, ◌≤◌, ℕ, List, [], ◌∷◌, ◌++◌, ◌+◌, ◌∙◌, rules, length, map}
use Rattle.std.proofs.lemmas.List.{length-map}
use Rattle.std.specs.String.{string_bytes}
use Rattle.getopts.specs.Names.{Text}
use Rattle.getopts.specs.Options.{Grammar}
use Rattle.getopts.specs.Reading as Spec
use Rattle.getopts.specs.Results.{read}
use Rattle.getopts.specs.Scan.{AreBefore, GivesLine, words_left, HasOneMore, placed, tail_of}
use Rattle.getopts.specs.declared.scan.Line.{Line}
use Rattle.getopts.proofs.Reading.Positions.{frees_in-append, frees_in-items, length-spelled_all}
use Rattle.getopts.proofs.Reading.Reader.{HasTextNames}
use Rattle.getopts.proofs.scan.Next.{tail_words-tail_of}
use Rattle.getopts.proofs.scan.One.{read-tail}

-- no more words are left than the line has
words_left-within : {grammar : Grammar} {whole : List Text} {items : List Spec.Item} (names : Text)
    (words : List Text) → AreBefore grammar whole items names words → words_left names words ≤ length whole
words_left-within names words read_to = search (rules, length-spelled_all)

-- Items of the line were read. They gave these occurrences and free words.
pub record SoFar (grammar : Grammar) (found : List Spec.Occurrence) (frees : List Text) (whole : List Text)
    (names : Text) (words : List Text) : Type 0 where
  pub items : List Spec.Item
  pub read_to : AreBefore grammar whole items names words
  pub found_are : found ≡ Spec.occurrences_after 0 grammar items
  pub frees_are : frees ≡ Spec.free_items items

module _ {grammar : Grammar} {found : List Spec.Occurrence} {frees : List Text} {whole : List Text} {names : Text}
    {words : List Text} (so_far : SoFar grammar found frees whole names words) where
  -- one more option or free word was read
  pub SoFar-next : {position : ℕ} {given : Spec.Given} {names_new : Text} {words_new : List Text}
      {found_new : List Spec.Occurrence} {frees_new : List Text}
      → HasOneMore grammar whole so_far.items position given names_new words_new
      → found_new ≡ found ++ placed position given → frees_new ≡ frees ++ Spec.frees_in (given ∷ [])
      → SoFar grammar found_new frees_new whole names_new words_new
  SoFar-next {given = given} one found_are frees_are = record {
    items = one.all;
    read_to = one.read;
    found_are = search rules;
    frees_are = search (rules, frees_in-append, frees_in-items);
  }

  -- with the tail, the line gives its reading
  pub GivesLine-ended : HasTextNames grammar → names ≡ [] → Spec.IsLawfulTail grammar (tail_of words)
      → (line : Line) → line.found ≡ found → map string_bytes line.free.items ≡ frees ++ Spec.tail_frees (tail_of words)
      → line.trailing_start ≡ Spec.trailing_after (length frees) (tail_of words)
      → GivesLine grammar (read grammar whole) line
  GivesLine-ended named none lawful line found_is free_is trailing_is = record {
    reading = record { items = so_far.items; tail = tail_of words };
    result_is = read-tail named (tail_of words) lawful none (sym (tail_words-tail_of words)) so_far.read_to;
    occurrences = found_is ∙ so_far.found_are;
    free = rw so_far.frees_are at free_is;
    trailing = rw so_far.frees_are at trailing_is;
  }

-- words that are left, by their texts
pub words_left-map : {S : Type 0} (text : S → Text) (names : Text) (words : List S)
    → words_left names (map text words) ≡ words_left names words
words_left-map text names words = search (rules, length-map)

-- no more words are left than the line has
pub words_left-more : {S : Type 0} (text : S → Text) {grammar : Grammar} {items : List Spec.Item} {position : ℕ}
    {given : Spec.Given} (whole : List S) (names : Text) (words : List S)
    → HasOneMore grammar (map text whole) items position given names (map text words)
    → words_left names words ≤ length whole
words_left-more text whole names words one =
    rw (← words_left-map text names words, ← length-map whole text) (words_left-within names (map text words) one.read)
