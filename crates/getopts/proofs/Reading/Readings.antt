-- Whole lines: `read` gives the only reading of a line, or its only error.
use Rattle.std.proofs.Common.{◌≡◌, List, [], ◌∷◌, ◌++◌, length, drop, Result, Ok, Err, refl, sym, ap, ◌∙◌}
use Rattle.std.proofs.Common.{append_assoc, append-nil, rules}
use Rattle.std.specs.List.{AllByRecursion}
use Rattle.std.proofs.Math.Seq.{drop-append_seam}
use Rattle.std.specs.Prelude.{MatchResult}
use Rattle.getopts.specs.Names.{Text, AreTexts}
use Rattle.getopts.specs.Options.{Grammar}
use Rattle.getopts.specs.Fail.{Fault}
use Rattle.getopts.specs.Reading.{Argument, no_tail, IsReading, Item, Tail, Reading, argument_words, IsLawfulItem}
use Rattle.getopts.specs.Reading.{EndsOrIsDashed, AreWellFollowed, spelled_all, tail_words, IsLawfulTail, IsScanFault}
use Rattle.getopts.specs.Results.{made_of}
use Rattle.getopts.specs.Step.{Step, takes}
use Rattle.getopts.proofs.Reading.Reader.{HasTextNames, step, spelled, free_step, with_items, after_step, read_both}
use Rattle.getopts.proofs.Reading.Reader.{read}
use Rattle.getopts.proofs.Reading.Steps as Steps

-- `read` on one word, by its step.
module _ (grammar : Grammar) (word : Text) (more : List Text) where
  -- what it says, and the results of the words after it
  pub read_step : (said : Step) → step grammar word more ≡ said → read grammar (word ∷ more)
      ≡ after_step said (read_both grammar more).0 (read_both grammar more).1
  unfolding read
  read_step said e = search (rules, after_step, read_both)

  -- an item, and the words after its argument's
  pub read_item : (item : Item) (argument : Argument) → step grammar word more ≡ takes item argument
      → read grammar (word ∷ more)
      ≡ with_items (item ∷ []) (read grammar (drop (length (argument_words argument)) more))
  unfolding read
  read_item item argument said = search (rules, with_items)

-- the end of the line
pub read_nil : (grammar : Grammar) → read grammar [] ≡ Ok (record { items = []; tail = no_tail })
unfolding read
read_nil grammar = refl

-- an item goes in front of the result of the words after it
pub taken_read : (grammar : Grammar) (words : List Text) (item : Item) (others : List Text)
    → Steps.TakesItem grammar words item others → read grammar words ≡ with_items (item ∷ []) (read grammar others)
taken_read grammar [] item others taken = absurd taken
taken_read grammar (word ∷ more) item others taken =
    cc (read_item grammar word more item taken.0 taken.1, drop-append_seam (argument_words taken.0) others)

-- no item before a result
pub with_items-none : (result : Result Reading Fault) → result ≡ with_items [] result
with_items-none result = search rules

-- items before others
pub with_items-append : (items others : List Item) (result : Result Reading Fault)
    → with_items (items ++ others) result ≡ with_items items (with_items others result)
with_items-append items others result = search (rules, append_assoc)

-- valid items go in front of the result of the words after them
pub items_read : (grammar : Grammar) → HasTextNames grammar → (items : List Item) (more : List Text)
    → AllByRecursion (IsLawfulItem grammar) items → AreWellFollowed items more
    → read grammar (spelled_all items more) ≡ with_items items (read grammar more)
items_read grammar named [] more lawful followed = with_items-none (read grammar more)
items_read grammar named (item ∷ items) more lawful followed =
    taken_read grammar (spelled item (spelled_all items more)) item (spelled_all items more)
    (Steps.spelled_step grammar named item (spelled_all items more) lawful.0 followed.0)
    ∙ ap (with_items (item ∷ [])) (items_read grammar named items more lawful.1 followed.1)
    ∙ sym (with_items-append (item ∷ []) items (read grammar more))

-- So a line has at most one reading: `read` is a function.
-- if a line has a reading, `read` returns it
pub reading_read : (grammar : Grammar) → HasTextNames grammar → (reading : Reading) (words : List Text)
    → IsReading grammar reading words → read grammar words ≡ Ok reading
reading_read grammar named reading words is =
    search (rules, read, items_read, with_items, append-nil, read_nil, read_step, Steps.step_stop, Steps.step_free, free_step)

-- words after what items spell
pub spelled_all-append : (items : List Item) (xs ys : List Text)
    → spelled_all items (xs ++ ys) ≡ spelled_all items xs ++ ys
spelled_all-append [] xs ys = refl
spelled_all-append (item ∷ items) xs ys = search (rules, spelled, append_assoc, spelled_all-append items xs ys)

-- the words of two lists of items
pub spelled_all-joined : (items others : List Item) (more : List Text)
    → spelled_all (items ++ others) more ≡ spelled_all items (spelled_all others more)
spelled_all-joined [] others more = refl
spelled_all-joined (item ∷ items) others more = ap (spelled item) (spelled_all-joined items others more)

-- the first word of an item is the same whatever follows it
pub EndsOrIsDashed-spelled : (item : Item) (words others : List Text)
    → EndsOrIsDashed (spelled item words) → EndsOrIsDashed (spelled item others)
EndsOrIsDashed-spelled item words others begins = search rules

-- the first of such words
pub ends-front : (xs ys : List Text) → EndsOrIsDashed (xs ++ ys) → EndsOrIsDashed xs
ends-front xs ys whole = search rules

-- items may also precede the end of a line, or a dashed word
pub followed-other : (items : List Item) (words others : List Text) → AreWellFollowed items words
    → EndsOrIsDashed others → AreWellFollowed items others
followed-other [] words others followed dashed = tt
followed-other (item ∷ []) words others followed dashed = (λ bare. dashed, tt)
followed-other (item ∷ next ∷ items) words others followed dashed =
    search (rules, EndsOrIsDashed-spelled, followed-other (next ∷ items) words others followed.1 dashed)

-- if a line has an error, `read` returns it
pub fault_read : (grammar : Grammar) → HasTextNames grammar → (words : List Text) (fault : Fault)
    → IsScanFault grammar words fault → read grammar words ≡ Err fault
fault_read grammar named words fault is =
    let line : words ≡ spelled_all is.items (is.word ∷ is.after) =
    search (rules, spelled_all-append is.items [] (is.word ∷ is.after)) in
    let stopped = Steps.fault_step grammar named is.word is.after fault is.fault_at in
    let followed : AreWellFollowed is.items (is.word ∷ is.after) =
    search (rules, followed-other, Steps.faults_dashed) in
    search (rules, read, items_read, with_items, read_step)

-- a value made of a result is made of a reading
pub made_of-ok : {X : Type 0} (make : Reading → X) (result : Result Reading Fault) (x : X)
    → made_of make result ≡ Ok x → (reading : Reading) × (result ≡ Ok reading) × (make reading ≡ x)
made_of-ok make result x same = search rules

-- The laws of a line: at most one reading, at most one error, and never both.
module _ (grammar : Grammar) (named : HasTextNames grammar) (words : List Text) where
  -- two readings of a line are equal
  pub only_reading : (r s : Reading) → IsReading grammar r words → IsReading grammar s words → r ≡ s
  only_reading r s first second =
      cc (reading_read grammar named r words first, reading_read grammar named s words second)

  -- two errors of a line are equal
  pub only_fault : (f g : Fault) → IsScanFault grammar words f → IsScanFault grammar words g → f ≡ g
  only_fault f g first second =
      cc (fault_read grammar named words f first, fault_read grammar named words g second)

  -- a line with an error has no reading
  pub no_reading : (f : Fault) (r : Reading) → IsScanFault grammar words f → IsReading grammar r words → ⊥
  no_reading f r fault reading =
      cc (fault_read grammar named words f fault, reading_read grammar named r words reading)

-- The line has the reading or error of its result.
abbrev pub IsSoundResult : Grammar → List Text → Result Reading Fault → Type 0
IsSoundResult grammar words result =
    MatchResult result (λ reading. IsReading grammar reading words) (IsScanFault grammar words)

-- a reading of the words after an item, with the item
pub reading_after_item : (grammar : Grammar) (words : List Text) (item : Item) (others : List Text)
    (reading : Reading) → Steps.BeginsWith grammar words item others → IsReading grammar reading others
    → IsReading grammar (record { items = item ∷ reading.items; tail = reading.tail }) words
reading_after_item grammar words item others reading begins is = search (rules, spelled)

-- an error of the words after an item is an error of the line
fault_after_item : (grammar : Grammar) (words : List Text) (item : Item) (others : List Text) (fault : Fault)
    → Steps.BeginsWith grammar words item others → IsScanFault grammar others fault → IsScanFault grammar words fault
fault_after_item grammar words item others fault begins is = record {
  before = spelled item is.before;
  word = is.word;
  after = is.after;
  items = item ∷ is.items;
  words_are = search (rules, spelled, append_assoc);
  reads = search (rules, reading_after_item, spelled, ends-front);
  fault_at = is.fault_at;
}

-- an item before a result
item_sound : (grammar : Grammar) (words : List Text) (item : Item) (others : List Text)
    (result : Result Reading Fault) → Steps.BeginsWith grammar words item others
    → IsSoundResult grammar others result
    → IsSoundResult grammar words (with_items (item ∷ []) result)
item_sound grammar words item others result begins sound = search (rules, reading_after_item, fault_after_item)

-- a line that consists of a tail
tail_sound : (grammar : Grammar) (words : List Text) (tail : Tail) → IsLawfulTail grammar tail
    → tail_words tail ≡ words → IsReading grammar (record { items = []; tail = tail }) words
tail_sound grammar words tail lawful spells = search rules

-- the results of a line and of the line without its first word
both_sound : (grammar : Grammar) → HasTextNames grammar → (words : List Text) → AreTexts words
    → IsSoundResult grammar words (read_both grammar words).0
    × IsSoundResult grammar (drop 1 words) (read_both grammar words).1
unfolding read_both
both_sound grammar named [] texts = search (rules, tail_sound)
both_sound grammar named (word ∷ more) texts =
    search (rules, read_both, step, Steps.step_sound, both_sound grammar named more texts.1, tail_sound, item_sound)

-- the result of `read` is right for a line of texts
pub read_sound : (grammar : Grammar) → HasTextNames grammar → (words : List Text) → AreTexts words
    → (result : Result Reading Fault) → read grammar words ≡ result → IsSoundResult grammar words result
unfolding read
read_sound grammar named words texts result e = search (rules, both_sound)
