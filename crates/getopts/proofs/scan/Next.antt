-- What is next of a line, by its names and words.
use Rattle.std.proofs.Common.{◌≡◌, ◌≢◌, ℕ, false, List, [], ◌∷◌, ◌∙◌, Option, Some, Ok, Err, ap, refl, rules}
use Rattle.getopts.specs.Names.{Text}
use Rattle.getopts.specs.Options.{Grammar}
use Rattle.getopts.specs.Fail.{Fault}
use Rattle.getopts.specs.Reader.{Left, next_by_step, next_free, next_option}
use Rattle.getopts.specs.Reading as Spec
use Rattle.getopts.specs.Results.{free_step}
use Rattle.getopts.specs.Scan.{tail_of}
use Rattle.getopts.specs.Step.{IsInLongForm, IsShortForm, Step, TakesOne, faults, long_step, name_step}
use Rattle.getopts.specs.declared.kinds.ParsingStyle.TheVariants.{FloatingFrees}
use Rattle.getopts.proofs.Reading.Steps as Steps

-- The words after the one that is next, and the free words that were given.
module _ (grammar : Grammar) (words : List Text) (frees : Option (List Text)) where
  -- these names are left, and these words
  abbrev left_at : Text → List Text → Left
  left_at names words = record { names = names; words = words; free_words = frees }

  -- a word that isn't dashed
  next-plain : (word : Text) → Spec.is_dashed word ≡ false → next_option grammar [] (word ∷ words) frees
      ≡ next_by_step grammar (left_at [] words) (free_step grammar.style word words)
  next-plain word plain = search (rules, Steps.step_free)

  pub next-free : (word : Text) → Spec.is_dashed word ≡ false → grammar.style ≡ FloatingFrees
      → next_option grammar [] (word ∷ words) frees ≡ Ok (Some (Spec.free_word word, left_at [] words))
  next-free word plain floating = next-plain word plain ∙ rw floating refl

  -- the stop
  next-stop : next_option grammar [] (Spec.stop_word ∷ words) frees ≡ next_free words
  next-stop = rw (Steps.step_stop grammar words) refl

  -- a word in long form
  pub next-long : (dashes : Spec.Dashes) (word text : Text) → IsInLongForm grammar dashes word text
      → next_option grammar [] (word ∷ words) frees ≡ next_by_step grammar (left_at [] words) (long_step grammar dashes text words)
  next-long dashes word text form = search (rules, Steps.step_long)

  pub next-long_error : (dashes : Spec.Dashes) (word text : Text) → IsInLongForm grammar dashes word text → {fault : Fault}
      → long_step grammar dashes text words ≡ faults fault → next_option grammar [] (word ∷ words) frees ≡ Err fault
  next-long_error dashes word text form fails = next-long dashes word text form ∙ ap (next_by_step grammar (left_at [] words)) fails

  -- a word in short form
  pub next-short : (word names : Text) → IsShortForm grammar word names
      → next_option grammar [] (word ∷ words) frees ≡ next_option grammar names words frees
  next-short word names form = search rules

  -- an option in long form
  pub next-one : {place : ℕ} {value : Option Text} {left : List Text} {step : Step} → TakesOne grammar step words place value left
      → next_by_step grammar (left_at [] words) step ≡ Ok (Some (Spec.option place value, left_at [] left))
  next-one takes_one = search rules

  -- the error of a name
  pub next-error : (names : Text) → names ≢ [] → {fault : Fault}
      → ((bytes : List ℕ) (more : Step) → name_step grammar bytes names words more ≡ faults fault)
      → next_option grammar names words frees ≡ Err fault
  next-error [] filled fails = absurd (filled refl)
  next-error (byte ∷ names) filled fails = search rules

-- a tail spells its words
pub tail_words-tail_of : (words : List Text) → Spec.tail_words (tail_of words) ≡ words
tail_words-tail_of words = search rules

-- the end of the line, the stop or the rest is next
next-end : (grammar : Grammar) (frees : Option (List Text)) (tail : Spec.Tail) → Spec.IsLawfulTail grammar tail
    → next_option grammar [] (Spec.tail_words tail) frees ≡ next_free (Spec.tail_frees tail)
next-end grammar frees tail lawful = search (rules, next-stop, next-plain)

pub next-tail : (grammar : Grammar) (left : Left) → left.names ≡ [] → Spec.IsLawfulTail grammar (tail_of left.words)
    → next_option grammar left.names left.words left.free_words ≡ next_free (Spec.tail_frees (tail_of left.words))
next-tail grammar left none lawful = rw none (rw tail_words-tail_of at (next-end grammar left.free_words (tail_of left.words) lawful))
