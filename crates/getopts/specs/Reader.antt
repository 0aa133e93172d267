-- What a loop gives of a line, one option or free word at a time.
use Rattle.std.specs.Prelude.{◌≡◌, ◌==◌, ◌&&◌, ⊤, ℕ, ◌+◌, zero, suc, not, if◌then◌else◌, List, [], ◌∷◌, ◌++◌, drop}
use Rattle.std.specs.Prelude.{IfSome, is_some, length, map, Option, Some, None, Result, Ok, Err}
use Rattle.std.specs.List.{slice_get}
use Rattle.std.specs.Option.{option_map}
use Rattle.getopts.specs.Names.{Text}
use Rattle.getopts.specs.Options.{Declared, Grammar, grammar_of}
use Rattle.getopts.specs.Fail.{Fault}
use Rattle.getopts.specs.Reading.{Given, option, free_word, given_by, cluster, flags, none}
use Rattle.getopts.specs.Reading.{argument_words, dash, tail_frees}
use Rattle.getopts.specs.Results.{order_or_error, step, unless_fault}
use Rattle.getopts.specs.Step.{Step, ends, takes, faults, byte_step}
use Rattle.getopts.specs.declared.kinds.HasArg.{HasArg}
use Rattle.getopts.specs.declared.kinds.HasArg.TheVariants.{No}
use Rattle.getopts.specs.declared.scan.Unread.{Unread}

-- what is left of a line
pub record Left : Type 0 where
  -- of the cluster that is being read
  pub names : Text
  pub words : List Text
  -- once only free words are left, these and the one before them
  pub free_words : Option (List Text)

abbrev pub left_in : {S : Type 0} → (S → Text) → Unread S → Left
left_in text unread = record {
  names = unread.names.now;
  words = map text unread.words.now;
  free_words = option_map (λ words. map text words.now) unread.free_words;
}

-- a line of which nothing was read
abbrev pub whole : List Text → Left
whole line = record { names = []; words = line; free_words = None }

-- what is left at the end: nothing
abbrev pub ended : Left
ended = record { names = []; words = []; free_words = Some [] }

-- the bytes of words, and their number
abbrev pub words_size : List Text → ℕ
words_size [] = 0
words_size (word ∷ words) = 1 + length word + words_size words

-- how much is left
abbrev pub size_of : Left → ℕ
size_of left = length left.names + words_size left.words

-- ---- what is next

-- the option or free word that is next, if there is one, and what is left after it, or an error
abbrev pub Next : Type 0
Next = Result (Option (Given × Left)) Fault

-- the first of these free words
abbrev pub next_free : List Text → Next
next_free [] = Ok None
next_free (word ∷ words) =
    Ok (Some (free_word word, record { names = []; words = words; free_words = Some (word ∷ words) }))

-- what a step gives, by what is left after its name or word
abbrev pub next_by_step : Grammar → Left → Step → Next
next_by_step grammar left (ends tail) = next_free (tail_frees tail)
next_by_step grammar left (faults fault) = Err fault
next_by_step grammar left (takes item argument) = Ok (option_map
    (λ given. (given, record left { words = drop (length (argument_words argument)) left.words }))
    (slice_get (given_by grammar item) 0))

-- the names after one of this kind: they are its argument, unless it is a flag
abbrev pub names_after : Option HasArg → Text → Text
names_after (Some No) names = names
names_after kind names = []

-- what a name of a cluster gives, by what is left after it
abbrev pub next_name : Option HasArg → Grammar → ℕ → Left → Next
next_name kind grammar byte left =
    next_by_step grammar (record left { names = names_after kind left.names })
    (byte_step kind [] byte left.names left.words (takes (cluster (byte ∷ []) flags) none))

-- what a word gives, by what is left after it; a cluster gives its first name
abbrev pub next_word : Grammar → Text → Left → Next
next_word grammar (first ∷ second ∷ names) left =
    if (first == dash) && (not (second == dash) && not grammar.long_only)
    then next_name (grammar.kind (second ∷ [])) grammar second (record left { names = names })
    else next_by_step grammar left (step grammar (first ∷ second ∷ names) left.words)
next_word grammar word left = next_by_step grammar left (step grammar word left.words)

-- what is next of these names and words
abbrev pub next_option : Grammar → Text → List Text → Option (List Text) → Next
next_option grammar (byte ∷ names) words frees = next_name (grammar.kind (byte ∷ [])) grammar byte
    (record { names = names; words = words; free_words = frees })
next_option grammar [] (word ∷ words) frees =
    next_word grammar word (record { names = []; words = words; free_words = frees })
next_option grammar [] [] frees = Ok None

-- what is next of what is left: the names, and then the words, which may all be free
abbrev pub next_result : Declared → Left → Next
next_result options left = if is_some left.free_words && (length left.names == 0)
    then next_free left.words
    else next_option (grammar_of options) left.names left.words left.free_words

-- ---- all that follows

-- all that a loop gives, up to the end or an error
pub data Trace : Type 0 where
  no_more : Trace
  fails : Fault → Trace
  -- an option or free word, what is left after it, and what this gives
  gives : Given → Left → Trace → Trace

-- the trace that begins with what is next; `more` is the trace of what is left after it
abbrev pub trace_from : (Left → Trace) → Next → Trace
trace_from more (Ok (Some (given, left))) = gives given left (more left)
trace_from more (Ok None) = no_more
trace_from more (Err fault) = fails fault

-- the trace of what is left, if its size is below this number
abbrev pub trace_within : ℕ → Declared → Left → Trace
trace_within zero options left = no_more
trace_within (suc size) options left =
    trace_from (trace_within size options) (next_result options left)

-- all that a loop gives of what is left
abbrev pub trace : Declared → Left → Trace
trace options left = trace_within (1 + size_of left) options left

-- the options and free words of a trace, up to its end or error
abbrev pub given_in : Trace → List Given
given_in (gives given left more) = given ∷ given_in more
given_in trace = []

-- the error in which a trace ends
abbrev pub fault_in : Trace → Option Fault
fault_in no_more = None
fault_in (fails fault) = Some fault
fault_in (gives given left more) = fault_in more

-- the options and free words of a trace in order, or its error
abbrev pub order_in : Trace → Result (List Given) Fault
order_in trace = unless_fault (given_in trace) (fault_in trace)

-- These words are the last of those.
pub record AreLast {A : Type 0} (last words : List A) : Type 0 where
  pub count : ℕ
  pub is : last ≡ drop count words

-- If this is a free word, it and the words that are left are the last of the words.
abbrev pub EndsInFrees : {S : Type 0} → (S → Text) → List S → Given → Unread S → Type 0
EndsInFrees text words (option place value) unread = ⊤
EndsInFrees text words (free_word word) unread =
    ((left_in text unread).free_words ≡ Some (word ∷ map text unread.words.now))
    × IfSome unread.free_words (λ frees. AreLast frees.now words)

-- These words begin the line, and this is left after them.
pub data IsCut (line front : List Text) (left : Left) : Type 0 where
  after_word : left.names ≡ [] → line ≡ front ++ left.words → IsCut line front left
  -- the last word is a cluster without the names that are left
  in_cluster : (before : List Text) (word : Text) → front ≡ before ++ word ∷ []
      → line ≡ before ++ (word ++ left.names) ∷ left.words → IsCut line front left

-- These options and free words precede this error in the line.
pub record PrecedeError (options : Declared) (line : List Text) (given : List Given) (fault : Fault)
    : Type 0 where
  pub front : List Text
  pub left : Left
  pub cut : IsCut line front left
  -- they are all that is given of the words before the error
  pub order : order_or_error options front ≡ Ok given
  -- what is left begins with the error
  pub error : trace options left ≡ fails fault
