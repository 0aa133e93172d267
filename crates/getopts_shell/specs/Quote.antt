-- Words in quotes, and what a shell makes of a text of words.
use Rattle.std.specs.Prelude.{◌==◌, ◌||◌, ℕ, List, [], ◌∷◌, ◌++◌, Option, Some, None, codes}
use Rattle.std.specs.Prelude.{if◌then◌else◌, fold}
use Rattle.std.specs.List.{flat_map}
use Rattle.std.specs.Option.{option_to_list, unwrap_or}
use Rattle.getopts.specs.Names.{Text}

-- ---- what a shell makes of a text

-- the bytes `'` and `\`
abbrev pub apostrophe : ℕ
apostrophe = 39

abbrev pub backslash : ℕ
backslash = 92

-- what a shell has read of a text: the complete words, and where in the text it is
pub data Progress : Type 0 where
  -- within a word, or between words
  outside : List Text → Option Text → Progress
  -- within a word, in quotes
  quoting : List Text → Text → Progress
  -- within a word, after a backslash
  escaping : List Text → Text → Progress
  -- this model doesn't say how the shell goes on
  unsaid : Progress

-- the complete words, if the word that is being read ends
abbrev pub done : List Text → Option Text → List Text
done words word = words ++ option_to_list word

-- the progress after one more byte of a command; most bytes outside quotes aren't modelled
abbrev pub read_byte : Progress → ℕ → Progress
read_byte (outside words word) byte =
    if byte == apostrophe then quoting words (unwrap_or word [])
    else (if byte == backslash then escaping words (unwrap_or word [])
    else (if byte == 32 || byte == 9 then outside (done words word) None else unsaid))
read_byte (quoting words word) byte =
    if byte == apostrophe then outside words (Some word) else quoting words (word ++ byte ∷ [])
read_byte (escaping words word) byte =
    if byte == 10 then unsaid else outside words (Some (word ++ byte ∷ []))
read_byte unsaid byte = unsaid

-- the words that a shell has read if the text ends
abbrev pub words_read : Progress → Option (List Text)
words_read (outside words word) = Some (done words word)
words_read progress = None

-- the words that a shell makes of a text, as far as that is specified
abbrev pub shell_words : Text → Option (List Text)
shell_words text = words_read (fold read_byte (outside [] None) text)

-- ---- words in quotes

-- a byte, or `other` instead of the byte `one`
abbrev pub replaced : ℕ → Text → ℕ → Text
replaced one other byte = if byte == one then other else byte ∷ []

-- a byte of a word in quotes: `'` is written outside the quotes, after a backslash
abbrev pub quoted_byte : ℕ → Text
quoted_byte = replaced apostrophe (codes "'\\''")

-- a word in quotes
abbrev pub quoted : Text → Text
quoted word = codes "'" ++ (flat_map quoted_byte word ++ codes "'")

-- a word in quotes, after a space
abbrev pub spaced : Text → Text
spaced word = codes " " ++ quoted word

-- words in quotes, with a space between them
abbrev pub quoted_words : List Text → Text
quoted_words [] = []
quoted_words (word ∷ words) = quoted word ++ flat_map spaced words
