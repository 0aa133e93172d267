-- A shell turns words in quotes into the same words.
use Rattle.std.proofs.Common.{◌≡◌, ℕ, List, [], ◌∷◌, ◌++◌, Some, None, refl, ap, append_assoc, append-nil, rules}
use Rattle.std.specs.List.{flat_map, fold}
use Rattle.getopts.specs.Names.{Text}
use Rattle.getopts_shell.specs.Quote.{outside, quoting, read_byte, words_read, shell_words, quoted_byte, quoted}
use Rattle.getopts_shell.specs.Quote.{spaced, quoted_words}

-- a byte of a word in quotes is read as that byte
read_quoted_byte : (words : List Text) (word : Text) (byte : ℕ) (more : Text)
    → fold read_byte (quoting words word) (quoted_byte byte ++ more)
    ≡ fold read_byte (quoting words (word ++ byte ∷ [])) more
read_quoted_byte words word byte more = search rules

-- the bytes of a word in quotes are read as the word
read_quoted_bytes : (words : List Text) (word bytes more : Text)
    → fold read_byte (quoting words word) (flat_map quoted_byte bytes ++ more)
    ≡ fold read_byte (quoting words (word ++ bytes)) more
read_quoted_bytes words word [] more = simp append-nil
read_quoted_bytes words word (byte ∷ bytes) more =
    simp (append_assoc, read_quoted_byte, read_quoted_bytes words (word ++ byte ∷ []) bytes more)

-- a word in quotes is read as that word
read_quoted : (words : List Text) (word more : Text)
    → fold read_byte (outside words None) (quoted word ++ more) ≡ fold read_byte (outside words (Some word)) more
read_quoted words word more = simp (append_assoc, read_quoted_bytes)

-- words in quotes, each after a space, are read as these words
read_spaced : (words : List Text) (word : Text) (others : List Text)
    → words_read (fold read_byte (outside words (Some word)) (flat_map spaced others)) ≡ Some (words ++ word ∷ others)
read_spaced words word [] = refl
read_spaced words word (other ∷ others) =
    search (rules, read_quoted, append_assoc, read_spaced (words ++ word ∷ []) other others)

-- a shell turns words in quotes into the same words
pub words_same : (words : List Text) → shell_words (quoted_words words) ≡ Some words
words_same words = search (rules, read_quoted, read_spaced)

-- words that are written alike are the same
pub words_only : (words others : List Text) → quoted_words words ≡ quoted_words others → words ≡ others
words_only words others alike = search (rules, words_same)

-- a shell turns one word in quotes into that word
pub word_same : (word : Text) → shell_words (quoted word) ≡ Some (word ∷ [])
word_same word = ap words_read (read_quoted_bytes [] [] word (39 ∷ []))
