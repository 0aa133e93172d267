-- Properties of all words.
use Rattle.std.specs.Prelude.{◌≡◌, ◌++◌, ℕ, List}
use Rattle.std.specs.Str.{IsUtf8}
use Rattle.getopts_bytes.specs.Marks.{text_of, bytes_of}

-- The text of a word is UTF-8, and its bytes are the word.
pub record ComesBack (word : List ℕ) : Type 0 where
  pub utf8 : IsUtf8 (text_of word)
  pub same : bytes_of (text_of word) ≡ word

-- UTF-8 without marks is unchanged by both conversions.
pub record StaysPlain (text : List ℕ) : Type 0 where
  pub as_text : text_of text ≡ text
  pub as_bytes : bytes_of text ≡ text

-- The word consists of two parts, whose texts are this front and this back.
pub record AreCutAlike (word front back : List ℕ) : Type 0 where
  pub first : List ℕ
  pub second : List ℕ
  pub word_is : word ≡ first ++ second
  pub front_is : text_of first ≡ front
  pub back_is : text_of second ≡ back
