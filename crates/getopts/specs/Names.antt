-- Names of options: the two names of a group, which pairs are valid, and what a name resolves to.
use Rattle.std.specs.Prelude.{◌≢◌, ◌==◌, ℕ, ◌+◌, ◌<◌, ◌≤◌, Bool, ◌&&◌, not, List, length, map}
use Rattle.std.specs.Prelude.{Option, if◌then◌else◌, ◌≡◌, Some, None, [], ◌∷◌, slice_get}
use Rattle.std.specs.Borrow.{Bor}
use Rattle.std.specs.List.{AllByRecursion, Any, find, position}
use Rattle.std.specs.Option.{option_and_then, option_or}
use Rattle.std.specs.Str.{IsUtf8, bytes_eq}

-- a text, as its bytes
abbrev pub Text : Type 0
Text = List ℕ

abbrev pub texts : List (Bor Text) → List Text
texts words = map (λ word. word.now) words

-- Each text is UTF-8.
abbrev pub AreTexts : List Text → Type 0
AreTexts words = AllByRecursion IsUtf8 words

-- the short and the long name of a group; either may be empty
pub record Names : Type 0 where
  pub short : Text
  pub long : Text

-- The two names are valid.
pub record AreLawful (short long : Text) : Type 0 where
  pub short_fits : length short ≤ 1
  pub long_fits : length long ≢ 1
  pub named : 0 < length short + length long

-- A group's two names are valid.
abbrev pub IsLawfullyNamed : Names → Type 0
IsLawfullyNamed names = AreLawful names.short names.long

abbrev pub is_empty : Text → Bool
is_empty text = length text == 0

abbrev pub main_name : Names → Text
main_name names = if is_empty names.long then names.short else names.long

abbrev pub is_main : Text → Names → Bool
is_main name names = bytes_eq (main_name names) name

abbrev pub is_alias : Text → Names → Bool
is_alias name names =
    not (is_empty names.long) && not (is_empty names.short) && bytes_eq names.short name

-- the place of the first group with this main name
abbrev pub main_place : List Names → Text → Option ℕ
main_place groups name = position (is_main name) groups

-- the place of the group that a name resolves to: as a main name or, if it is none, as an alias
abbrev pub resolution : List Names → Text → Option ℕ
resolution groups name = option_or (main_place groups name)
    (option_and_then (λ declarer. main_place groups (main_name declarer))
    (find (is_alias name) groups))

-- The main name of a resolved group resolves to that same group.
abbrev pub MainNameResolves : List Names → Type 0
MainNameResolves groups = (name : Text) (place : ℕ) (names : Names)
    → resolution groups name ≡ Some place
    → slice_get groups place ≡ Some names
    → resolution groups (main_name names) ≡ Some place

-- A name of one byte that resolves is the short name of some group, and the long name of none.
abbrev pub OneByteIsShort : List Names → Type 0
OneByteIsShort groups = (byte place : ℕ)
    → resolution groups (byte ∷ []) ≡ Some place
    → Any (λ names. names.short ≡ byte ∷ []) groups
    × AllByRecursion (λ names. names.long ≢ byte ∷ []) groups

-- The empty name doesn't resolve.
abbrev pub EmptyResolvesNot : List Names → Type 0
EmptyResolvesNot groups = resolution groups [] ≡ None
