-- A wrapper's own options, and the words that it passes on.
use Rattle.std.specs.Prelude.{◌≡◌, false, List, [], ◌∷◌, codes, drop, IfSome, Ok}
use Rattle.std.specs.Option.{option_map_or}
use Rattle.getopts.specs.Prelude.{Declared, EndsInTrailing, Matched, Text, group_of, parse_result}
use Rattle.getopts.specs.declared.kinds.HasArg.TheVariants.{No}
use Rattle.getopts.specs.declared.kinds.Occur.TheVariants.{Optional}
use Rattle.getopts.specs.declared.kinds.ParsingStyle.TheVariants.{FloatingFrees}

-- the wrapper's own options
abbrev pub wrapper_options : Declared
wrapper_options = record {
  groups = group_of (codes "v") (codes "verbose") (codes "say what is run") [] No Optional ∷ [];
  style = FloatingFrees;
  long_only = false;
}

-- the free words from the trailing start on
abbrev pub trailing_words : Matched → List Text
trailing_words matches = option_map_or (λ start. drop start matches.free) matches.trailing_start []

-- The words are accepted, and those after `--`, if there are any, are passed on.
pub record HandsOn (words handed : List Text) : Type 0 where
  pub matches : Matched
  pub accepted : parse_result wrapper_options words ≡ Ok matches
  pub handed_are : handed ≡ trailing_words matches
  pub after_stop : IfSome matches.trailing_start (EndsInTrailing words matches)
