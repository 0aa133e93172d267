-- A tool for the proofs: `read`, which reads word by word. The definitions in `specs/Reading.antt`
-- don't use it.
use Rattle.std.proofs.Common.{◌≡◌, ◌⊎◌, ℕ, ◌<◌, List, [], ◌∷◌, ◌++◌, None}
use Rattle.getopts.specs.Names.{Text}
use Rattle.getopts.specs.Options.{Grammar}
use Rattle.getopts.specs.Reading.{Item, item_words}
pub use Rattle.getopts.specs.Results.{free_step, two_dashes_step, one_dash_step, with_items}
pub use Rattle.getopts.specs.Results.{after_step}
unfoldable pub use Rattle.getopts.specs.Results.{step, read_both, read}

-- the words of an item, before those that follow
abbrev pub spelled : Item → List Text → List Text
spelled item more = item_words item ++ more

-- Names are texts: the empty name in long form means no group, nor does a byte that isn't ASCII.
pub record HasTextNames (grammar : Grammar) : Type 0 where
  pub empty : grammar.kind [] ≡ None
  pub ascii : (byte : ℕ) → byte < 128 ⊎ (grammar.kind (byte ∷ []) ≡ None)
