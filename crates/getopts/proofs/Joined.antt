-- Texts joined by a separator.
use Rattle.std.proofs.Common.{◌≡◌, Bool, List, ◌++◌, length}
use Rattle.std.specs.Prelude.{nat_lt}
use Rattle.getopts.specs.Names.{Text}
use Rattle.getopts.specs.Wrap.{joined}

-- The text has grown by texts with the separator between them, and the flag says whether there are
-- any.
pub record JoinedSoFar (separator : Text) (texts : List Text) (begun : Bool) (old text : Text)
    : Type 0 where
  pub begun_is : begun ≡ nat_lt 0 (length texts)
  pub text_is : text ≡ old ++ joined separator texts
