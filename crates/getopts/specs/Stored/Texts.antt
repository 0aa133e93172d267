-- Lists of bytes.
use Rattle.std.specs.Prelude.{◌<◌}
use Rattle.std.specs.List.{All}
use Rattle.getopts.specs.Names.{Text}

-- Each element is a byte.
abbrev pub IsOfBytes : Text → Type 0
IsOfBytes text = All (λ byte. byte < 256) text
