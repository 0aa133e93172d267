-- The options of a program that only has help.
use Rattle.std.specs.Prelude.{[], ◌∷◌, codes}
use Rattle.getopts.specs.Prelude.{Declared, optflag, options_of}

-- help alone
abbrev pub help_options : Declared
help_options = options_of (optflag (codes "h") (codes "help") (codes "print this help") ∷ [])
