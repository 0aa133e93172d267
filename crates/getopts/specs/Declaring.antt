-- Short forms for literal options: the group that each call adds, and options of these groups.
use Rattle.std.specs.Prelude.{List, [], false}
use Rattle.getopts.specs.Names.{Text}
use Rattle.getopts.specs.Options.{Declared, Group, group_of}
use Rattle.getopts.specs.declared.kinds.HasArg.TheVariants.{Maybe, No, Yes}
use Rattle.getopts.specs.declared.kinds.Occur.TheVariants.{Multi, Optional, Req}
use Rattle.getopts.specs.declared.kinds.ParsingStyle.TheVariants.{FloatingFrees}

abbrev pub optflag : Text → Text → Text → Group
optflag short long description = group_of short long description [] No Optional

abbrev pub optflagmulti : Text → Text → Text → Group
optflagmulti short long description = group_of short long description [] No Multi

abbrev pub optflagopt : Text → Text → Text → Text → Group
optflagopt short long description hint = group_of short long description hint Maybe Optional

abbrev pub optmulti : Text → Text → Text → Text → Group
optmulti short long description hint = group_of short long description hint Yes Multi

abbrev pub optopt : Text → Text → Text → Text → Group
optopt short long description hint = group_of short long description hint Yes Optional

abbrev pub reqopt : Text → Text → Text → Text → Group
reqopt short long description hint = group_of short long description hint Yes Req

abbrev pub options_of : List Group → Declared
options_of groups = record { groups = groups; style = FloatingFrees; long_only = false }
