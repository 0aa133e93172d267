-- What usage texts say: all options in one line, and rows of options with their descriptions.
use Rattle.std.specs.Prelude.{◌≡◌, ℕ, ◌+◌, ◌-◌, Bool, not, nat_lt, List, [], ◌++◌, map}
use Rattle.std.specs.Prelude.{codes, if◌then◌else◌}
use Rattle.std.specs.List.{AllZip, list_any, repeat}
use Rattle.getopts.specs.Names.{Text, Names, is_empty}
use Rattle.getopts.specs.Options.{Group, Declared}
use Rattle.getopts.specs.Wrap.{width_of, IsDescriptionRows, joined}
use Rattle.getopts.specs.declared.kinds.HasArg.{HasArg}
use Rattle.getopts.specs.declared.kinds.HasArg.TheVariants as argument
use Rattle.getopts.specs.declared.kinds.Occur.{Occur}
use Rattle.getopts.specs.declared.kinds.Occur.TheVariants as occurrence

abbrev pub spaces : ℕ → Text
spaces count = repeat count (codes " ")

abbrev pub has_columns : Text → Bool
has_columns text = nat_lt 0 (width_of text)

abbrev pub argument_part : HasArg → Text → Text
argument_part argument.Yes hint = hint
argument_part argument.No hint = []
argument_part argument.Maybe hint = codes "[" ++ (hint ++ codes "]")

-- ---- the short usage

abbrev pub option_name : Names → Text
option_name names =
    if is_empty names.short then codes "--" ++ names.long else codes "-" ++ names.short

abbrev pub option_argument : HasArg → Text → Text
option_argument argument.No hint = []
option_argument kind hint = codes " " ++ argument_part kind hint

abbrev pub bracketed : Occur → Text → Text
bracketed occurrence.Req text = text
bracketed occurrence.Optional text = codes "[" ++ (text ++ codes "]")
bracketed occurrence.Multi text = codes "[" ++ (text ++ codes "]..")

abbrev pub option_text : Group → Text
option_text group =
    bracketed group.signature.occur
    (option_name group.signature.names ++ option_argument group.signature.kind group.hint)

abbrev pub short_usage_text : Declared → Text → Text
short_usage_text options program =
    codes "Usage: "
    ++ (program ++ (codes " " ++ joined (codes " ") (map option_text options.groups)))

-- ---- rows

abbrev pub any_short : List Group → Bool
any_short groups = list_any (λ group. not (is_empty group.signature.names.short)) groups

-- a group's short name in its row or, if it has none and another group does, as many spaces
abbrev pub short_part : Bool → Names → Text
short_part among_shorts names =
    if is_empty names.short
    then (if among_shorts then spaces 4 else [])
    else codes "-" ++ (names.short ++ (if has_columns names.long then codes ", " else codes " "))

abbrev pub long_part : Bool → Text → Text
long_part long_only long =
    if has_columns long
    then (if long_only then codes "-" else codes "--") ++ (long ++ codes " ")
    else []

-- what precedes the description in a group's row
abbrev pub head : Bool → Bool → Group → Text
head long_only among_shorts group =
    spaces 4
    ++ (short_part among_shorts group.signature.names
    ++ (long_part long_only group.signature.names.long ++ argument_part group.signature.kind group.hint))

-- the columns before a description
abbrev pub margin : ℕ
margin = 24

abbrev pub next_row : Text
next_row = codes "\n" ++ spaces margin

-- what separates a head from its description
abbrev pub padding : Text → Text
padding head = if nat_lt (width_of head) margin then spaces (margin - width_of head) else next_row

abbrev pub row_text : Text → List Text → Text
row_text head description = head ++ (padding head ++ joined next_row description)

-- the columns of a description, if its rows end within this many columns
abbrev pub description_columns : ℕ → ℕ
description_columns columns = columns - margin

-- This is the group's row. The rows of its description end within this many columns.
abbrev pub IsUsageRowIn : ℕ → Bool → Bool → Group → Text → Type 0
IsUsageRowIn columns long_only among_shorts group row =
    (description : List Text)
    × IsDescriptionRows (description_columns columns) group.description description
    × (row ≡ row_text (head long_only among_shorts group) description)

-- These are the rows of all groups, in order of declaration.
abbrev pub AreUsageRowsIn : ℕ → Declared → List Text → Type 0
AreUsageRowsIn columns options rows =
    AllZip (IsUsageRowIn columns options.long_only (any_short options.groups)) options.groups rows

-- the columns of a usage text unless the caller chooses them; descriptions have 54 of these
abbrev pub usual_columns : ℕ
usual_columns = margin + 54

-- These are the rows of all groups within the usual columns.
abbrev pub AreUsageRows : Declared → List Text → Type 0
AreUsageRows options rows = AreUsageRowsIn usual_columns options rows

-- ---- the usage text

abbrev pub usage_text : Text → List Text → Text
usage_text brief rows =
    brief ++ (codes "\n\nOptions:\n" ++ (joined (codes "\n") rows ++ codes "\n"))

-- This is the usage text of these options within this many columns.
abbrev pub IsUsageTextIn : ℕ → Declared → Text → Text → Type 0
IsUsageTextIn columns options brief text =
    (rows : List Text) × AreUsageRowsIn columns options rows × (text ≡ usage_text brief rows)

-- This is the usage text of these options within the usual columns.
abbrev pub IsUsageText : Declared → Text → Text → Type 0
IsUsageText options brief text = IsUsageTextIn usual_columns options brief text
