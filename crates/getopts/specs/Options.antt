-- What options are: groups in order of declaration, a parsing style and a mode.
use Rattle.std.specs.Prelude.{ℕ, Bool, List, [], ◌∷◌, ◌++◌, Option, IsSome, false, map, slice_get}
use Rattle.std.specs.List.{AllByRecursion}
use Rattle.std.specs.Option.{option_and_then, option_map, option_map_or}
use Rattle.std.specs.Str.{IsUtf8}
use Rattle.getopts.specs.Names.{Text, Names, IsLawfullyNamed, is_main, resolution}
use Rattle.getopts.specs.declared.kinds.HasArg.{HasArg}
use Rattle.getopts.specs.declared.kinds.Occur.{Occur}
use Rattle.getopts.specs.declared.kinds.ParsingStyle.{ParsingStyle}

-- what parsing uses of a group
pub record Signature : Type 0 where
  pub names : Names
  pub kind : HasArg
  pub occur : Occur

-- a declared option; its hint and its description are for usage texts
pub record Group : Type 0 where
  pub signature : Signature
  pub hint : Text
  pub description : Text

-- the group that `opt` adds for its arguments, in their order
abbrev pub group_of : Text → Text → Text → Text → HasArg → Occur → Group
group_of short long description hint kind occur = record {
  signature = record {
    names = record { short = short; long = long };
    kind = kind;
    occur = occur;
  };
  hint = hint;
  description = description;
}

-- the options of a program; groups are in order of declaration
pub record Declared : Type 0 where
  pub groups : List Group
  pub style : ParsingStyle
  pub long_only : Bool

abbrev pub with_group : Declared → Group → Declared
with_group options group = record options { groups = options.groups ++ group ∷ [] }

abbrev pub with_groups : Declared → List Group → Declared
with_groups options [] = options
with_groups options (group ∷ groups) = with_groups (with_group options group) groups

-- Each group has valid names.
abbrev pub AreLawfullyNamed : List Group → Type 0
AreLawfullyNamed groups = AllByRecursion (λ group. IsLawfullyNamed group.signature.names) groups

-- Options may have these groups. This is an invariant of the type `Options`.
pub record MayBeDeclared (groups : List Group) : Type 0 where
  pub named : AreLawfullyNamed groups
  pub shorts : AllByRecursion (λ group. IsUtf8 group.signature.names.short) groups

abbrev pub names_of : List Group → List Names
names_of groups = map (λ group. group.signature.names) groups

-- whether the option at this place has this main name
abbrev pub is_named : Declared → ℕ → Text → Bool
is_named options place name =
    option_map_or (λ group. is_main name group.signature.names) (slice_get options.groups place) false

abbrev pub signatures_of : List Group → List Signature
signatures_of groups = map (λ group. group.signature) groups

-- what parsing uses of options; `place` and `kind` say what a name resolves to
pub record Grammar : Type 0 where
  pub place : Text → Option ℕ
  pub kind : Text → Option HasArg
  pub style : ParsingStyle
  pub long_only : Bool

abbrev pub kind_of : List Group → Text → Option HasArg
kind_of groups name =
    option_and_then (λ place. option_map (λ group. group.signature.kind) (slice_get groups place))
    (resolution (names_of groups) name)

abbrev pub occur_of : List Group → Text → Option Occur
occur_of groups name =
    option_and_then (λ place. option_map (λ group. group.signature.occur) (slice_get groups place))
    (resolution (names_of groups) name)

-- The options declare this name: it resolves.
abbrev pub Declares : Declared → Text → Type 0
Declares options name = IsSome (resolution (names_of options.groups) name)

abbrev pub grammar_of : Declared → Grammar
grammar_of options = record {
  place = resolution (names_of options.groups);
  kind = kind_of options.groups;
  style = options.style;
  long_only = options.long_only;
}
