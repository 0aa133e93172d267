-- How `==` compares groups, options, matches and errors. Nobody has to trust these definitions: by
-- its clause `same`, `==` is true if and only if both sides are equal.
use Rattle.std.specs.Prelude.{◌==◌, ℕ, Bool}
use Rattle.std.specs.Bool.{beq}
use Rattle.std.specs.Cmp.Lexicographic.{pointwise}
use Rattle.std.specs.Option.{option_eq}
use Rattle.std.specs.Ordering.{on, eq_of_both}
use Rattle.getopts.specs.Names.{Names}
use Rattle.getopts.specs.Options.{Signature, Group, Declared}
use Rattle.getopts.specs.Fail.{Fault, fault_index, fault_name, fault_of}
use Rattle.getopts.specs.Matches.{GroupOccurrence, MatchedGroup, Matched}
use Rattle.getopts.specs.declared.fail.Fail.{Fail}
use Rattle.getopts.specs.declared.kinds.HasArg.{HasArg}
use Rattle.getopts.specs.declared.kinds.Occur.{Occur}
use Rattle.getopts.specs.declared.kinds.ParsingStyle.{ParsingStyle}
use Rattle.getopts.specs.declared.kinds.HasArg.TheVariants.{Yes, No, Maybe}
use Rattle.getopts.specs.declared.kinds.Occur.TheVariants.{Req, Optional, Multi}
use Rattle.getopts.specs.declared.kinds.ParsingStyle.TheVariants.{FloatingFrees, StopAtFirstFree}

abbrev pub same_names : Names → Names → Bool
same_names = eq_of_both (on (λ names. names.short) (pointwise ◌==◌))
    (on (λ names. names.long) (pointwise ◌==◌))

abbrev pub kind_index : HasArg → ℕ
kind_index Yes = 0
kind_index No = 1
kind_index Maybe = 2

abbrev pub occurrence_index : Occur → ℕ
occurrence_index Req = 0
occurrence_index Optional = 1
occurrence_index Multi = 2

abbrev pub style_index : ParsingStyle → ℕ
style_index FloatingFrees = 0
style_index StopAtFirstFree = 1

abbrev pub same_signature : Signature → Signature → Bool
same_signature = eq_of_both (on (λ signature. signature.names) same_names)
    (eq_of_both (on (λ signature. kind_index signature.kind) ◌==◌)
    (on (λ signature. occurrence_index signature.occur) ◌==◌))

abbrev pub same_group : Group → Group → Bool
same_group = eq_of_both (on (λ group. group.signature) same_signature)
    (eq_of_both (on (λ group. group.hint) (pointwise ◌==◌))
    (on (λ group. group.description) (pointwise ◌==◌)))

abbrev pub same_options : Declared → Declared → Bool
same_options = eq_of_both (on (λ options. options.groups) (pointwise same_group))
    (eq_of_both (on (λ options. style_index options.style) ◌==◌)
    (on (λ options. options.long_only) beq))

abbrev pub same_fault : Fault → Fault → Bool
same_fault = eq_of_both (on fault_index ◌==◌) (on fault_name (pointwise ◌==◌))

abbrev pub same_fail : Fail → Fail → Bool
same_fail = on fault_of (option_eq same_fault)

abbrev pub same_group_occurrence : GroupOccurrence → GroupOccurrence → Bool
same_group_occurrence = eq_of_both (on (λ occurrence. occurrence.position) ◌==◌)
    (on (λ occurrence. occurrence.value) (option_eq (pointwise ◌==◌)))

abbrev pub same_matched_group : MatchedGroup → MatchedGroup → Bool
same_matched_group = eq_of_both (on (λ group. group.signature) same_signature)
    (on (λ group. group.occurrences) (pointwise same_group_occurrence))

abbrev pub same_matches : Matched → Matched → Bool
same_matches = eq_of_both (on (λ matches. matches.groups) (pointwise same_matched_group))
    (eq_of_both (on (λ matches. matches.free) (pointwise (pointwise ◌==◌)))
    (on (λ matches. matches.trailing_start) (option_eq ◌==◌)))
