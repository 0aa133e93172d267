use Rattle.std.proofs.Common.{◌∷◌, Some, None, lit<, ap, ◌∙◌}
use Rattle.std.proofs.lemmas.Str.Pattern.{strip_prefix_char, strip_suffix_char}
use Rattle.getopts.specs.Names.{Text}
use Rattle.getopts_shell.proofs.Items.{no_bracket, yes_hinted, maybe_hinted, no_hint}
use Rattle.getopts_shell.proofs.item.argument_of.Goals as goal

pub returns-in_default-strip_prefix : goal.returns-in_default-strip_prefix
returns-in_default-strip_prefix c =
    let none = strip_prefix_char 91 c.in-Some.text.now None c.in_default-strip_prefix.ensures.cases
    (lit< tt) in
    rw c.in-Some.is
    (yes_hinted c.hinted.result c.in-Some.text.now (no_bracket c.in-Some.text.now none)
    c.hinted.ensures)

pub returns-in-Some-strip_suffix : goal.returns-in-Some-strip_suffix
returns-in-Some-strip_suffix c =
    let opens = strip_prefix_char 91 c.in-Some.text.now
    (Some c.in-Some-strip_prefix.rest) c.in-Some-strip_prefix.ensures.cases (lit< tt) in
    let closes = strip_suffix_char 93 c.in-Some-strip_prefix.rest.now
    (Some c.in-Some-strip_suffix.hint) c.in-Some-strip_suffix.ensures.cases (lit< tt) in
    rw c.in-Some.is
    (maybe_hinted c.hinted-in-Some-strip_suffix.result c.in-Some.text.now
    c.in-Some-strip_suffix.hint.now
    (opens ∙ ap (λ (t : Text). 91 ∷ t) closes) c.hinted-in-Some-strip_suffix.ensures)

pub returns-in-None : goal.returns-in-None
returns-in-None c =
    let opens = strip_prefix_char 91 c.in-Some.text.now
    (Some c.in-Some-strip_prefix.rest) c.in-Some-strip_prefix.ensures.cases (lit< tt) in
    let none = strip_suffix_char 93 c.in-Some-strip_prefix.rest.now None c.in-None.ensures.cases
    (lit< tt) in
    rw c.in-Some.is (no_hint c.in-Some.text.now c.in-Some-strip_prefix.rest.now opens none)
