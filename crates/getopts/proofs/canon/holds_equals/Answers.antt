-- `contains` finds `=` exactly if it is there.
use Rattle.std.proofs.Common.{lit<}
use Rattle.std.proofs.lemmas.Str.Pattern.{contains_char}
use Rattle.getopts.proofs.canon.OneResult.{holds_equals-is}
use Rattle.getopts.proofs.canon.holds_equals.Goals as goal

pub returns : goal.returns
returns c =
    let cases = contains_char 61 c.args.text.now c.contains.result c.contains.ensures.cases
    (lit< tt) in
    holds_equals-is c.args.text.now c.contains.result cases.0 cases.1
