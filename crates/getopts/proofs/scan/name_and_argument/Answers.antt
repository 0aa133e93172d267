-- No byte before the first `=` is one.
use Rattle.std.proofs.Common.{lit<, Some, None}
use Rattle.std.proofs.lemmas.Str.Pattern.{split_parts}
use Rattle.getopts.proofs.scan.Words.{holds_equals-none}
use Rattle.getopts.proofs.scan.name_and_argument.Goals as goal

pub returns-in-Some-clause-name : goal.returns-in-Some-clause-name
returns-in-Some-clause-name c =
    holds_equals-none c.in-Some.name.now (split_parts 61 c.args.text.now (Some (c.in-Some.name, c.in-Some.argument))
    c.in-Some.ensures.cases (lit< tt)).1

pub returns-in-None-clause-name : goal.returns-in-None-clause-name
returns-in-None-clause-name c =
    holds_equals-none c.args.text.now (split_parts 61 c.args.text.now None c.in-None.ensures.cases (lit< tt))
