-- If no declared main name contains `=`, none in the order does.
use Rattle.std.proofs.Common.{rules}
use Rattle.std.proofs.lemmas.List.Sums.{list_all-from_AllPass}
use Rattle.getopts.proofs.canon.are_plain.Goals as goal

pub returns-then-not-declare_equals : goal.returns-then-not-declare_equals
returns-then-not-declare_equals c =
    search (rules, list_all-from_AllPass, c.declare_equals.ensures (search rules))
