-- No count passes the number of entries.
use Rattle.std.proofs.Common.{◌≤◌, ℕ, List, [], ◌∷◌, length, rules, arith}
use Rattle.std.proofs.lemmas.List.{length-map}
use Rattle.getopts.specs.Reading.{Given, option, free_word}
use Rattle.getopts.specs.Stored.Index.{count_given}
use Rattle.getopts.specs.declared.scan.Given.TheVariants as borrowed
use Rattle.getopts.proofs.counts.count_options.Goals as goal

-- a group is given at most as often as there are entries
few : (order : List Given) (place : ℕ) → count_given order place ≤ length order
few [] place = omega arith
few (option other value ∷ order) place = search (rules, few order place)
few (free_word word ∷ order) place = omega (arith, few order place)

pub overflow_add-counts : goal.overflow_add-counts
overflow_add-counts c = search (rules, few, length-map)
