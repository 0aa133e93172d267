-- The test of the remaining options is the test of all.
use Rattle.std.proofs.Common.{◌≡◌, not, drop, map}
use Rattle.std.specs.List.{list_all}
use Rattle.getopts.specs.Accessors.{borrowed_given}
use Rattle.getopts.specs.Canon.{main_at}
use Rattle.getopts.specs.Reading.{holds_equals, Mention, options_in}
use Rattle.getopts.proofs.canon.are_plain.Given as goal

abbrev pub invariant-loop-given : goal.invariant-loop-given
invariant-loop-given l =
    let plain = λ (m : Mention). not (holds_equals (main_at l.groups m.place)) in
    list_all plain (options_in (map borrowed_given (drop l.given-index l.order)))
    ≡ list_all plain (options_in (map borrowed_given l.order))
