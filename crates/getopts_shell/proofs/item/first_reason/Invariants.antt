use Rattle.std.proofs.Common.{◌≡◌, Bool, drop, map}
use Rattle.std.specs.Prelude.{find}
use Rattle.getopts.specs.Names.{Text}
use Rattle.getopts_shell.proofs.item.first_reason.Given as goal

-- no reason before this place applies
abbrev pub invariant-loop-reason : goal.invariant-loop-reason
invariant-loop-reason l =
    find (λ (reason : Bool × Text). reason.0) (map (λ reason. (reason.0, reason.1.now)) l.reasons)
    ≡ find (λ (reason : Bool × Text). reason.0)
    (map (λ reason. (reason.0, reason.1.now)) (drop l.reason-index l.reasons))
