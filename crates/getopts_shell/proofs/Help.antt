-- Matches of readings, and the errors that failures report.
use Rattle.std.proofs.Common.{◌≡◌, Some, refl}
use Rattle.getopts.specs.Fail.{Fault, fault_of}
use Rattle.getopts.specs.declared.fail.Fail.{Fail}
use Rattle.getopts.specs.declared.fail.Fail.TheVariants as fail

-- the error that a `Fail` reports, unless it is out of memory
pub fault_told_of : (refusal : Fail) → ¬ (refusal ≡ fail.OutOfMemory)
    → (fault : Fault) × (fault_of refusal ≡ Some fault)
fault_told_of (fail.ArgumentMissing name) other = (_, refl)
fault_told_of (fail.UnrecognizedOption name) other = (_, refl)
fault_told_of (fail.OptionMissing name) other = (_, refl)
fault_told_of (fail.OptionDuplicated name) other = (_, refl)
fault_told_of (fail.UnexpectedArgument name) other = (_, refl)
fault_told_of fail.OutOfMemory other = absurd (other refl)
