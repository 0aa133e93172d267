-- A result with a property has all properties that follow from it.
use Rattle.std.proofs.Common.{◌≡◌, Option, IfNone, rules}
use Rattle.std.specs.Prelude.{Result, IfErr}
use Rattle.std.specs.Result.{IsErrAnd}
use Rattle.std.proofs.lemmas.Result.{err_from_is_err_and}
use Rattle.std.proofs.lemmas.Option.{IfSome_then}
use Rattle.getopts.specs.Fail.{Fault, IsOutOfMemoryOr, fault_of}
use Rattle.getopts.specs.declared.fail.Fail.{Fail}

-- the error of a `Fail` has all properties that follow from its properties
pub IsOutOfMemoryOr-weaker : (fail : Fail) (P Q : Fault → Type 0) → IsOutOfMemoryOr fail P
    → ((fault : Fault) → P fault → Q fault) → IsOutOfMemoryOr fail Q
IsOutOfMemoryOr-weaker fail P Q tells follows = IfSome_then (fault_of fail) {P = P} {Q = Q} tells follows

-- a `Fail` with this error has an error with the properties of this error
pub IsOutOfMemoryOr-one : (fail : Fail) (fault : Fault) (Q : Fault → Type 0) → IsOutOfMemoryOr fail (λ f. f ≡ fault)
    → Q fault → IsOutOfMemoryOr fail Q
IsOutOfMemoryOr-one fail fault Q tells holds = search (rules, IsOutOfMemoryOr-weaker)

-- what is true of a `Fail` is true of the error that the exit of a `?` returns
pub IfErr-exit : {T : Type 0} (result : Result T Fail) (fail : Fail) (P : Fail → Type 0)
    → IsErrAnd result (λ other. other ≡ fail) → P fail → IfErr result P
IfErr-exit result fail P exit holds = search (rules, err_from_is_err_and)

-- so this error has all properties that follow
pub IsOutOfMemoryOr-exit : {T : Type 0} (result : Result T Fail) (fail : Fail)
    (P Q : Fault → Type 0) → IsErrAnd result (λ other. other ≡ fail) → IsOutOfMemoryOr fail P
    → ((fault : Fault) → P fault → Q fault) → IfErr result (λ fail. IsOutOfMemoryOr fail Q)
IsOutOfMemoryOr-exit result fail P Q exit tells follows = search (rules, err_from_is_err_and, IsOutOfMemoryOr-weaker)

-- a fact about the case without a value implies all facts that follow from it
pub IfNone-weaker : {X : Type 0} (result : Option X) (P Q : Type 0) → (P → Q) → IfNone result P → IfNone result Q
IfNone-weaker result P Q follows holds = search rules
