-- If a value is known to be some variant, the fact for this variant proves `MatchResult` and
-- similar types.
use Rattle.std.proofs.Common.{◌≡◌, Bool, true, false, Option, Some, None, Result, Ok, Err, subst}
use Rattle.std.proofs.Common.{sym}
use Rattle.std.specs.Prelude.{MatchOption, MatchResult}
use Rattle.std.specs.Bool.{MatchBool}

pub at_ok : {X E : Type 0} {r : Result X E} (P : X → Type 0) (Q : E → Type 0) (x : X) → r ≡ Ok x → P x
    → MatchResult r P Q
at_ok P Q x is fact = subst (λ r. MatchResult r P Q) (sym is) fact

pub at_err : {X E : Type 0} {r : Result X E} (P : X → Type 0) (Q : E → Type 0) (error : E) → r ≡ Err error → Q error
    → MatchResult r P Q
at_err P Q error is fact = subst (λ r. MatchResult r P Q) (sym is) fact

pub at_some : {X : Type 0} {o : Option X} (P : Type 0) (Q : X → Type 0) (x : X) → o ≡ Some x → Q x → MatchOption o P Q
at_some P Q x is fact = subst (λ o. MatchOption o P Q) (sym is) fact

pub at_none : {X : Type 0} {o : Option X} (P : Type 0) (Q : X → Type 0) → o ≡ None → P → MatchOption o P Q
at_none P Q is fact = subst (λ o. MatchOption o P Q) (sym is) fact

pub at_true : {b : Bool} (P Q : Type 0) → b ≡ true → P → MatchBool b P Q
at_true P Q is fact = subst (λ b. MatchBool b P Q) (sym is) fact

pub at_false : {b : Bool} (P Q : Type 0) → b ≡ false → Q → MatchBool b P Q
at_false P Q is fact = subst (λ b. MatchBool b P Q) (sym is) fact
