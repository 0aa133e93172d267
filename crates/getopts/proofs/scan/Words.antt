-- Lemmas about single words.
use Rattle.std.proofs.Common.{◌≡◌, ◌≢◌, ◌<◌, ℕ, false, eqb, length, get_or, arith}
use Rattle.std.proofs.lemmas.List.{get_or_default}
use Rattle.std.proofs.lemmas.List.Folds.{list_any_none}
use Rattle.std.proofs.lemmas.Bool.Decides.{nat_tests}
use Rattle.getopts.specs.Names.{Text}
use Rattle.getopts.specs.Reading.{equals_sign, holds_equals}

-- a text without a byte `=` doesn't contain it
pub holds_equals-none : (text : Text) → ((i : ℕ) → i < length text → get_or text i 0 ≢ equals_sign)
    → holds_equals text ≡ false
holds_equals-none text h = list_any_none (λ c. eqb c equals_sign) text
    (λ k d l. let here = h k l in let same =
    get_or_default text k 0 d l in grind (arith, nat_tests))
