-- What was written of bytes is a prefix of them.
use Rattle.std.proofs.Common.{◌≡◌, ◌≢◌, ℕ, ◌-◌, zero, suc, List, [], ◌++◌, length, take, drop, Option, Result, inl}
use Rattle.std.proofs.Common.{inr, append-nil, append_assoc, arith, refl, rules}
use Rattle.std.specs.Prelude.{OnOk, ◌⊎◌}
use Rattle.std.specs.Io.KnownBytes.{Appends, Keeps}
use Rattle.std.proofs.lemmas.List.{take-append-drop, take_rest}
use Rattle.getopts.specs.Names.{Text}
use Rattle.getopts_shell.specs.Program.{AppendsFront, IsOutput, ShowsFront, ShowsFrontAndFault, write_fault}

-- nothing is appended if nothing changes
pub appends_none : (old : Option (List ℕ)) → Appends old old []
appends_none old = search (rules, append-nil)

-- what was appended is unchanged if a writer is
pub appends_kept : (old new again : Option (List ℕ)) (bytes : List ℕ) → Appends old new bytes
    → Keeps new again → Appends old again bytes
appends_kept old new again bytes is kept = search rules

-- bytes and then more are appended as one
pub appends_more : (old new again : Option (List ℕ)) (bytes more : List ℕ) → Appends old new bytes
    → Appends new again more → Appends old again (bytes ++ more)
appends_more old new again bytes more is also = search (rules, append_assoc)

-- one more piece of the rest
pub one_more_piece : (all done rest : List ℕ) (count : ℕ) → all ≡ done ++ rest
    → all ≡ (done ++ take count rest) ++ drop count rest
one_more_piece all done rest count is = search (rules, take-append-drop, append_assoc)

-- the same, if a slice cuts the rest
pub cut_piece : (all done rest : List ℕ) (count : ℕ) → all ≡ done ++ rest
    → all ≡ (done ++ take count rest) ++ take (length rest - count) (drop count rest)
cut_piece all done rest count is = search (rules, one_more_piece, take_rest)

-- a prefix on one of two writers, by the status, and a prefix of the report
pub shows_front : {Kept : Type 0} (out out_now err err_now err_end : Option (List ℕ))
    (words : List Text) (bytes : List ℕ) (status : ℕ) → IsOutput words bytes status
    → (status ≡ 0 → AppendsFront out out_now bytes × AppendsFront err err_end write_fault)
    → (status ≢ 0 → AppendsFront err err_now bytes × Kept)
    → AppendsFront err_now err_end write_fault
    → (ShowsFront out out_now words (λ s. s ≡ 0) × AppendsFront err err_end write_fault)
    ⊎ (ShowsFrontAndFault err err_end words × Kept)
shows_front out out_now err err_now err_end words bytes zero is on_out on_err report =
    inl ((bytes, zero, refl, is, (on_out refl).0), (on_out refl).1)
shows_front out out_now err err_now err_end words bytes (suc n) is on_out on_err report =
    let other : suc n ≢ 0 = λ same. absurd (omega arith) in
    inr ((err_now, (bytes, suc n, other, is, (on_err other).0), report), (on_err other).1)

-- a fact is true whatever the result
pub on_ok : {X E : Type 0} (result : Result X E) (Fact : Type 0) → Fact → OnOk result Fact
on_ok result Fact fact = search rules
