-- Texts that are cut at a byte, and written with another text in its place.
use Rattle.std.proofs.Common.{◌≡◌, ℕ, ◌<◌, Bool, true, false, eqb, List, [], ◌∷◌, ◌++◌, length, map, refl, sym, ap}
use Rattle.std.proofs.Common.{◌∙◌, append_assoc, arith, rules}
use Rattle.std.specs.List.{flat_map, onto_first, slice_split}
use Rattle.std.proofs.lemmas.Bool.Decides.{nat_tests}
use Rattle.std.proofs.lemmas.List.{map-id}
use Rattle.std.proofs.lemmas.List.Splits.{length-slice_split}
use Rattle.getopts.proofs.Joined.{JoinedSoFar}
use Rattle.getopts.specs.Names.{Text}
use Rattle.getopts.specs.Wrap.{joined}
use Rattle.getopts_shell.specs.Completion.{stub_byte, stub_quoted}
use Rattle.getopts_shell.specs.Quote.{quoted_byte, replaced}
use Rattle.std.proofs.lemmas.Grind.{common_steps}

-- The parts of a word, each as it is written, with a text between each two, are the bytes of the
-- word, each as it is written.
module _ (one : ℕ) (other : Text) (write : Text → Text) (write_byte : ℕ → Text)
    (nothing : write [] ≡ [])
    (more : (byte : ℕ) (part : Text) → eqb byte one ≡ false → write (byte ∷ part) ≡ write_byte byte
    ++ write part)
    (at : write_byte one ≡ other) where
  -- a byte before the first part is written first
  onto_part : (byte : ℕ) (parts : List Text) → 0 < length parts → eqb byte one ≡ false
      → joined other (map write (onto_first byte parts)) ≡ write_byte byte ++ joined other (map write parts)
  onto_part byte parts some apart = search (rules, append_assoc)

  -- the parts, as they are written, are the word as it is written
  pub parts_written : (word : Text)
      → joined other (map write (slice_split (λ b. eqb b one) word)) ≡ flat_map write_byte word
  parts_written [] = ap (λ (text : Text). text ++ []) nothing
  parts_written (byte ∷ word) = by_test (parts_written word) (eqb byte one) refl
    where
      some : 0 < length (slice_split (λ b. eqb b one) word)
      some = omega (arith, length-slice_split (λ b. eqb b one) word)

      by_test : joined other (map write (slice_split (λ b. eqb b one) word))
          ≡ flat_map write_byte word
          → (test : Bool) → eqb byte one ≡ test
          → joined other (map write (slice_split (λ b. eqb b one) (byte ∷ word)))
          ≡ flat_map write_byte (byte ∷ word)
      by_test rest true is =
          simp is (grind (arith, common_steps, some))
      by_test rest false is =
          simp is (onto_part byte (slice_split (λ b. eqb b one) word) some is
          ∙ ap (λ (text : Text). write_byte byte ++ text) rest)

itself : (one : ℕ) → eqb one one ≡ true
itself one = grind (arith, nat_tests)

-- after the last part, the word was appended with the other text in each place
pub all_replaced : (one : ℕ) (other word : Text) (parts : List Text) (begun : Bool) (old text : Text)
    → JoinedSoFar other parts begun old text → parts ≡ slice_split (λ b. eqb b one) word
    → text ≡ old ++ flat_map (replaced one other) word
all_replaced one other word parts begun old text so_far all =
    so_far.text_is
    ∙ ap (λ (text : Text). old ++ text)
    (ap (joined other) (sym (map-id parts))
    ∙ ap (λ (parts : List Text). joined other (map (λ (part : Text). part) parts)) all
    ∙ parts_written one other (λ part. part) (replaced one other) refl
    (λ byte part apart. simp apart refl)
    (simp (itself one) refl) word)

-- and if both quotes and backslashes are replaced, it is in quotes
pub all_stub_quoted : (word : Text) (parts : List Text) (begun : Bool) (old text : Text)
    → JoinedSoFar (39 ∷ 92 ∷ 92 ∷ 39 ∷ []) (map (flat_map quoted_byte) parts) begun (old ++ 39 ∷ []) text
    → parts ≡ slice_split (λ b. eqb b 92) word → text ++ 39 ∷ [] ≡ old ++ stub_quoted word
all_stub_quoted word parts begun old text so_far all =
    ap (λ (text : Text). text ++ 39 ∷ []) (so_far.text_is
    ∙ ap (λ (text : Text). (old ++ 39 ∷ []) ++ text)
    (ap (λ (parts : List Text). joined (39 ∷ 92 ∷ 92 ∷ 39 ∷ []) (map (flat_map quoted_byte) parts))
    all
    ∙ parts_written 92 (39 ∷ 92 ∷ 92 ∷ 39 ∷ []) (flat_map quoted_byte) stub_byte refl
    (λ byte part apart. ap (λ (text : Text). text ++ flat_map quoted_byte part) (simp apart refl))
    refl word))
    ∙ ap (λ (text : Text). text ++ 39 ∷ []) (append_assoc old (39 ∷ []) (flat_map stub_byte word))
    ∙ append_assoc old (39 ∷ flat_map stub_byte word) (39 ∷ [])
