-- Texts within a common text: where it may be split, and one or two of them, as more is added.
use Rattle.std.proofs.Common.{◌≡◌, ℕ, ◌<◌, ◌≤◌, true, List, [], ◌∷◌, ◌++◌, length, subst, length-append, rules, arith}
use Rattle.std.specs.List.{AllByRecursion, slice_range}
use Rattle.std.specs.Str.{IsUtf8, IsCharBoundary}
use Rattle.std.proofs.lemmas.Bool.{cases_lt, and_parts, le-ltb, lt-ltb}
use Rattle.std.proofs.lemmas.List.{get_or_append_left, take-append-le, drop-append-le, length-drop, take_all}
use Rattle.std.proofs.lemmas.Str.{IsCharBoundary-at_seam, IsCharBoundary-end}
use Rattle.std.proofs.lemmas.List.Elements.{All-append, All-from_recursion, All-nil}
use Rattle.std.proofs.Math.Seq.{drop-append_seam}
use Rattle.std.proofs.Math.Utf8.{encode, encodes, scalar, scalars, scalar_cases}
use Rattle.getopts.specs.Names.{Text}
use Rattle.getopts.specs.Stored.Texts.{IsOfBytes}
use Rattle.getopts.specs.Stored.Adjacent.{pair_at, AreEndsOf, IsPairAt}
use Rattle.getopts.specs.declared.adjacent.PairEnds.{PairEnds}
use Rattle.std.proofs.lemmas.Grind.{common_steps}

-- a text may still be split at a place with more after it
pub IsCharBoundary-append : (text more : List ℕ) → IsUtf8 more → (place : ℕ) → IsCharBoundary text place
    → IsCharBoundary (text ++ more) place
IsCharBoundary-append text more utf8 place cut =
    search (rules, cases_lt, get_or_append_left, length-append, IsCharBoundary-at_seam)

-- a part of a text is still there with more after it
pub slice_range-append : (text more : Text) (start end : ℕ) → start ≤ end → end ≤ length text
    → slice_range (text ++ more) start end ≡ slice_range text start end
slice_range-append text more start end ordered within = search (rules, drop-append-le, take-append-le, length-drop)

-- the added part is between the old and the new end
pub slice_range-added : (text more : Text) → slice_range (text ++ more) (length text) (length (text ++ more)) ≡ more
slice_range-added text more = search (rules, drop-append_seam, take_all, length-append)

-- ---- bytes

-- elements below 256, one after the other
few : (xs : List ℕ) → AllByRecursion (λ b. b < 256) xs → IsOfBytes xs
few xs below = All-from_recursion (λ b. b < 256) xs below

-- a character consists of bytes
encode-bytes : (c : ℕ) → c < 1114112 → IsOfBytes (encode c)
unfolding encode
encode-bytes c small = search (rules, cases_lt, lt-ltb, few, le-ltb)

-- and so do characters
encodes-bytes : (cs : List ℕ) → scalars cs ≡ true → IsOfBytes (encodes cs)
encodes-bytes [] are = All-nil (λ b. b < 256)
encodes-bytes (c ∷ cs) are =
    let both = and_parts (scalar c) (scalars cs) are in
    grind (arith, common_steps, scalar_cases, All-append, encode-bytes, encodes-bytes cs both.1)

-- UTF-8 consists of bytes
pub IsOfBytes-utf8 : (text : Text) → IsUtf8 text → IsOfBytes text
IsOfBytes-utf8 text utf8 = subst IsOfBytes utf8.1.1 (encodes-bytes utf8.0 utf8.1.0)

-- two texts are there too
pub two-append : (text more : Text) → IsUtf8 more → (e : PairEnds) → AreEndsOf text e
    → IsPairAt (text ++ more) e (pair_at text e)
two-append text more utf8 e ends = search (rules, IsCharBoundary-append, slice_range-append)

-- two texts added one after the other are at the end
pub two-added : (text first second : Text) → IsUtf8 first → IsUtf8 second → (e : PairEnds) → e.start ≡ length text
    → e.middle ≡ length (text ++ first) → e.end ≡ length ((text ++ first) ++ second)
    → IsPairAt ((text ++ first) ++ second) e (first, second)
two-added text first second first_utf8 second_utf8 e starts first_ends second_ends =
    search (rules, IsCharBoundary-append, IsCharBoundary-end, length-append, slice_range-append, slice_range-added)
