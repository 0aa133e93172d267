-- Items: each has only one set of parts.
use Rattle.std.proofs.Common.{◌≡◌, ◌≢◌, ℕ, ◌<◌, true, false, [], ◌∷◌, ◌++◌, length, get_or, Bor, MatchOption, drop}
use Rattle.std.proofs.Common.{take, Option, Some, None, refl, sym, ap, subst, ◌∙◌, ◌+◌, ◌≤◌, arith, lit<}
use Rattle.std.proofs.Common.{take-append-drop, rules}
use Rattle.std.specs.Prelude.{slice_index}
use Rattle.std.specs.List.{AllByRecursion}
use Rattle.std.specs.Option.{option_map_or}
use Rattle.std.proofs.lemmas.Bool.Decides.{nat_tests}
use Rattle.std.proofs.lemmas.List.{append_cancel_right}
use Rattle.getopts.specs.Names.{Text, Names, is_empty}
use Rattle.getopts.specs.declared.kinds.HasArg.{HasArg}
use Rattle.getopts.specs.declared.kinds.HasArg.TheVariants.{Yes, Maybe}
use Rattle.getopts_shell.specs.Table.{is_name, is_hint, names_text, MayBeNames, AreNames, IsArgument, HasParts}
use Rattle.getopts_shell.specs.Table.{IsBracketed, bare, bracketed, IsItem, end_means, fits}
use Rattle.getopts_shell.specs.declared.row.Frequency.{Frequency}
use Rattle.std.specs.Str.Pattern.{RFindsChar}
use Rattle.std.proofs.lemmas.List.Elements.{All-from_get_or, recursion_from_All}
use Rattle.std.proofs.lemmas.Str.Pattern.{NoCharPasses-char, drop_at_char}
use Rattle.std.proofs.lemmas.Grind.{common_steps}

-- ---- brackets

-- a text with a byte isn't empty
pub is_empty-cons : (byte : ℕ) (text : Text) → is_empty (byte ∷ text) ≡ false
is_empty-cons byte text = grind (arith, nat_tests)

-- a text that doesn't begin with `[`
pub no_bracket : (text : Text) → ((rest : Text) → text ≢ 91 ∷ rest) → slice_index text 0 ≢ 91
no_bracket text rest = grind (arith, common_steps)

-- something isn't nothing
never : {X : Type 0} (x : X) → None ≡ Some x → ⊥
never x is = cc

-- an end contains no `]`
closed : (end : Text) (frequency : Frequency) → end_means end ≡ Some frequency
    → AllByRecursion (λ (byte : ℕ). byte ≢ 93) end
closed [] frequency means = tt
closed (a ∷ []) frequency means = (grind (arith, nat_tests), tt)
closed (a ∷ b ∷ []) frequency means = (grind (arith, nat_tests), (grind (arith, nat_tests), tt))
closed (a ∷ b ∷ c ∷ []) frequency means = search rules
closed (a ∷ b ∷ c ∷ d ∷ more) frequency means = absurd (grind (arith, nat_tests))

-- a text is cut at its last `]`
pub last_close : (text : Text) (result : Option (Bor Text × Bor Text))
    → MatchOption result (RFindsChar 93 text None)
    (λ x. (i : ℕ) × (j : ℕ) × RFindsChar 93 text (Some (i, j))
    × (x.0.now ≡ take i text) × (x.1.now ≡ drop j text) × (i ≤ j) × (length x.0.now ≡ i)
    × (length x.1.now + j ≡ length text))
    → MatchOption result (AllByRecursion (λ (byte : ℕ). byte ≢ 93) text)
    (λ x. (text ≡ x.0.now ++ 93 ∷ x.1.now) × AllByRecursion (λ (byte : ℕ). byte ≢ 93) x.1.now)
last_close text None none =
    recursion_from_All (λ (b : ℕ). b ≢ 93) text
    (All-from_get_or (λ (b : ℕ). b ≢ 93) text 0 (λ i. NoCharPasses-char 93 text i none (lit< tt)))
last_close text (Some x) h = (
  sym (take-append-drop h.0 text)
      ∙ ap (λ (t : Text). take h.0 text ++ t) (drop_at_char 93 text h.0 h.1 h.2.1 (lit< tt))
      ∙ ap (λ (t : Text). t ++ 93 ∷ drop h.1 text) (sym h.3)
      ∙ ap (λ (t : Text). x.0.now ++ 93 ∷ t) (sym h.4),
  subst (AllByRecursion (λ (byte : ℕ). byte ≢ 93)) (sym h.4)
      (recursion_from_All (λ (b : ℕ). b ≢ 93) (drop h.1 text)
      (All-from_get_or (λ (b : ℕ). b ≢ 93) (drop h.1 text) 0
      (λ i. NoCharPasses-char 93 (drop h.1 text) i h.2.0 (lit< tt)))),
)

-- a text without `]` isn't a text with one
no_close : (text front back : Text) → AllByRecursion (λ (byte : ℕ). byte ≢ 93) text → text ≡ front ++ 93 ∷ back → ⊥
no_close [] [] back none is = cc
no_close [] (byte ∷ front) back none is = cc
no_close (byte ∷ text) [] back none is = none.0 cc
no_close (byte ∷ text) (other ∷ front) back none is = no_close text front back none.1 cc

-- a text is cut at its last `]` in only one way
one_cut : (front other back after : Text) → AllByRecursion (λ (byte : ℕ). byte ≢ 93) back
    → AllByRecursion (λ (byte : ℕ). byte ≢ 93) after → front ++ 93 ∷ back ≡ other ++ 93 ∷ after
    → (other ≡ front) × (after ≡ back)
one_cut [] [] back after none also same = (refl, cc)
one_cut [] (byte ∷ other) back after none also same = search (rules, no_close)
one_cut (byte ∷ front) [] back after none also same = search (rules, no_close)
one_cut (byte ∷ front) (first ∷ other) back after none also same =
    search (rules, one_cut front other back after none also cc)

-- a text that begins with `[` and has no `]` after it has no brackets
pub none_closed : (text opened : Text) → text ≡ 91 ∷ opened → AllByRecursion (λ (byte : ℕ). byte ≢ 93) opened
    → (inside : Text) (frequency : Frequency) → ¬ (IsBracketed text inside frequency)
none_closed text opened opens inside inside1 frequency h6 = search (rules, no_close)

-- nor has a text whose end means nothing
pub none_meant : (text opened before end : Text) → text ≡ 91 ∷ opened → opened ≡ before ++ 93 ∷ end
    → AllByRecursion (λ (byte : ℕ). byte ≢ 93) end → end_means end ≡ None
    → (inside : Text) (frequency : Frequency) → ¬ (IsBracketed text inside frequency)
none_meant text opened before end opens parts frequency means inside frequency1 h10 = search (rules, one_cut, closed)

-- a text has only one inside, and its brackets only one meaning
pub one_bracketed : (text inside other : Text) (frequency another : Frequency) → IsBracketed text inside frequency
    → IsBracketed text other another → (other ≡ inside) × (another ≡ frequency)
one_bracketed text inside other frequency another (bare is plain) (bare also simple) = search rules
one_bracketed text inside other frequency another (bare is plain) (bracketed end _ also means) = search rules
one_bracketed text inside other frequency another (bracketed end _ is means) (bare also plain) = search rules
one_bracketed text inside other frequency another (bracketed end _ is means)
    (bracketed after _ also other_means) = search (rules, one_cut, closed)

-- ---- parts

-- what follows names
abbrev after_names : Option Text → Text
after_names argument = option_map_or (λ (text : Text). 32 ∷ text) argument []

-- a text is cut at its first space in only one way
cut_once : (names others : Text) (argument other : Option Text) → AllByRecursion (λ (byte : ℕ). byte ≢ 32) names
    → AllByRecursion (λ (byte : ℕ). byte ≢ 32) others → names ++ after_names argument ≡ others ++ after_names other
    → (others ≡ names) × (other ≡ argument)
cut_once [] [] None None plain plains same = (refl, refl)
cut_once [] [] None (Some text) plain plains same = cc
cut_once [] [] (Some text) None plain plains same = cc
cut_once [] [] (Some text) (Some also) plain plains same = (refl, cc)
cut_once [] (byte ∷ others) None other plain plains same = cc
cut_once [] (byte ∷ others) (Some text) other plain plains same = search rules
cut_once (byte ∷ names) [] argument None plain plains same = cc
cut_once (byte ∷ names) [] argument (Some text) plain plains same = search rules
cut_once (byte ∷ names) (also ∷ others) argument other plain plains same =
    search (rules, cut_once names others argument other plain.1 plains.1 cc)

-- a text has one pair of parts
pub one_pair : (text names others : Text) (argument other : Option Text) → HasParts text names argument
    → HasParts text others other → (others ≡ names) × (other ≡ argument)
one_pair text names others argument other parts also =
    cut_once names others argument other parts.0 also.0 (sym parts.1 ∙ also.1)

-- ---- names

-- a name doesn't begin with a dash
no_dash : (byte : ℕ) → is_name (byte ∷ []) ≡ true → byte ≢ 45
no_dash byte is = search rules

-- the three ways to write names
data Shape (short long text : Text) : Type 0 where
  long_one : short ≡ [] → text ≡ 45 ∷ 45 ∷ long → Shape short long text
  short_one : (byte : ℕ) → byte ≢ 45 → short ≡ byte ∷ [] → long ≡ [] → text ≡ 45 ∷ byte ∷ []
      → Shape short long text
  both : (byte : ℕ) → byte ≢ 45 → short ≡ byte ∷ [] → 0 < length long
      → text ≡ 45 ∷ byte ∷ 124 ∷ 45 ∷ 45 ∷ long → Shape short long text

-- names that are allowed are written in one of these ways
shape_of : (short long text : Text) → MayBeNames short long
    → text ≡ names_text (record { short = short; long = long }) → Shape short long text
shape_of [] long text may is = long_one refl is
shape_of (byte ∷ []) [] text may is = short_one byte (no_dash byte may.short_name) refl refl is
shape_of (byte ∷ []) (first ∷ long) text may is =
    both byte (no_dash byte may.short_name) refl (omega arith)
    (search rules)
shape_of (byte ∷ other ∷ short) long text may is = absurd (omega (arith, may.lawful.short_fits))

-- the same of the names of a text
shape : (names : Names) (text : Text) → AreNames names text → Shape names.short names.long text
shape names text are = shape_of names.short names.long text are.may_be are.written

-- a longer text with one dash has both
pub only_both : (text : Text) → get_or text 1 0 ≢ 45 → 2 < length text → (names : Names) → AreNames names text
    → (names.short ≡ take 1 (drop 1 text)) × (names.long ≡ drop 5 text)
only_both text no_dash more names are = search (rules, shape names text are)

-- what separates two names
pub record Between (text : Text) : Type 0 where
  pub long_enough : 5 < length text
  pub bar : get_or text 2 0 ≡ 124
  pub first_dash : get_or text 3 0 ≡ 45
  pub second_dash : get_or text 4 0 ≡ 45

-- what separates the two names of a text that has both
pub between_names : (text : Text) → get_or text 1 0 ≢ 45 → 2 < length text
    → (names : Names) → AreNames names text → Between text
between_names text no_dash more names are = search (rules, shape names text are)

-- and a text with that separator consists of the names before and after it
pub written_both : (text : Text) → get_or text 0 0 ≡ 45 → Between text
    → text ≡ names_text (record { short = take 1 (drop 1 text); long = drop 5 text })
written_both text dash is = search (rules, is_empty-cons)

-- names that are found are the text's
pub by_names : (result : Option (Bor Text × Bor Text)) (short long text : Text)
    → text ≡ names_text (record { short = short; long = long })
    → ((names : Names) → AreNames names text → (names.short ≡ short) × (names.long ≡ long))
    → MatchOption result (¬ (MayBeNames short long))
    (λ found. MayBeNames short long × (found.0.now ≡ short) × (found.1.now ≡ long))
    → MatchOption result ((names : Names) → ¬ (AreNames names text))
    (λ found. AreNames (record { short = found.0.now; long = found.1.now }) text)
by_names result short long text written only some = search rules

-- ---- arguments

-- ---- items

-- the parts of an item, and how often it may occur, are those that are found
same_parts_found : (text inside names : Text) (frequency : Frequency) (argument : Option Text)
    → IsBracketed text inside frequency → HasParts inside names argument → (own : Names) (kind : HasArg)
    (another : Frequency) (hint : Text) (is : IsItem text own kind another hint)
    → (is.names ≡ names) × (is.argument ≡ argument) × (another ≡ frequency)
same_parts_found text inside names frequency argument brackets parts own kind another hint is =
    let same = one_bracketed text inside is.inside frequency another brackets is.brackets in
    let pair = one_pair inside names is.names argument is.argument parts
    (subst (λ (t : Text). HasParts t is.names is.argument) same.0 is.parts) in
    (pair.0, pair.1, same.1)

-- without names there is no item
pub no_names_none : (text inside names : Text) (frequency : Frequency) (argument : Option Text)
    → IsBracketed text inside frequency → HasParts inside names argument → ((are : Names) → ¬ (AreNames are names))
    → (own : Names) (kind : HasArg) (another : Frequency) (hint : Text) → ¬ (IsItem text own kind another hint)
no_names_none text inside names frequency argument brackets parts none own kind another hint is =
    search (rules, same_parts_found text inside names frequency argument brackets parts own kind another hint is)

-- nor if it has no valid argument
pub no_argument_none : (text inside names : Text) (frequency : Frequency) (argument : Option Text)
    → IsBracketed text inside frequency → HasParts inside names argument
    → ((kind : HasArg) (hint : Text) → ¬ (IsArgument kind hint argument)) → (own : Names) (kind : HasArg)
    (another : Frequency) (hint : Text) → ¬ (IsItem text own kind another hint)
no_argument_none text inside names frequency argument brackets parts none own kind another hint is =
    search (rules, same_parts_found text inside names frequency argument brackets parts own kind another hint is)

-- nor if its argument doesn't fit how often it may occur
pub no_fit_none : (text inside names : Text) (frequency : Frequency) (argument : Option Text)
    (kind : HasArg) (its_hint : Text) → IsBracketed text inside frequency
    → HasParts inside names argument → IsArgument kind its_hint argument → fits frequency kind ≡ false
    → (own : Names) (other : HasArg) (another : Frequency) (hint : Text)
    → ¬ (IsItem text own other another hint)
no_fit_none text inside names frequency argument kind its_hint brackets parts argument_is no_fit own
    other another hint is =
    search (rules, same_parts_found text inside names frequency argument brackets parts own other another hint is)

-- a kind and a hint that are found are the argument's
pub yes_hinted : (result : Option (HasArg × Bor Text)) (text : Text) → slice_index text 0 ≢ 91
    → MatchOption result (is_hint text ≡ false)
    (λ found. (is_hint text ≡ true) × (found.0 ≡ Yes) × (found.1.now ≡ text))
    → MatchOption result ((kind : HasArg) (hint : Text) → ¬ (IsArgument kind hint (Some text)))
    (λ found. IsArgument found.0 found.1.now (Some text))
yes_hinted result text plain some = search rules

-- the same of an argument in brackets
pub maybe_hinted : (result : Option (HasArg × Bor Text)) (text inside : Text)
    → text ≡ 91 ∷ (inside ++ (93 ∷ []))
    → MatchOption result (is_hint inside ≡ false)
    (λ found. (is_hint inside ≡ true) × (found.0 ≡ Maybe) × (found.1.now ≡ inside))
    → MatchOption result ((kind : HasArg) (hint : Text) → ¬ (IsArgument kind hint (Some text)))
    (λ found. IsArgument found.0 found.1.now (Some text))
maybe_hinted result text inside opens some = search (rules, append_cancel_right)

-- a text that begins with `[` and doesn't end in `]` is no argument
pub no_hint : (text rest : Text) → text ≡ 91 ∷ rest → ((front : Text) → rest ≢ front ++ (93 ∷ []))
    → (kind : HasArg) (hint : Text) → ¬ (IsArgument kind hint (Some text))
no_hint text rest opens kind hint hint1 is = search rules
