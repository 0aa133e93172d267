-- The rows of a usage text.
use Rattle.std.proofs.Common.{◌≡◌, ℕ, zero, suc, ◌+◌, ◌-◌, ◌<◌, Bool, not, ◌||◌, List, refl, [], ◌∷◌, Some, take}
use Rattle.std.proofs.Common.{drop, ap, arith, rules}
use Rattle.std.specs.Prelude.{Result, OnOk, slice_get}
use Rattle.std.specs.Str.{IsCharBoundary}
use Rattle.std.proofs.Math.Bool.{or-false}
use Rattle.std.proofs.lemmas.List.Folds.{list_any-append}
use Rattle.std.proofs.lemmas.Str.{IsCharBoundary-from_ascii}
use Rattle.getopts.specs.Names.{Text, is_empty}
use Rattle.getopts.specs.Options.{Group, Declared}
use Rattle.getopts.specs.Only.{IsTheOnly}
use Rattle.getopts.specs.Usage.{any_short, spaces, head, margin, next_row, padding, row_text, IsUsageRowIn}
use Rattle.getopts.specs.Usage.{AreUsageRowsIn, IsUsageTextIn, description_columns, usage_text}
use Rattle.getopts.specs.Wrap.{width_of, IsDescriptionRows}
use Rattle.getopts.specs.UsageResults.{usage_row_in, usage_rows_in_result, usage_in_result}
use Rattle.getopts.proofs.Lists.{take_more_at}
use Rattle.getopts.proofs.Only.{made_of_the_only, map_is_the_only}
use Rattle.getopts.proofs.wrap.Lines.{description_rows-only}

-- a property that always holds, holds if the result is `Ok`
pub on_ok : {T E P : Type 0} (r : Result T E) → P → OnOk r P
on_ok r holds = search rules

-- whether a group has a short name
abbrev pub has_short : Group → Bool
has_short group = not (is_empty group.signature.names.short)

-- whether any group has a short name, with one more group
pub any_short_more : (groups : List Group) (place : ℕ) (group : Group) → slice_get groups place ≡ Some group
    → (so_far now : Bool) → so_far ≡ any_short (take place groups) → now ≡ (so_far || has_short group)
    → now ≡ any_short (take (place + 1) groups)
any_short_more groups place group at so_far now so_far_is now_is =
    search (
      rules,
      or-false (has_short group),
      list_any-append has_short (take place groups) (group ∷ []),
      take_more_at groups place group,
    )

-- ---- padding

drop-spaces : (m n total : ℕ) → total ≡ m + n → drop m (spaces total) ≡ spaces n
drop-spaces zero n total e = ap spaces (omega arith)
drop-spaces (suc m) n zero e = absurd (omega arith)
drop-spaces (suc m) n (suc total) e = drop-spaces m n total (omega arith)

-- the padding of a head within the margin is the end of the next row
pub padding_narrow : (own : Text) (columns : ℕ) → columns ≡ width_of own → columns < margin
    → drop (1 + columns) next_row ≡ padding own
padding_narrow own columns is narrow =
    search (rules, drop-spaces columns (margin - width_of own) margin (omega arith))

-- the next row may be cut after its line end, and after each of its spaces
pub next_row_cut : (columns : ℕ) → columns < margin → IsCharBoundary next_row (1 + columns)
next_row_cut columns narrow = search (rules, IsCharBoundary-from_ascii)

-- ---- the computed rows and text

-- the computed rows are the only usage rows
pub usage_rows_in_computed : (columns : ℕ) (options : Declared)
    → IsTheOnly (AreUsageRowsIn columns options) (usage_rows_in_result columns options)
usage_rows_in_computed columns options =
    let among = any_short options.groups in
    map_is_the_only (IsUsageRowIn columns options.long_only among)
    (usage_row_in columns options.long_only among)
    (λ group. made_of_the_only (IsDescriptionRows (description_columns columns) group.description)
    (row_text (head options.long_only among group)) _ _
    (description_rows-only (description_columns columns) group.description) refl)
    options.groups

-- the computed text is the only usage text
pub usage_in_computed : (columns : ℕ) (options : Declared) (brief : Text)
    → IsTheOnly (IsUsageTextIn columns options brief) (usage_in_result columns options brief)
usage_in_computed columns options brief =
    made_of_the_only (AreUsageRowsIn columns options) (usage_text brief)
    (usage_rows_in_result columns options) (usage_in_result columns options brief)
    (usage_rows_in_computed columns options) refl
