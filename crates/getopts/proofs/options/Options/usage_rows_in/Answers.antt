use Rattle.std.proofs.Common.{◌≡◌, List, [], ◌∷◌, length, map, refl, ap, sym, ◌∙◌, arith, string_bytes, subst}
use Rattle.std.proofs.lemmas.List.{map-append, take_all}
use Rattle.getopts.specs.Only.{IsTheOnly}
use Rattle.getopts.specs.Options.{Group}
use Rattle.getopts.specs.Usage.{AreUsageRowsIn, any_short}
use Rattle.getopts.specs.UsageResults.{usage_row_in, usage_rows_in_result}
use Rattle.getopts.specs.Accessors.{borrowed_group}
use Rattle.getopts.proofs.Lists.{map-take_more}
use Rattle.getopts.proofs.usage.Rows.{usage_rows_in_computed}
use Rattle.getopts.proofs.options.Options.usage_rows_in.Goals as goal

-- one more row
pub loop-place-preserved : goal.loop-place-preserved
loop-place-preserved c =
    let options = c.args.self.now in
    rw (
      c.in_ok-push.ensures.items,
      map-append string_bytes c.loop-place.rows.items (c.in_ok-row_of.field-0 ∷ []),
      map-take_more (usage_row_in c.args.columns options.long_only (any_short options.groups))
          options.groups c.loop-place.place (borrowed_group c.get.result)
          (sym (rw c.groups-groups.ensures at c.get.ensures)),
      c.in_ok-row_of.ensures,
      c.layout-layout.ensures.columns,
      c.layout-layout.ensures.long_only,
      c.layout-layout.ensures.any_short,
      c.loop-place.invariant,
    ) refl

-- all rows were added
pub returns : goal.returns
returns c =
    let options = c.args.self.now in
    let made : map string_bytes c.loop-place.rows.items ≡ usage_rows_in_result c.args.columns options =
    c.loop-place.invariant
    ∙ ap (map (usage_row_in c.args.columns options.long_only (any_short options.groups)))
    (take_all c.loop-place.place options.groups
    (omega (arith, ap (λ (groups : List Group). length groups) c.groups-groups.ensures))) in
    record {
      rows = subst (IsTheOnly (AreUsageRowsIn c.args.columns options)) (sym made)
          (usage_rows_in_computed c.args.columns options);
      result = made;
      absent = λ none. refl;
    }
