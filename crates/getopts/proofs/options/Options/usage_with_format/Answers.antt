-- The closure got the usage rows.
use Rattle.std.proofs.Common.{map, string_bytes, ap, rules, sym, ◌∙◌}
use Rattle.std.specs.Vec.Iter.{into_iter_items}
use Rattle.getopts.specs.Usage.{any_short, usual_columns}
use Rattle.getopts.specs.UsageResults.{usage_row_in}
use Rattle.getopts.proofs.usage.Rows.{on_ok}
use Rattle.getopts.proofs.options.Options.usage_with_format.Goals as goal

pub returns : goal.returns
returns g c =
    let options = c.args.self.now in
    let rows = map string_bytes (into_iter_items c.into_iter-rows.result) in
    let made = ap (map string_bytes) c.into_iter-rows.ensures.rest ∙ c.in_ok-usage_rows.ensures.result in
    record {
      called = on_ok c.formatter.result (
        rows,
        rw c.into_iter-rows.ensures.rest c.in_ok-usage_rows.ensures.rows,
        search rules,
      );
      result = on_ok c.formatter.result (rw (sym made) (search rules));
      absent = λ none. rw (sym (made
          ∙ ap (map (usage_row_in usual_columns options.long_only (any_short options.groups))) none))
          (search rules);
    }
