use Rattle.std.proofs.Common.{◌||◌, Bool, not, ap, sym}
use Rattle.getopts.specs.Accessors.{borrowed_group}
use Rattle.getopts.proofs.usage.Rows.{any_short_more}
use Rattle.getopts.proofs.options.Options.layout.Goals as goal

-- one more group
pub loop-place-preserved : goal.loop-place-preserved
loop-place-preserved c =
    let groups = c.groups-groups.result.now in
    let place = c.loop-place.place in
    any_short_more groups place (borrowed_group c.get.result) (sym c.get.ensures)
    c.loop-place.any_short _ c.loop-place.invariant
    (ap (λ (empty : Bool). c.loop-place.any_short || not empty) c.is_empty.ensures)
