-- A group's nth occurrence is the line's occurrence at the nth of the group's indices.
use Rattle.std.proofs.Common.{get_or, ap, ◌∙◌}
use Rattle.std.specs.Option.{option_map}
use Rattle.getopts.specs.Matches.{without_group}
use Rattle.std.proofs.lemmas.Option.{slice_get-get_or}
use Rattle.getopts.proofs.Stored.Occurrences.{at_indices-at, index_within}
use Rattle.getopts.proofs.occurrences.Occurrences.at.Goals as goal

pub bounds-self-inside-nth : goal.bounds-self-inside-nth
bounds-self-inside-nth c = index_within _ _ c.self.invariant _ _ c.self.view_is c.requires

pub returns : goal.returns
returns c =
    let index = get_or c.self.inside.indices.now c.args.nth 0 in
    let within = index_within _ _ c.self.invariant _ _ c.self.view_is c.requires in
    rw (← c.self.view_is)
    (at_indices-at c.self.inside.found.now c.self.inside.indices.now c.self.invariant c.args.nth index
    (slice_get-get_or c.self.inside.indices.now c.args.nth 0 within)
    ∙ ap (option_map without_group) c.at.ensures)
