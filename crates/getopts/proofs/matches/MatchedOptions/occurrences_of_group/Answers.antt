-- The index has the indices of each group's occurrences.
use Rattle.std.proofs.Common.{◌≡◌, ◌∙◌, length, rules}
use Rattle.getopts.specs.Stored.Index.{index_of}
use Rattle.getopts.proofs.Stored.Matches.{indexed-within, indexed-occurrences}
use Rattle.getopts.proofs.matches.MatchedOptions.occurrences_of_group.Goals as goal
use Rattle.getopts.proofs.matches.MatchedOptions.occurrences_of_group.Goals.{After-indices}

indices_are : (c : After-indices) → c.indices.result.now
    ≡ index_of (length c.self.inside.signatures) c.self.inside.found c.args.place
indices_are c = c.indices.ensures ∙ (λ i. c.self.invariant.index i c.args.place)

pub of-requires : goal.of-requires
of-requires c = search (rules, indices_are, indexed-within)

pub returns : goal.returns
returns c =
    rw (c.of.ensures, indices_are (goal.at.returns c).After-indices, ← c.self.view_is)
    (indexed-occurrences c.self.inside.signatures c.self.inside.found c.args.place)
