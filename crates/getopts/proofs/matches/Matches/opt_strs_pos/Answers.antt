-- The texts of the pairs are the values.
use Rattle.std.proofs.Common.{rules}
use Rattle.std.proofs.lemmas.Simd.{map-map}
use Rattle.getopts.proofs.Stored.Matches.{texts_of_pairs}
use Rattle.getopts.proofs.matches.Matches.opt_strs_pos.Goals as goal

pub returns-clause-texts : goal.returns-clause-texts
returns-clause-texts c = search (rules, map-map, texts_of_pairs)
