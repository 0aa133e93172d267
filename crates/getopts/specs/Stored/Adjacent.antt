-- Pairs of adjacent texts within a longer text.
use Rattle.std.specs.Prelude.{◌≡◌, ◌≤◌, slice_range}
use Rattle.std.specs.Str.{IsCharBoundary}
use Rattle.getopts.specs.Names.{Text}
use Rattle.getopts.specs.declared.adjacent.PairEnds.{PairEnds}

abbrev pub pair_at : Text → PairEnds → Text × Text
pair_at text e = (slice_range text e.start e.middle, slice_range text e.middle e.end)

-- The ends are in order, and between characters.
pub record AreEndsOf (text : Text) (e : PairEnds) : Type 0 where
  pub start : IsCharBoundary text e.start
  pub middle : (e.start ≤ e.middle) × IsCharBoundary text e.middle
  pub end : (e.middle ≤ e.end) × IsCharBoundary text e.end

-- These two texts have these ends.
pub record IsPairAt (text : Text) (e : PairEnds) (two : Text × Text) : Type 0 where
  pub ends : AreEndsOf text e
  pub are : pair_at text e ≡ two
