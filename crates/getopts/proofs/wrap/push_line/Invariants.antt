-- The rows so far, and the current row.
use Rattle.std.proofs.Common.{map, string_bytes}
use Rattle.std.specs.Str.Iter.{split_whitespace_rest}
use Rattle.getopts.proofs.wrap.Rows.{RowsSoFar}
use Rattle.getopts.proofs.wrap.push_line.Given as goal

abbrev pub invariant-loop-word : goal.invariant-loop-word
invariant-loop-word l =
    RowsSoFar l.lim l.line (map string_bytes l.fn.rows.items) (map string_bytes l.rows.items)
    (string_bytes l.row) l.columns (split_whitespace_rest l.word-iterator)
