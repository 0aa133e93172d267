-- A line's words fill rows, which are added to the rows before.
use Rattle.std.proofs.Common.{◌≢◌, ◌+◌, ◌<◌, [], ◌∷◌, string_bytes, lit<, arith, ap, ◌∙◌, sym, subst, rules}
use Rattle.std.specs.Str.{IsUtf8}
use Rattle.std.specs.Str.Iter.{split_whitespace_rest}
use Rattle.std.proofs.lemmas.List.{map-append}
use Rattle.getopts.specs.Wrap.{width_of, words_of}
use Rattle.getopts.proofs.wrap.Words.{words_of-none, words_of-step, words_of-filled}
use Rattle.getopts.proofs.wrap.Rows.{rows_begin, rows_take, rows_end}
use Rattle.getopts.proofs.wrap.push_line.Goals as goal
use Rattle.getopts.proofs.wrap.push_line.Goals.{In-Some}

-- the line has no word
pub returns-in-None-clause-rows : goal.returns-in-None-clause-rows
returns-in-None-clause-rows c = search (rules, words_of-none)

-- the first word begins a row
pub loop-word-init : goal.loop-word-init
unfolding width_of
loop-word-init c =
    let is_line = c.split_whitespace-words.ensures.rest in
    let utf8 : IsUtf8 (split_whitespace_rest c.split_whitespace-words.result) =
    subst IsUtf8 (sym is_line) c.utf8.line in
    let next = words_of-step c.split_whitespace-words.result c.next.new.self c.in-Some.first utf8
    c.in-Some.ensures.steps in
    rw c.into_iter-word-iterator.ensures.into_iter_gives
    (rows_begin c.args.lim c.args.line.now _ _ c.in-Some.first.now _
    (split_whitespace_rest c.next.new.self) (next.0, ap words_of (sym is_line) ∙ next.1)
    c.in_ok-row.ensures.ok c.width-columns.ensures.value)

-- the word joins the current row, or ends it and begins a new one
pub loop-word-preserved : goal.loop-word-preserved
unfolding width_of
loop-word-preserved c =
    let so_far = c.loop-word.invariant in
    let word = c.in-Some-word.word.now in
    let next = words_of-step c.loop-word.word-iterator c.next-in-loop-word.new.self
    c.in-Some-word.word so_far.utf8 c.in-Some-word.ensures.steps in
    let width_is = c.width-width.ensures.value in
    rw c.in_ok-push_str.ensures.bytes (elim c.if-columns-lim.branch [
      | goal.then-columns-lim+then-width-lim+in_ok-push w ↦
          rw (w.rows-is, w.columns-is, w.row-is, w.in_ok-push.ensures.bytes, w.push.ensures.ascii (lit< tt), width_is)
          (rows_take so_far word _ next (omega (arith, width_is)))
      | goal.else-columns-lim+in_ok-push-2 w ↦
          let long : c.args.lim < c.loop-word.columns + (1 + c.width-width.result) =
          elim w.else-columns-lim.branch [
            | goal.else-columns-lim-via-then-columns-lim+else-width-lim narrow ↦ omega arith
            | goal.else-columns-lim-via-else-columns-lim full ↦ omega arith
          ] in
          rw (
            w.rows-is,
            w.in_ok-push-2.ensures.items,
            map-append string_bytes c.loop-word.rows.items (c.loop-word.row ∷ []),
            w.columns-is,
            w.row-is,
            w.new-row.ensures.bytes,
            width_is,
          ) (rows_end so_far word _ next (omega (arith, long, width_is)))
    ])

-- no words are left
pub returns-clause-rows : goal.returns-clause-rows
returns-clause-rows c = search (rules, words_of-none, map-append)

-- once there is a first word, the line has words
begun : (c : In-Some) → words_of c.args.line.now ≢ []
begun c = words_of-filled c.args.line.now c.split_whitespace-words.result c.next.new.self
    c.in-Some.first c.split_whitespace-words.ensures.rest c.utf8.line c.in-Some.ensures.steps

pub returns-in_err-row-clause-absent : goal.returns-in_err-row-clause-absent
returns-in_err-row-clause-absent c none =
    absurd (begun (goal.at.returns-in_err-row-clause-absent c).In-Some none)

pub returns-in_err-push-clause-absent : goal.returns-in_err-push-clause-absent
returns-in_err-push-clause-absent c none =
    absurd (begun (goal.at.returns-in_err-push-clause-absent c).In-Some none)

pub returns-in_err-push-2-clause-absent : goal.returns-in_err-push-2-clause-absent
returns-in_err-push-2-clause-absent c none =
    absurd (begun (goal.at.returns-in_err-push-2-clause-absent c).In-Some none)

pub returns-in_err-push_str-clause-absent : goal.returns-in_err-push_str-clause-absent
returns-in_err-push_str-clause-absent c none =
    absurd (begun (goal.at.returns-in_err-push_str-clause-absent c).In-Some none)

pub returns-in_err-push-3-clause-absent : goal.returns-in_err-push-3-clause-absent
returns-in_err-push-3-clause-absent c none =
    absurd (begun (goal.at.returns-in_err-push-3-clause-absent c).In-Some none)
