use Rattle.std.proofs.Common.{◌≡◌, [], ◌++◌, take, refl, sym, ap, subst, ◌∙◌, rules, append-nil, drop_of_length-le}
use Rattle.std.specs.Io.KnownBytes.{Appends}
use Rattle.getopts_shell.proofs.Fronts.{appends_none, appends_kept, appends_more, one_more_piece, cut_piece, on_ok}
use Rattle.getopts_shell.proofs.answer.print.Goals as goal
use Rattle.getopts_shell.proofs.answer.print.Goals.{in-Ok, in-Err+else-ne}

pub loop-init : goal.loop-init
loop-init g c = ([], refl, appends_none _)

pub returns-then-is_empty-clause-whole : goal.returns-then-is_empty-clause-whole
returns-then-is_empty-clause-whole g c =
    let (done, split, appended) = c.loop.invariant in
    let empty : c.loop.rest.now ≡ [] = drop_of_length-le c.loop.rest.now {i = 0} (search rules) in
    on_ok _ _ (subst (Appends _ _) (sym (split ∙ ap (λ l. done ++ l) empty ∙ append-nil done))
    (appends_kept _ _ _ done appended c.flush.ensures.bytes))

pub returns-then-is_empty-clause-front : goal.returns-then-is_empty-clause-front
returns-then-is_empty-clause-front g c = search (rules, appends_kept)

pub returns-in-Ok-eq0-clause-front : goal.returns-in-Ok-eq0-clause-front
returns-in-Ok-eq0-clause-front g c = search (rules, one_more_piece, appends_more)

pub returns-then-ne-clause-front : goal.returns-then-ne-clause-front
returns-then-ne-clause-front g c = search (rules, appends_kept)

pub loop-preserved : goal.loop-preserved
loop-preserved g c =
    let (done, split, appended) = c.loop.invariant in
    let rest = c.loop.rest.now in
    elim c.match-write.branch [
      | in-Ok w ↦ rw w.rest-is (
        done ++ take w.in-Ok.count rest,
        cut_piece _ done rest w.in-Ok.count split,
        appends_more _ _ _ done (take w.in-Ok.count rest) appended w.in-Ok.ensures.bytes,
      )
      | in-Err+else-ne w ↦ rw w.rest-is (
        done,
        split,
        appends_kept _ _ _ done appended
            w.in-Err.ensures.bytes,
      )
    ]

pub returns-clause-front : goal.returns-clause-front
returns-clause-front g c = search rules
