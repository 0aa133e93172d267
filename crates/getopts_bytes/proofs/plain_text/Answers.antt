use Rattle.std.proofs.Common.{List, ℕ, true, false, ◌≡◌, sym, subst, chars}
use Rattle.std.specs.List.{list_any}
use Rattle.getopts_bytes.specs.Marks.{is_mark}
use Rattle.getopts_bytes.proofs.Chars.{is_plain_of, marked_not_plain, not_utf8_not_plain}
use Rattle.getopts_bytes.proofs.plain_text.Goals as goal
use Rattle.getopts_bytes.proofs.plain_text.Goals.{in_default-via-in-Ok+else-not-has_marks, in_default-via-in_default}

pub returns-in-Ok-clause-plain : goal.returns-in-Ok-clause-plain
returns-in-Ok-clause-plain c =
    let same = c.in-Ok.ensures.cases.0 in
    sym (is_plain_of c.args.bytes.now c.in-Ok.ensures.cases.1
    (subst (λ (bytes : List ℕ). list_any is_mark (chars bytes) ≡ false) same (sym c.if-not-has_marks.ensures)))

pub returns-in_default-clause-plain : goal.returns-in_default-clause-plain
returns-in_default-clause-plain c =
    elim c.in_default.branch [
      | in_default-via-in-Ok+else-not-has_marks w ↦
          sym (marked_not_plain c.args.bytes.now
          (subst (λ (bytes : List ℕ). list_any is_mark (chars bytes) ≡ true) w.in-Ok.ensures.cases.0
          (sym w.if-not-has_marks.ensures)))
      | in_default-via-in_default w ↦ sym (not_utf8_not_plain c.args.bytes.now w.in_default.ensures.cases.0)
    ]
