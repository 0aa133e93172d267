-- The first name is a flag, ends the cluster, or is an error.
use Rattle.std.proofs.Common.{sym, ◌∙◌, refl, rules}
use Rattle.std.proofs.lemmas.Str.{IsCharBoundary-after_ascii}
use Rattle.getopts.specs.Step.{takes_flag, takes_last}
use Rattle.getopts.proofs.Errors.{IsOutOfMemoryOr-one}
use Rattle.getopts.proofs.scan.One as Names
use Rattle.getopts.proofs.table.Names.{wide_unknown}
use Rattle.getopts.proofs.scan.Scanner.short.Goals as goal

pub returns-then-not-is_ascii-clause-err : goal.returns-then-not-is_ascii-clause-err
returns-then-not-is_ascii-clause-err g c = search (rules, IsOutOfMemoryOr-one, wide_unknown)

pub range-name-requires-clause-end_boundary : goal.range-name-requires-clause-end_boundary
range-name-requires-clause-end_boundary g c =
    IsCharBoundary-after_ascii c.args.names.now 0 c.utf8.names (Names.names_length _ c.requires.filled) (search rules)

pub range_from-requires : goal.range_from-requires
range_from-requires g c = λ _.
    IsCharBoundary-after_ascii c.args.names.now 0 c.utf8.names (Names.names_length _ c.requires.filled) (search rules)

pub range_from-requires-in_default : goal.range_from-requires-in_default
range_from-requires-in_default g c = λ _.
    IsCharBoundary-after_ascii c.args.names.now 0 c.utf8.names (Names.names_length _ c.requires.filled) (search rules)

pub returns-in-None-clause-err : goal.returns-in-None-clause-err
returns-in-None-clause-err g c = search (rules, IsOutOfMemoryOr-one, Names.first_name, Names.name_first)

pub returns-in-No-clause-ok : goal.returns-in-No-clause-ok
returns-in-No-clause-ok g c =
    let is = c.range-name.ensures.value ∙ Names.first_name c.args.names.now c.requires.filled in
    let place = sym (c.in-Some.ensures _ c.requires.lawful.table) in
    rw c.range_from.ensures.value (takes_flag _ (Names.names_are _ c.requires.filled)
    (rw is at (c.in-No.ensures _ place)) (rw is at place) refl refl)

pub returns-in_ok-argument-in_default : goal.returns-in_ok-argument-in_default
returns-in_ok-argument-in_default g c =
    let is = c.range-name.ensures.value ∙ Names.first_name c.args.names.now c.requires.filled in
    let place = sym (c.in-Some.ensures _ c.requires.lawful.table) in record {
      ok = takes_last _ _ c.kind.result (Names.names_are _ c.requires.filled) refl (rw is at place) c.in_default.not-No
          (rw is at (c.kind.ensures _ place))
          (rw (is, c.range_from-in_default.ensures.value) at c.in_ok-argument-in_default.ensures.ok);
      last = c.in_ok-argument-in_default.ensures.last;
      err = tt;
    }
