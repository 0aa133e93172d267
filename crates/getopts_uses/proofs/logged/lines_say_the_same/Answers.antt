-- A canonical line that is read again means the same, and is its own canonical line.
use Rattle.std.proofs.Common.{◌≡◌, codes, refl}
use Rattle.getopts.specs.Matches.{Matched}
use Rattle.getopts.specs.Theorem.{HaveSameValues}
use Rattle.getopts.proofs.MainTheorem.Callers.{same_count, same_first, same_present, same_values}
use Rattle.getopts.proofs.MainTheorem.Callers.{canonical_again, results_again}
use Rattle.getopts.proofs.OnLiterals.{MayBeDeclared-plain}
use Rattle.getopts_uses.specs.Logged.{build_options, said_by}
use Rattle.getopts_uses.proofs.logged.lines_say_the_same.Goals as goal

same_said : (m n : Matched) → HaveSameValues m n → said_by n ≡ said_by m
same_said m n same = λ i. record {
  jobs = same_first m n same (codes "jobs") i;
  keep_going = same_present m n same (codes "keep-going") i;
  verbose = same_count m n same (codes "verbose") i;
  sets = same_values m n same (codes "set") i;
  targets = same.free i;
}

pub returns-clause-same : goal.returns-clause-same
returns-clause-same c = λ words line written.
    let may = MayBeDeclared-plain build_options refl in
    results_again said_by same_said build_options may
    (c.declared_options_keep_laws.ensures.line_laws build_options may)
    words line written build_options.style build_options.long_only

pub returns-clause-again : goal.returns-clause-again
returns-clause-again c = λ words line written.
    let may = MayBeDeclared-plain build_options refl in
    canonical_again build_options may (c.declared_options_keep_laws.ensures.line_laws build_options may)
    words line written build_options.style build_options.long_only
