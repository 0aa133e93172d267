-- Without help, the matches and the order are those of one command line.
use Rattle.std.proofs.Common.{◌≡◌, List, Result, Ok, Err, map, refl}
use Rattle.getopts.specs.Prelude.{Fault, Given, Matched}
use Rattle.getopts_uses.specs.Loudness.{IsAskedOrError, IsLoudnessOrError, IsReportOf, asked_result}
use Rattle.getopts_uses.specs.declared.loudness.Loudness.{Loudness}
use Rattle.getopts_uses.specs.declared.loudness.Report.{Report}
use Rattle.getopts_uses.specs.declared.request.Request.TheVariants.{Parsed}
use Rattle.getopts_uses.proofs.loudness.read_report.Goals as goal

parsed : (line : Result (List Given) Fault) (matches : Matched) (loudness : Loudness) (report : Report)
    → IsLoudnessOrError line (Ok loudness) → IsReportOf matches loudness report
    → IsAskedOrError (Ok (Parsed matches)) line (Ok (Parsed report))
parsed (Ok order) matches loudness report loud reports = rw loud at reports
parsed (Err fault) matches loudness report loud reports = absurd loud

pub returns : goal.returns
returns g c =
    let read = rw c.in_ok-options.ensures at c.in_ok-matches.ensures.result in
    let counted = rw c.in_ok-options.ensures at c.in_ok-matches.ensures.counted in
    let order = rw c.in_ok-options.ensures at c.in_ok-loudness.ensures.result in
    let asked : asked_result (map g.S.AsStr.text c.args.words.now) ≡ Ok (Parsed c.in_ok-matches.matches) =
    rw (read, counted, c.in_ok-check_counts.ensures.result, ← c.if-opt_present.ensures.present) refl in
    record { result = rw asked (parsed _ _ _ _ order c.in_ok-report_of.ensures) }
