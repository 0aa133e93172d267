-- The line that was read gives the matches of its reading, and its error is that of the whole line.
use Rattle.std.proofs.Common.{◌≡◌, ◌∙◌, Err, IfErr, Some, map, rules}
use Rattle.getopts.specs.Fail.{IsOutOfMemoryOr}
use Rattle.getopts.specs.Options.{grammar_of, signatures_of}
use Rattle.getopts.specs.Results.{accepted_reading, reading_or_error}
use Rattle.getopts.specs.Scan.{GivesLine, reading_if}
use Rattle.getopts.proofs.parse.Made.{GivesLine-kept, made_of-matches, with_counts_kept-line, reading_if-fault}
use Rattle.getopts.proofs.parse.Parsed.{keeps_laws}
use Rattle.getopts.proofs.Stored.Signatures.{names-signatures_of}
use Rattle.getopts.proofs.Errors.{IsOutOfMemoryOr-exit}
use Rattle.getopts.proofs.options.Options.read_matches.Goals as goal
use Rattle.getopts.proofs.options.Options.read_matches.Goals.{then-counted+in_ok-check_counts, else-counted}

pub scan-requires-clause-lawful : goal.scan-requires-clause-lawful
scan-requires-clause-lawful g c = search (rules, names-signatures_of)

pub returns-in_err-scan-clause-result : goal.returns-in_err-scan-clause-result
unfolding reading_or_error
returns-in_err-scan-clause-result g c =
    let words = map g.S.AsStr.text c.args.words.now in
    let told : IfErr c.from_residual-in_err-scan.result (λ fail. IsOutOfMemoryOr fail (λ fault.
    reading_if c.args.counted c.args.self.now words ≡ Err fault)) =
    IsOutOfMemoryOr-exit _ c.in_err-scan.field-0.0 _ _ c.from_residual-in_err-scan.ensures.1 c.in_err-scan.ensures.err
    (λ fault told. reading_if-fault c.args.counted _ words fault told) in
    search rules

pub returns-in_err-check_counts-clause-result : goal.returns-in_err-check_counts-clause-result
unfolding accepted_reading reading_or_error
returns-in_err-check_counts-clause-result g c =
    let told : IfErr c.from_residual-in_err-check_counts.result (λ fail. IsOutOfMemoryOr fail (λ fault.
    reading_if c.args.counted c.args.self.now (map g.S.AsStr.text c.args.words.now) ≡ Err fault)) =
    IsOutOfMemoryOr-exit _ c.in_err-check_counts.field-0.0 _ _ c.from_residual-in_err-check_counts.ensures.1
    (rw c.signatures-signatures.ensures.signatures at c.in_err-check_counts.ensures.err) (λ fault first.
    rw c.if-counted.true (with_counts_kept-line c.args.self.now c.in_ok-scan.ensures.ok _
    (rw (c.len.ensures.len, c.signatures-signatures.ensures.signatures) at c.in_ok-index.ensures) (Some fault) first)) in
    search rules

pub of_line-requires-clause-table : goal.of_line-requires-clause-table
of_line-requires-clause-table g c = rw c.in_ok-clone.ensures.cases c.in_ok-table.ensures

pub returns-clause-result : goal.returns-clause-result
unfolding accepted_reading reading_or_error
returns-clause-result g c =
    let signatures : c.in_ok-clone.field-0 ≡ signatures_of c.args.self.now.groups =
    c.in_ok-clone.ensures.cases ∙ c.signatures-signatures.ensures.signatures in
    let kept : GivesLine (grammar_of c.args.self.now) (reading_if c.args.counted c.args.self.now (map g.S.AsStr.text c.args.words.now))
    c.scan.new.line = elim c.if-counted.branch [
      | then-counted+in_ok-check_counts w ↦ rw w.if-counted.true
          (GivesLine-kept c.args.self.now c.in_ok-scan.ensures.ok _
          (rw (c.len.ensures.len, c.signatures-signatures.ensures.signatures) at c.in_ok-index.ensures)
          (rw c.signatures-signatures.ensures.signatures at w.in_ok-check_counts.ensures.ok))
      | else-counted w ↦ rw w.if-counted.false c.in_ok-scan.ensures.ok
    ] in
    rw (c.of_line.ensures, signatures) (made_of-matches c.args.self.now kept)

pub returns-clause-laws : goal.returns-clause-laws
returns-clause-laws g c = search (rules, keeps_laws c.args.self.now c.signatures-signatures.ensures.declared)
