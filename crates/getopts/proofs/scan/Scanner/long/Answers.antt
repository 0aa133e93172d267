-- The name in long form gives an option with its argument, or an error.
use Rattle.std.proofs.Common.{◌≡◌, Some, map, rules}
use Rattle.std.specs.Option.{option_copied}
use Rattle.getopts.specs.Scan.{scanner_grammar}
use Rattle.getopts.proofs.Stored.Signatures.{names-signatures_of}
use Rattle.getopts.proofs.Errors.{IsOutOfMemoryOr-one, IsOutOfMemoryOr-weaker, IfErr-exit}
use Rattle.getopts.proofs.scan.Items as Items
use Rattle.getopts.proofs.scan.Scanner.long.Goals as goal
use Rattle.getopts.proofs.scan.Scanner.long.Goals.{In-Some}
use Rattle.getopts.proofs.scan.Scanner.long.Given.{Over}

pub resolve-requires : goal.resolve-requires
resolve-requires g c = search (rules, names-signatures_of)

pub returns-in-None-clause-err : goal.returns-in-None-clause-err
returns-in-None-clause-err g c = λ dashes.
    let cut = c.name_and_argument.ensures in
    IsOutOfMemoryOr-one c.unrecognized_option.result _ _ c.unrecognized_option.ensures
    (Items.long_step-unknown (scanner_grammar c.args.self.now) dashes c.args.text.now c.name_and_argument.result.0.now
    (option_copied c.name_and_argument.result.1) (map g.S.AsStr.text c.args.after.now) cut.text cut.name (search (rules, names-signatures_of)))

-- the name resolves to the place
place_is : (g : Over) (c : In-Some g) → (scanner_grammar c.args.self.now).place c.name_and_argument.result.0.now ≡ Some c.in-Some.place
place_is g c = search (rules, names-signatures_of)

pub returns-in_err-argument-clause-err : goal.returns-in_err-argument-clause-err
returns-in_err-argument-clause-err g c =
    let cut = c.name_and_argument.ensures in
    let place = place_is g (goal.at.returns-in_err-argument-clause-err g c).In-Some in
    IfErr-exit _ c.in_err-argument.field-0.0 _ c.from_residual.ensures.1 (λ dashes.
    IsOutOfMemoryOr-weaker c.in_err-argument.field-0.0 _ _ c.in_err-argument.ensures.err
    (λ fault told. Items.long_step-fault (scanner_grammar c.args.self.now) dashes c.args.text.now
    c.name_and_argument.result.0.now (option_copied c.name_and_argument.result.1) (map g.S.AsStr.text c.args.after.now)
    cut.text cut.name c.kind.result fault (c.kind.ensures _ place) told))

pub returns-clause-ok : goal.returns-clause-ok
returns-clause-ok g c = λ dashes.
    let cut = c.name_and_argument.ensures in
    let place = place_is g (goal.at.returns-clause-ok g c).In-Some in
    Items.TakesOne-long (scanner_grammar c.args.self.now) dashes c.args.text.now c.name_and_argument.result.0.now
    (option_copied c.name_and_argument.result.1) (map g.S.AsStr.text c.args.after.now) cut.text cut.name
    c.kind.result c.in-Some.place _ _ (c.kind.ensures _ place) place
    c.in_ok-argument.ensures.ok
