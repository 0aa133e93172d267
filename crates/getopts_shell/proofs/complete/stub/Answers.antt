use Rattle.std.proofs.Common.{◌≡◌, ◌++◌, Some, ap, append_assoc, string_bytes, sym, ◌∙◌}
use Rattle.std.specs.Option.{option_map}
use Rattle.getopts.specs.Names.{Text}
use Rattle.getopts_shell.specs.Completion.{first_line, functions, stub_call}
use Rattle.getopts_shell.proofs.complete.stub.Goals as goal

-- the text is the first line, the functions and the call
pub returns : goal.returns
returns c =
    let first = first_line c.args.shell.now c.args.name.now in
    let own = c.in-Some.functions.now in
    let call = stub_call c.args.stop c.args.long_only c.args.name.now c.args.table.now in
    let front : string_bytes c.push_first_line.new.text ≡ first =
    c.in_ok-push_first_line.ensures ∙ ap (λ (t : Text). t ++ first) c.new-text.ensures.bytes in
    let text : string_bytes c.push_str-2.new.self ≡ first ++ (own ++ call) =
    c.in_ok-push_str-2.ensures.bytes
    ∙ ap (λ (t : Text). t ++ c.as_str.result.now)
    (c.in_ok-push_str.ensures.bytes ∙ ap (λ (t : Text). t ++ own) front)
    ∙ ap (λ (t : Text). (first ++ own) ++ t) (c.as_str.ensures.value ∙ c.in_ok-stub_call.ensures)
    ∙ append_assoc first own call in
    let own_is : functions c.args.shell.now ≡ Some own =
    sym c.functions.ensures ∙ ap (option_map (λ text. text.now)) c.in-Some.is in
    ap Some text ∙ sym (ap (option_map (λ (text : Text). first ++ (text ++ call))) own_is)
