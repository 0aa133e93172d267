use Rattle.std.proofs.Common.{List, ℕ, ◌++◌, flat_map, string_bytes, sym, ap, ◌∙◌, map-id}
use Rattle.std.proofs.lemmas.Iterator.{YieldsList-from_chars}
use Rattle.std.proofs.lemmas.Iterator.Consumers.{YieldsList-end}
use Rattle.getopts_shell.specs.Program.{escaped_char}
use Rattle.getopts_shell.proofs.message.push_escaped.Goals as goal

pub returns : goal.returns
returns c =
    let end = YieldsList-end (YieldsList-from_chars c.args.other.now c.utf8.other cc) c.loop-char.yielded _ c.loop-char.yielded_by
    _ _ c.in-None.is c.next.ensures.steps in
    c.loop-char.invariant
    ∙ ap (λ (l : List ℕ). string_bytes c.args.text.now ++ flat_map escaped_char l) (sym (map-id c.loop-char.yielded) ∙ end.0)
