-- The texts are those of the groups so far.
use Rattle.std.proofs.Common.{◌≡◌, map, string_bytes, take}
use Rattle.getopts.specs.Usage.{option_text}
use Rattle.getopts.proofs.options.Options.option_texts.Given as goal

abbrev pub invariant-loop-place : goal.invariant-loop-place
invariant-loop-place l =
    map string_bytes l.texts.items ≡ map option_text (take l.place l.self.groups)
