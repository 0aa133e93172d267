-- The characters so far were appended.
use Rattle.std.proofs.Common.{◌≡◌, ◌++◌, string_bytes}
use Rattle.std.specs.List.{flat_map}
use Rattle.getopts_shell.specs.Program.{escaped_char}
use Rattle.getopts_shell.proofs.message.push_escaped.Given as goal

abbrev pub invariant-loop-char : goal.invariant-loop-char
invariant-loop-char l =
    string_bytes l.text ≡ string_bytes l.initial.text ++ flat_map escaped_char l.yielded
