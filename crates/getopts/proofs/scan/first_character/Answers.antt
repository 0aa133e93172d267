-- A text may be split after its first character.
use Rattle.std.proofs.Common.{◌≡◌, ◌++◌, ◌∙◌, sym, encode_utf8, zero-le, zero-add}
use Rattle.std.specs.Str.Iter.{chars_rest}
use Rattle.std.proofs.lemmas.Str.{IsCharBoundary-past_char}
use Rattle.getopts.proofs.scan.first_character.Goals as goal

pub range-requires-clause-end_boundary : goal.range-requires-clause-end_boundary
range-requires-clause-end_boundary c =
    let begins : c.args.text.now ≡ encode_utf8 c.in-Some.character ++ chars_rest c.next.new.self =
    sym c.chars.ensures.rest ∙ c.in-Some.ensures.steps.0 in
    let cut = IsCharBoundary-past_char c.args.text.now
    (chars_rest c.next.new.self) 0 c.in-Some.character zero-le c.utf8.text begins in
    rw c.len_utf8.ensures.value (simp zero-add at cut)
