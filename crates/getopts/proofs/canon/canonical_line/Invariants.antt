-- The words so far, with those of the remaining options or free words, are all words.
use Rattle.std.proofs.Common.{◌≡◌, ◌++◌, drop, map}
use Rattle.std.specs.String.{string_bytes}
use Rattle.getopts.specs.Accessors.{borrowed_given}
use Rattle.getopts.specs.Reading.{frees_in, options_in}
use Rattle.getopts.specs.Canon.{canonical_line, canonical_word}
use Rattle.getopts.specs.Scan.{order_content}
use Rattle.getopts.proofs.canon.canonical_line.Given as goal

abbrev pub invariant-loop-given : goal.invariant-loop-given
invariant-loop-given l =
    map string_bytes l.words.items
    ++ map (canonical_word l.groups) (options_in (map borrowed_given (drop l.given-index l.order)))
    ≡ map (canonical_word l.groups) (options_in (map borrowed_given l.order))

abbrev pub invariant-loop-given-2 : goal.invariant-loop-given-2
invariant-loop-given-2 l =
    map string_bytes l.words.items ++ frees_in (map borrowed_given (drop l.given-index l.order))
    ≡ canonical_line l.groups (order_content (map borrowed_given l.order))
