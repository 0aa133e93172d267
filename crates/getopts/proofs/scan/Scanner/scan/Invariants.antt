-- What was read so far is in the line, and the next option is in the word at this position.
use Rattle.std.proofs.Common.{◌≡◌, ◌+◌, None, length, map}
use Rattle.std.specs.String.{string_bytes}
use Rattle.getopts.specs.Reader.{left_in, size_of}
use Rattle.getopts.specs.Scan.{scanner_grammar, words_left}
use Rattle.getopts.proofs.scan.Placed.{SoFar}
use Rattle.getopts.proofs.scan.Scanner.scan.Given as goal

abbrev pub invariant-items : goal.invariant-items
invariant-items g l =
    let words = map g.S.AsStr.text l.words in let left = map g.S.AsStr.text l.unread.words.now in record {
      here : l.position + words_left l.unread.names.now l.unread.words.now ≡ length l.words;
      among : l.unread.free_words ≡ None;
      read : SoFar (scanner_grammar l.self) l.line.found (map string_bytes l.line.free.items) words l.unread.names.now
          left;
    }

abbrev pub decreases-items : goal.decreases-items
decreases-items g l = size_of (left_in g.S.AsStr.text l.unread)
