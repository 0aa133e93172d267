-- Each iteration adds an option or a free word, and each exit leaves the words after the items.
use Rattle.std.proofs.Common.{◌≡◌, ◌-◌, length, map, rules, None, Some, Ok, append-nil, refl}
use Rattle.std.proofs.lemmas.List.{length-map}
use Rattle.getopts.specs.Accessors.{borrowed_given}
use Rattle.getopts.specs.Reader.{left_in}
use Rattle.getopts.specs.Scan.{HasOneMore, scanner_grammar, words_left}
use Rattle.getopts.proofs.Errors.{IsOutOfMemoryOr-exit}
use Rattle.getopts.proofs.scan.One.{Says, said}
use Rattle.getopts.proofs.scan.Placed as Placed
use Rattle.getopts.proofs.table.Names.{has_text_names}
use Rattle.getopts.proofs.scan.Scanner.scan.Goals as goal
use Rattle.getopts.proofs.scan.Scanner.scan.Goals.{In-Some}
use Rattle.getopts.proofs.scan.Scanner.scan.Given.{Over}

pub returns-in_err-given-clause-err : goal.returns-in_err-given-clause-err
returns-in_err-given-clause-err g c =
    IsOutOfMemoryOr-exit _ c.in_err-given.field-0.0 _ _ c.from_residual.ensures.1 c.in_err-given.ensures.err
    (λ fault told. said c.args.self.now.options.now (has_text_names _ c.requires.lawful.declared)
    (left_in g.S.AsStr.text c.items.unread) told _ _ c.items.invariant.read.read_to)

-- what was read
said_next : (g : Over) (c : In-Some g) → Says c.args.self.now.options.now (left_in g.S.AsStr.text c.items.unread)
    (Ok (Some (borrowed_given c.in-Some.given, left_in g.S.AsStr.text c.next.new.unread)))
said_next g c = said _ (has_text_names _ c.requires.lawful.declared) _ (rw c.in-Some.is at c.in_ok-given.ensures.next)

-- it is one more option or free word of the line
one_more : (g : Over) (c : In-Some g) → HasOneMore (scanner_grammar c.args.self.now) (map g.S.AsStr.text c.args.words.now)
    c.items.invariant.read.items c.items.position (borrowed_given c.in-Some.given)
    c.next.new.unread.names.now (map g.S.AsStr.text c.next.new.unread.words.now)
one_more g c =
    let here : length (map g.S.AsStr.text c.args.words.now)
    - words_left c.items.unread.names.now (map g.S.AsStr.text c.items.unread.words.now) ≡ c.items.position =
    search (rules, length-map, Placed.words_left-map) in
    let reads = (said_next g c).2 (rw (c.in_ok-given.ensures.free_words, c.items.invariant.among) refl) in
    rw here at (reads.reads _ _ c.items.invariant.read.read_to)

pub position_in-position-requires : goal.position_in-position-requires
position_in-position-requires g c = Placed.words_left-more g.S.AsStr.text c.args.words.now _ c.next.new.unread.words.now
    (one_more g (goal.at.position_in-position-requires g c).In-Some)

pub position_in-position-requires-in-Free : goal.position_in-position-requires-in-Free
position_in-position-requires-in-Free g c = Placed.words_left-more g.S.AsStr.text c.args.words.now _ c.next.new.unread.words.now
    (one_more g (goal.at.position_in-position-requires-in-Free g c).In-Some)

pub items-preserved-in-Option : goal.items-preserved-in-Option
items-preserved-in-Option g c = record {
  here = search rules;
  among = search rules;
  read = Placed.SoFar-next c.items.invariant.read
      (rw c.in-Option.is at (one_more g (goal.at.items-preserved-in-Option g c).In-Some))
      c.in_ok-push-in-Option.ensures (search (rules, append-nil));
}

pub items-preserved : goal.items-preserved
items-preserved g c = record {
  here = search rules;
  among = search rules;
  read = Placed.SoFar-next c.items.invariant.read
      (rw c.in-Free.is at (one_more g (goal.at.items-preserved g c).In-Some))
      (search (rules, append-nil)) c.in_ok-push_copy-in-Free.ensures;
}

pub returns-clause-ok : goal.returns-clause-ok
returns-clause-ok g c =
    let none : c.in_ok-given.field-0 ≡ None = search rules in
    let ends = rw none at c.in_ok-given.ensures.none in
    let end = rw ends.1 at c.in_ok-end.ensures in
    Placed.GivesLine-ended c.items.invariant.read (has_text_names _ c.requires.lawful.declared) ends.0
    (rw none at c.in_ok-given.ensures.tail) c.end.new.self end.found end.free end.trailing

pub items-smaller-in-Option : goal.items-smaller-in-Option
items-smaller-in-Option g c = (said_next g (goal.at.items-smaller-in-Option g c).In-Some).1

pub items-smaller : goal.items-smaller
items-smaller g c = (said_next g (goal.at.items-smaller g c).In-Some).1
