-- The trace of what is left begins with what is next, and a line's trace has its order.
use Rattle.std.proofs.Common.{◌≡◌, ◌≢◌, ◌==◌, ◌&&◌, ◌∙◌, ◌<◌, ℕ, zero, suc, true, false, List, [], ◌∷◌, ◌++◌, Some}
use Rattle.std.proofs.Common.{None, Result, Ok, Err, ap, sym, is_some, length, map, refl, rules, append_assoc, ◌+◌}
use Rattle.std.proofs.Common.{arith}
use Rattle.std.specs.Prelude.{⊤}
use Rattle.std.proofs.lemmas.List.{append-nil}
use Rattle.getopts.specs.Names.{Text}
use Rattle.getopts.specs.Options.{Declared, Grammar, grammar_of}
use Rattle.getopts.specs.Fail.{Fault}
use Rattle.getopts.specs.Parse.{IsDeclared}
use Rattle.getopts.specs.Reader.{IsCut, Left, Next, PrecedeError, Trace, after_word, fails, fault_in, given_in, gives}
use Rattle.getopts.specs.Reader.{next_free, next_option, next_result, order_in, size_of, trace, trace_from}
use Rattle.getopts.specs.Reader.{trace_within, in_cluster, whole}
use Rattle.getopts.specs.Reading as Spec
use Rattle.getopts.specs.Results.{order_or_error, reading_or_error, unless_fault}
use Rattle.getopts.specs.Scan.{AreBeforeWords, AreBefore}
use Rattle.getopts.specs.Scan as Scan
use Rattle.getopts.proofs.Reading.Reader.{HasTextNames}
use Rattle.getopts.proofs.Reading.Readings.{followed-other, spelled_all-append}
use Rattle.getopts.proofs.scan.One.{read-tail, AreBeforeWords-item, Says, is_error, is_one, is_tail, next, said}

-- what was given before, and then what a trace gives, or its error
abbrev pub order_from : List Spec.Given → Trace → Result (List Spec.Given) Fault
order_from given more = unless_fault (given ++ given_in more) (fault_in more)

-- the items before other words
AreBeforeWords-front : {grammar : Grammar} {line : List Text} {items : List Spec.Item} {words : List Text} (others : List Text)
    → Spec.EndsOrIsDashed others → AreBeforeWords grammar line items words
    → AreBeforeWords grammar (Spec.spelled_all items others) items others
AreBeforeWords-front {items = items} {words} others ends so_far = search (rules, followed-other)

module _ (options : Declared) (named : HasTextNames (grammar_of options)) where
  abbrev grammar : Grammar
  grammar = grammar_of options

  next-says : (left : Left) → Says options left (next_result options left)
  next-says left = search (rules, said)

  -- traces that agree on less agree
  same_from : (one other : Left → Trace) (left : Left) (result : Next) → Says options left result
      → ((after : Left) → size_of after < size_of left → one after ≡ other after)
      → trace_from one result ≡ trace_from other result
  same_from one other left result good same = search rules

  within : (n m : ℕ) (left : Left) → size_of left < n → size_of left < m
      → trace_within n options left ≡ trace_within m options left
  within zero m left less more = absurd (omega (arith, less))
  within (suc n) zero left less more = absurd (omega (arith, more))
  within (suc n) (suc m) left less more = same_from (trace_within n options) (trace_within m options) left _ (next-says left)
      (λ after smaller. within n m after (omega (arith, less, smaller)) (omega (arith, more, smaller)))

  -- a trace begins with what is next
  pub trace-next : (left : Left) → trace options left ≡ trace_from (trace options) (next_result options left)
  trace-next left = within (1 + size_of left) (suc (size_of left)) left (omega arith) (omega arith)
      ∙ same_from (trace_within (size_of left) options) (trace options) left _ (next-says left)
      (λ after smaller. within (size_of left) (1 + size_of after) after smaller (omega arith))

  -- while options may follow, or names
  pub trace-option : (left : Left) {returned : Next} → (is_some left.free_words && (length left.names == 0)) ≡ false
      → next_option grammar left.names left.words left.free_words ≡ returned
      → trace options left ≡ trace_from (trace options) returned
  trace-option left among is = trace-next left ∙ ap (trace_from (trace options)) (rw among is)

  -- once only free words are left
  pub trace-frees : (left : Left) → (is_some left.free_words && (length left.names == 0)) ≡ true
      → trace options left ≡ trace_from (trace options) (next_free left.words)
  trace-frees left only = trace-next left ∙ ap (trace_from (trace options)) (rw only refl)

  -- what it begins with is declared, and leaves less
  abbrev pub BeginsWell : Left → Trace → Type 0
  BeginsWell left (gives given after more) = IsDeclared options.groups given × (size_of after < size_of left)
  BeginsWell left more = ⊤

  pub begins_well : (left : Left) → BeginsWell left (trace options left)
  begins_well left = rw trace-next (by_next (next_result options left) (next-says left)) where
    by_next : (result : Next) → Says options left result → BeginsWell left (trace_from (trace options) result)
    by_next result good = search rules

  -- ---- the order of a line

  -- free words that end a line
  frees-given : (words : List Text) → (given_in (trace_from (trace options) (next_free words)) ≡ map Spec.free_word words)
      × (fault_in (trace_from (trace options) (next_free words)) ≡ None)
  frees-given [] = (refl, refl)
  frees-given (word ∷ words) =
      let more = frees-given words in
      rw (trace-frees (record { names = []; words = words; free_words = Some (word ∷ words) }) refl, more.0, more.1) (refl, refl)

  module _ (line : List Text) where
    -- what was given before and then the trace gives is the line's order, or precedes its error
    abbrev IsOrder : List Spec.Given → Trace → Type 0
    IsOrder given more = (order_or_error options line ≡ order_from given more)
        × ((fault : Fault) → order_or_error options line ≡ Err fault → PrecedeError options line (given ++ given_in more) fault)

    -- what items give that read the words before an error
    precede : {front : List Text} {items : List Spec.Item} {left : Left} {fault : Fault} → AreBeforeWords grammar front items []
        → IsCut line front left → trace options left ≡ fails fault → PrecedeError options line (Spec.order_of_items grammar items) fault
    unfolding reading_or_error
    precede {front} {items} {left} read cut is = record {
      front = front;
      left = left;
      cut = cut;
      order = rw (read-tail named Spec.no_tail tt refl refl (Scan.between_words refl read), append-nil) refl;
      error = is;
    }

    -- what these items give, before an error
    before-error : (items : List Spec.Item) (left : Left) (fault : Fault) → AreBefore grammar line items left.names left.words
        → trace options left ≡ fails fault → PrecedeError options line (Spec.order_of_items grammar items) fault
    before-error items left fault (Scan.between_words none so_far) is =
        precede (AreBeforeWords-front [] tt so_far)
        (after_word none (sym so_far.spells ∙ spelled_all-append items [] left.words)) is
    before-error items left fault (Scan.within_word before word filled has begun items_are so_far) is =
        precede {items = items} {left = left} (rw items_are (AreBeforeWords-item (Spec.cluster has.bytes Spec.flags) []
        (AreBeforeWords-front _ (search (rules, begun)) so_far) (search (rules, append-nil))))
        (in_cluster (Spec.spelled_all before []) (Spec.dash ∷ has.bytes) (spelled_all-append before [] _)
        (sym so_far.spells ∙ spelled_all-append before [] (word ∷ left.words) ∙ rw has.word_is refl)) is

    along : (n : ℕ) (left : Left) (items : List Spec.Item) → size_of left < n → left.free_words ≡ None
        → AreBefore grammar line items left.names left.words → IsOrder (Spec.order_of_items grammar items) (trace options left)
    unfolding reading_or_error
    along zero left items less among read_to = absurd (omega (arith, less))
    along (suc n) left items less among read_to = elim (next options named left.free_words left.names left.words) [
      | is_error is fault_is ↦
          let told = trace-option left (rw among refl) is in
          let fails = fault_is line items read_to in
          (rw (told, fails) refl, λ fault of. rw (told, append-nil) (before-error items left fault read_to (told ∙ cc (rw fails at of))))
      | is_tail tail is none lawful words_are ↦
          let given = frees-given (Spec.tail_frees tail) in
          rw (trace-option left (rw among refl) is, given.0, given.1, read-tail named tail lawful none words_are read_to)
          (refl, λ fault of. absurd (cc of))
      | is_one is reads declared ↦
          let one = reads.reads line items read_to in
          rw (trace-option left (rw among refl) is)
          (rw (one.order, append_assoc) at (along n _ one.all (omega (arith, less, reads.less)) among one.read))
    ]

-- The trace of a whole line.
module _ (options : Declared) (named : HasTextNames (grammar_of options)) (line : List Text) where
  whole-order : IsOrder options named line [] (trace options (whole line))
  whole-order = along options named line (1 + size_of (whole line)) (whole line) [] (omega arith) refl
      (Scan.between_words refl (record { spells = refl; lawful = tt; followed = tt }))

  -- it has the line's order, or ends in its error
  pub order-whole : order_in (trace options (whole line)) ≡ order_or_error options line
  order-whole = sym whole-order.0

  pub before_error-whole : (fault : Fault) → order_or_error options line ≡ Err fault
      → PrecedeError options line (given_in (trace options (whole line))) fault
  before_error-whole = whole-order.1
