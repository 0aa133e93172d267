-- Words have a reading that ends with the line if and only if `--` after them would be the stop.
use Rattle.std.proofs.Common.{◌≡◌, ◌≢◌, ◌==◌, ◌-◌, false, List, [], ◌∷◌, ◌++◌, ◌∙◌, ap, arith, length-append, refl}
use Rattle.std.proofs.Common.{sym, length, Option, None, Some, Result, Ok, Err, String, Bor, Global, map}
use Rattle.std.proofs.Common.{string_bytes, rules}
use Rattle.std.proofs.Math.Seq.{take-append_seam}
use Rattle.std.specs.Prelude.{if◌then◌else◌, MatchResult}
use Rattle.std.specs.Str.{IsUtf8}
use Rattle.getopts.specs.Fail.{Fault}
use Rattle.getopts.specs.Parse.{IsReadingOf, Reads}
use Rattle.getopts.specs.Matches.{Matched, MatchedGroup, matches_of}
use Rattle.getopts.specs.Names.{AreTexts, Text, texts}
use Rattle.getopts.specs.Options.{Declared, Grammar, MayBeDeclared, grammar_of}
use Rattle.getopts.specs.Reading.{AreWellFollowed, EndsOrIsDashed, IsReading, Item, Reading, Tail, free_items}
use Rattle.getopts.specs.Reading.{no_tail, rest, spelled_all, stop, stop_word}
use Rattle.getopts.specs.Results.{made_of, parse_ignoring_counts_result, reading_or_error}
use Rattle.std.proofs.Permutation.{every_append}
use Rattle.getopts.proofs.MainTheorem.Results.{HasResults-declared}
use Rattle.getopts.proofs.Reading.Readings.{spelled_all-append}
use Rattle.getopts_shell.specs.Completion.{groups_before_option, groups_at_end}
use Rattle.getopts_shell.specs.Stored.{is_last_after_stop}
use Rattle.getopts_shell.proofs.Written.{strings_are_texts}

-- words with `--` and an empty word after them
abbrev pub with_stop : List Text → List Text
with_stop words = words ++ stop_word ∷ [] ∷ []

-- the groups that these words give, if the empty word alone is after the stop
abbrev pub groups_after : Result Matched Fault → Option (List MatchedGroup)
groups_after (Ok matches) = if is_last_after_stop matches then Some matches.groups else None
groups_after (Err fault) = None

-- the same for matches that were found
abbrev pub groups_found : Option Matched → Option (List MatchedGroup)
groups_found None = None
groups_found (Some matches) = if is_last_after_stop matches then Some matches.groups else None

-- words that end or are dashed may follow items if others that do may
ends_other : (items : List Item) (xs ys : List Text) → (EndsOrIsDashed xs → EndsOrIsDashed ys)
    → EndsOrIsDashed (spelled_all items xs) → EndsOrIsDashed (spelled_all items ys)
ends_other [] xs ys may is = may is
ends_other (item ∷ items) xs ys may is = search rules

followed_other : (items : List Item) (xs ys : List Text) → (EndsOrIsDashed xs → EndsOrIsDashed ys)
    → AreWellFollowed items xs → AreWellFollowed items ys
followed_other [] xs ys may is = tt
followed_other (item ∷ items) xs ys may is = search (rules, ends_other, followed_other items xs ys may is.1)

-- a reading that ends with the line, with the stop
stop_reads : (grammar : Grammar) (items : List Item) (words : List Text)
    → IsReading grammar (record { items = items; tail = no_tail }) words
    → IsReading grammar (record { items = items; tail = stop ([] ∷ []) }) (with_stop words)
stop_reads grammar items words is = record {
  spells = search (rules, spelled_all-append items [] (stop_word ∷ [] ∷ []));
  items = is.items;
  tail = tt;
  followed = followed_other items [] (stop_word ∷ [] ∷ []) (λ ends. refl) is.followed;
}

-- lists before two words each are the same if the whole lists are
same_front : (xs ys : List Text) (a b c : Text) → xs ++ a ∷ b ∷ [] ≡ ys ++ a ∷ c ∷ [] → xs ≡ ys
same_front xs ys a b c same =
    let long : length xs ≡ length ys =
    omega (arith, ap length same, length-append xs (a ∷ b ∷ []), length-append ys (a ∷ c ∷ [])) in
    search (rules, take-append_seam xs (a ∷ b ∷ []), take-append_seam ys (a ∷ c ∷ []))

-- such a reading without the stop
front_reads : (grammar : Grammar) (items : List Item) (words : List Text) (word : Text)
    → IsReading grammar (record { items = items; tail = stop (word ∷ []) }) (with_stop words)
    → IsReading grammar (record { items = items; tail = no_tail }) words
front_reads grammar items words word is = record {
  spells = same_front (spelled_all items []) words stop_word word []
      (sym (spelled_all-append items [] (stop_word ∷ word ∷ [])) ∙ is.spells);
  items = is.items;
  tail = tt;
  followed = followed_other items (stop_word ∷ word ∷ []) [] (λ ends. tt) is.followed;
}

-- other words than one are after the stop
more_after : (items : List Item) (words : List Text) → length words ≢ 1
    → (length (free_items items ++ words) - length (free_items items) == 1) ≡ false
more_after items words other = search (rules, length-append)

texts_stopped : (words : List Text) → AreTexts words → AreTexts (with_stop words)
unfolding lib.Utf8.encode
texts_stopped words are = every_append IsUtf8 words (stop_word ∷ [] ∷ []) are
    ((stop_word, (refl, refl)), (([], (refl, refl)), tt))

module _ (options : Declared) (declared : MayBeDeclared options.groups) where
  -- words that have a reading are read to it
  read_as : (words : List Text) (reading : Reading) → AreTexts words → Reads options words reading
      → reading_or_error options words ≡ Ok reading
  read_as words reading are reads =
      sym (((HasResults-declared options declared words are).reading (Ok reading)).0 reads)

  result_of : (words : List Text) → AreTexts words → IsReadingOf options words (reading_or_error options words)
  result_of words are = search (rules, HasResults-declared options declared words are)

  -- no option may follow words that have no such reading
  none_after : (words : List Text) → AreTexts words → groups_before_option options words ≡ None
      → (result : Result Reading Fault) → IsReadingOf options (with_stop words) result
      → groups_after (made_of (matches_of options) result) ≡ None
  none_after words are unread (Err fault) is = refl
  none_after words are unread (Ok reading) is = by reading.items reading.tail is where
    by : (items : List Item) (tail : Tail)
        → Reads options (with_stop words) (record { items = items; tail = tail })
        → groups_after (Ok (matches_of options (record { items = items; tail = tail }))) ≡ None
    by items no_tail is = refl
    by items (rest words) is = refl
    by items (stop []) is = refl
    by items (stop (word ∷ [])) is =
        let reads = read_as words (record { items = items; tail = no_tail }) are
        (front_reads (grammar_of options) items words word is) in
        let both : Some (matches_of options (record { items = items; tail = no_tail })).groups
        ≡ None = sym (ap (groups_at_end options) reads) ∙ unread in absurd cc
    by items (stop (word ∷ other ∷ more)) is =
        rw (more_after items (word ∷ other ∷ more) (omega arith)) refl

  -- what the words with the stop give
  pub groups_before_option-stop : (words : List Text) → AreTexts words
      → groups_after (parse_ignoring_counts_result options (with_stop words)) ≡ groups_before_option options words
  groups_before_option-stop words are = by (reading_or_error options words) refl (result_of words are) where
    unread : (result : Result Reading Fault) → reading_or_error options words ≡ result
        → groups_at_end options result ≡ None
        → groups_after (parse_ignoring_counts_result options (with_stop words)) ≡ None
    unread result is none = none_after words are (ap (groups_at_end options) is ∙ none)
        (reading_or_error options (with_stop words))
        (result_of (with_stop words) (texts_stopped words are))

    by_tail : (items : List Item) (tail : Tail)
        → reading_or_error options words ≡ Ok (record { items = items; tail = tail })
        → Reads options words (record { items = items; tail = tail })
        → groups_after (parse_ignoring_counts_result options (with_stop words))
        ≡ groups_at_end options (Ok (record { items = items; tail = tail }))
    by_tail items no_tail is reads =
        let one : length (free_items items ++ [] ∷ []) - length (free_items items) ≡ 1 =
        omega (arith, length-append (free_items items) ([] ∷ [])) in
        ap (λ (result : Result Reading Fault).
        groups_after (made_of (matches_of options) result))
        (read_as (with_stop words) (record { items = items; tail = stop ([] ∷ []) })
        (texts_stopped words are) (stop_reads (grammar_of options) items words reads))
        ∙ rw one refl
    by_tail items (stop more) is reads = unread _ is refl
    by_tail items (rest more) is reads = unread _ is refl

    by : (result : Result Reading Fault) → reading_or_error options words ≡ result
        → IsReadingOf options words result
        → groups_after (parse_ignoring_counts_result options (with_stop words))
        ≡ groups_at_end options result
    by (Err fault) is reads = unread (Err fault) is refl
    by (Ok reading) is reads = by_tail reading.items reading.tail is reads

  -- the same for what was found for these words
  pub groups_before_option-found : (before : List (String Global)) (words : List (Bor Text))
      → texts words ≡ with_stop (map string_bytes before) → (found : Option Matched)
      → MatchResult (parse_ignoring_counts_result options (texts words))
      (λ matches. found ≡ Some matches)
      (λ fault. found ≡ None)
      → groups_found found ≡ groups_before_option options (map string_bytes before)
  groups_before_option-found before words words_are found is =
      by (parse_ignoring_counts_result options (with_stop (map string_bytes before))) (rw words_are at is)
      ∙ groups_before_option-stop (map string_bytes before) (strings_are_texts before)
    where
      by : (result : Result Matched Fault)
          → MatchResult result (λ matches. found ≡ Some matches) (λ fault. found ≡ None)
          → groups_found found ≡ groups_after result
      by (Ok matches) is = ap groups_found is
      by (Err fault) is = ap groups_found is
