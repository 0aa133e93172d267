-- The ten command lines at the top of GRAMMAR.
use Rattle.std.proofs.Common.{◌≡◌, ℕ, true, false, List, [], ◌∷◌, Option, Some, None, Result, Ok, Err}
use Rattle.std.proofs.Common.{codes, refl, subst}
use Rattle.std.specs.List.{list_all}
use Rattle.getopts.specs.Names.{Text}
use Rattle.getopts.specs.Options.{Declared, group_of}
use Rattle.getopts.specs.Only.{IsTheOnly}
use Rattle.getopts.specs.Fail.{Fault, unrecognized_option, option_duplicated}
use Rattle.getopts.specs.Reading.{Reading, Item, free, long, cluster, two, flags, ends_in, none, attached, separate}
use Rattle.getopts.specs.Reading.{Tail, no_tail, stop, Mention, option, free_word}
use Rattle.getopts.specs.Reader.{Left, fails, gives, no_more, trace, whole}
use Rattle.getopts.specs.Canon.{content_of}
use Rattle.getopts.specs.Results.{accepted_reading}
use Rattle.getopts.specs.Parse.{IsLineOf}
use Rattle.getopts.specs.declared.kinds.HasArg.TheVariants.{Yes, No, Maybe}
use Rattle.getopts.specs.declared.kinds.Occur.TheVariants.{Optional, Multi}
use Rattle.getopts.specs.declared.kinds.ParsingStyle.TheVariants.{FloatingFrees}
use Rattle.getopts.proofs.MainTheorem.Results.{HasResults-declared}
use Rattle.getopts.proofs.OnLiterals.{getopts_on_literals, is_plain_text, MayBeDeclared-plain, AreTexts-plain}

-- options: `output` takes a value, `verbose` may occur often, and `color` takes a value or none
abbrev pub sample : Declared
sample = record {
  groups = group_of (codes "o") (codes "output") [] [] Yes Optional
      ∷ group_of (codes "v") (codes "verbose") [] [] No Multi
      ∷ group_of (codes "c") (codes "color") [] [] Maybe Optional
      ∷ [];
  style = FloatingFrees;
  long_only = false;
}

-- the letter `o`
abbrev pub letter_o : ℕ
letter_o = 111

-- the letter `c`
abbrev pub letter_c : ℕ
letter_c = 99

-- a mention of `output` with this value
abbrev pub output : Text → Mention
output value = record { place = 0; value = Some value }

-- a mention of `verbose`
abbrev pub verbose : Mention
verbose = record { place = 1; value = None }

-- a mention of `color`, with this value or none
abbrev pub color : Option Text → Mention
color value = record { place = 2; value = value }

-- The reading keeps the counts, mentions these options and has these free words.
-- The words have one reading only, with these items and this tail.
pub record IsReadAs (words : List Text) (items : List Item) (tail : Tail) (mentioned : List Mention)
    (frees : List Text) : Type 0 where
  pub only : IsTheOnly (IsLineOf sample words) (Ok (record { items = items; tail = tail }))
  pub content : content_of sample (record { items = items; tail = tail })
      ≡ record { mentions = mentioned; free = frees }

-- The words are rejected with this error, and with no other.
abbrev pub IsRejectedWith : List Text → Fault → Type 0
IsRejectedWith words fault = IsTheOnly (IsLineOf sample words) (Err fault)

computed : (words : List Text) (result : Result Reading Fault) → list_all is_plain_text words ≡ true
    → accepted_reading sample words ≡ result → IsTheOnly (IsLineOf sample words) result
computed words result plain is =
    let declared = MayBeDeclared-plain sample refl in
    subst (IsTheOnly (IsLineOf sample words)) is
    (HasResults-declared sample declared words (AreTexts-plain words plain)).line

-- `-vofile in`: `v` and `o` share a dash, and the rest of the word is the value of `o`
pub value_in_the_same_word : IsReadAs (codes "-vofile" ∷ codes "in" ∷ [])
    (cluster (codes "v") (ends_in letter_o (attached (codes "file"))) ∷ free (codes "in") ∷ [])
    no_tail
    (verbose ∷ output (codes "file") ∷ []) (codes "in" ∷ [])
unfolding getopts_on_literals
value_in_the_same_word = record { only = computed _ _ refl refl; content = refl }

-- `in -o -v`: the value of `o` is the next word, even if that begins with `-`
pub value_in_the_next_word : IsReadAs (codes "in" ∷ codes "-o" ∷ codes "-v" ∷ [])
    (free (codes "in") ∷ cluster [] (ends_in letter_o (separate (codes "-v"))) ∷ []) no_tail
    (output (codes "-v") ∷ []) (codes "in" ∷ [])
unfolding getopts_on_literals
value_in_the_next_word = record { only = computed _ _ refl refl; content = refl }

-- `--output=file`: the value of a long name follows `=`
pub value_after_equals : IsReadAs (codes "--output=file" ∷ [])
    (long two (codes "output") (attached (codes "file")) ∷ []) no_tail
    (output (codes "file") ∷ []) []
unfolding getopts_on_literals
value_after_equals = record { only = computed _ _ refl refl; content = refl }

-- `-o=file`: after a short name, `=` is part of the value
pub value_with_equals : IsReadAs (codes "-o=file" ∷ [])
    (cluster [] (ends_in letter_o (attached (codes "=file"))) ∷ []) no_tail
    (output (codes "=file") ∷ []) []
unfolding getopts_on_literals
value_with_equals = record { only = computed _ _ refl refl; content = refl }

-- `-c red`: an optional value of a short name may be the next word
pub optional_value : IsReadAs (codes "-c" ∷ codes "red" ∷ [])
    (cluster [] (ends_in letter_c (separate (codes "red"))) ∷ []) no_tail
    (color (Some (codes "red")) ∷ []) []
unfolding getopts_on_literals
optional_value = record { only = computed _ _ refl refl; content = refl }

-- `--color red`: an optional value of a long name is never the next word
pub optional_value_of_a_long_name : IsReadAs (codes "--color" ∷ codes "red" ∷ [])
    (long two (codes "color") none ∷ free (codes "red") ∷ []) no_tail
    (color None ∷ []) (codes "red" ∷ [])
unfolding getopts_on_literals
optional_value_of_a_long_name = record { only = computed _ _ refl refl; content = refl }

-- `-c -v`: an optional value is never a dashed word
pub optional_value_before_an_option : IsReadAs (codes "-c" ∷ codes "-v" ∷ [])
    (cluster [] (ends_in letter_c none) ∷ cluster (codes "v") flags ∷ []) no_tail
    (color None ∷ verbose ∷ []) []
unfolding getopts_on_literals
optional_value_before_an_option = record { only = computed _ _ refl refl; content = refl }

-- `- -v -- -v`: a single dash is a free word, and so is each word after `--`
pub words_after_the_stop : IsReadAs (codes "-" ∷ codes "-v" ∷ codes "--" ∷ codes "-v" ∷ [])
    (free (codes "-") ∷ cluster (codes "v") flags ∷ []) (stop (codes "-v" ∷ []))
    (verbose ∷ []) (codes "-" ∷ codes "-v" ∷ [])
unfolding getopts_on_literals
words_after_the_stop = record { only = computed _ _ refl refl; content = refl }

-- `-vx`: no option is called `x`
pub unknown_option : IsRejectedWith (codes "-vx" ∷ []) (unrecognized_option (codes "x"))
unfolding getopts_on_literals
unknown_option = computed _ _ refl refl

-- `-oa -ob`: `output` may occur once
pub option_given_twice : IsRejectedWith (codes "-oa" ∷ codes "-ob" ∷ []) (option_duplicated (codes "output"))
unfolding getopts_on_literals
option_given_twice = computed _ _ refl refl

-- ---- what a loop gives

-- what is left after an option: these names and words
abbrev pub after : Text → List Text → Left
after names words = record { names = names; words = words; free_words = None }

-- `-vx`: `v`, and then the error of `x`
pub loop_with_an_unknown_option : trace sample (whole (codes "-vx" ∷ []))
    ≡ gives (option 1 None) (after (codes "x") []) (fails (unrecognized_option (codes "x")))
unfolding getopts_on_literals
loop_with_an_unknown_option = refl

-- `-oa in -v`: `o` with its value, a free word, and `v`
pub loop_in_order : trace sample (whole (codes "-oa" ∷ codes "in" ∷ codes "-v" ∷ []))
    ≡ gives (option 0 (Some (codes "a"))) (after [] (codes "in" ∷ codes "-v" ∷ []))
    (gives (free_word (codes "in")) (after [] (codes "-v" ∷ []))
    (gives (option 1 None) (after [] []) no_more))
unfolding getopts_on_literals
loop_in_order = refl

-- `-vofile -c red`: `v`, `o` with the rest of its word, and `c` with the next word
pub loop_in_a_cluster : trace sample (whole (codes "-vofile" ∷ codes "-c" ∷ codes "red" ∷ []))
    ≡ gives (option 1 None) (after (codes "ofile") (codes "-c" ∷ codes "red" ∷ []))
    (gives (option 0 (Some (codes "file"))) (after [] (codes "-c" ∷ codes "red" ∷ []))
    (gives (option 2 (Some (codes "red"))) (after [] []) no_more))
unfolding getopts_on_literals
loop_in_a_cluster = refl

-- `-v -- -v`: the word after `--` is free
pub loop_past_the_stop : trace sample (whole (codes "-v" ∷ codes "--" ∷ codes "-v" ∷ []))
    ≡ gives (option 1 None) (after [] (codes "--" ∷ codes "-v" ∷ []))
    (gives (free_word (codes "-v")) (record { names = []; words = []; free_words = Some (codes "-v" ∷ []) }) no_more)
unfolding getopts_on_literals
loop_past_the_stop = refl

-- the rest of a cluster comes first if a program ends the options within it
pub loop_ended_in_a_cluster : trace sample (record { names = codes "v"; words = codes "-v" ∷ []; free_words = Some [] })
    ≡ gives (option 1 None) (record { names = []; words = codes "-v" ∷ []; free_words = Some [] })
    (gives (free_word (codes "-v")) (record { names = []; words = []; free_words = Some (codes "-v" ∷ []) }) no_more)
unfolding getopts_on_literals
loop_ended_in_a_cluster = refl
