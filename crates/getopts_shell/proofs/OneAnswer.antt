-- Words have one answer, with a status of 0, 2 or 5.
use Rattle.std.proofs.Common.{◌≡◌, ◌≢◌, ℕ, Bool, Result, Ok, Err, List, [], ◌∷◌, Option, Some, None, ap, refl, subst}
use Rattle.std.proofs.Common.{sym, ◌∙◌, rules}
use Rattle.std.specs.Prelude.{MatchOption, MatchResult, codes}
use Rattle.std.specs.Bool.{MatchBool}
use Rattle.std.specs.Option.{option_map_or}
use Rattle.getopts.specs.Matches.{Matched}
use Rattle.getopts.specs.Names.{Text}
use Rattle.getopts.specs.Only.{IsTheOnly}
use Rattle.getopts.specs.Results.{parse_result}
use Rattle.getopts_shell.specs.Program.{Answer, AnswersAlone, AnswersCounted, AnswersDeclared, AnswersFree}
use Rattle.getopts_shell.specs.Program.{AnswersOffer, AnswersOwn, AnswersScript, AnswersTable, AnswersWords, Asked}
use Rattle.getopts_shell.specs.Program.{IsAnswer, IsHelp, IsOutput, IsStatus, OneAnswer, PrintsHelp, Script, asked_by}
use Rattle.getopts_shell.specs.Program.{brief_text, declared, done, faulty, help_front, shown_options, help_code}
use Rattle.getopts_shell.specs.Program.{is_given, misused, own_options, sets_nothing}
use Rattle.getopts.specs.Usage.{IsUsageText}
use Rattle.getopts_shell.specs.Table.{Entry, is_word, operands_in}
use Rattle.getopts_shell.proofs.Only.{one_table, one_fault, no_fault}

-- ---- statuses

-- the status of an answer: 0, 2 or 5
pub record AnswersBy (status : ℕ) : Type 0 where
  pub known : IsStatus status
  pub memory : status ≢ 3
  pub written : status ≢ 4

is_done : AnswersBy 0
is_done = search rules

is_refused : AnswersBy 2
is_refused = search rules

is_misused : AnswersBy 5
is_misused = search rules

-- ---- at most one answer

-- at most one answer has this property, and it has such a status
record IsOne (Is : Answer → Type 0) : Type 0 where
  only : (answer other : Answer) → Is answer → Is other → other ≡ answer
  by : (answer : Answer) → Is answer → AnswersBy answer.status

one_equal : (answer : Answer) → AnswersBy answer.status → IsOne (λ other. other ≡ answer)
one_equal answer by = record {
  only = λ one other is also. also ∙ sym is;
  by = λ other is. subst (λ (a : Answer). AnswersBy a.status) (sym is) by;
}

one_bool : (test : Bool) {Then Else : Answer → Type 0} → IsOne Then → IsOne Else
    → IsOne (λ answer. MatchBool test (Then answer) (Else answer))
one_bool test then else = search rules

one_option : {X : Type 0} (option : Option X) {Nothing : Answer → Type 0} {Is : X → Answer → Type 0} → IsOne Nothing
    → ((x : X) → IsOne (Is x)) → IsOne (λ answer. MatchOption option (Nothing answer) (λ x. Is x answer))
one_option None nothing one = nothing
one_option (Some x) nothing one = one x

one_result : {X E : Type 0} (result : Result X E) {Is : X → Answer → Type 0} {Fails : E → Answer → Type 0}
    → ((x : X) → IsOne (Is x)) → ((error : E) → IsOne (Fails error))
    → IsOne (λ answer. MatchResult result (λ x. Is x answer) (λ error. Fails error answer))
one_result (Ok x) one fails = one x
one_result (Err error) one fails = fails error

-- ---- the answers

only_text : (Fact : Text → Type 0) (text other : Text) → IsTheOnly Fact text → IsTheOnly Fact other → other ≡ text
only_text Fact text other is also = (is other).0 ((also other).1 refl)

only_help : (script : Script) (help other : Text) → IsHelp script help → IsHelp script other → other ≡ help
only_help script help other is also =
    let rows_same = (is.1 also.0).0 ((also.1 also.0).1 refl) in
    only_text (IsUsageText (shown_options script) (help_front (brief_text script) is.0)) help other
    is.2 (subst (λ (rows : List Text). IsTheOnly (IsUsageText (shown_options script)
    (help_front (brief_text script) rows)) other) rows_same also.2)

-- an answer that is made of the help
one_help : (script : Script) {Is : Text → Answer → Type 0} → ((help : Text) → IsOne (Is help))
    → IsOne (λ answer. (help : Text) × IsHelp script help × Is help answer)
one_help script {Is} one = record {
  only = λ answer other is also. (one is.0).only answer other is.2
      (subst (λ (text : Text). Is text other) (only_help script is.0 also.0 is.1 also.1) also.2);
  by = λ answer is. (one is.0).by answer is.2;
}

one_counted : (script : Script) (words : List Text) → IsOne (AnswersCounted script words)
one_counted script words = search rules

one_printed : (script : Script) → IsOne (PrintsHelp script)
one_printed script = record {
  only = λ answer other is also. also.3
      ∙ ap (λ (help : Text). done (help_code help)) (only_help script is.0 also.0 is.1 also.1)
      ∙ sym is.3;
  by = λ answer is. subst (λ (a : Answer). AnswersBy a.status) (sym is.3) is_done;
}

one_uncounted : (script : Script) (words : List Text) (alone : Option Entry)
    → IsOne (λ answer. MatchOption alone (AnswersCounted script words answer)
    (λ entry. AnswersAlone script entry answer))
one_uncounted script words alone = one_option alone (one_counted script words) (search rules)

one_words : (script : Script) (words : List Text) → IsOne (AnswersWords script words)
one_words script words = search (rules, one_result, one_equal, is_refused, one_bool, one_printed, one_uncounted)

one_at_word : (script : Script) (shell : Text) (words : List Text) → IsOne (AnswersOffer script shell words)
one_at_word script shell words = search rules

one_script : (script : Script) (words : List Text) → IsOne (AnswersScript script words)
one_script script words = search (rules, one_bool, one_help, one_equal, is_done, one_option, one_words, one_at_word)

by_completion : (fault : Text) (code : Option Text) → AnswersBy (option_map_or done code (misused fault)).status
by_completion fault code = search (rules, is_done, is_misused)

one_declared : (script : Script) (table : Text) (words : List Text) → IsOne (AnswersDeclared script table words)
one_declared script table words = search (rules, one_option, one_script, one_equal, is_misused, by_completion)

one_of_table : (asked : Asked) (name table : Text) (words : List Text) → IsOne (AnswersTable asked name table words)
one_of_table asked name table words = record { only = only; by = by }
  where
    script : List Entry → Script
    script entries = record {
      asked = asked;
      name = name;
      entries = entries;
      operands = operands_in table;
    }

    only : (answer other : Answer) → AnswersTable asked name table words answer
        → AnswersTable asked name table words other → other ≡ answer
    only answer other (faulty fault is said) (faulty another also again) =
        search (rules, one_fault table fault another is also)
    only answer other (faulty fault is said) (declared entries are answers) =
        absurd (no_fault table entries fault are is)
    only answer other (declared entries are answers) (faulty fault is said) =
        absurd (no_fault table entries fault are is)
    only answer other (declared entries are answers) (declared others also again) =
        (one_declared (script entries) table words).only answer other answers
        (subst (λ (es : List Entry). AnswersDeclared (script es) table words other)
        (one_table table entries others are also) again)

    by : (answer : Answer) → AnswersTable asked name table words answer → AnswersBy answer.status
    by answer (faulty fault is said) = subst (λ (a : Answer). AnswersBy a.status) (sym said)
        is_misused
    by answer (declared entries are answers) =
        (one_declared (script entries) table words).by answer answers

one_free : (asked : Asked) (words : List Text) → IsOne (AnswersFree asked words)
one_free asked [] = one_equal _ is_misused
one_free asked (name ∷ []) = one_equal _ is_misused
one_free asked (name ∷ table ∷ words) =
    one_bool (is_word table) (one_equal _ is_misused) (one_of_table asked name table words)

one_own : (own : Matched) → IsOne (AnswersOwn own)
one_own own = one_bool (sets_nothing own) (one_equal _ is_misused)
    (one_bool (is_given own (codes "help")) (one_equal _ is_done)
    (one_bool (is_given own (codes "version")) (one_equal _ is_done)
    (one_free (asked_by own) own.free)))

one : (words : List Text) → IsOne (IsAnswer words)
one words = one_result (parse_result own_options words) one_own (λ fault. one_equal _ is_misused)

-- words have one answer
pub one_answer : OneAnswer
one_answer words = (one words).only

-- and it has one of these statuses
pub answers_by : (words : List Text) (answer : Answer) → IsAnswer words answer → AnswersBy answer.status
answers_by words = (one words).by

-- and so has what is written
pub output_by : (words : List Text) (bytes : List ℕ) (status : ℕ) → IsOutput words bytes status → AnswersBy status
output_by words bytes status is = answers_by words (record { text = is.0; status = status }) is.1
