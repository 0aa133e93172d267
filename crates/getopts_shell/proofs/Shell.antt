-- A shell that runs the code for options holds their values.
use Rattle.std.proofs.Common.{◌≡◌, Bool, true, false, List, [], ◌∷◌, ◌++◌, Option, Some, None, refl, subst}
use Rattle.std.proofs.Common.{append_assoc, map, rules}
use Rattle.std.specs.Prelude.{codes}
use Rattle.std.specs.List.{AllByRecursion, flat_map}
use Rattle.std.proofs.lemmas.Slice.Eq.{bytes_eq-Decides}
use Rattle.getopts.specs.Names.{Text}
use Rattle.getopts_shell.specs.Quote.{quoted, quoted_words, shell_words}
use Rattle.getopts_shell.specs.Variables.{array_front, array_words, assigns, Given, is_variable, command_line}
use Rattle.getopts_shell.specs.Variables.{last_command, line_code, many, no_command, one, option_code, own_value}
use Rattle.getopts_shell.specs.Variables.{Runs, RunsCommand, RunsText, sets, Shell, texts_given, unsets, value_line}
use Rattle.getopts_shell.specs.Variables.{variable_of, Value, variables_code, with_options, with_variable, one_word}
use Rattle.getopts_shell.proofs.Quoting.{word_same, words_same}

-- what precedes the words of `set`, and the name of `unset`
abbrev set_front : Text
set_front = codes "\\set -- "

abbrev unset_front : Text
unset_front = codes "\\unset -v "

-- a command, its line end, and what follows
line_then : (before next after : Shell) (command more text : Text) → RunsCommand before command next
    → RunsText next more after → command ++ 10 ∷ more ≡ text → RunsText before text after
line_then before next after command more text does runs is =
    subst (λ (t : Text). RunsText before t after) is
    (command_line before next after command more does runs)

-- ---- the commands for one option

-- a variable that was unset has no value
unset_value : (shell : Shell) (name : Text) → (with_variable shell name None).value name ≡ None
unset_value shell name = rw ((bytes_eq-Decides name name).1 refl) refl

-- a variable that is unset first holds its new value all the same
set_again : (shell : Shell) (name : Text) (value : Option Value)
    → with_variable (with_variable shell name None) name value ≡ with_variable shell name value
set_again shell name value = search rules

-- the line that gives a value to a variable that is unset, if it has one
after_value_line : (shell after : Shell) (name : Text) (value : Option Value) (more : Text) → is_variable name ≡ true
    → RunsText (with_variable (with_variable shell name None) name value) more after
    → RunsText (with_variable shell name None) (value_line name value ++ more) after
after_value_line shell after name None more is runs = search (rules, set_again shell name None)
after_value_line shell after name (Some (one text)) more is runs =
    line_then _ _ after (name ++ 61 ∷ quoted text) more _
    (assigns name (quoted text) (one text) is (unset_value shell name)
    (one_word (quoted text) text (word_same text))) runs (simp append_assoc refl)
after_value_line shell after name (Some (many words)) more is runs =
    let code = array_front name ++ (quoted_words words ++ 41 ∷ []) in
    line_then _ _ after (name ++ 61 ∷ code) more _
    (assigns name code (many words) is (unset_value shell name)
    (array_words (quoted_words words) words (words_same words))) runs (simp append_assoc refl)

-- the commands for an option, and what follows
after_option : (prefix : Text) (arrays : Bool) (shell after : Shell) (option : Given) (more : Text)
    → is_variable (variable_of prefix option.entry) ≡ true
    → RunsText (with_variable shell (variable_of prefix option.entry) (own_value arrays option)) more after
    → RunsText shell (option_code prefix arrays option ++ more) after
after_option prefix arrays shell after option more is runs =
    let name = variable_of prefix option.entry in
    let value = own_value arrays option in
    line_then shell (with_variable shell name None) after (unset_front ++ name)
    (value_line name value ++ more) _
    (unsets name is)
    (search (rules, after_value_line, set_again))
    (simp append_assoc refl)

-- ---- all commands

-- the commands for options and then the words, and what is written after these
after_codes : (prefix : Text) (arrays : Bool) (shell : Shell) (options : List Given)
    (free : List Text) (more : Text)
    → AllByRecursion (λ entry. is_variable (variable_of prefix entry) ≡ true)
    (map (λ (option : Given). option.entry) options)
    → ((state : Shell) → RunsText state more (record state { words = free }))
    → RunsText shell (flat_map (option_code prefix arrays) options ++ more)
    (with_options prefix arrays options free shell)
after_codes prefix arrays shell [] free more make last = last shell
after_codes prefix arrays shell (option ∷ options) free more make last =
    let code = option_code prefix arrays in
    let name = variable_of prefix option.entry in
    let next = with_variable shell name (own_value arrays option) in
    search (rules, append_assoc, after_option, after_codes prefix arrays next options free more make.1 last)

-- a shell that runs the code holds the options' values, also if the last line end is missing
pub code_runs : (prefix : Text) (arrays : Bool) (options : List Given) (free : List Text)
    → AllByRecursion (λ entry. is_variable (variable_of prefix entry) ≡ true)
    (map (λ (option : Given). option.entry) options) → (before : Shell)
    → Runs before (variables_code prefix arrays options free)
    (with_options prefix arrays options free before)
code_runs prefix arrays options free make before =
    let front = flat_map (option_code prefix arrays) options in
    let last = set_front ++ quoted_words free in record {
      whole = after_codes prefix arrays before options free (line_code free) make
          (λ state. line_then state _ _ last [] _ (sets (quoted_words free) free (words_same free))
          (no_command (record state { words = free })) (simp append_assoc refl));
      cut = front ++ last;
      cut_is = simp append_assoc refl;
      runs_cut = after_codes prefix arrays before options free last make
          (λ state. last_command state _ last (sets (quoted_words free) free (words_same free)));
    }

-- a shell that runs the command holds the words
pub line_runs : (words : List Text) (before : Shell) → Runs before (line_code words) (record before { words = words })
line_runs words before = code_runs [] false [] words tt before

-- the values that a text of words gives
pub once_more : (options : List Given)
    → AllByRecursion
    (λ option. shell_words (quoted_words (texts_given option.occurrences))
    ≡ Some (texts_given option.occurrences))
    options
once_more [] = tt
once_more (option ∷ options) = (words_same (texts_given option.occurrences), once_more options)
