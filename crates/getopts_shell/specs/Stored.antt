-- What the code stores, and the values that it represents in definitions.
use Rattle.std.specs.Prelude.{false, ◌≡◌, ◌==◌, ◌-◌, ⊤, Bool, List, [], ◌∷◌, Option, Some, None}
use Rattle.std.specs.Prelude.{MatchOption, length, map}
use Rattle.std.specs.Option.{option_map, option_map_or}
use Rattle.std.specs.String.{string_bytes}
use Rattle.getopts.specs.Matches.{Matched, MatchedGroup, matched}
use Rattle.getopts.specs.Options.{Declared, Group, signatures_of, with_group}
use Rattle.getopts.specs.Reading.{Occurrence}
use Rattle.getopts_shell.specs.Program.{Answer, Asked, OperandFault, missing, own_groups}
use Rattle.getopts_shell.specs.Program.{unexpected}
use Rattle.getopts_shell.specs.Variables.{VariableFault, arrays_only, no_prefix, no_variable}
use Rattle.getopts_shell.specs.Variables.{shell_variable}
use Rattle.getopts_shell.specs.Variables.{variable_twice}
use Rattle.getopts_shell.specs.Table.{Entry, Operand, TableFault, groups_as, late_operand}
use Rattle.getopts_shell.specs.Table.{name_twice, no_option}
use Rattle.getopts_shell.specs.declared.script.Asked.{Asked as StoredAsked}
use Rattle.getopts_shell.specs.declared.answer.Outcome.{Outcome}
use Rattle.getopts_shell.specs.declared.operand.Operand.{Operand as StoredOperand}
use Rattle.getopts_shell.specs.declared.operand.OperandError.{OperandError}
use Rattle.getopts_shell.specs.declared.operand.OperandError.TheVariants as operand
use Rattle.getopts_shell.specs.declared.row.Row.{Row}
use Rattle.getopts_shell.specs.declared.table.TableError.{TableError}
use Rattle.getopts_shell.specs.declared.table.TableError.TheVariants as error
use Rattle.getopts_shell.specs.declared.variables.VariableError.{VariableError}
use Rattle.getopts_shell.specs.declared.variables.VariableError.TheVariants as variable

-- the entry of a row
abbrev pub entry_of_row : Row → Entry
entry_of_row row = record {
  line = row.line;
  names = record { short = row.short.now; long = row.long.now };
  kind = row.kind;
  frequency = row.frequency;
  hint = row.hint.now;
  description = row.description.now;
}

abbrev pub entries_of : List Row → List Entry
entries_of rows = map entry_of_row rows

-- the operand that the code stores
abbrev pub operand_of : StoredOperand → Operand
operand_of operand = record { item = operand.item.now; description = operand.description.now }

abbrev pub operands_of : List StoredOperand → List Operand
operands_of operands = map operand_of operands

-- the groups that rows are parsed by
abbrev pub groups_of : List Row → List Group
groups_of rows = groups_as false (entries_of rows)

-- the error that a `TableError` reports, unless it is out of memory
abbrev pub fault_told : TableError → Option TableFault
fault_told (error.NoOption number item) = Some (no_option number item.now)
fault_told (error.NameTwice number name) = Some (name_twice number name.now)
fault_told (error.LateOperand number operand earlier) =
    Some (late_operand number (operand_of operand) (operand_of earlier))
fault_told error.OutOfMemory = None

-- The error that a `TableError` reports has this property, unless it is out of memory.
abbrev pub IsOutOfMemoryOrFault : TableError → (TableFault → Type 0) → Type 0
IsOutOfMemoryOrFault error P = MatchOption (fault_told error) ⊤ P

-- the answer that the code stores
abbrev pub answer_of : Outcome → Answer
answer_of outcome = record { text = string_bytes outcome.text; status = outcome.status }

-- what is asked for, as the code stores it
abbrev pub asked_of : StoredAsked → Asked
asked_of asked = record {
  brief = option_map string_bytes asked.brief;
  stop = asked.stop;
  long_only = asked.long_only;
  usage = asked.usage;
  complete = option_map string_bytes asked.complete;
  complete_words = option_map string_bytes asked.complete_words;
  variables = option_map string_bytes asked.variables;
  arrays = asked.arrays;
}

-- The groups are the program's own, each with its share of some occurrences.
abbrev pub HasOwnGroups : List MatchedGroup → Type 0
HasOwnGroups groups = (occurrences : List Occurrence) × (groups
    ≡ matched 0 (signatures_of own_groups) occurrences)

-- the options, with these groups added as the last
abbrev pub with_groups : Declared → List Group → Declared
with_groups options [] = options
with_groups options (group ∷ groups) = with_groups (with_group options group) groups

-- the error that a `VariableError` reports
abbrev pub variable_fault_told : VariableError → VariableFault
variable_fault_told variable.ArraysOnly = arrays_only
variable_fault_told (variable.NoPrefix prefix) = no_prefix prefix.now
variable_fault_told (variable.NoVariable number name) = no_variable number name.now
variable_fault_told (variable.ShellVariable number name) = shell_variable number name.now
variable_fault_told (variable.VariableTwice number earlier name) =
    variable_twice number earlier.now name.now

-- the error that an `OperandError` reports
abbrev pub operand_fault_told : OperandError → OperandFault
operand_fault_told (operand.Missing name) = missing name.now
operand_fault_told (operand.Unexpected word) = unexpected word.now

-- whether exactly one free word, the last one, follows a stop
abbrev pub is_last_after_stop : Matched → Bool
is_last_after_stop matches =
    option_map_or (λ start. length matches.free - start == 1) matches.trailing_start false
