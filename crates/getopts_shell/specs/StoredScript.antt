-- The script that the code stores, and the value that it represents in definitions.
use Rattle.getopts_shell.specs.Program.{Script}
use Rattle.getopts_shell.specs.Stored.{asked_of, entries_of, operands_of}
use Rattle.getopts_shell.specs.declared.script.Script.{Script as StoredScript}

abbrev pub script_of : StoredScript → Script
script_of script = record {
  asked = asked_of script.asked.now;
  name = script.name.now;
  entries = entries_of script.table.now.rows.items;
  operands = operands_of script.table.now.operands.items;
}
