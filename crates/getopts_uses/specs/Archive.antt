-- An archiver's command line: its option, and its files with their folders.
use Rattle.std.specs.Prelude.{List, [], ◌∷◌, ◌++◌, codes, Option, None, Result, Ok, Err}
use Rattle.std.specs.Option.{option_copied}
use Rattle.getopts.specs.Prelude.{Declared, Fault, Text, free_word, option, options_of, optmulti}
use Rattle.getopts.specs.Prelude.{Trace, fails, gives, no_more, trace, whole}
use Rattle.getopts_uses.specs.declared.archive.Entry as Stored

-- the option, whose value is the folder of later files
abbrev pub archive_options : Declared
archive_options = options_of (
    optmulti (codes "C") (codes "directory") (codes "find later files in DIR") (codes "DIR") ∷ [])

-- a file, and the folder that it is in
pub record Entry : Type 0 where
  pub folder : Option Text
  pub file : Text

-- an entry, as it is stored
abbrev pub entry_view : Stored.Entry → Entry
entry_view entry = record { folder = option_copied entry.folder; file = entry.file.now }

-- the files in a trace, after these: an option changes the folder of later files, and a free word
-- is a file
abbrev pub entries_from : Option Text → List Entry → Trace → Result (List Entry) Fault
entries_from folder entries no_more = Ok entries
entries_from folder entries (fails fault) = Err fault
entries_from folder entries (gives (option place value) left more) =
    entries_from value entries more
entries_from folder entries (gives (free_word word) left more) =
    entries_from folder (entries ++ record { folder = folder; file = word } ∷ []) more

-- the files of a command line, or its error
abbrev pub entries_of : List Text → Result (List Entry) Fault
entries_of line = entries_from None [] (trace archive_options (whole line))
