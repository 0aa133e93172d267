-- For options with valid names: a reading is the only reading, a scan error the only scan error,
-- and `parse` returns them.
use Rattle.std.proofs.Common.{List, rules}
use Rattle.getopts.specs.Only.{IsTheOnly}
use Rattle.getopts.specs.Names.{Text}
use Rattle.getopts.specs.Options.{Declared, MayBeDeclared, grammar_of}
use Rattle.getopts.specs.Fail.{Fault}
use Rattle.getopts.specs.Reading.{Reading, IsScanFault}
use Rattle.getopts.specs.Matches.{matches_of}
use Rattle.getopts.specs.Canon.{IsCountKeeping}
use Rattle.getopts.specs.Parse.{Reads, HasReading, HasNoReading, IsAccepted}
use Rattle.getopts.specs.ReadingLaws.{KeepsReadingLaws}
use Rattle.getopts.proofs.table.Names.{has_text_names}
use Rattle.getopts.proofs.Only.{IsTheOnly-from}
use Rattle.getopts.proofs.Reading.Laws as Laws
use Rattle.getopts.proofs.Reading.Positions.{PositionsAreWords_lem}
use Rattle.getopts.proofs.Reading.Reader.{HasTextNames}
use Rattle.getopts.proofs.Reading.Readings.{only_reading, only_fault, no_reading}

module _ (options : Declared) (declared : MayBeDeclared options.groups) where
  -- the grammar has names
  pub text_names_here : HasTextNames (grammar_of options)
  text_names_here = has_text_names options declared

  module _ (words : List Text) where
    -- a reading is unique
    pub only_reads : (reading : Reading) → Reads options words reading → IsTheOnly (Reads options words) reading
    only_reads reading reads = search (rules, IsTheOnly-from, only_reading, text_names_here)

    -- a scan error leaves no reading and no other error
    pub HasNoReading-fault : (fault : Fault) → IsScanFault (grammar_of options) words fault
        → HasNoReading options words fault
    HasNoReading-fault fault fault_is = search (rules, IsTheOnly-from, only_fault, text_names_here, no_reading)

    -- words with a reading have its matches
    pub HasReading-reading : (reading : Reading) → Reads options words reading
        → HasReading options words (matches_of options reading)
    HasReading-reading reading reads = search (rules, only_reads)

    -- and are accepted with them if the reading keeps the counts
    pub IsAccepted-reading : (reading : Reading) → IsCountKeeping options reading words
        → IsAccepted options words (matches_of options reading)
    IsAccepted-reading reading is = search (rules, HasReading-reading)

  -- readings obey the laws
  pub keeps_laws : KeepsReadingLaws (grammar_of options)
  keeps_laws = record {
    long_argument = Laws.LongAttachedOrSeparate_lem (grammar_of options);
    short_argument = Laws.ShortAttachedOrSeparate_lem (grammar_of options);
    cluster = Laws.ClusterSplits_lem (grammar_of options);
    dashes = Laws.OneDashOrTwo_lem (grammar_of options);
    lines = Laws.LinesCompose_lem (grammar_of options)
        (λ reading other words reads other_reads. only_reading
        (grammar_of options) text_names_here words reading other
        reads other_reads);
    trailing = Laws.TrailingStartIsAfterStop_lem (grammar_of options);
    frees = Laws.FreeWordsAreSubsequence_lem (grammar_of options);
    positions = PositionsAreWords_lem (grammar_of options);
  }
