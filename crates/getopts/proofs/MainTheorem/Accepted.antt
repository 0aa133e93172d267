-- If words are accepted with matches, `parse_result` returns these matches.
use Rattle.std.proofs.Common.{◌≡◌, List, Ok, rules}
use Rattle.getopts.specs.Names.{Text}
use Rattle.getopts.specs.Options.{Declared, MayBeDeclared}
use Rattle.getopts.specs.Reading.{Reading}
use Rattle.getopts.specs.Canon.{IsCountKeeping}
use Rattle.getopts.specs.Matches.{Matched}
use Rattle.getopts.specs.Parse.{IsAccepted}
use Rattle.getopts.specs.Results.{accepted_reading, parse_result}
use Rattle.getopts.proofs.counts.FirstFault.{first_count_fault-kept}
use Rattle.getopts.proofs.Only.{meets}
use Rattle.getopts.proofs.parse.Parsed.{text_names_here}
use Rattle.getopts.proofs.Reading.Readings.{reading_read}

module _ (options : Declared) (declared : MayBeDeclared options.groups) (words : List Text) where
  -- a reading that keeps the counts is the result
  pub accepted_reading-keeps : (reading : Reading) → IsCountKeeping options reading words
      → accepted_reading options words ≡ Ok reading
  unfolding accepted_reading
  accepted_reading-keeps reading is = search (rules, reading_read, text_names_here, first_count_fault-kept)

  -- accepted words have this result
  pub parse_result-accepted : (m : Matched) → IsAccepted options words m → parse_result options words ≡ Ok m
  parse_result-accepted m is = search (rules, accepted_reading-keeps, meets)
