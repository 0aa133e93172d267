-- The main theorem, for options whose names are valid texts.
use Rattle.std.proofs.Common.{◌⊎◌, List, sym, subst, inl, inr, rules}
use Rattle.getopts.specs.Names.{Text}
use Rattle.getopts.specs.Options.{Declared, MayBeDeclared, grammar_of}
use Rattle.getopts.specs.Fail.{Fault}
use Rattle.getopts.specs.Reading.{Reading, IsReading, IsScanFault}
use Rattle.getopts.specs.Matches.{matches_of, IsCountFault}
use Rattle.getopts.specs.Parse.{IsAccepted, IsRefused}
use Rattle.getopts.specs.Theorem.{OneReading, AcceptedExactlyWhen, RefusedExactlyWhen}
use Rattle.getopts.proofs.canon.OneResult.{reads_of, keeps_accepted, not_refused}
use Rattle.getopts.proofs.Only.{meets}
use Rattle.getopts.proofs.parse.Parsed.{text_names_here, HasNoReading-fault, HasReading-reading, IsAccepted-reading}
use Rattle.getopts.proofs.Reading.Readings.{only_reading}

module _ (options : Declared) (declared : MayBeDeclared options.groups) where
  -- words have at most one reading
  pub OneReading-options : OneReading options
  OneReading-options words reading other reads other_reads =
      only_reading (grammar_of options) (text_names_here options declared) words reading other reads other_reads

  -- accepted exactly when a reading keeps the counts
  pub AcceptedExactlyWhen-options : AcceptedExactlyWhen options
  AcceptedExactlyWhen-options words matches = (
    λ is. (is.read.reading, keeps_accepted options words matches is, is.read.matches_are),
    λ has. subst (IsAccepted options words) (sym has.2)
        (IsAccepted-reading options declared words has.0 has.1),
  )

  -- the first error
  abbrev IsFirstFault : List Text → Fault → Type 0
  IsFirstFault words fault = IsScanFault (grammar_of options) words fault
      ⊎ ((reading : Reading) × IsReading (grammar_of options) reading words
      × IsCountFault (matches_of options reading).groups fault)

  first_fault : (words : List Text) (fault : Fault) → IsRefused options words fault → IsFirstFault words fault
  first_fault words fault first = search (rules, meets, reads_of)

  refused : (words : List Text) (fault : Fault) → IsFirstFault words fault → IsRefused options words fault
  refused words fault (inl scan) = inl (HasNoReading-fault options declared words fault scan)
  refused words fault (inr count) = search (rules, HasReading-reading options declared words count.0 count.1)

  -- rejected exactly when none does
  pub RefusedExactlyWhen-options : RefusedExactlyWhen options
  RefusedExactlyWhen-options words fault = (
    λ is. (
      λ reading keeps. not_refused options words reading fault keeps is,
      first_fault words fault is,
    ),
    λ told. refused words fault told.1,
  )
