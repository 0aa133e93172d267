-- One occurrence less at the end has its value less, if it has one.
use Rattle.std.proofs.Common.{◌≡◌, ℕ, List, [], ◌∷◌, ◌++◌, Some, None, rules}
use Rattle.std.proofs.lemmas.List.Elements.{filter_map-append}
use Rattle.getopts.specs.Accessors.{values_of}
use Rattle.getopts.specs.Matches.{GroupOccurrence}
use Rattle.getopts.specs.Names.{Text}
use Rattle.getopts.proofs.occurrences.Occurrences.take_last_value.Goals as goal

module _ (rest : List GroupOccurrence) (position : ℕ) where
  with_value : (value : Text)
      → values_of (rest ++ record { position = position; value = Some value } ∷ []) ≡ values_of rest ++ value ∷ []
  with_value value = filter_map-append (λ (o : GroupOccurrence). o.value) rest (record { position = position; value = Some value } ∷ [])

  without_value : values_of (rest ++ record { position = position; value = None } ∷ []) ≡ values_of rest
  without_value = search (rules, filter_map-append)

pub returns-then-is_some : goal.returns-then-is_some
returns-then-is_some c = search (rules, with_value)

pub loop-value-preserved : goal.loop-value-preserved
loop-value-preserved c = search (rules, without_value)
