-- The words that are passed on are the free words from the trailing start on.
use Rattle.std.proofs.Common.{◌∙◌, [], ap, drop, map, sym}
use Rattle.std.proofs.lemmas.List.{drop-map}
use Rattle.std.specs.Option.{option_map_or}
use Rattle.std.specs.String.{string_bytes}
use Rattle.getopts.specs.Prelude.{Matched}
use Rattle.getopts_uses.proofs.wrapper.handed_on.Goals as goal

pub returns-in-Some-clause-handed : goal.returns-in-Some-clause-handed
returns-in-Some-clause-handed g c =
    let matches = c.in_ok-matches.matches in
    record {
      matches = matches;
      accepted = rw c.in_ok-options.ensures at c.in_ok-matches.ensures.result;
      handed_are = ap (map string_bytes) c.in_ok-split_off-in-Some.ensures.tail
          ∙ sym (drop-map string_bytes c.in-Some.start c.matches.inside.free.items)
          ∙ ap (λ (m : Matched). drop c.in-Some.start m.free) c.matches.view_is
          ∙ ap (λ start. option_map_or (λ from. drop from matches.free) start []) c.in-Some.ensures.start;
      after_stop = c.in_ok-matches.ensures.accepted.trailing;
    }
