use Rattle.std.proofs.Common.{◌∷◌, [], string_bytes, refl, sym}
use Rattle.std.proofs.lemmas.List.{map-append}
use Rattle.getopts.specs.Accessors.{borrowed_group}
use Rattle.getopts.specs.Usage.{option_text}
use Rattle.getopts.proofs.Lists.{map-take_more}
use Rattle.getopts.proofs.options.Options.option_texts.Goals as goal

-- one more text
pub loop-place-preserved : goal.loop-place-preserved
loop-place-preserved c =
    rw (
      c.in_ok-push.ensures.items,
      map-append string_bytes c.loop-place.texts.items (c.push_option.new.text ∷ []),
      map-take_more option_text c.args.self.now.groups c.loop-place.place (borrowed_group c.get.result)
          (sym (rw c.groups-groups.ensures at c.get.ensures)),
      c.in_ok-push_option.ensures,
      c.new-text.ensures.bytes,
      c.loop-place.invariant,
    ) refl
