-- What becomes of options after a call that returns a reference to them.
use Rattle.std.specs.Prelude.{◌≡◌, Result}
use Rattle.std.specs.Borrow.{Fml, MutBor, RestsIfErr}
use Rattle.getopts.specs.Options.{Declared}
use Rattle.getopts.specs.contracts.options.Options.{the_row}

-- If the call fails, the options stay as they were; otherwise, the returned reference decides.
abbrev pub UnchangedIfErr : {E : Type 0} → MutBor Declared → Result (MutBor Declared) E → Fml
UnchangedIfErr options result =
    RestsIfErr the_row options (λ same. same.ghost_name) result (λ after. after ≡ options.now)
