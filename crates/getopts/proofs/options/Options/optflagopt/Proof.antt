-- `optflagopt` only calls `opt`, and returns its result.
use Rattle.getopts.proofs.AddingCalls.{kind_in, occur_in, passes_4, refl}
use Rattle.getopts.specs.contracts.options.Options.optflagopt as f
use Rattle.getopts.proofs.options.Options.optflagopt.Statement.{statement}
use Rattle.getopts.proofs.options.Options.optflagopt.Code as code
use Rattle.getopts.proofs.options.Options.opt.Met.{met}

pub optflagopt_spec : {M : Type 1} → statement M
optflagopt_spec 𝓤 𝓛 𝓜 𝓡 wired =
    passes_4 𝓛 𝓜 𝓡 (met 𝓤 𝓛 𝓜 𝓡 (code.calls-getopts::options::Options::opt 𝓡.env wired)) (kind_in code.Mir.s-2) (occur_in code.Mir.s-3)
    _ (f.clauses 𝓛 𝓜.mem 𝓡.returns) refl (λ κs a r added. added) f.Key.name (code.unfolded 𝓤 𝓛.H 𝓜 𝓡 wired)
