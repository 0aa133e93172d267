-- The text consists of the computed rows.
use Rattle.std.proofs.Common.{◌≡◌, string_bytes, rules, append_assoc, subst, sym}
use Rattle.getopts.specs.Only.{IsTheOnly}
use Rattle.getopts.specs.Usage.{IsUsageTextIn}
use Rattle.getopts.specs.UsageResults.{usage_in_result}
use Rattle.getopts.proofs.usage.Rows.{usage_in_computed}
use Rattle.getopts.proofs.options.Options.usage_in.Goals as goal

pub returns : goal.returns
returns c =
    let options = c.args.self.now in
    let made : string_bytes c.push.new.self
    ≡ usage_in_result c.args.columns options c.args.brief.now = search (rules, append_assoc) in
    record {
      text = subst (IsTheOnly (IsUsageTextIn c.args.columns options c.args.brief.now)) (sym made)
          (usage_in_computed c.args.columns options c.args.brief.now);
      result = made;
    }
