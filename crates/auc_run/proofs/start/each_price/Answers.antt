use Rattle.std.proofs.Common.{◌≡◌, All, List, ℤ, rules, subst, sym}
use Rattle.auc_claim.specs.Start.{IsStartPrice}
use Rattle.auc_run.proofs.start.each_price.Goals as goal
use Rattle.auc_claim.proofs.StartLaws.{none_too_high}

pub returns-clause-within : goal.returns-clause-within
returns-clause-within c =
    let same : c.in_ok-to_vec.field-0.items ≡ c.args.prices.now = search rules in
    subst (λ (ps : List ℤ). All IsStartPrice ps) (sym same) (none_too_high c.args.prices.now c.requires (rw c.in_default.is at c.high_price.ensures))
