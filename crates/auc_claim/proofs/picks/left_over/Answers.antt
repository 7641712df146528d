use Rattle.std.proofs.Common.{◌≡◌, true, rules, arith}
use Rattle.auc_claim.specs.Claim.{is_left_over}
use Rattle.auc_claim.proofs.ClaimLaws.{left_over_at, no_left_over}
use Rattle.auc_claim.proofs.picks.left_over.Goals as goal

pub returns-then-prices-object-ne0 : goal.returns-then-prices-object-ne0
returns-then-prices-object-ne0 c =
    let here : is_left_over c.args.choice.now c.args.prices.now c.loop-object.object ≡ true = search rules in
    left_over_at c.args.choice.now c.args.prices.now c.loop-object.object c.loop-object-test.true c.loop-object.invariant here

pub returns : goal.returns
returns c = no_left_over c.args.choice.now c.args.prices.now (λ k lt. c.loop-object.invariant k (omega arith))
