use Rattle.std.proofs.Common.{w64, arith, rules, sym}
use Rattle.std.specs.Prelude.{FitsSigned, ◌<ℤ◌}
use Rattle.std.proofs.lemmas.Int.{ints}
use Rattle.auc_letters.specs.Award.{least_amount}
use Rattle.auc_objects.specs.Objects.{price_of}
use Rattle.auc_objects.proofs.Sales.{after_declined}
use Rattle.auc_objects.proofs.shard.ObjectShard.answer.Goals as goal

pub returns-then-amount-price-clause-award : goal.returns-then-amount-price-clause-award
returns-then-amount-price-clause-award c =
    let f1 : FitsSigned w64 c.args.eps = c.ranges.eps in
    let f2 : FitsSigned w64 c.args.bid.amount = search rules in
    let low : c.args.bid.amount <ℤ least_amount (price_of c.args.self.now c.args.bid.object) c.args.eps = grind (arith, ints) in
    sym (after_declined c.args.self.now c.args.eps c.args.bid low)
