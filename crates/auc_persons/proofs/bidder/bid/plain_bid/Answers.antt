use Rattle.std.proofs.Common.{w64}
use Rattle.std.specs.Prelude.{FitsSigned}
use Rattle.std.proofs.lemmas.Int.{to_z-of_z}
use Rattle.auc_persons.proofs.bidder.bid.plain_bid.Goals as goal

pub returns-clause-some : goal.returns-clause-some
returns-clause-some c =
    let f : FitsSigned w64 c.args.eps = c.ranges.eps in
    simp to_z-of_z at c.bid_on.ensures
