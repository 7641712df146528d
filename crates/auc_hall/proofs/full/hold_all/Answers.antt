use Rattle.std.proofs.Common.{arith}
use Rattle.auc_hall.proofs.FullLaws.{assigned}
use Rattle.auc_hall.proofs.full.hold_all.Goals as goal

pub returns : goal.returns
returns c = λ _. assigned c.args.rows.now c.args.proposal.now.holders.items (λ i lt. c.loop-person.invariant i (omega arith))
