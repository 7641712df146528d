use Rattle.std.proofs.Common.{rules, w64}
use Rattle.std.specs.Prelude.{FitsSigned}
use Rattle.std.proofs.lemmas.Int.{to_z-of_z}
use Rattle.auc_threads.proofs.AskingLaws.{asked_is, asked_reach}
use Rattle.auc_threads.proofs.bidding.ask.Goals as goal

pub returns-clause-is : goal.returns-clause-is
returns-clause-is c =
    let fits : FitsSigned w64 c.args.task.now.eps = search rules in
    let said = simp to_z-of_z at c.next_bid_by.ensures in
    asked_is c.args.task.now.rows.now c.args.task.now.eps c.args.task.now.limits.now.shards c.args.number c.args.buyer.now.shard c.next_bid_by.new.self c.next_bid_by.result c.requires.shard said.exact said.shape

pub returns-clause-reach : goal.returns-clause-reach
returns-clause-reach c =
    let fits : FitsSigned w64 c.args.task.now.eps = search rules in
    let said = simp to_z-of_z at c.next_bid_by.ensures in
    asked_reach c.args.task.now.rows.now c.args.task.now.eps c.args.task.now.limits.now.shards c.args.number c.args.buyer.now.shard c.next_bid_by.new.self c.next_bid_by.result c.requires.shard c.requires.known said.exact

pub returns-clause-next : goal.returns-clause-next
returns-clause-next c =
    let fits : FitsSigned w64 c.args.task.now.eps = search rules in
    let said = simp to_z-of_z at c.next_bid_by.ensures in
    said.exact
