use Rattle.std.proofs.Common.{arith}
use Rattle.std.proofs.lemmas.Grind.{common_steps}
use Rattle.auc_model.specs.Mails.{PersonShard}
use Rattle.auc_machine.specs.Parts.{MayAskForBid}
use Rattle.auc_machine.proofs.BiddingLaws.{asks_bid, asks_idle, asks_stop, bid_known, stop_known}
use Rattle.auc_machine.proofs.PostingLaws.{put_keeps, put_seen}
use Rattle.auc_machine.proofs.world.World.bid.Goals as goal

pub returns-in-Idle-clause-turn : goal.returns-in-Idle-clause-turn
returns-in-Idle-clause-turn c =
    let may : MayAskForBid c.args.self.now c.args.shard = grind (arith, common_steps) in
    asks_idle c.args.self.now c.args.shard c.may_bid.ensures.sound may c.next_bid.new.self c.in-Idle.ensures.bid c.next_bid.ensures.rest

pub returns-in-Stop-clause-turn : goal.returns-in-Stop-clause-turn
returns-in-Stop-clause-turn c =
    let p = c.args.self.now in
    let n = c.next_bid.new.self in
    let m = c.note_stop.new.self in
    let may : MayAskForBid p c.args.shard = grind (arith, common_steps) in
    let known = stop_known p c.args.shard c.may_bid.ensures.sound may n m c.next_bid.ensures.rest c.note_stop.ensures in
    let put = put_seen m _ c.self.view_is c.self.invariant.0 c.put.new.self (PersonShard c.args.shard) _ known c.put.ensures in
    asks_stop p c.args.shard c.may_bid.ensures.sound may n m c.in-Stop.why _ c.in-Stop.ensures.bid c.next_bid.ensures.rest c.note_stop.ensures put

pub invariant_of-self-in-Out : goal.invariant_of-self-in-Out
invariant_of-self-in-Out c =
    let may : MayAskForBid c.args.self.now c.args.shard = grind (arith, common_steps) in
    let known = bid_known c.args.self.now c.args.shard c.may_bid.ensures.sound may c.next_bid.new.self c.in-Out.out c.in-Out.ensures.bid c.next_bid.ensures.rest in
    (put_keeps c.next_bid.new.self _ c.self-in-Out.view_is c.self-in-Out.invariant.0 c.put-in-Out.new.self (PersonShard c.args.shard) _ known.0 c.put-in-Out.ensures known.1, c.self-in-Out.invariant.1)

pub returns-in-Out-clause-turn : goal.returns-in-Out-clause-turn
returns-in-Out-clause-turn c =
    let p = c.args.self.now in
    let n = c.next_bid.new.self in
    let may : MayAskForBid p c.args.shard = grind (arith, common_steps) in
    let known = bid_known p c.args.shard c.may_bid.ensures.sound may n c.in-Out.out c.in-Out.ensures.bid c.next_bid.ensures.rest in
    let put = put_seen n _ c.self-in-Out.view_is c.self-in-Out.invariant.0 c.put-in-Out.new.self (PersonShard c.args.shard) _ known.0 c.put-in-Out.ensures in
    asks_bid p c.args.shard c.may_bid.ensures.sound may n c.in-Out.out _ c.in-Out.ensures.bid c.next_bid.ensures.rest put
