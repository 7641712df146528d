use Rattle.std.proofs.Common.{arith}
use Rattle.std.proofs.lemmas.Grind.{common_steps}
use Rattle.auc_model.specs.Mails.{ObjectShard}
use Rattle.auc_objects.specs.Answers.{letters_of}
use Rattle.auc_machine.specs.Parts.{MayAnswer}
use Rattle.auc_machine.proofs.PostingLaws.{put_keeps, put_seen}
use Rattle.auc_machine.proofs.SellingLaws.{bid_dealt, bid_known, stray_dealt}
use Rattle.auc_machine.proofs.world.World.object_take.Goals as goal

pub returns-in_default-bid_in-clause-turn : goal.returns-in_default-bid_in-clause-turn
returns-in_default-bid_in-clause-turn c =
    let may : MayAnswer c.args.self.now c.args.shard = grind (arith, common_steps) in
    rw (← c.self.view_is) (stray_dealt _ c.args.shard c.self.invariant.0 (rw (← c.self.view_is) at may) c.take.new.self c.in-Some.letter c.in-Some.ensures.some c.take.ensures.rest c.end_with.new.self c.in_default-bid_in.ensures.none c.end_with.ensures)

pub invariant_of-self-3 : goal.invariant_of-self-3
invariant_of-self-3 c =
    let may : MayAnswer c.args.self.now c.args.shard = grind (arith, common_steps) in
    let n = c.answer-answers.new.self in
    let e = c.answer-answers.ensures in
    let known = bid_known _ c.args.shard c.self.invariant.0 (rw (← c.self.view_is) at may) c.take.new.self c.in-Some.letter c.in-Some.ensures.some c.take.ensures.rest n (letters_of c.answer-answers.result) c.in-Some-bid_in.bid c.in-Some-bid_in.ensures.some e.award e.letters e.rest e.reach in
    (put_keeps n _ c.self-2.view_is c.self-2.invariant.0 c.put_all.new.self (ObjectShard c.args.shard) _ known.0 (rw c.into_list.ensures at c.put_all.ensures) known.1, c.self-2.invariant.1)

pub returns-clause-turn : goal.returns-clause-turn
returns-clause-turn c =
    let may : MayAnswer c.args.self.now c.args.shard = grind (arith, common_steps) in
    let n = c.answer-answers.new.self in
    let e = c.answer-answers.ensures in
    let letters = letters_of c.answer-answers.result in
    let known = bid_known _ c.args.shard c.self.invariant.0 (rw (← c.self.view_is) at may) c.take.new.self c.in-Some.letter c.in-Some.ensures.some c.take.ensures.rest n letters c.in-Some-bid_in.bid c.in-Some-bid_in.ensures.some e.award e.letters e.rest e.reach in
    let put = put_seen n _ c.self-2.view_is c.self-2.invariant.0 c.put_all.new.self (ObjectShard c.args.shard) _ known.0 (rw c.into_list.ensures at c.put_all.ensures) in
    rw (← c.self.view_is) (bid_dealt _ c.args.shard c.self.invariant.0 (rw (← c.self.view_is) at may) c.take.new.self c.in-Some.letter c.in-Some.ensures.some c.take.ensures.rest n letters c.in-Some-bid_in.bid c.in-Some-bid_in.ensures.some e.award e.letters e.rest _ put)
