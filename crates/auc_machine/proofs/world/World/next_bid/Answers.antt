use Rattle.std.proofs.Common.{◌<◌, arith, length, rules, w64}
use Rattle.std.specs.Prelude.{FitsSigned}
use Rattle.std.proofs.lemmas.Grind.{common_steps}
use Rattle.std.proofs.lemmas.Int.{to_z-of_z}
use Rattle.auc_machine.proofs.Keeping.{next_bid_keeps}
use Rattle.auc_machine.proofs.ListLaws.{kept_at, kept_both}
use Rattle.auc_machine.proofs.world.World.next_bid.Goals as goal

pub next_bid_by-requires-clause-kept : goal.next_bid_by-requires-clause-kept
next_bid_by-requires-clause-kept c =
    let here : c.args.shard < length c.self.inside.persons.items = grind (arith, common_steps) in
    let many = c.self.invariant.1.many in
    kept_at c.self.inside.rows.now c.self.inside.persons.items c.self.inside.bidders.items c.args.shard c.index_mut-persons.result.now c.index_mut-bidder.result.now (omega (arith, many, here)) (grind (arith, common_steps)) (grind (arith, common_steps)) c.self.invariant.1

pub invariant_of-self : goal.invariant_of-self
invariant_of-self c =
    let fits : FitsSigned w64 c.self.inside.eps = search rules in
    let here : c.args.shard < length c.self.inside.persons.items = grind (arith, common_steps) in
    let many = c.self.invariant.1.many in
    let next = simp to_z-of_z at c.next_bid_by.ensures.exact in (
      next_bid_keeps _ c.self.invariant.0 c.args.shard c.index_mut-persons.result.now _ _ (grind (arith, common_steps)) (grind (arith, common_steps)) next c.next_bid_by.ensures.shape,
      kept_both c.self.inside.rows.now c.self.inside.persons.items c.self.inside.bidders.items c.args.shard c.next_bid_by.new.self c.next_bid_by.new.bidder here (omega (arith, many, here)) c.next_bid_by.ensures.kept c.self.invariant.1,
    )
