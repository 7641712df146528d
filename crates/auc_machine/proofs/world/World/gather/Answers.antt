use Rattle.std.proofs.Common.{pos, None, arith, rules, w64}
use Rattle.std.specs.Prelude.{FitsSigned}
use Rattle.std.proofs.lemmas.Int.{to_z-of_z}
use Rattle.std.proofs.lemmas.List.Elements.{All-push}
use Rattle.auc_graph.specs.Price.{IsPrice}
use Rattle.auc_machine.specs.Parts.{world_of}
use Rattle.auc_machine.proofs.GatherLaws.{all_gathered, one_longer, one_more}
use Rattle.auc_machine.proofs.world.World.gather.Goals as goal

pub loop-object-preserved : goal.loop-object-preserved
loop-object-preserved c =
    let before = c.loop-object.invariant in
    let fits : FitsSigned w64 c.price.result = search rules in
    let items = simp to_z-of_z at c.push_reserved-in-loop-object.ensures.items in
    record {
      holders_are = one_longer c.loop-object.holders.items c.push_reserved.new.self.items c.holder.result c.loop-object.object c.push_reserved.ensures.items before.holders_are;
      prices_are = one_longer c.loop-object.prices.items c.push_reserved-in-loop-object.new.self.items c.price.result c.loop-object.object items before.prices_are;
      holder_is = one_more c.loop-object.holders.items c.push_reserved.new.self.items None c.holder.result c.loop-object.object (λ j. (world_of c.args.self.now).holder j) c.push_reserved.ensures.items before.holders_are c.holder.ensures before.holder_is;
      price_is = one_more c.loop-object.prices.items c.push_reserved-in-loop-object.new.self.items (pos 0) c.price.result c.loop-object.object (λ j. (world_of c.args.self.now).price j) items before.prices_are c.price.ensures.present before.price_is;
      range = rw items (All-push IsPrice c.loop-object.prices.items c.price.result before.range c.price.ensures.range);
    }

pub returns-clause-gathered : goal.returns-clause-gathered
returns-clause-gathered c =
    let all = c.loop-object.invariant in
    all_gathered c.args.self.now c.object_count-objects.ensures.sound c.loop-object.holders.items c.loop-object.prices.items c.loop-object.object (omega arith) all.holders_are all.prices_are all.holder_is all.price_is
