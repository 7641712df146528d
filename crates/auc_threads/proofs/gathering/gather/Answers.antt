use Rattle.std.proofs.Common.{rules, arith, ◌<◌, ◌%◌, ◌≡◌, length, subst, get_or, w64, ℕ, [], ◌∷◌, length-append}
use Rattle.std.specs.Prelude.{FitsSigned}
use Rattle.std.proofs.lemmas.Int.{to_z-of_z}
use Rattle.std.proofs.lemmas.List.Elements.{All-push}
use Rattle.auc_graph.specs.Price.{IsPrice}
use Rattle.auc_threads.proofs.PhaseLaws.{gathers_more, owns_at}
use Rattle.auc_threads.proofs.gathering.gather.Goals as goal

pub holder-requires : goal.holder-requires
holder-requires g c =
    let known : c.shard_of.result < length c.args.works.now = omega (arith, c.shard_of.ensures.below, c.requires.many) in
    owns_at (λ w. w.shard) c.args.shards c.args.objects c.args.works.now c.shard_of.result c.loop-object.object c.index-works-shard_of.result c.requires.works known c.shard_of.ensures.remainder c.index-works-shard_of.is c.loop-object-test.true

pub price-requires : goal.price-requires
price-requires g c =
    let known : c.shard_of.result < length c.args.works.now = omega (arith, c.shard_of.ensures.below, c.requires.many) in
    owns_at (λ w. w.shard) c.args.shards c.args.objects c.args.works.now c.shard_of.result c.loop-object.object c.index-works-shard_of.result c.requires.works known c.shard_of.ensures.remainder c.index-works-shard_of.is c.loop-object-test.true

pub loop-object-preserved : goal.loop-object-preserved
loop-object-preserved g c =
    let inv = c.loop-object.invariant in
    let fits : FitsSigned w64 c.price.result = search rules in
    let prices = simp to_z-of_z at c.push_reserved-in-loop-object.ensures.items in
    let holders = c.push_reserved.ensures.items in
    let n = c.loop-object.object in
    let x = c.index-works-shard_of.result in
    let known : n % c.args.shards < length c.args.works.now = omega (arith, c.shard_of.ensures.below, c.shard_of.ensures.remainder, c.requires.many) in
    let is : x ≡ get_or c.args.works.now (n % c.args.shards) x = subst (λ (m : ℕ). x ≡ get_or c.args.works.now m x) c.shard_of.ensures.remainder c.index-works-shard_of.is in
    record {
      holders = rw holders (omega (arith, inv.holders, length-append c.loop-object.holders.items (c.holder.result ∷ [])));
      prices = rw prices (omega (arith, inv.prices, length-append c.loop-object.prices.items (c.price.result ∷ [])));
      holders_room = omega (arith, inv.holders_room, c.push_reserved.ensures.capacity);
      prices_room = omega (arith, inv.prices_room, c.push_reserved-in-loop-object.ensures.capacity);
      range = rw prices (All-push IsPrice c.loop-object.prices.items c.price.result inv.range c.price.ensures.range);
      each = gathers_more (λ w. w.shard) c.args.shards n c.args.works.now c.loop-object.prices.items c.push_reserved-in-loop-object.new.self.items c.loop-object.holders.items c.push_reserved.new.self.items c.price.result c.holder.result x prices holders inv.prices inv.holders known is c.price.ensures.present c.holder.ensures inv.each;
    }
