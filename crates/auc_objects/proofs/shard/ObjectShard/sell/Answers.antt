use Rattle.std.proofs.Common.{map, ◌≡◌, List, set, w64, ℤ, Some, ap, ◌∙◌}
use Rattle.auc_graph.specs.Price.{IsPrice}
use Rattle.auc_objects.specs.PackedSales.{holder_in, price_in}
use Rattle.auc_letters.specs.declared.state.Held.{Held}
use Rattle.auc_objects.specs.Objects.{Objects, with_sale}
use Rattle.std.specs.Prelude.{Option}
use Rattle.std.proofs.lemmas.Int.{to_z-of_z}
use Rattle.std.proofs.lemmas.List.Elements.{All-same, All-set}
use Rattle.auc_objects.proofs.PackedSales.{as_many, holders_set, prices_set}
use Rattle.auc_objects.proofs.shard.ObjectShard.sell.Goals as goal

pub invariant_of-self : goal.invariant_of-self
invariant_of-self c =
    let paid : price_in c.sold.result ≡ c.args.price = c.sold.ensures.price ∙ to_z-of_z w64 c.args.price c.ranges.price in
    let sales = c.self.inside.sales.items in
    let same = prices_set sales c.args.object c.sold.result c.args.price paid in
    record {
      known = c.self.invariant.known;
      person_shards = c.self.invariant.person_shards;
      few = c.self.invariant.few;
      each = as_many (set sales c.args.object c.sold.result);
      prices_are = All-same IsPrice (map price_in (set sales c.args.object c.sold.result)) (set (map price_in sales) c.args.object c.args.price) same (All-set IsPrice (map price_in sales) c.args.object c.args.price c.requires.price c.self.invariant.prices_are);
    }

pub returns : goal.returns
returns c =
    let paid : price_in c.sold.result ≡ c.args.price = c.sold.ensures.price ∙ to_z-of_z w64 c.args.price c.ranges.price in
    let inside = c.self.inside in
    let sales = inside.sales.items in
    let sold = set sales c.args.object c.sold.result in
    ap (λ (ps : List ℤ). record { shard = inside.shard; of = inside.of; person_shards = inside.person_shards; persons = inside.persons; prices = ps; holders = map holder_in sold }) (prices_set sales c.args.object c.sold.result c.args.price paid)
    ∙ ap (λ (hs : List (Option Held)). record { shard = inside.shard; of = inside.of; person_shards = inside.person_shards; persons = inside.persons; prices = set (map price_in sales) c.args.object c.args.price; holders = hs }) (holders_set sales c.args.object c.sold.result (Some c.args.held) c.sold.ensures.holder)
    ∙ ap (λ (s : Objects). with_sale s c.args.object (record { price = c.args.price; holder = Some c.args.held })) c.self.view_is
