use Rattle.std.proofs.Common.{rules, subst, arith, map, ◌≡◌, ◌<◌, pos, length, slice_index_or, sym, ap, ◌∙◌}
use Rattle.auc_graph.specs.Price.{IsPrice}
use Rattle.auc_objects.specs.PackedSales.{price_in}
use Rattle.std.proofs.lemmas.List.{get_or-map, length-map}
use Rattle.std.proofs.lemmas.List.Elements.{All-get_or}
use Rattle.auc_objects.specs.Objects.{Objects}
use Rattle.auc_objects.proofs.shard.ObjectShard.price.Goals as goal

pub returns-clause-range : goal.returns-clause-range
returns-clause-range c =
    let as_many = length-map c.self.inside.sales.items price_in in
    let there : c.args.object < length (map price_in c.self.inside.sales.items) = subst (λ (s : Objects). c.args.object < length s.prices) (sym c.self.view_is) c.requires.known in
    let lt : c.args.object < length c.self.inside.sales.items = omega (arith, there, as_many) in
    let are : IsPrice (slice_index_or (map price_in c.self.inside.sales.items) c.args.object (pos 0)) = All-get_or IsPrice (map price_in c.self.inside.sales.items) c.args.object (pos 0) there c.self.invariant.prices_are in
    let here : slice_index_or (map price_in c.self.inside.sales.items) c.args.object (pos 0) ≡ c.price.result =
    get_or-map price_in c.self.inside.sales.items c.args.object c.index.result.now (pos 0) lt ∙ ap price_in (sym c.index.ensures) ∙ sym c.price.ensures in
    let is : IsPrice c.price.result = rw (← here) are in
    search rules
