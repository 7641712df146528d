use Rattle.std.proofs.Common.{pos, w64, arith, rules}
use Rattle.std.specs.Prelude.{FitsSigned, ◌*ℤ◌, ◌+ℤ◌}
use Rattle.std.proofs.lemmas.Int.{ints, to_z-of_z}
use Rattle.std.proofs.lemmas.List.Elements.{All-get_or}
use Rattle.auc_graph.specs.Price.{IsPrice}
use Rattle.auc_graph.specs.Dual.{price_at}
use Rattle.auc_graph.proofs.BoundLaws.{scaled_abs, value_fits}
use Rattle.auc_graph.proofs.dual.value_of.Goals as goal

pub returns : goal.returns
returns c =
    let scaled = pos c.args.scale *ℤ c.args.arc.cost in
    let price = price_at c.args.prices.now c.args.arc.object in
    let fair = All-get_or IsPrice c.args.prices.now c.args.arc.object (pos 0) c.requires.object c.requires.prices in
    let small = scaled_abs c.args.scale c.args.arc.cost c.requires.scale c.requires.cost_low c.requires.cost_high in
    let f1 : FitsSigned w64 c.args.arc.cost = search rules in
    let f2 : FitsSigned w64 price = search rules in
    let f3 : FitsSigned w64 (pos c.args.scale) = omega (arith, ints) in
    let f4 : FitsSigned w64 scaled = omega (arith, ints, small) in
    let f5 : FitsSigned w64 (scaled +ℤ price) = value_fits scaled price small fair in
    rw c.from.ensures (simp to_z-of_z)
