use Rattle.std.proofs.Common.{◌∙◌, arith, rules}
use Rattle.std.specs.Prelude.{FitsSigned, ◌-ℤ◌}
use Rattle.std.specs.Int.{w128}
use Rattle.std.proofs.lemmas.Int.{ints, to_z-of_z}
use Rattle.auc_graph.proofs.BoundLaws.{bound_is}
use Rattle.auc_graph.proofs.dual.dual_bound.Goals as goal

pub returns-clause-bound : goal.returns-clause-bound
returns-clause-bound c =
    let table = c.in_ok-least.least.items in
    let one = c.total_of.ensures in
    let two = c.total_of-2.ensures in
    let f1 : FitsSigned w128 c.total_of.result = search rules in
    let f2 : FitsSigned w128 c.total_of-2.result = search rules in
    let f3 : FitsSigned w128 (c.total_of.result -ℤ c.total_of-2.result) = omega (arith, ints, one.low, one.high, two.low, two.high) in
    let least = simp (c.persons.ensures.persons, c.arcs.ensures.arcs) at c.in_ok-least.ensures.least in
    let is = bound_is c.args.problem.now c.args.prices.now table c.arcs.ensures.problem c.requires.arcs c.requires.len c.requires.prices (c.in_ok-least.ensures.len ∙ c.persons.ensures.persons) least in
    simp to_z-of_z (rw (one.total, two.total, c.as_slice.ensures.value) is)
