use Rattle.std.proofs.Common.{ℕ, List, length, arith, rules, subst, sym, ap, ◌∙◌, ◌≡◌, ◌≤◌, w64}
use Rattle.std.specs.Prelude.{FitsSigned}
use Rattle.std.proofs.lemmas.Int.{to_z-of_z}
use Rattle.auc_call.specs.Memory.{memory}
use Rattle.auc_dense.specs.Table.{IsTable, table_problem}
use Rattle.auc_dense.specs.TableSolving.{AreTableSizes}
use Rattle.auc_dense.proofs.QuickLaws.{asked_anyway, found_solved, hall_solved}
use Rattle.auc_dense.proofs.table_solving.solve_table_into.Goals as goal

pub returns-in-Some-Assigned-clause-solves : goal.returns-in-Some-Assigned-clause-solves
returns-in-Some-Assigned-clause-solves g c =
    let gap_fits : FitsSigned w64 c.args.given.now.gap = search rules in
    let wanted = c.objects_or-wanted.ensures in
    let sizes : AreTableSizes (table_problem c.args.given.now.persons c.args.given.now.objects c.args.given.now.costs.now c.args.given.now.stride c.args.given.now.gap) c.args.given.now.stride (length c.args.given.now.costs.now) (memory c.args.choice.now c.args.prices.now c.args.set.now) = record {
      table = subst (λ (m : ℕ). IsTable c.args.given.now.persons m c.args.given.now.stride (length c.args.given.now.costs.now)) wanted (c.is_table.ensures.0 c.if-not-is_table.false);
      memory = record {
        choice = omega (arith, c.if-choice-places.false);
        prices = omega (arith, c.if-prices-wanted.false, wanted);
        set = omega (arith, c.if-set-places.false);
      };
    } in
    let start = rw c.in-Some-Assigned.is at c.in_ok-found.ensures.start in
    let faultless = simp (to_z-of_z, c.objects_or-wanted.ensures) at start in
    let told = rw c.in-Some-Assigned.is at c.in_ok-found.ensures.found in
    let assigned = rw c.in-Some-Assigned.field-0-is at told in
    let found = simp (to_z-of_z, c.objects_or-wanted.ensures) at assigned in
    let choice = rw c.in-Some-Assigned.found-is at c.hand_assignment.ensures.choice in
    let prices = rw c.in-Some-Assigned.found-is at c.hand_assignment.ensures.prices in
    (sizes, faultless, rw c.in-Some-Assigned.found-is (found_solved _ c.args.given.now.gap c.args.run.now.start.now c.args.run.now.bids (g.W.Watch.has_stopped c.search_quickly.new.run.watch) c.in-Some-Assigned.found found (memory c.args.choice.now c.args.prices.now c.args.set.now) c.hand_assignment.new.choice c.hand_assignment.new.prices c.in_ok-count.ensures.problem sizes.table choice prices))

pub hand_shortage-requires-clause-persons : goal.hand_shortage-requires-clause-persons
hand_shortage-requires-clause-persons g c =
    let told = rw c.in-Some-Short.is at c.in_ok-found.ensures.found in
    let short = rw c.in-Some-Short.field-0-is at told in
    let few = short.quick_is.0 in
    rw c.in-Some-Short.short-is (omega (arith, few, c.if-choice-places.false))

pub hand_shortage-requires-clause-objects : goal.hand_shortage-requires-clause-objects
hand_shortage-requires-clause-objects g c =
    let told = rw c.in-Some-Short.is at c.in_ok-found.ensures.found in
    let short = rw c.in-Some-Short.field-0-is at told in
    let few = short.quick_is.0 in
    let fewer = short.quick_is.1.fewer in
    rw c.in-Some-Short.short-is (omega (arith, few, fewer, c.if-set-places.false))
