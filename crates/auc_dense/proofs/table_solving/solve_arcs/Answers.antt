use Rattle.std.proofs.Common.{ℕ, List, sym, subst, ap, ◌∙◌}
use Rattle.auc_graph.specs.declared.arc.Arc.{Arc}
use Rattle.auc_call.specs.Memory.{memory}
use Rattle.auc_dense.specs.TableSolving.{IsTableSolved, named}
use Rattle.auc_dense.proofs.NamingLaws.{named_places, table_solved}
use Rattle.auc_dense.proofs.table_solving.solve_arcs.Goals as goal

pub name_objects-requires : goal.name_objects-requires
name_objects-requires g c =
    rw c.arcs.ensures.arcs (named_places c.args.problem.now (memory c.args.choice.now c.args.prices.now c.args.set.now) (memory c.solve_problem.new.choice c.solve_problem.new.prices c.solve_problem.new.set) c.in_ok-solved.solved c.in_ok-solved.ensures.runs.1)

pub returns-clause-solves : goal.returns-clause-solves
returns-clause-solves g c =
    let runs = c.in_ok-solved.ensures.runs in
    let limited = c.in_ok-solved.ensures.run.0 in
    let objects_are = c.name_objects.ensures ∙ ap (λ (xs : List Arc). named xs c.in_ok-solved.solved c.solve_problem.new.choice) c.arcs.ensures.arcs in (
      runs.0,
      subst (λ (xs : List ℕ). IsTableSolved c.args.problem.now c.args.run.now.start.now c.args.run.now.bids (g.W.Watch.has_stopped c.solve_problem.new.run.watch) (memory c.args.choice.now c.args.prices.now c.args.set.now) (memory xs c.solve_problem.new.prices c.solve_problem.new.set) c.in_ok-solved.solved) (sym objects_are)
          (table_solved c.args.problem.now c.args.run.now.start.now c.args.run.now.bids (g.W.Watch.has_stopped c.solve_problem.new.run.watch) (memory c.args.choice.now c.args.prices.now c.args.set.now) (memory c.solve_problem.new.choice c.solve_problem.new.prices c.solve_problem.new.set) c.in_ok-solved.solved runs.1 limited),
    )

pub returns-clause-asked : goal.returns-clause-asked
returns-clause-asked g c = c.in_ok-solved.ensures.run.1
