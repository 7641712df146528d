use Rattle.std.proofs.Common.{◌≡◌, List, refl, sym, subst, arith}
use Rattle.std.specs.Prelude.{IfOk}
use Rattle.auc_graph.specs.declared.arc.Arc.{Arc}
use Rattle.auc_graph.specs.Problem.{Problem, IsProblem}
use Rattle.auc_graph.specs.InMemory.{objects_or, problem_from}
use Rattle.auc_call.specs.Memory.{AreSizes, memory}
use Rattle.auc_call.specs.Drivers.{IsSolvedBy}
use Rattle.auc_call.specs.Solving.{Runs}
use Rattle.auc_call.proofs.MadeLaws.{made_of}
use Rattle.auc_call.proofs.SolvingLaws.{runs_solves}
use Rattle.auc_call.proofs.solving.solve_into.Goals as goal

pub solve_problem-requires : goal.solve_problem-requires
solve_problem-requires g c =
    let e = made_of c.args.given.now.persons c.args.given.now.objects c.in_ok-problem.problem c.in_ok-arcs.arcs.items c.args.given.now.arcs.now c.in_ok-problem.ensures.exact c.in_ok-arcs.ensures.items in
    let wanted : c.objects_or-wanted.result ≡ objects_or c.args.given.now.objects c.args.given.now.persons = c.objects_or-wanted.ensures in
    let sizes : AreSizes (problem_from c.args.given.now.persons c.args.given.now.objects c.args.given.now.arcs.now) (memory c.args.choice.now c.args.prices.now c.args.set.now) = record {
      choice = omega (arith, c.if-choice-places.false);
      prices = omega (arith, c.if-prices-wanted.false, wanted);
      set = omega (arith, c.if-set-places.false);
    } in
    record { sizes = subst (λ (p : Problem). AreSizes p (memory c.args.choice.now c.args.prices.now c.args.set.now)) (sym e) sizes }

pub returns-clause-solves : goal.returns-clause-solves
returns-clause-solves g c =
    let e = made_of c.args.given.now.persons c.args.given.now.objects c.in_ok-problem.problem c.in_ok-arcs.arcs.items c.args.given.now.arcs.now c.in_ok-problem.ensures.exact c.in_ok-arcs.ensures.items in
    let wanted : c.objects_or-wanted.result ≡ objects_or c.args.given.now.objects c.args.given.now.persons = c.objects_or-wanted.ensures in
    let sizes : AreSizes (problem_from c.args.given.now.persons c.args.given.now.objects c.args.given.now.arcs.now) (memory c.args.choice.now c.args.prices.now c.args.set.now) = record {
      choice = omega (arith, c.if-choice-places.false);
      prices = omega (arith, c.if-prices-wanted.false, wanted);
      set = omega (arith, c.if-set-places.false);
    } in
    let is : IsProblem (problem_from c.args.given.now.persons c.args.given.now.objects c.args.given.now.arcs.now) = subst (λ (arcs : List Arc). IsProblem (problem_from c.args.given.now.persons c.args.given.now.objects arcs)) c.in_ok-arcs.ensures.items (c.in_ok-problem.ensures.ok.0 refl) in
    runs_solves c.args.driver (problem_from c.args.given.now.persons c.args.given.now.objects c.args.given.now.arcs.now) c.args.run.now.start.now (memory c.args.choice.now c.args.prices.now c.args.set.now) (memory c.solve_problem.new.choice c.solve_problem.new.prices c.solve_problem.new.set) c.solve_problem.result sizes is
    (subst (λ (p : Problem). Runs c.args.driver p c.args.run.now.start.now (memory c.args.choice.now c.args.prices.now c.args.set.now) (memory c.solve_problem.new.choice c.solve_problem.new.prices c.solve_problem.new.set) c.solve_problem.result) e c.solve_problem.ensures.runs)

pub returns-clause-run : goal.returns-clause-run
returns-clause-run g c =
    let e = made_of c.args.given.now.persons c.args.given.now.objects c.in_ok-problem.problem c.in_ok-arcs.arcs.items c.args.given.now.arcs.now c.in_ok-problem.ensures.exact c.in_ok-arcs.ensures.items in
    subst (λ (p : Problem). IfOk c.solve_problem.result (IsSolvedBy c.args.driver p c.args.run.now.start.now c.args.run.now.bids (g.W.Watch.has_stopped c.solve_problem.new.run.watch) (g.W.Watch.was_asked c.solve_problem.new.run.watch) (memory c.solve_problem.new.choice c.solve_problem.new.prices c.solve_problem.new.set))) e c.solve_problem.ensures.run
