use Rattle.std.proofs.Common.{◌∙◌, ◌∷◌, [], List, ℤ, rules, subst, sym, to_z, w64}
use Rattle.std.specs.Prelude.{FitsSigned, Option}
use Rattle.std.proofs.lemmas.Int.{to_z-of_z}
use Rattle.auc_answers.specs.Answers.{IsAnswer, IsBracketAnswer, IsOptimalAnswer}
use Rattle.auc_world.specs.Chain.{IsOfRun}
use Rattle.auc_world.specs.Phases.{Stage}
use Rattle.auc_world.proofs.ChainLaws.{IsReady, last_eps, of_answers, ready_next, sold_is_answer, sold_is_of_run, stopped_is_answer, stopped_is_of_run}
use Rattle.auc_world.proofs.PhaseLaws.{later_prices}
use Rattle.auc_world.proofs.solving.solve_rows.Goals as goal

pub loop-bidders-init : goal.loop-bidders-init
loop-bidders-init c =
    let fits : FitsSigned w64 c.args.eps = c.ranges.eps in
    record {
      prices = c.requires.prices;
      eps = simp to_z-of_z c.requires.eps;
      kept = c.in_ok-bidders.ensures c.args.prices.items;
      ready = λ start begins. ([], begins);
    }

pub loop-bidders-preserved : goal.loop-bidders-preserved
loop-bidders-preserved c =
    let fits : FitsSigned w64 c.in-Some.next = search rules in
    let sold = rw c.in-Sold.is at c.in_ok-played.ensures.comes in
    let inv = c.loop-bidders.invariant in
    let here : Stage = record { eps = to_z w64 c.loop-bidders.eps-bits; prices = c.as_slice.result.now; world = sold.world } in
    let to_here = λ (start : Option (List ℤ)) (done : List Stage) (r : IsReady c.args.rows.now c.args.limits.now start done (to_z w64 c.loop-bidders.eps-bits) c.loop-bidders.prices.items).
    subst (λ (ps : List ℤ). IsReady c.args.rows.now c.args.limits.now start done (to_z w64 c.loop-bidders.eps-bits) ps) (sym c.as_slice.ensures.value) r in
    record {
      prices = later_prices c.args.rows.now c.args.limits.now here c.in-Sold.gathered sold.left;
      eps = simp to_z-of_z (c.in-Some.ensures.range inv.eps);
      kept = rw c.in-Sold.is at c.in_ok-played.ensures.kept;
      ready = λ start begins.
          let before = inv.ready start begins in
          (here ∷ before.0, simp to_z-of_z (ready_next c.args.rows.now c.args.limits.now start before.0 here c.in-Some.next c.in-Sold.gathered (to_here start before.0 before.1) sold.left sold.ended (sym c.in-Some.ensures.is)));
    }

pub returns-in_default-clause-is : goal.returns-in_default-clause-is
returns-in_default-clause-is c =
    let sold = rw c.in-Sold.is at c.in_ok-played.ensures.comes in
    let inv = c.loop-bidders.invariant in
    let here : Stage = record { eps = to_z w64 c.loop-bidders.eps-bits; prices = c.as_slice.result.now; world = sold.world } in
    let fits : FitsSigned w64 c.args.eps = c.ranges.eps in
    let start = c.requires.begins.0 in
    let before = inv.ready start (simp to_z-of_z c.requires.begins.1) in
    let ready = subst (λ (ps : List ℤ). IsReady c.args.rows.now c.args.limits.now start before.0 (to_z w64 c.loop-bidders.eps-bits) ps) (sym c.as_slice.ensures.value) before.1 in
    let last = last_eps (to_z w64 c.loop-bidders.eps-bits) inv.eps (sym c.in_default.ensures.is) in
    of_answers (IsOptimalAnswer c.args.problem.now c.in-Sold.gathered.holders.items c.in-Sold.gathered.prices.items) (IsAnswer c.args.problem.now) c.optimal.result
    (sold_is_answer c.args.problem.now c.args.rows.now c.args.limits.now start before.0 here c.in-Sold.gathered c.arcs.ensures.problem c.objects.ensures.table c.requires.rows ready sold.left c.requires.limits last sold.ended) c.optimal.ensures

pub returns-in_default-clause-run : goal.returns-in_default-clause-run
returns-in_default-clause-run c = λ start begins.
    let sold = rw c.in-Sold.is at c.in_ok-played.ensures.comes in
    let inv = c.loop-bidders.invariant in
    let here : Stage = record { eps = to_z w64 c.loop-bidders.eps-bits; prices = c.as_slice.result.now; world = sold.world } in
    let fits : FitsSigned w64 c.args.eps = c.ranges.eps in
    let before = inv.ready start (simp to_z-of_z begins) in
    let ready = subst (λ (ps : List ℤ). IsReady c.args.rows.now c.args.limits.now start before.0 (to_z w64 c.loop-bidders.eps-bits) ps) (sym c.as_slice.ensures.value) before.1 in
    let last = last_eps (to_z w64 c.loop-bidders.eps-bits) inv.eps (sym c.in_default.ensures.is) in
    of_answers (IsOptimalAnswer c.args.problem.now c.in-Sold.gathered.holders.items c.in-Sold.gathered.prices.items) (IsOfRun c.args.problem.now c.args.limits.now start) c.optimal.result
    (sold_is_of_run c.args.problem.now c.args.rows.now c.args.limits.now start before.0 here c.in-Sold.gathered c.arcs.ensures.problem c.objects.ensures.table c.requires.rows ready sold.left c.requires.limits last sold.ended) c.optimal.ensures

pub bracket-requires-clause-holders : goal.bracket-requires-clause-holders
bracket-requires-clause-holders c = let stopped = rw c.in-Stopped.is at c.in_ok-played.ensures.comes in stopped.left.sales.holders_are ∙ c.requires.rows.objects

pub bracket-requires-clause-prices : goal.bracket-requires-clause-prices
bracket-requires-clause-prices c = let stopped = rw c.in-Stopped.is at c.in_ok-played.ensures.comes in stopped.left.sales.prices_are ∙ c.requires.rows.objects

pub bracket-requires-clause-within : goal.bracket-requires-clause-within
bracket-requires-clause-within c = let stopped = rw c.in-Stopped.is at c.in_ok-played.ensures.comes in stopped.left.within

pub returns-in-Stopped-clause-is : goal.returns-in-Stopped-clause-is
returns-in-Stopped-clause-is c =
    let stopped = rw c.in-Stopped.is at c.in_ok-played.ensures.comes in
    let inv = c.loop-bidders.invariant in
    let here : Stage = record { eps = to_z w64 c.loop-bidders.eps-bits; prices = c.as_slice.result.now; world = stopped.world } in
    let fits : FitsSigned w64 c.args.eps = c.ranges.eps in
    let start = c.requires.begins.0 in
    let before = inv.ready start (simp to_z-of_z c.requires.begins.1) in
    let ready = subst (λ (ps : List ℤ). IsReady c.args.rows.now c.args.limits.now start before.0 (to_z w64 c.loop-bidders.eps-bits) ps) (sym c.as_slice.ensures.value) before.1 in
    of_answers (IsBracketAnswer c.args.problem.now c.in-Stopped.reason c.in-Stopped.gathered.holders.items c.in-Stopped.gathered.prices.items) (IsAnswer c.args.problem.now) c.bracket.result
    (stopped_is_answer c.args.problem.now c.args.rows.now c.args.limits.now start before.0 here c.in-Stopped.gathered c.arcs.ensures.problem c.objects.ensures.table c.requires.rows ready stopped.left c.requires.limits c.in-Stopped.reason stopped.ended c.requires.assignment) c.bracket.ensures

pub returns-in-Stopped-clause-run : goal.returns-in-Stopped-clause-run
returns-in-Stopped-clause-run c = λ start begins.
    let stopped = rw c.in-Stopped.is at c.in_ok-played.ensures.comes in
    let inv = c.loop-bidders.invariant in
    let here : Stage = record { eps = to_z w64 c.loop-bidders.eps-bits; prices = c.as_slice.result.now; world = stopped.world } in
    let fits : FitsSigned w64 c.args.eps = c.ranges.eps in
    let before = inv.ready start (simp to_z-of_z begins) in
    let ready = subst (λ (ps : List ℤ). IsReady c.args.rows.now c.args.limits.now start before.0 (to_z w64 c.loop-bidders.eps-bits) ps) (sym c.as_slice.ensures.value) before.1 in
    of_answers (IsBracketAnswer c.args.problem.now c.in-Stopped.reason c.in-Stopped.gathered.holders.items c.in-Stopped.gathered.prices.items) (IsOfRun c.args.problem.now c.args.limits.now start) c.bracket.result
    (stopped_is_of_run c.args.problem.now c.args.rows.now c.args.limits.now start before.0 here c.in-Stopped.gathered c.arcs.ensures.problem c.objects.ensures.table c.requires.rows ready stopped.left c.requires.limits c.in-Stopped.reason stopped.ended c.requires.assignment) c.bracket.ensures
