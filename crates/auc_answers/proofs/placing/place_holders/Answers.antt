use Rattle.std.proofs.Common.{arith, sym, subst, ℕ, ◌<◌, ◌+◌}
use Rattle.auc_hall.proofs.ProblemLaws.{length-rows}
use Rattle.auc_answers.proofs.PlacedLaws.{ArePlaced, holder_below, nobody_there, not_placed, placed_all, placed_holders, placed_more, placed_nothing}
use Rattle.auc_answers.proofs.placing.place_holders.Goals as goal

pub loop-object-preserved-in_default : goal.loop-object-preserved-in_default
loop-object-preserved-in_default c =
    let inv = c.loop-object.invariant in
    record { made = inv.made; placed = placed_nothing c.args.problem.now c.args.holders.now c.loop-object.object c.loop-object.partial.choice inv.placed (nobody_there _ c.in_default.not-Some) }

pub place-requires-clause-person : goal.place-requires-clause-person
place-requires-clause-person c =
    let right = c.holds_rightly.ensures.right c.if-not-holds_rightly.false in
    let rows = length-rows c.args.problem.now c.args.rows.now c.requires.rows in
    subst (λ (n : ℕ). c.in-Some.held.person < n) (sym rows) (holder_below c.args.problem.now c.loop-object.object c.in-Some.held right.0 c.holds_rightly.ensures.problem right.1)

pub returns-then-not-place-clause-unplaced : goal.returns-then-not-place-clause-unplaced
returns-then-not-place-clause-unplaced c =
    let right = c.holds_rightly.ensures.right c.if-not-holds_rightly.false in
    let below = holder_below c.args.problem.now c.loop-object.object c.in-Some.held right.0 c.holds_rightly.ensures.problem right.1 in
    not_placed c.args.problem.now c.args.holders.now c.loop-object.object c.loop-object.partial.choice c.loop-object.invariant.placed c.args.rows.now c.requires.rows c.in-Some.held c.in-Some.is right.0 right.1 below (c.place.ensures.cause c.if-not-place.true)

pub loop-object-preserved : goal.loop-object-preserved
loop-object-preserved c =
    let right = c.holds_rightly.ensures.right c.if-not-holds_rightly.false in
    let below = holder_below c.args.problem.now c.loop-object.object c.in-Some.held right.0 c.holds_rightly.ensures.problem right.1 in
    let made = c.place.ensures.placed c.if-not-place.false in
    let rows = length-rows c.args.problem.now c.args.rows.now c.requires.rows in
    let inv = c.loop-object.invariant in
    let persons = inv.made.persons in
    let more = placed_more c.args.problem.now c.args.holders.now c.loop-object.object c.loop-object.partial.choice inv.placed c.args.rows.now c.requires.rows c.in-Some.held c.in-Some.is right.0 right.1 below made.0 made.1 (omega (arith, below, rows, persons)) in
    record { made = c.place.ensures.made; placed = subst (ArePlaced c.args.problem.now c.args.holders.now (c.loop-object.object + 1)) (sym made.2) more }

pub returns-clause-placed : goal.returns-clause-placed
returns-clause-placed c = let inv = c.loop-object.invariant in (inv.made, placed_all c.args.problem.now c.args.holders.now c.loop-object.object c.loop-object.partial.choice inv.placed (let past = c.loop-object-test.false in let many = c.requires.holders in let objects = c.objects-object-end.ensures.objects in omega (arith, past, many, objects)))

pub returns-clause-holders : goal.returns-clause-holders
returns-clause-holders c = let inv = c.loop-object.invariant in placed_holders c.args.problem.now c.args.holders.now c.loop-object.object c.loop-object.partial.choice inv.placed (let past = c.loop-object-test.false in let many = c.requires.holders in let objects = c.objects-object-end.ensures.objects in omega (arith, past, many, objects))
