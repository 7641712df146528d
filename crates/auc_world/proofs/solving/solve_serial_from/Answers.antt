use Rattle.std.proofs.Common.{◌≡◌, Some, length, refl, rules, arith}
use Rattle.auc_hall.proofs.ProblemLaws.{length-rows}
use Rattle.auc_world.proofs.solving.solve_serial_from.Goals as goal

pub solve_rows-requires-clause-begins : goal.solve_rows-requires-clause-begins
solve_rows-requires-clause-begins c =
    let same : c.in_ok-prices-in-Rows.prices.items ≡ c.args.start.now = search rules in
    let of = rw c.in-Rows.is at c.in_ok-answer.ensures in
    let square : c.in-Rows.rows.objects ≡ length c.in-Rows.rows.rows = omega (arith, of.0.objects, length-rows c.args.problem.now c.in-Rows.rows of.0, c.requires.start.square) in
    (Some c.args.start.now, (record { at_one = refl; prices_are = same; square = square }))

pub returns-in_ok-prices-in-Rows-clause-run : goal.returns-in_ok-prices-in-Rows-clause-run
returns-in_ok-prices-in-Rows-clause-run c =
    let same : c.in_ok-prices-in-Rows.prices.items ≡ c.args.start.now = search rules in
    let of = rw c.in-Rows.is at c.in_ok-answer.ensures in
    let square : c.in-Rows.rows.objects ≡ length c.in-Rows.rows.rows = omega (arith, of.0.objects, length-rows c.args.problem.now c.in-Rows.rows of.0, c.requires.start.square) in
    c.solve_rows.ensures.run (Some c.args.start.now) (record { at_one = refl; prices_are = same; square = square })
