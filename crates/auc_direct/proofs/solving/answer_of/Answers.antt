use Rattle.std.proofs.Common.{◌⊎◌}
use Rattle.auc_answers.specs.Answers.{HasAssignment, IsBracketAnswer, IsBracketOf, IsInfeasibleAnswer, IsOptimalAnswer}
use Rattle.auc_direct.specs.Told.{IsTold}
use Rattle.auc_direct.proofs.Answering.{are_holders, either_told, left_stands, of_answers, own_listed, persons_are, sold_passes, sold_told, whole_choice, whole_fits, whole_prices, whole_told}
use Rattle.auc_direct.proofs.solving.answer_of.Goals as goal

pub gather-requires-clause-persons : goal.gather-requires-clause-persons
gather-requires-clause-persons c = persons_are c.args.problem.now c.args.flat c.requires.rows

pub gather-requires-clause-holders : goal.gather-requires-clause-holders
gather-requires-clause-holders c =
    let m = c.args.outcome.holdings in
    let s = left_stands c.args.flat c.args.outcome.ending m.prices.items m.holders.items m.owns.items c.requires.left in
    are_holders c.args.problem.now c.args.flat c.requires.rows s.0 m.prices.items m.holders.items m.owns.items s.1

pub gather-requires-clause-listed : goal.gather-requires-clause-listed
gather-requires-clause-listed c =
    let m = c.args.outcome.holdings in
    let s = left_stands c.args.flat c.args.outcome.ending m.prices.items m.holders.items m.owns.items c.requires.left in
    own_listed c.args.problem.now c.args.flat c.requires.rows s.0 m.prices.items m.holders.items m.owns.items c.requires.sound s.1

-- ---- sold

pub proved_optimal-requires : goal.proved_optimal-requires
proved_optimal-requires c =
    let m = c.args.outcome.holdings in
    let sold = rw c.in-Sold.is at c.requires.left in
    let left = c.in_ok-gathered.gathered in
    let g = c.in_ok-gathered.ensures in
    record { passes = rw g.prices (sold_passes c.args.problem.now c.args.flat c.requires.rows m.prices.items m.holders.items m.owns.items left.holders.items c.arcs.ensures.problem c.requires.sound g.held sold.0 sold.1) }

pub returns-in-Sold : goal.returns-in-Sold
returns-in-Sold c =
    let p = c.args.problem.now in
    let m = c.args.outcome.holdings in
    let sold = rw c.in-Sold.is at c.requires.left in
    let left = c.in_ok-gathered.gathered in
    let g = c.in_ok-gathered.ensures in
    of_answers (IsOptimalAnswer p left.holders.items left.prices.items) (IsTold p c.args.flat c.args.outcome.ending m.prices.items) c.proved_optimal.result
    (rw (g.prices, c.in-Sold.is) (sold_told p c.args.flat c.requires.rows m.prices.items m.holders.items m.owns.items left.holders.items c.arcs.ensures.problem c.requires.sound g.held sold.0 sold.1)) c.proved_optimal.ensures

-- ---- stopped, and each person has one

pub proved_bracket-requires-clause-choice : goal.proved_bracket-requires-clause-choice
proved_bracket-requires-clause-choice c =
    let m = c.args.outcome.holdings in
    let stopped = rw c.in-Stopped.is at c.requires.left in
    let left = c.in_ok-gathered.gathered in
    whole_choice c.args.problem.now c.args.flat c.requires.rows m.prices.items m.holders.items m.owns.items left.holders.items c.arcs.ensures.problem c.requires.sound c.in_ok-gathered.ensures.held stopped.0 c.in-Stopped.reason stopped.1 (rw stopped.1.owns_are at (c.all_have-each_has_one.ensures.yes c.if-each_has_one.true))

pub proved_bracket-requires-clause-prices : goal.proved_bracket-requires-clause-prices
proved_bracket-requires-clause-prices c =
    let m = c.args.outcome.holdings in
    let stopped = rw c.in-Stopped.is at c.requires.left in
    let left = c.in_ok-gathered.gathered in
    rw c.in_ok-gathered.ensures.prices (whole_prices c.args.problem.now c.args.flat c.requires.rows m.prices.items m.holders.items m.owns.items left.holders.items c.arcs.ensures.problem c.requires.sound c.in_ok-gathered.ensures.held stopped.0 c.in-Stopped.reason stopped.1 (rw stopped.1.owns_are at (c.all_have-each_has_one.ensures.yes c.if-each_has_one.true)))

pub proved_bracket-requires-clause-fits : goal.proved_bracket-requires-clause-fits
proved_bracket-requires-clause-fits c =
    let m = c.args.outcome.holdings in
    let stopped = rw c.in-Stopped.is at c.requires.left in
    let left = c.in_ok-gathered.gathered in
    rw c.in_ok-gathered.ensures.prices (whole_fits c.args.problem.now c.args.flat c.requires.rows m.prices.items m.holders.items m.owns.items left.holders.items c.arcs.ensures.problem c.requires.sound c.in_ok-gathered.ensures.held stopped.0 c.in-Stopped.reason stopped.1 (rw stopped.1.owns_are at (c.all_have-each_has_one.ensures.yes c.if-each_has_one.true)))

pub proved_bracket-requires-clause-within : goal.proved_bracket-requires-clause-within
proved_bracket-requires-clause-within c =
    let stopped = rw c.in-Stopped.is at c.requires.left in
    rw c.in_ok-gathered.ensures.prices stopped.1.within

pub returns-then-each_has_one : goal.returns-then-each_has_one
returns-then-each_has_one c =
    let p = c.args.problem.now in
    let m = c.args.outcome.holdings in
    let reason = c.in-Stopped.reason in
    let left = c.in_ok-gathered.gathered in
    of_answers (IsBracketOf p reason left.prices.items) (IsTold p c.args.flat c.args.outcome.ending m.prices.items) c.proved_bracket.result
    (rw (c.in_ok-gathered.ensures.prices, c.in-Stopped.is) (whole_told p c.args.flat c.requires.rows m.prices.items reason)) c.proved_bracket.ensures

-- ---- stopped, and somebody has none

pub returns-else-each_has_one : goal.returns-else-each_has_one
returns-else-each_has_one c =
    let p = c.args.problem.now in
    let m = c.args.outcome.holdings in
    let reason = c.in-Stopped.reason in
    let stopped = rw c.in-Stopped.is at c.requires.left in
    let left = c.in_ok-gathered.gathered in
    let g = c.in_ok-gathered.ensures in
    of_answers (λ a. IsInfeasibleAnswer p a ⊎ (HasAssignment p × IsBracketAnswer p reason left.holders.items left.prices.items a)) (IsTold p c.args.flat c.args.outcome.ending m.prices.items) c.bracketed.result
    (rw (g.prices, c.in-Stopped.is) (either_told p c.args.flat c.requires.rows m.prices.items m.holders.items m.owns.items left.holders.items c.arcs.ensures.problem c.requires.sound g.held stopped.0 reason stopped.1)) c.bracketed.ensures
