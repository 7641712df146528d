use Rattle.std.proofs.Common.{◌≡◌, inr}
use Rattle.auc_answers.specs.Answers.{IsAnswer, IsInfeasibleAnswer}
use Rattle.auc_graph.specs.Assignment.{total}
use Rattle.auc_claim.specs.declared.reason.Reason.{Reason}
use Rattle.auc_direct.specs.Endings.{IsAsked, IsBracketFor, IsLimited, IsLimitedUnless, IsOfPhases, IsWideProblem}
use Rattle.auc_direct.specs.Told.{IsTold}
use Rattle.auc_direct.proofs.Answering.{is_asked, none_asked, limit_or_told, none_is_answer, none_is_limited, none_of_phases, of_answers}
use Rattle.auc_direct.proofs.Ceilings.{wide_told}
use Rattle.auc_direct.proofs.solving.concluded.Goals as goal

pub answer_of-requires-clause-left : goal.answer_of-requires-clause-left
answer_of-requires-clause-left c = rw c.in-Ok.is at c.requires.left

pub halted-requires : goal.halted-requires
halted-requires c = record { halt = (c.args.flat, (c.requires.rows, rw c.in-Err.is at c.requires.halt)) }

pub returns-in-Err-clause-is : goal.returns-in-Err-clause-is
returns-in-Err-clause-is c = of_answers (IsInfeasibleAnswer c.args.problem.now) (IsAnswer c.args.problem.now) c.halted.result (none_is_answer c.args.problem.now) c.halted.ensures

pub returns-in-Err-clause-limit : goal.returns-in-Err-clause-limit
returns-in-Err-clause-limit c = λ bids begun before after _ same. (
    let going : after ≡ before = rw c.in-Err.is at same in
    of_answers (IsInfeasibleAnswer c.args.problem.now) (λ a. IsLimitedUnless before after a (IsLimited c.args.problem.now bids (total begun) a)) c.halted.result (λ a h. inr (going, none_is_limited c.args.problem.now bids (total begun) a h)) c.halted.ensures
    )

pub returns-in-Err-clause-run : goal.returns-in-Err-clause-run
returns-in-Err-clause-run c = λ bids begun before after _. of_answers (IsInfeasibleAnswer c.args.problem.now) (IsOfPhases c.args.problem.now bids begun) c.halted.result (none_of_phases c.args.problem.now bids begun) c.halted.ensures

pub returns-in-Ok-clause-is : goal.returns-in-Ok-clause-is
returns-in-Ok-clause-is c =
    let o = c.in-Ok.outcome in
    of_answers (IsTold c.args.problem.now c.args.flat o.ending o.holdings.prices.items) (IsAnswer c.args.problem.now) c.answer_of.result (λ a told. told.is) c.answer_of.ensures

pub returns-in-Ok-clause-limit : goal.returns-in-Ok-clause-limit
returns-in-Ok-clause-limit c = λ bids begun before after ended _. (
    let p = c.args.problem.now in
    let o = c.in-Ok.outcome in
    let stopped = (rw c.in-Ok.is at ended).stopped in
    of_answers (IsTold p c.args.flat o.ending o.holdings.prices.items) (λ a. IsLimitedUnless before after a (IsLimited p bids (total begun) a)) c.answer_of.result
    (λ a told. limit_or_told before after p c.args.flat bids begun o.ending o.holdings.prices.items a stopped told) c.answer_of.ensures
    )

pub returns-in-Ok-clause-run : goal.returns-in-Ok-clause-run
returns-in-Ok-clause-run c = λ bids begun before after ended. (
    let o = c.in-Ok.outcome in
    let run = (rw c.in-Ok.is at ended).run in
    of_answers (IsTold c.args.problem.now c.args.flat o.ending o.holdings.prices.items) (IsOfPhases c.args.problem.now bids begun) c.answer_of.result (λ a told. told.run bids begun run) c.answer_of.ensures
    )

pub returns-in-Err-clause-asked : goal.returns-in-Err-clause-asked
returns-in-Err-clause-asked c = λ asked _. of_answers (IsInfeasibleAnswer c.args.problem.now) (IsAsked asked) c.halted.result (none_asked asked c.args.problem.now) c.halted.ensures

pub returns-in-Ok-clause-asked : goal.returns-in-Ok-clause-asked
returns-in-Ok-clause-asked c = λ asked ended. (
    let p = c.args.problem.now in
    let o = c.in-Ok.outcome in
    of_answers (IsTold p c.args.flat o.ending o.holdings.prices.items) (IsAsked asked) c.answer_of.result (λ a _. is_asked asked (rw c.in-Ok.is at ended) a) c.answer_of.ensures
    )

pub returns-in-Ok-clause-ceiling : goal.returns-in-Ok-clause-ceiling
returns-in-Ok-clause-ceiling c = λ ended. (
    let p = c.args.problem.now in
    let o = c.in-Ok.outcome in
    of_answers (IsTold p c.args.flat o.ending o.holdings.prices.items) (λ a. IsBracketFor Reason.Ceiling a → IsWideProblem p) c.answer_of.result (λ a told. wide_told p c.args.flat o.ending o.holdings.prices.items a c.requires.rows (rw c.in-Ok.is at ended) told) c.answer_of.ensures
    )
