-- The verdict on a phase of a run, and the answer that the last phase decides.
use Rattle.std.specs.Prelude.{◌==◌, ◌||◌, ◌≡◌, Bool, true, false, Option, None, Some, Result, Ok, Err}
use Rattle.auc_claim.specs.declared.reason.Reason.{Reason}
use Rattle.auc_graph.specs.Problem.{Problem}
use Rattle.auc_model.specs.declared.turn.End.{End}
use Rattle.auc_answers.specs.declared.answer.Answer.{Answer}
use Rattle.auc_answers.specs.declared.answer.Guard.{Guard}
use Rattle.auc_answers.specs.declared.gathered.Gathered.{Gathered}
use Rattle.auc_phases.specs.declared.limits.Limits.{Limits}
use Rattle.auc_answers.specs.Answers.{IsBracketAnswer, IsOptimalAnswer, stop_of}
use Rattle.auc_threads.specs.declared.phase.PhaseEnd.{PhaseEnd}
use Rattle.auc_threads.specs.declared.settling.Trails.{Trails}
use Rattle.auc_threads.specs.declared.verdict.Verdict.{Verdict}

abbrev pub has_trails : Option Trails → Bool
has_trails (Some trails) = true
has_trails None = false

-- the phase has its trails, if they are to be kept
abbrev pub is_settled : Limits → PhaseEnd → Bool
is_settled limits p = (limits.audit == 0) || has_trails p.trails

abbrev pub stopped_by : Result Reason Guard → Verdict
stopped_by (Ok reason) = Verdict.Stopped reason
stopped_by (Err guard) = Verdict.Broken guard

-- the verdict, by whether the phase is settled, and by its end
abbrev pub verdict : Bool → Option End → Verdict
verdict false end = Verdict.Broken Guard.Settle
verdict true None = Verdict.Broken Guard.Stall
verdict true (Some End.All) = Verdict.Sold
verdict true (Some (End.Stopped why)) = stopped_by (stop_of why)

abbrev pub verdict_of : Limits → PhaseEnd → Verdict
verdict_of limits p = verdict (is_settled limits p) p.end

-- The answer that a last phase with these holders and prices decides. It is that the holders' arcs cost least at these
-- prices, or a bracket with the dual bound of these prices, or the guard.
abbrev pub Decides : Problem → Gathered → Verdict → Answer → Type 0
Decides p g Verdict.Sold answer = IsOptimalAnswer p g.holders.items g.prices.items answer
Decides p g (Verdict.Stopped reason) answer = IsBracketAnswer p reason g.holders.items g.prices.items answer
Decides p g (Verdict.Broken guard) answer = answer ≡ Answer.Broken guard
