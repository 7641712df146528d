-- The outcome of a job, by what its own kind has found.
use Rattle.std.proofs.Common.{◌≡◌, ℕ, List, Option, Result, Ok, Err, ℤ, refl, sym, subst}
use Rattle.std.specs.Prelude.{IsErrAnd}
use Rattle.auc_mail.specs.declared.call.Reply.{Reply}
use Rattle.auc_answers.specs.declared.answer.Answer.{Answer}
use Rattle.auc_run.specs.declared.command.Job.{Job}
use Rattle.auc_run.specs.declared.command.Job.TheVariants.{Check, Hall, Mail}
use Rattle.auc_run.specs.declared.command.Sizes.{Sizes}
use Rattle.auc_run.specs.declared.command.SolveNumbers.{SolveNumbers}
use Rattle.auc_run.specs.declared.found.Found.{Found}
use Rattle.auc_run.specs.declared.refusal.Refusal.{Refusal}
use Rattle.auc_run.specs.declared.report.Report.{Report}
use Rattle.auc_run.specs.declared.report.Report.TheVariants.{Solved, Judged, Completed, Replied}
use Rattle.auc_run.specs.declared.valid.Valid.{Valid}
use Rattle.auc_run.specs.Completions.{IsFoundIn}
use Rattle.auc_run.specs.Replies.{AreReplies}
use Rattle.auc_run.specs.Said.{IsOutcome, reported}
use Rattle.auc_run.specs.Jobs.{solve_by}
use Rattle.auc_run.specs.Solutions.{Watched}
use Rattle.auc_run.specs.Starts.{IsSolvingIn}
use Rattle.auc_run.specs.Verdicts.{IsVerdict}
use Rattle.auc_run.proofs.ProblemLaws.{known, are_known}

module _ (w : Watched) (a b : Option (List ℕ)) where
  pub solved : (n : SolveNumbers) (answer : Result Answer Refusal) → IsSolvingIn w n a b answer → IsOutcome w (solve_by n) a b (reported Solved answer)
  solved n answer h = record { file = h.file; cert = h.cert; file_known = h.file_known; cert_known = h.cert_known; borne = (answer, h.borne, refl) }

  pub judged : (sizes : Sizes) (verdict : Result Valid Refusal) → IsVerdict sizes a b verdict → IsOutcome w (Check sizes.objects sizes.large) a b (reported Judged verdict)
  judged sizes verdict h = record { file = h.file; cert = h.cert; file_known = h.file_known; cert_known = h.cert_known; borne = (verdict, h.borne, refl) }

  pub completed : (sizes : Sizes) (found : Result Found Refusal) → IsFoundIn sizes a found → IsOutcome w (Hall sizes.objects sizes.large) a b (reported Completed found)
  completed sizes found h = record { file = h.file; cert = known b; file_known = h.known; cert_known = are_known b; borne = (found, h.borne, refl) }

  pub replied : (replies : Result (List (Reply ℤ)) Refusal) → AreReplies a replies → IsOutcome w Mail a b (reported Replied replies)
  replied replies h = record { file = h.file; cert = known b; file_known = h.known; cert_known = are_known b; borne = (replies, h.borne, refl) }

  -- an outcome that is this refusal
  pub refused : (job : Job) (r : Result Report Refusal) (e : Refusal) → IsErrAnd r (λ x. x ≡ e) → IsOutcome w job a b (Err e) → IsOutcome w job a b r
  refused job (Ok x) e p h = absurd p
  refused job (Err x) e p h = subst (λ (y : Refusal). IsOutcome w job a b (Err y)) (sym p) h
