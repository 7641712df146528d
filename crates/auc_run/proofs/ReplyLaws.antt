-- Replies at the exits of a mail.
use Rattle.std.proofs.Common.{◌≡◌, ◌≤◌, ℕ, List, length, Option, Result, Ok, Err, ℤ, sym, subst}
use Rattle.std.specs.Prelude.{IfSome, IsErrAnd}
use Rattle.auc_graph.specs.declared.limits.TheConstants.{MOST_READS}
use Rattle.auc_mail.specs.declared.call.Reply.{Reply}
use Rattle.auc_run.specs.declared.input.ReadFault.{ReadFault}
use Rattle.auc_run.specs.declared.input.ReadFault.TheVariants.{TooManyReads}
use Rattle.auc_run.specs.declared.refusal.Refusal.{Refusal}
use Rattle.auc_run.specs.declared.refusal.Refusal.TheVariants.{NotRead}
use Rattle.auc_run.specs.Replies.{AreReplies}
use Rattle.auc_run.proofs.ProblemLaws.{unread}

pub input_fails : (a : Option (List ℕ)) (r : Result (List (Reply ℤ)) Refusal) (e : ReadFault) → (e ≡ TooManyReads → IfSome a (λ bytes. MOST_READS ≤ length bytes)) → IsErrAnd r (λ x. x ≡ NotRead e) → AreReplies a r
input_fails a (Ok x) e many p = absurd p
input_fails a (Err x) e many p = subst (λ (y : Refusal). AreReplies a (Err y)) (sym p) (unread a e many)
