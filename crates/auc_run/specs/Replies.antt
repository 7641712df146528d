-- The replies that a job tells: what the bytes of a script bear out.
use Rattle.std.specs.Prelude.{ℕ, List, Option, Result, Ok, Err, ℤ}
use Rattle.auc_mail.specs.declared.call.Reply.{Reply}
use Rattle.auc_run.specs.declared.refusal.Refusal.{Refusal}
use Rattle.auc_run.specs.declared.refusal.Refusal.TheVariants.{NotRead, NoProblem, NoCertificate, Invalid, NoStart, NoScript, NoMemory as NoMemoryForJob, NoThreads}
use Rattle.auc_script.specs.declared.script.Script.{Script}
use Rattle.auc_script.specs.Script.{ReadsAsScript}
use Rattle.auc_script.specs.Replies.{AreRepliesTo}
use Rattle.auc_run.specs.Problems.{BearOutInput, HasFile}

-- The bytes of a script bear the replies out, or the refusal. Of a read that failed and of want of memory nothing is
-- known.
abbrev pub BearOutReplies : List ℕ → Result (List (Reply ℤ)) Refusal → Type 0
BearOutReplies file (Ok replies) = (s : Script) × ReadsAsScript file (Ok s) × AreRepliesTo s replies
BearOutReplies file (Err (NoScript error)) = ReadsAsScript file (Err error)
BearOutReplies file (Err (NotRead fault)) = BearOutInput file fault
BearOutReplies file (Err (NoProblem error)) = ⊥
BearOutReplies file (Err (NoCertificate error)) = ⊥
BearOutReplies file (Err (Invalid error)) = ⊥
BearOutReplies file (Err (NoStart error)) = ⊥
BearOutReplies file (Err NoMemoryForJob) = ⊥
BearOutReplies file (Err NoThreads) = ⊥

-- replies on what a reader has
abbrev pub AreReplies : Option (List ℕ) → Result (List (Reply ℤ)) Refusal → Type 0
AreReplies reader replies = HasFile reader (λ file. BearOutReplies file replies)
