-- Which verdicts are right for a problem and a certificate, and for the bytes of both. A verdict is what a valid claim
-- says, or a refusal.
use Rattle.std.specs.Prelude.{◌≡◌, ℕ, List, length, Option, Result, Ok, Err, ⊤}
use Rattle.auc_graph.specs.Problem.{Problem}
use Rattle.auc_graph.specs.Memory.{AnswersUnless}
use Rattle.auc_claim.specs.declared.cert.CertParts.{CertParts}
use Rattle.auc_claim.specs.declared.cert.CertParts.TheVariants.{Optimal, Bracket, Infeasible}
use Rattle.auc_claim.specs.declared.refused.CertRefused.{CertRefused}
use Rattle.auc_claim.specs.declared.refused.CertRefused.TheVariants.{NoMemory as NoMemoryToCheck}
use Rattle.auc_cert.specs.declared.text_error.CertTextError.TheVariants.{Line, NoMemory as NoMemoryForText}
use Rattle.auc_claim.specs.Claim.{fault_of, IsAllowed, IsVerdict as IsVerdictOn}
use Rattle.auc_run.specs.Claims.{IsBadLineFor, IsClaimFor}
use Rattle.auc_run.specs.declared.command.Sizes.{Sizes}
use Rattle.auc_run.specs.declared.refusal.Refusal.{Refusal}
use Rattle.auc_run.specs.declared.refusal.Refusal.TheVariants.{NotRead, NoProblem, NoCertificate, Invalid, NoStart, NoScript, NoMemory as NoMemoryForJob, NoThreads}
use Rattle.auc_run.specs.declared.valid.Valid.{Valid}
use Rattle.auc_run.specs.Problems.{BearOutInput, HaveFiles, IsProblemOf, ReadsAsProblem}

-- what a claim says, in short
abbrev pub said_by : CertParts → Valid
said_by (Optimal cost choice prices) = Valid.Optimal cost
said_by (Bracket reason lower cost choice prices) = Valid.Bracket lower cost
said_by (Infeasible persons objects) = Valid.Infeasible (length persons) (length objects)

-- a check answers this, unless memory ran out
abbrev pub IsCheckOf : Problem → CertParts → Result ⊤ CertRefused → Type 0
IsCheckOf p c answer = AnswersUnless NoMemoryToCheck (λ x. x) answer (IsVerdictOn (fault_of p c))

-- A verdict on a problem and a claim. A valid claim is true: its picks are an assignment of this cost, and none costs
-- less, whatever the prices, or than its bound; or its persons together know fewer objects than they number. An invalid
-- one has this first fault.
abbrev pub Judges : Problem → CertParts → Result Valid Refusal → Type 0
Judges p c (Ok valid) = IsCheckOf p c (Ok tt) × IsAllowed p c × (said_by c ≡ valid)
Judges p c (Err (Invalid error)) = IsCheckOf p c (Err error)
Judges p c (Err (NotRead fault)) = ⊥
Judges p c (Err (NoProblem error)) = ⊥
Judges p c (Err (NoCertificate error)) = ⊥
Judges p c (Err (NoStart error)) = ⊥
Judges p c (Err (NoScript error)) = ⊥
Judges p c (Err NoMemoryForJob) = ⊥
Judges p c (Err NoThreads) = ⊥

-- The bytes of a problem and of a certificate bear a verdict out. Where a read of the certificate failed, or memory ran
-- out, nothing is known of it; too many reads have each taken a byte of it.
abbrev pub BearOut : Sizes → List ℕ → List ℕ → Result Valid Refusal → Type 0
BearOut sizes file cert (Ok valid) =
    (p : Problem) × (c : CertParts) × IsProblemOf sizes file p × IsClaimFor sizes.large cert c × Judges p c (Ok valid)
BearOut sizes file cert (Err (Invalid error)) =
    (p : Problem) × (c : CertParts) × IsProblemOf sizes file p × IsClaimFor sizes.large cert c × Judges p c (Err (Invalid error))
BearOut sizes file cert (Err (NoCertificate (Line k))) = (p : Problem) × IsProblemOf sizes file p × IsBadLineFor sizes.large cert k
BearOut sizes file cert (Err (NoCertificate NoMemoryForText)) = ⊤
BearOut sizes file cert (Err (NoProblem error)) = ReadsAsProblem sizes file (Err error)
BearOut sizes file cert (Err (NotRead fault)) = (p : Problem) × IsProblemOf sizes file p × BearOutInput cert fault
BearOut sizes file cert (Err (NoStart error)) = ⊥
BearOut sizes file cert (Err (NoScript error)) = ⊥
BearOut sizes file cert (Err NoMemoryForJob) = ⊥
BearOut sizes file cert (Err NoThreads) = ⊥

-- a verdict on what two readers have
abbrev pub IsVerdict : Sizes → Option (List ℕ) → Option (List ℕ) → Result Valid Refusal → Type 0
IsVerdict sizes first second verdict = HaveFiles first second (λ file cert. BearOut sizes file cert verdict)
