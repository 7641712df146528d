-- Verdicts at the exits of a check.
use Rattle.std.proofs.Common.{◌≡◌, ◌≢◌, ◌≤◌, ℕ, List, length, Option, Result, Ok, Err, refl, sym, subst}
use Rattle.std.specs.Prelude.{IfSome, IsErrAnd}
use Rattle.auc_graph.specs.declared.limits.TheConstants.{MOST_READS}
use Rattle.auc_graph.specs.Problem.{Problem}
use Rattle.auc_run.specs.declared.command.Sizes.{Sizes}
use Rattle.auc_run.specs.declared.input.ReadFault.{ReadFault}
use Rattle.auc_run.specs.declared.input.ReadFault.TheVariants.{TooManyReads}
use Rattle.auc_run.specs.declared.refusal.Refusal.{Refusal}
use Rattle.auc_run.specs.declared.refusal.Refusal.TheVariants.{NotRead, NoProblem, NoCertificate, Invalid, NoStart, NoScript, NoMemory as NoMemoryForJob, NoThreads}
use Rattle.auc_run.specs.declared.valid.Valid.{Valid}
use Rattle.auc_run.specs.Verdicts.{IsVerdict}
use Rattle.auc_run.specs.Problems.{IsProblemIn}
use Rattle.auc_run.proofs.ProblemLaws.{known, are_known, unread}

-- a verdict that is an error
turned : (sizes : Sizes) (a b : Option (List ℕ)) (r : Result Valid Refusal) (e : Refusal) → IsErrAnd r (λ x. x ≡ e) → IsVerdict sizes a b (Err e) → IsVerdict sizes a b r
turned sizes a b (Ok z) e p v = absurd p
turned sizes a b (Err x) e p v = subst (λ (y : Refusal). IsVerdict sizes a b (Err y)) (sym p) v

-- the problem was read, and the certificate was not
pub input_fails : (sizes : Sizes) (a b : Option (List ℕ)) (r : Result Valid Refusal) (problem : Problem) (e : ReadFault) → IsProblemIn sizes a (Ok problem) → (e ≡ TooManyReads → IfSome b (λ bytes. MOST_READS ≤ length bytes))
    → IsErrAnd r (λ x. x ≡ NotRead e) → IsVerdict sizes a b r
input_fails sizes a b r problem e h many p =
    let cert = unread b e many in
    turned sizes a b r (NotRead e) p (record { file = h.file; cert = cert.file; file_known = h.known; cert_known = cert.known; borne = (problem, h.borne, cert.borne) })

-- no problem was read, and the certificate was left unread
not_read : (sizes : Sizes) (a b : Option (List ℕ)) (e : Refusal) → IsProblemIn sizes a (Err e) → e ≢ NoMemoryForJob → IsVerdict sizes a b (Err e)
not_read sizes a b (NotRead fault) h other = absurd h.borne
not_read sizes a b (NoProblem error) h other = record { file = h.file; cert = known b; file_known = h.known; cert_known = are_known b; borne = h.borne }
not_read sizes a b (NoCertificate error) h other = absurd h.borne
not_read sizes a b (Invalid error) h other = absurd h.borne
not_read sizes a b (NoStart error) h other = absurd h.borne
not_read sizes a b (NoScript error) h other = absurd h.borne
not_read sizes a b NoMemoryForJob h other = absurd (other refl)
not_read sizes a b NoThreads h other = absurd h.borne

pub not_judged : (sizes : Sizes) (a b : Option (List ℕ)) (r : Result Valid Refusal) (e : Refusal) → IsProblemIn sizes a (Err e) → e ≢ NoMemoryForJob → IsErrAnd r (λ x. x ≡ e) → IsVerdict sizes a b r
not_judged sizes a b r e h other p = turned sizes a b r e p (not_read sizes a b e h other)
