-- The ending of a run, by its answer.
use Rattle.std.proofs.Common.{Bool, Err, Ok, Result, inl, inr, ℕ, ℤ, arith}
use Rattle.std.specs.Prelude.{IfErr, ◌≤ℤ◌}
use Rattle.std.proofs.lemmas.Int.{ints}
use Rattle.auc_claim.specs.declared.cert.CertParts.{CertParts}
use Rattle.auc_graph.specs.Problem.{Problem}
use Rattle.auc_answers.specs.declared.answer.Answer.{Answer}
use Rattle.auc_direct.specs.Endings.{IsLimited, IsLimitedBy, IsLimitedUnless}

limited_by : (p : Problem) (bids : ℕ) (begun after : ℤ) (cert : CertParts) → begun ≤ℤ after → IsLimitedBy p bids after cert → IsLimitedBy p bids begun cert
limited_by p bids begun after (CertParts.Optimal cost choice prices) le h = tt
limited_by p bids begun after (CertParts.Infeasible persons objects) le h = tt
limited_by p bids begun after (CertParts.Bracket reason lower cost choice prices) le (t, r, first, of, same, up, limit) = (t, r, first, of, same, omega (arith, ints, le, up), limit)

-- a sum that has risen this far above another has risen as far above a smaller one
pub limited_earlier : (p : Problem) (bids : ℕ) (begun after : ℤ) (answer : Answer) → begun ≤ℤ after → IsLimited p bids after answer → IsLimited p bids begun answer
limited_earlier p bids begun after (Answer.Optimal cert) le h = tt
limited_earlier p bids begun after (Answer.Infeasible cert) le h = tt
limited_earlier p bids begun after (Answer.Bracket cert) le h = limited_by p bids begun after cert le h
limited_earlier p bids begun after (Answer.Broken guard) le h = tt

-- the same of a run under a watch
pub limited_earlier_unless : (before after : Bool) (p : Problem) (bids : ℕ) (begun later : ℤ) (answer : Answer) → begun ≤ℤ later → IsLimitedUnless before after answer (IsLimited p bids later answer) → IsLimitedUnless before after answer (IsLimited p bids begun answer)
limited_earlier_unless before after p bids begun later answer le (inl told) = inl told
limited_earlier_unless before after p bids begun later answer le (inr is) = inr (is.0, limited_earlier p bids begun later answer le is.1)

-- ---- what is known of a result

pub of_halts : {X E : Type 0} (P Q : E → Type 0) (r : Result X E) → ((e : E) → P e → Q e) → IfErr r P → IfErr r Q
of_halts P Q (Ok x) f h = tt
of_halts P Q (Err e) f h = f e h
