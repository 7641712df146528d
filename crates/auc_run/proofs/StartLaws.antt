-- A solve that starts from an old certificate: what is answered at each exit.
use Rattle.std.proofs.lemmas.Bool.{false≢true}
use Rattle.std.proofs.Common.{inl, inr, ◌≡◌, ◌≢◌, ◌≤◌, ℕ, zero, suc, arith, Bool, true, false, List, length, ℤ, Option, Some, Result, Ok, Err, refl, sym, subst}
use Rattle.std.specs.Prelude.{IfSome, IsErrAnd, not}
use Rattle.auc_graph.specs.declared.limits.TheConstants.{MOST_READS}
use Rattle.auc_graph.specs.Problem.{Problem}
use Rattle.auc_claim.specs.declared.cert.CertParts.{CertParts}
use Rattle.auc_claim.specs.declared.start_error.StartError.{StartError}
use Rattle.auc_claim.specs.declared.start_error.StartError.TheVariants.{NotSquare, NoPrices, OtherSize, TooHigh, NoMemory as NoMemoryToStart}
use Rattle.auc_answers.specs.declared.answer.Answer.{Answer}
use Rattle.auc_run.specs.declared.input.ReadFault.{ReadFault}
use Rattle.auc_run.specs.declared.input.ReadFault.TheVariants.{TooManyReads}
use Rattle.auc_run.specs.declared.refusal.Refusal.{Refusal}
use Rattle.auc_run.specs.declared.refusal.Refusal.TheVariants.{NotRead, NoProblem, NoCertificate, Invalid, NoStart, NoScript, NoMemory as NoMemoryForJob, NoThreads}
use Rattle.auc_run.specs.declared.start.Started.{Started}
use Rattle.auc_run.specs.Problems.{AreKnown, IsProblemIn, IsProblemOf}
use Rattle.auc_threads.specs.declared.phase.PhaseEnd.{PhaseEnd}
use Rattle.auc_threads.specs.Solved.{IsSolvedBy, IsThreadAnswer}
use Rattle.auc_answers.specs.Answers.{IsAnswer}
use Rattle.auc_direct.specs.Endings.{IsLimitedFrom, IsLimitedUnless}
use Rattle.auc_world.specs.Chain.{IsOfRun}
use Rattle.auc_run.specs.declared.command.Sizes.{Sizes}
use Rattle.auc_run.specs.declared.command.SolveNumbers.{SolveNumbers}
use Rattle.auc_run.specs.Solutions.{BearOutMessages, BearOutSolved, BearOutThreads, IsDirectIn, IsHeeded, IsLimitedOr, IsSolvedByThreadsIn, IsSolvedIn, Watched, limits_of, thread_limits_of}
use Rattle.auc_run.specs.Starts.{AnswersFrom, BearOutFrom, BearOutNoStart, BearOutSolving, BearOutStartError, IsSolvedFromIn, IsSolvingIn, IsStartIn, MayLackThreads, MessagesFrom, start_for}
use Rattle.auc_run.specs.Claims.{IsClaimFor}
use Rattle.auc_run.proofs.ProblemLaws.{known, are_known, unread}

-- ---- reading

-- no start, for this reason
not_started : (direct : Bool) (sizes : Sizes) (a b : Option (List ℕ)) (r : Result Started Refusal) (e : Refusal) → IsErrAnd r (λ x. x ≡ e) → IsStartIn direct sizes a b (Err e) → IsStartIn direct sizes a b r
not_started direct sizes a b (Ok s) e p h = absurd p
not_started direct sizes a b (Err x) e p h = subst (λ (y : Refusal). IsStartIn direct sizes a b (Err y)) (sym p) h

-- no problem was read
no_problem : (direct : Bool) (sizes : Sizes) (a b : Option (List ℕ)) (e : Refusal) → IsProblemIn sizes a (Err e) → e ≢ NoMemoryForJob → IsStartIn direct sizes a b (Err e)
no_problem direct sizes a b (NotRead fault) h other = absurd h.borne
no_problem direct sizes a b (NoProblem error) h other = record { file = h.file; cert = known b; file_known = h.known; cert_known = are_known b; borne = h.borne }
no_problem direct sizes a b (NoCertificate error) h other = absurd h.borne
no_problem direct sizes a b (Invalid error) h other = absurd h.borne
no_problem direct sizes a b (NoStart error) h other = absurd h.borne
no_problem direct sizes a b (NoScript error) h other = absurd h.borne
no_problem direct sizes a b NoMemoryForJob h other = absurd (other refl)
no_problem direct sizes a b NoThreads h other = absurd h.borne

pub problem_refused : (direct : Bool) (sizes : Sizes) (a b : Option (List ℕ)) (r : Result Started Refusal) (e : Refusal) → IsProblemIn sizes a (Err e) → e ≢ NoMemoryForJob → IsErrAnd r (λ x. x ≡ e) → IsStartIn direct sizes a b r
problem_refused direct sizes a b r e h other p = not_started direct sizes a b r e p (no_problem direct sizes a b e h other)

-- the problem was read, and the certificate was not
pub input_fails : (direct : Bool) (sizes : Sizes) (a b : Option (List ℕ)) (r : Result Started Refusal) (problem : Problem) (e : ReadFault) → IsProblemIn sizes a (Ok problem) → (e ≡ TooManyReads → IfSome b (λ bytes. MOST_READS ≤ length bytes))
    → IsErrAnd r (λ x. x ≡ NotRead e) → IsStartIn direct sizes a b r
input_fails direct sizes a b r problem e h many p =
    let cert = unread b e many in
    not_started direct sizes a b r (NotRead e) p (record { file = h.file; cert = cert.file; file_known = h.known; cert_known = cert.known; borne = (problem, h.borne, cert.borne) })

-- both were read, and the prices can't start a solve
no_prices : (direct : Bool) (sizes : Sizes) (file cert : List ℕ) (p : Problem) (claim : CertParts) (e : StartError) → IsProblemOf sizes file p → IsClaimFor sizes.large cert claim → (e ≢ NoMemoryToStart → Err e ≡ start_for direct p claim) → BearOutStartError direct sizes file cert e
no_prices direct sizes file cert p claim NotSquare a b is = record { p = p; claim = claim; problem = a; certificate = b; error_is = sym (is (λ e. cc)) }
no_prices direct sizes file cert p claim NoPrices a b is = record { p = p; claim = claim; problem = a; certificate = b; error_is = sym (is (λ e. cc)) }
no_prices direct sizes file cert p claim OtherSize a b is = record { p = p; claim = claim; problem = a; certificate = b; error_is = sym (is (λ e. cc)) }
no_prices direct sizes file cert p claim (TooHigh object) a b is = record { p = p; claim = claim; problem = a; certificate = b; error_is = sym (is (λ e. cc)) }
no_prices direct sizes file cert p claim NoMemoryToStart a b is = tt

pub prices_refused : (direct : Bool) (sizes : Sizes) (a b : Option (List ℕ)) (r : Result Started Refusal) (p : Problem) (bytes : List ℕ) (claim : CertParts) (e : StartError) → IsProblemIn sizes a (Ok p) → AreKnown b bytes → IsClaimFor sizes.large bytes claim
    → (e ≢ NoMemoryToStart → Err e ≡ start_for direct p claim) → IsErrAnd r (λ x. x ≡ NoStart e) → IsStartIn direct sizes a b r
prices_refused direct sizes a b r p bytes claim e h k spells is refused =
    not_started direct sizes a b r (NoStart e) refused (record { file = h.file; cert = bytes; file_known = h.known; cert_known = k; borne = no_prices direct sizes h.file bytes p claim e h.borne spells is })

-- ---- solving

-- a solve with workers goes by messages
pub has_messages : (direct : Bool) (workers : ℕ) → (direct ≡ true → workers ≡ 0) → 1 ≤ workers → direct ≡ false
has_messages true workers alone some = absurd (omega (arith, alone refl, some))
has_messages false workers alone some = refl

pub is_direct : (direct : Bool) → not direct ≡ false → direct ≡ true
is_direct true e = refl
is_direct false e = absurd (false≢true (sym e))

pub answered : (w : Watched) (n : SolveNumbers) (a b : Option (List ℕ)) (s : Started) (answer : Answer)
    → IsStartIn n.direct n.sizes a b (Ok s) → AnswersFrom n.direct w n s.problem s.prices.items answer → IsSolvedFromIn w n a b (Ok answer)
answered w n a b s answer h is = record { file = h.file; cert = h.cert; file_known = h.file_known; cert_known = h.cert_known; borne = (s.problem, s.prices.items, h.borne, is) }

no_start_borne : (w : Watched) (n : SolveNumbers) (file cert : List ℕ) (e : Refusal) → BearOutNoStart n.direct n.sizes file cert e → BearOutFrom w n file cert (Err e)
no_start_borne w n file cert (NotRead fault) h = h
no_start_borne w n file cert (NoProblem error) h = h
no_start_borne w n file cert (NoCertificate error) h = h
no_start_borne w n file cert (Invalid error) h = h
no_start_borne w n file cert (NoStart error) h = h
no_start_borne w n file cert (NoScript error) h = h
no_start_borne w n file cert NoMemoryForJob h = absurd h
no_start_borne w n file cert NoThreads h = absurd h

pub unstarted : (w : Watched) (n : SolveNumbers) (a b : Option (List ℕ)) (r : Result Answer Refusal) (e : Refusal) → IsStartIn n.direct n.sizes a b (Err e) → IsErrAnd r (λ x. x ≡ e) → IsSolvedFromIn w n a b r
unstarted w n a b (Ok x) e h p = absurd p
unstarted w n a b (Err x) e h p =
    subst (λ (y : Refusal). IsSolvedFromIn w n a b (Err y)) (sym p) (record { file = h.file; cert = h.cert; file_known = h.file_known; cert_known = h.cert_known; borne = no_start_borne w n h.file h.cert e h.borne })

-- what holds of a direct solve, by messages alone, and in threads
pub direct_solve : (direct : Bool) (w : Watched) (n : SolveNumbers) (p : Problem) (start : List ℤ) (answer : Answer) → direct ≡ true
    → IsAnswer p answer × IsHeeded w answer (IsLimitedFrom p n.bids start answer) → AnswersFrom direct w n p start answer
direct_solve true w n p start answer e h = h
direct_solve false w n p start answer e h = absurd (false≢true e)

pub by_messages_from : (direct : Bool) (w : Watched) (n : SolveNumbers) (p : Problem) (start : List ℤ) (answer : Answer) → direct ≡ false
    → MessagesFrom n.workers n p start answer → AnswersFrom direct w n p start answer
by_messages_from true w n p start answer e h = absurd (false≢true (sym e))
by_messages_from false w n p start answer e h = h

pub without_threads_from : (k : ℕ) (n : SolveNumbers) (p : Problem) (start : List ℤ) (answer : Answer) → k ≡ 0 → IsAnswer p answer
    → IsOfRun p (limits_of n.bids) (Some start) answer → MessagesFrom k n p start answer
without_threads_from zero n p start answer none is run = (is, run)
without_threads_from (suc k) n p start answer none is run = absurd (omega (arith, none))

pub in_threads_from : (k : ℕ) (n : SolveNumbers) (p : Problem) (start : List ℤ) (phases : List PhaseEnd) (answer : Answer) → 1 ≤ k
    → IsThreadAnswer p answer → IsSolvedBy p (thread_limits_of n) (Some start) phases answer → MessagesFrom k n p start answer
in_threads_from zero n p start phases answer some is by = absurd (omega (arith, some))
in_threads_from (suc k) n p start phases answer some is by = (is, (phases, by))

pub may_lack : (k : ℕ) → 1 ≤ k → MayLackThreads k
may_lack zero s = absurd (omega (arith, s))
may_lack (suc k) s = tt

-- ---- from nothing, the second reader is not looked at

without_threads : (k : ℕ) (n : SolveNumbers) (file : List ℕ) (answer : Result Answer Refusal) → k ≡ 0 → BearOutSolved n file answer
    → BearOutMessages k n file answer
without_threads zero n file answer none h = h
without_threads (suc k) n file answer none h = absurd (omega (arith, none))

in_threads : (k : ℕ) (n : SolveNumbers) (file : List ℕ) (answer : Result Answer Refusal) → 1 ≤ k → BearOutThreads n file answer
    → BearOutMessages k n file answer
in_threads zero n file answer some h = absurd (omega (arith, some))
in_threads (suc k) n file answer some h = h

module _ (w : Watched) (n : SolveNumbers) (a b : Option (List ℕ)) (answer : Result Answer Refusal) (fresh : n.from ≡ false) where
  from_nothing : (file : List ℕ) → AreKnown a file → BearOutSolving false n.direct w n file (known b) answer → IsSolvingIn w n a b answer
  from_nothing file is h =
      record { file = file; cert = known b; file_known = is; cert_known = are_known b; borne = subst (λ (from : Bool). BearOutSolving from n.direct w n file (known b) answer) (sym fresh) h }

  by_messages : n.direct ≡ false → (file : List ℕ) → AreKnown a file → BearOutMessages n.workers n file answer → IsSolvingIn w n a b answer
  by_messages messages file is h =
      from_nothing file is (subst (λ (direct : Bool). BearOutSolving false direct w n file (known b) answer) (sym messages) h)

  pub plainly : n.direct ≡ false → n.workers ≡ 0 → IsSolvedIn n a answer → IsSolvingIn w n a b answer
  plainly messages none h = by_messages messages h.file h.known (without_threads n.workers n h.file answer none h.borne)

  pub by_threads : n.direct ≡ false → 1 ≤ n.workers → IsSolvedByThreadsIn n a answer → IsSolvingIn w n a b answer
  by_threads messages some h = by_messages messages h.file h.known (in_threads n.workers n h.file answer some h.borne)

  pub directly : n.direct ≡ true → IsDirectIn w n a answer → IsSolvingIn w n a b answer
  directly direct h =
      from_nothing h.file h.known (subst (λ (x : Bool). BearOutSolving false x w n h.file (known b) answer) (sym direct) h.borne)

-- ---- from a start

pub from_start : (w : Watched) (n : SolveNumbers) (a b : Option (List ℕ)) (answer : Result Answer Refusal) → n.from ≡ true
    → IsSolvedFromIn w n a b answer → IsSolvingIn w n a b answer
from_start w n a b answer from h =
    record { file = h.file; cert = h.cert; file_known = h.file_known; cert_known = h.cert_known; borne = subst (λ (x : Bool). BearOutSolving x n.direct w n h.file h.cert answer) (sym from) h.borne }

-- ---- who watches

-- he has stopped the run, or hasn't
pub limited_or : (before stopped : Bool) (answer : Answer) (Holds : Type 0) → IsLimitedUnless before stopped answer Holds
    → IsLimitedOr stopped answer Holds
limited_or before true answer Holds (inl told) = inr told.1
limited_or before false answer Holds (inl told) = absurd (false≢true told.0)
limited_or before true answer Holds (inr is) = inl is.1
limited_or before false answer Holds (inr is) = is.1
