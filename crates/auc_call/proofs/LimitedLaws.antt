-- Where a direct run starts, and what is told of a limit or a watch that has stopped it.
use Rattle.std.proofs.Common.{Bool, true, false, ◌≡◌, ◌≢◌, ◌⊎◌, inl, inr, ℕ, ◌==◌, List, length, [], ◌∷◌, refl, sym, ap, subst, ◌∙◌, arith}
use Rattle.std.proofs.lemmas.Bool.{false≢true}
use Rattle.std.specs.Prelude.{ℤ, pos, Result, Ok, Err, IfOk}
use Rattle.std.proofs.lemmas.Bool.Decides.{nat_tests}
use Rattle.auc_graph.specs.Problem.{Problem}
use Rattle.auc_claim.specs.declared.reason.Reason.{Reason}
use Rattle.auc_claim.specs.declared.cert.CertParts.{CertParts}
use Rattle.auc_answers.specs.declared.answer.Answer.{Answer}
use Rattle.auc_answers.specs.Answers.{IsAnswer}
use Rattle.auc_direct.specs.Endings.{IsAsked, IsLimitedFirst, IsLimitedFrom, IsLimitedUnless, IsStopTold}
use Rattle.auc_call.specs.declared.found.Found.{Found}
use Rattle.auc_call.specs.declared.solved.Solved.{Solved}
use Rattle.auc_call.specs.declared.solved.Solved.TheVariants.{Optimal, Infeasible, Bracket}
use Rattle.auc_call.specs.declared.solved.Failed.{Failed}
use Rattle.auc_call.specs.declared.solved.Failed.TheVariants.{Sizes, Fault, Start, NoMemory}
use Rattle.auc_call.specs.Codes.{limit_kind, stop_kind}
use Rattle.auc_call.specs.declared.driver.Driver.TheVariants.{Direct}
use Rattle.auc_call.specs.Drivers.{IsAnswerBy, IsAskedSolve, IsLimitedSolve}
use Rattle.auc_call.specs.Limited.{IsLimitAt, IsLimitTold, IsLimitedIn, UnlessStopped}
use Rattle.auc_call.specs.Memory.{Memory}
use Rattle.auc_call.specs.Running.{IsAnswerWritten, IsWritten}
use Rattle.auc_call.specs.Telling.{solve_status, solve_found}
use Rattle.auc_call.proofs.ToldLaws.{apart}

-- a watch that never says no has stopped nothing
pub never_stopped : {Stop Holds : Type 0} → UnlessStopped false Stop Holds → Holds
never_stopped (inl told) = absurd (false≢true told.0)
never_stopped (inr holds) = holds

-- what a run under a watch says where a limit alone may leave a bracket
unless : (before stopped : Bool) (answer : Answer) (Holds : Type 0) → IsLimitedUnless before stopped answer Holds → UnlessStopped stopped (IsStopTold answer) Holds
unless before stopped answer Holds (inl told) = inl told
unless before stopped answer Holds (inr holds) = inr holds.1

pub limited_first : {E : Type 0} (p : Problem) (start : List ℤ) (bids : ℕ) (before stopped asked : Bool) (r : Result Answer E) → (length start == 0) ≡ true → IfOk r (λ a. IsLimitedUnless before stopped a (IsLimitedFirst p bids a)) → IfOk r (IsAsked asked) → IfOk r (IsAnswerBy Direct p start bids stopped asked)
limited_first p [] bids before stopped asked (Ok answer) none h is = (unless before stopped answer (IsLimitedFirst p bids answer) h, is)
limited_first p [] bids before stopped asked (Err e) none h is = h
limited_first p (price ∷ prices) bids before stopped asked r none h is = absurd (grind (arith, nat_tests))

pub limited_from : {E : Type 0} (p : Problem) (start : List ℤ) (bids : ℕ) (before stopped asked : Bool) (r : Result Answer E) → start ≢ [] → IfOk r (λ a. IsLimitedUnless before stopped a (IsLimitedFrom p bids start a)) → IfOk r (IsAsked asked) → IfOk r (IsAnswerBy Direct p start bids stopped asked)
limited_from p [] bids before stopped asked r some h is = absurd (some refl)
limited_from p (price ∷ prices) bids before stopped asked (Ok answer) some h is = (unless before stopped answer (IsLimitedFrom p bids (price ∷ prices) answer) h, is)
limited_from p (price ∷ prices) bids before stopped asked (Err e) some h is = h

-- what was written of a bracket's certificate is a bracket of the same limit, or of the stop
limit_at : (p : Problem) (start : List ℤ) (bids : ℕ) (stopped : Bool) (cert : CertParts) (after : Memory) (reason : Reason) (lower cost : ℤ) → UnlessStopped stopped (IsStopTold (Answer.Bracket cert)) (IsLimitedIn p start bids (Answer.Bracket cert))
    → IsWritten p cert after (Bracket reason lower cost) → UnlessStopped stopped (reason ≡ Reason.Bids) (IsLimitAt p start bids after.choice after.prices reason lower cost)
limit_at p start bids stopped (CertParts.Optimal c picks prices) after reason lower cost limited written = absurd written
limit_at p start bids stopped (CertParts.Infeasible persons objects) after reason lower cost limited written = absurd written
limit_at p start bids stopped (CertParts.Bracket r l c picks prices) after reason lower cost (inl told) written = let reason_is : reason ≡ r = written.2 in inl (told.0, reason_is ∙ told.1)
limit_at p start bids stopped (CertParts.Bracket r l c picks prices) after reason lower cost (inr limited) written =
    let prices_are : after.prices ≡ prices = written.1 in
    let reason_is : reason ≡ r = written.2 in
    let lower_is : lower ≡ l = written.3 in
    let cost_is : cost ≡ c = written.4 in
    let e : CertParts.Bracket r l c picks prices ≡ CertParts.Bracket reason lower cost picks after.prices = cc in
    inr (record { picks = picks; at = written.0; limited = subst (λ (x : CertParts). IsLimitedIn p start bids (Answer.Bracket x)) e limited })

pub limited_solve : (p : Problem) (start : List ℤ) (bids : ℕ) (stopped : Bool) (answer : Answer) (after : Memory) (solved : Solved) → IsAnswer p answer → UnlessStopped stopped (IsStopTold answer) (IsLimitedIn p start bids answer) → IsAnswerWritten p answer after solved
    → IsLimitedSolve p start bids stopped after solved
limited_solve p start bids stopped answer after (Optimal cost) is limited written = tt
limited_solve p start bids stopped answer after (Infeasible persons objects) is limited written = tt
limited_solve p start bids stopped (Answer.Optimal cert) after (Bracket reason lower cost) is limited written = absurd (subst (λ (x : CertParts). IsWritten p x after (Bracket reason lower cost)) is.is written)
limited_solve p start bids stopped (Answer.Infeasible cert) after (Bracket reason lower cost) is limited written = absurd (subst (λ (x : CertParts). IsWritten p x after (Bracket reason lower cost)) is.is written)
limited_solve p start bids stopped (Answer.Bracket cert) after (Bracket reason lower cost) is limited written = limit_at p start bids stopped cert after reason lower cost limited written
limited_solve p start bids stopped (Answer.Broken guard) after (Bracket reason lower cost) is limited written = absurd is

-- and told so
limit_told : (p : Problem) (start : List ℤ) (bids : ℕ) (stopped : Bool) (after : Memory) (reason : Reason) (lower cost : ℤ) → UnlessStopped stopped (reason ≡ Reason.Bids) (IsLimitAt p start bids after.choice after.prices reason lower cost)
    → UnlessStopped stopped (limit_kind reason ≡ stop_kind) (IsLimitTold p start bids after.choice after.prices (limit_kind reason) lower cost)
limit_told p start bids stopped after reason lower cost (inl told) = inl (told.0, ap limit_kind told.1)
limit_told p start bids stopped after reason lower cost (inr limit) = inr (record { reason = reason; kind_is = refl; limit = limit })

pub told_limit : (p : Problem) (start : List ℤ) (bids : ℕ) (stopped : Bool) (after : Memory) (r : Result Solved Failed) (status : ℤ) (old new : Found) → IfOk r (IsLimitedSolve p start bids stopped after) → status ≡ solve_status r → new ≡ solve_found r old
    → status ≡ pos 4 → UnlessStopped stopped (new.kind ≡ stop_kind) (IsLimitTold p start bids after.choice after.prices new.kind new.lower new.cost)
told_limit p start bids stopped after (Ok (Optimal cost)) status old new h s f four = absurd (omega (arith, apart 0 4 (sym s ∙ four)))
told_limit p start bids stopped after (Ok (Infeasible persons objects)) status old new h s f four = absurd (omega (arith, apart 3 4 (sym s ∙ four)))
told_limit p start bids stopped after (Ok (Bracket reason lower cost)) status old new h s f four =
    subst (λ (x : Found). UnlessStopped stopped (x.kind ≡ stop_kind) (IsLimitTold p start bids after.choice after.prices x.kind x.lower x.cost)) (sym f) (limit_told p start bids stopped after reason lower cost h)
told_limit p start bids stopped after (Err Sizes) status old new h s f four = absurd (omega (arith, apart 2 4 (sym s ∙ four)))
told_limit p start bids stopped after (Err (Fault fault)) status old new h s f four = absurd (omega (arith, apart 5 4 (sym s ∙ four)))
told_limit p start bids stopped after (Err (Start fault)) status old new h s f four = absurd (omega (arith, apart 7 4 (sym s ∙ four)))
told_limit p start bids stopped after (Err NoMemory) status old new h s f four = absurd (omega (arith, apart 6 4 (sym s ∙ four)))

-- ---- the watch was asked

pub asked_solve : (asked : Bool) (p : Problem) (answer : Answer) (after : Memory) (solved : Solved) → IsAnswer p answer → IsAsked asked answer → IsAnswerWritten p answer after solved → IsAskedSolve asked solved
asked_solve asked p answer after (Infeasible persons objects) is h written = tt
asked_solve asked p (Answer.Optimal cert) after (Optimal cost) is h written = h
asked_solve asked p (Answer.Optimal cert) after (Bracket reason lower cost) is h written = h
asked_solve asked p (Answer.Bracket cert) after (Optimal cost) is h written = h
asked_solve asked p (Answer.Bracket cert) after (Bracket reason lower cost) is h written = h
asked_solve asked p (Answer.Infeasible cert) after (Optimal cost) is h written = absurd (subst (λ (x : CertParts). IsWritten p x after (Optimal cost)) is.is written)
asked_solve asked p (Answer.Infeasible cert) after (Bracket reason lower cost) is h written = absurd (subst (λ (x : CertParts). IsWritten p x after (Bracket reason lower cost)) is.is written)
asked_solve asked p (Answer.Broken guard) after (Optimal cost) is h written = absurd is
asked_solve asked p (Answer.Broken guard) after (Bracket reason lower cost) is h written = absurd is

pub told_asked : (asked : Bool) (r : Result Solved Failed) (status : ℤ) → IfOk r (IsAskedSolve asked) → status ≡ solve_status r → (status ≡ pos 0) ⊎ (status ≡ pos 4) → asked ≡ true
told_asked asked (Ok (Optimal cost)) status h s found = h
told_asked asked (Ok (Bracket reason lower cost)) status h s found = h
told_asked asked (Ok (Infeasible persons objects)) status h s (inl zero) = absurd (omega (arith, apart 3 0 (sym s ∙ zero)))
told_asked asked (Ok (Infeasible persons objects)) status h s (inr four) = absurd (omega (arith, apart 3 4 (sym s ∙ four)))
told_asked asked (Err Sizes) status h s (inl zero) = absurd (omega (arith, apart 2 0 (sym s ∙ zero)))
told_asked asked (Err Sizes) status h s (inr four) = absurd (omega (arith, apart 2 4 (sym s ∙ four)))
told_asked asked (Err (Fault fault)) status h s (inl zero) = absurd (omega (arith, apart 5 0 (sym s ∙ zero)))
told_asked asked (Err (Fault fault)) status h s (inr four) = absurd (omega (arith, apart 5 4 (sym s ∙ four)))
told_asked asked (Err (Start fault)) status h s (inl zero) = absurd (omega (arith, apart 7 0 (sym s ∙ zero)))
told_asked asked (Err (Start fault)) status h s (inr four) = absurd (omega (arith, apart 7 4 (sym s ∙ four)))
told_asked asked (Err NoMemory) status h s (inl zero) = absurd (omega (arith, apart 6 0 (sym s ∙ zero)))
told_asked asked (Err NoMemory) status h s (inr four) = absurd (omega (arith, apart 6 4 (sym s ∙ four)))
