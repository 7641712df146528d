-- A solve that starts from the prices of an old certificate, and which answers are right for the bytes of a problem and
-- of the certificate.
use Rattle.std.specs.Prelude.{◌≡◌, ◌==◌, ℕ, zero, suc, Bool, true, false, List, length, ℤ, Option, Some, Result, Ok, Err, ⊤, if◌then◌else◌}
use Rattle.auc_graph.specs.Problem.{Problem}
use Rattle.auc_claim.specs.declared.cert.CertParts.{CertParts}
use Rattle.auc_claim.specs.declared.cert.CertParts.TheVariants.{Optimal, Infeasible, Bracket}
use Rattle.auc_claim.specs.declared.start_error.StartError.{StartError}
use Rattle.auc_claim.specs.declared.start_error.StartError.TheVariants.{NotSquare, NoPrices, OtherSize, TooHigh, NoMemory as NoMemoryToStart}
use Rattle.auc_cert.specs.declared.text_error.CertTextError.TheVariants.{Line, NoMemory as NoMemoryForText}
use Rattle.auc_claim.specs.Start.{high_price, start_of, start_unless}
use Rattle.auc_answers.specs.declared.answer.Answer.{Answer}
use Rattle.auc_answers.specs.Answers.{IsAnswer}
use Rattle.auc_world.specs.Chain.{IsOfRun}
use Rattle.auc_direct.specs.Endings.{IsLimitedFrom}
use Rattle.auc_threads.specs.declared.phase.PhaseEnd.{PhaseEnd}
use Rattle.auc_threads.specs.Solved.{IsSolvedBy, IsThreadAnswer}
use Rattle.auc_run.specs.declared.command.Sizes.{Sizes}
use Rattle.auc_run.specs.declared.command.SolveNumbers.{SolveNumbers}
use Rattle.auc_run.specs.declared.refusal.Refusal.{Refusal}
use Rattle.auc_run.specs.declared.refusal.Refusal.TheVariants.{NotRead, NoProblem, NoCertificate, Invalid, NoStart, NoScript, NoMemory as NoMemoryForJob, NoThreads}
use Rattle.auc_run.specs.declared.start.Started.{Started}
use Rattle.auc_run.specs.Problems.{BearOutInput, HaveFiles, IsProblemOf, ReadsAsProblem}
use Rattle.auc_run.specs.Solutions.{BearOutDirect, BearOutMessages, IsHeeded, Watched, limits_of, thread_limits_of}
use Rattle.auc_run.specs.Claims.{IsBadLineFor, IsClaimFor}

-- ---- the prices of a certificate

-- the direct solver starts from as many prices as there are objects, whatever the picks beside them
abbrev pub each_price : ℕ → List ℤ → Result (List ℤ) StartError
each_price objects prices = if length prices == objects then start_unless prices (high_price prices) else Err OtherSize

abbrev pub direct_start_of : Problem → CertParts → Result (List ℤ) StartError
direct_start_of p (Optimal cost choice prices) = each_price p.objects prices
direct_start_of p (Infeasible those objects) = Err NoPrices
direct_start_of p (Bracket reason lower cost choice prices) = each_price p.objects prices

-- where a solve starts, or why it can't: directly, or by messages
abbrev pub start_for : Bool → Problem → CertParts → Result (List ℤ) StartError
start_for true p claim = direct_start_of p claim
start_for false p claim = start_of p claim

-- ---- both files

-- the problem that one file is, and the prices from which it is to be solved: those of the certificate that the other
-- file spells
pub record IsStartOf (direct : Bool) (sizes : Sizes) (file cert : List ℕ) (p : Problem) (start : List ℤ) : Type 0 where
  pub claim : CertParts
  pub problem : IsProblemOf sizes file p
  pub certificate : IsClaimFor sizes.large cert claim
  pub prices : start_for direct p claim ≡ Ok start

-- the first file is a problem, the other spells a certificate, and this is the first reason why its prices can't start
-- a solve
pub record IsNoStart (direct : Bool) (sizes : Sizes) (file cert : List ℕ) (error : StartError) : Type 0 where
  pub p : Problem
  pub claim : CertParts
  pub problem : IsProblemOf sizes file p
  pub certificate : IsClaimFor sizes.large cert claim
  pub error_is : start_for direct p claim ≡ Err error

abbrev pub BearOutStartError : Bool → Sizes → List ℕ → List ℕ → StartError → Type 0
BearOutStartError direct sizes file cert NotSquare = IsNoStart direct sizes file cert NotSquare
BearOutStartError direct sizes file cert NoPrices = IsNoStart direct sizes file cert NoPrices
BearOutStartError direct sizes file cert OtherSize = IsNoStart direct sizes file cert OtherSize
BearOutStartError direct sizes file cert (TooHigh object) = IsNoStart direct sizes file cert (TooHigh object)
BearOutStartError direct sizes file cert NoMemoryToStart = ⊤

-- The two files bear out that there is no start: the problem is judged first, then the certificate, then its prices.
abbrev pub BearOutNoStart : Bool → Sizes → List ℕ → List ℕ → Refusal → Type 0
BearOutNoStart direct sizes file cert (NoProblem error) = ReadsAsProblem sizes file (Err error)
BearOutNoStart direct sizes file cert (NotRead fault) = (p : Problem) × IsProblemOf sizes file p × BearOutInput cert fault
BearOutNoStart direct sizes file cert (NoCertificate (Line k)) = (p : Problem) × IsProblemOf sizes file p × IsBadLineFor sizes.large cert k
BearOutNoStart direct sizes file cert (NoCertificate NoMemoryForText) = ⊤
BearOutNoStart direct sizes file cert (NoStart error) = BearOutStartError direct sizes file cert error
BearOutNoStart direct sizes file cert (Invalid error) = ⊥
BearOutNoStart direct sizes file cert (NoScript error) = ⊥
BearOutNoStart direct sizes file cert NoMemoryForJob = ⊥
BearOutNoStart direct sizes file cert NoThreads = ⊥

abbrev pub BearOutStart : Bool → Sizes → List ℕ → List ℕ → Result Started Refusal → Type 0
BearOutStart direct sizes file cert (Ok s) = IsStartOf direct sizes file cert s.problem s.prices.items
BearOutStart direct sizes file cert (Err refusal) = BearOutNoStart direct sizes file cert refusal

-- a problem and a start that two readers have, or why there is none
abbrev pub IsStartIn : Bool → Sizes → Option (List ℕ) → Option (List ℕ) → Result Started Refusal → Type 0
IsStartIn direct sizes first second started = HaveFiles first second (λ file cert. BearOutStart direct sizes file cert started)

-- an answer of a run by messages from these prices: by threads where there are so many workers, and not 0
abbrev pub MessagesFrom : ℕ → SolveNumbers → Problem → List ℤ → Answer → Type 0
MessagesFrom zero n p start answer = IsAnswer p answer × IsOfRun p (limits_of n.bids) (Some start) answer
MessagesFrom (suc workers) n p start answer =
    IsThreadAnswer p answer × ((phases : List PhaseEnd) × IsSolvedBy p (thread_limits_of n) (Some start) phases answer)

-- an answer of a run from these prices: directly where that is asked for, or by messages
abbrev pub AnswersFrom : Bool → Watched → SolveNumbers → Problem → List ℤ → Answer → Type 0
AnswersFrom true w n p start answer = IsAnswer p answer × IsHeeded w answer (IsLimitedFrom p n.bids start answer)
AnswersFrom false w n p start answer = MessagesFrom n.workers n p start answer

-- only where there are workers a thread may be missing
abbrev pub MayLackThreads : ℕ → Type 0
MayLackThreads zero = ⊥
MayLackThreads (suc workers) = ⊤

-- The two files bear the answer of a solve from a start out, or the refusal. Of want of memory after the reading
-- nothing is known.
abbrev pub BearOutFrom : Watched → SolveNumbers → List ℕ → List ℕ → Result Answer Refusal → Type 0
BearOutFrom w n file cert (Ok answer) =
    (p : Problem) × (start : List ℤ) × IsStartOf n.direct n.sizes file cert p start × AnswersFrom n.direct w n p start answer
BearOutFrom w n file cert (Err NoMemoryForJob) = ⊤
BearOutFrom w n file cert (Err NoThreads) = MayLackThreads n.workers
BearOutFrom w n file cert (Err (NoProblem error)) = BearOutNoStart n.direct n.sizes file cert (NoProblem error)
BearOutFrom w n file cert (Err (NotRead fault)) = BearOutNoStart n.direct n.sizes file cert (NotRead fault)
BearOutFrom w n file cert (Err (NoCertificate error)) = BearOutNoStart n.direct n.sizes file cert (NoCertificate error)
BearOutFrom w n file cert (Err (NoStart error)) = BearOutNoStart n.direct n.sizes file cert (NoStart error)
BearOutFrom w n file cert (Err (Invalid error)) = ⊥
BearOutFrom w n file cert (Err (NoScript error)) = ⊥

-- what a solve from a start has answered about what two readers have
abbrev pub IsSolvedFromIn : Watched → SolveNumbers → Option (List ℕ) → Option (List ℕ) → Result Answer Refusal → Type 0
IsSolvedFromIn w n first second answer = HaveFiles first second (λ file cert. BearOutFrom w n file cert answer)

-- a solve starts from an old certificate, or from nothing: then directly, or by messages
abbrev pub BearOutSolving : Bool → Bool → Watched → SolveNumbers → List ℕ → List ℕ → Result Answer Refusal → Type 0
BearOutSolving true direct w n file cert answer = BearOutFrom w n file cert answer
BearOutSolving false true w n file cert answer = BearOutDirect w n file answer
BearOutSolving false false w n file cert answer = BearOutMessages n.workers n file answer

-- what a solve has answered about what two readers have
abbrev pub IsSolvingIn : Watched → SolveNumbers → Option (List ℕ) → Option (List ℕ) → Result Answer Refusal → Type 0
IsSolvingIn w n first second answer = HaveFiles first second (λ file cert. BearOutSolving n.from n.direct w n file cert answer)
