-- The problem that a reader has, or why a job on it is refused.
use Rattle.std.specs.Prelude.{◌≡◌, ◌≤◌, ℕ, Bool, true, false, List, length, Option, IfSome, Result, Ok, Err, ⊤}
use Rattle.auc_graph.specs.declared.limits.TheConstants.{MOST_ARCS, MOST_OBJECTS, MOST_PERSONS, MOST_READS, TEXT_ARCS, TEXT_PERSONS}
use Rattle.auc_graph.specs.declared.read_error.ReadError.{ReadError}
use Rattle.auc_graph.specs.declared.read_error.ReadError.TheVariants.{NoMemory, ReadFault, TooManyReads}
use Rattle.auc_graph.specs.declared.reading.ReadLimits.{ReadLimits}
use Rattle.auc_graph.specs.Problem.{Problem}
use Rattle.auc_graph.specs.Reading.{reading}
use Rattle.auc_run.specs.declared.command.Sizes.{Sizes}
use Rattle.auc_run.specs.declared.input.ReadFault.{ReadFault as InputFault}
use Rattle.auc_run.specs.declared.input.ReadFault.TheVariants.{Failed, TooManyReads as TooManyInputReads, NoMemory as NoMemoryToRead}
use Rattle.auc_run.specs.declared.refusal.Refusal.{Refusal}
use Rattle.auc_run.specs.declared.refusal.Refusal.TheVariants.{NotRead, NoProblem, NoCertificate, Invalid, NoStart, NoScript, NoMemory as NoMemoryForJob, NoThreads}

-- ---- the limits within which a problem is read: those of a problem where it may be large, and else the usual ones

abbrev pub persons_limit : Bool → ℕ
persons_limit true = MOST_PERSONS
persons_limit false = TEXT_PERSONS

abbrev pub objects_limit : Bool → ℕ
objects_limit true = MOST_OBJECTS
objects_limit false = 20000

abbrev pub arcs_limit : Bool → ℕ
arcs_limit true = MOST_ARCS
arcs_limit false = TEXT_ARCS

abbrev pub sizes_with : ℕ → Bool → Sizes
sizes_with objects large = record { objects = objects; large = large }

-- so many objects may be asked for within these limits
abbrev pub AreSizes : Sizes → Type 0
AreSizes sizes = sizes.objects ≤ objects_limit sizes.large

-- the limits of reading for these sizes
pub record AreLimitsOf (sizes : Sizes) (limits : ReadLimits) : Type 0 where
  pub persons : limits.persons ≡ persons_limit sizes.large
  pub arcs : limits.arcs ≡ arcs_limit sizes.large
  pub reads : limits.reads ≡ MOST_READS
  pub objects : limits.objects ≡ sizes.objects

-- ---- what is read

-- what a file reads as, with so many objects, within these limits
abbrev pub file_reading : Sizes → List ℕ → Result Problem ReadError
file_reading sizes file = reading (persons_limit sizes.large) (arcs_limit sizes.large) sizes.objects file

-- A file reads as this problem, with so many objects, where 0 stands for as many as persons, or by this first fault as
-- none. Of a read that failed, and of want of memory, nothing is known; too many reads have each taken a byte.
abbrev pub ReadsAsProblem : Sizes → List ℕ → Result Problem ReadError → Type 0
ReadsAsProblem sizes file (Err NoMemory) = ⊤
ReadsAsProblem sizes file (Err ReadFault) = ⊤
ReadsAsProblem sizes file (Err TooManyReads) = MOST_READS ≤ length file
ReadsAsProblem sizes file answer = file_reading sizes file ≡ answer

-- the problem that a file reads as
abbrev pub IsProblemOf : Sizes → List ℕ → Problem → Type 0
IsProblemOf sizes file p = ReadsAsProblem sizes file (Ok p)

-- the bytes are these, where they are known
abbrev pub AreKnown : Option (List ℕ) → List ℕ → Type 0
AreKnown known bytes = IfSome known (λ xs. bytes ≡ xs)

-- what a reader has bears this out; bytes that it does not give are some bytes
pub record HasFile (reader : Option (List ℕ)) (Borne : List ℕ → Type 0) : Type 0 where
  pub file : List ℕ
  pub known : AreKnown reader file
  pub borne : Borne file

-- the same of a problem and a certificate, which two readers have
pub record HaveFiles (first second : Option (List ℕ)) (Borne : List ℕ → List ℕ → Type 0) : Type 0 where
  pub file : List ℕ
  pub cert : List ℕ
  pub file_known : AreKnown first file
  pub cert_known : AreKnown second cert
  pub borne : Borne file cert

-- The bytes of an input that is read whole bear out why it was not read to its end: too many reads have each taken a
-- byte. Of a read that failed, and of want of memory, nothing is known.
abbrev pub BearOutInput : List ℕ → InputFault → Type 0
BearOutInput bytes Failed = ⊤
BearOutInput bytes TooManyInputReads = MOST_READS ≤ length bytes
BearOutInput bytes NoMemoryToRead = ⊤

-- The bytes of a problem bear out the refusal of a job that has no other input. Of want of memory after the reading
-- nothing is known.
abbrev pub BearOutRefusal : Sizes → List ℕ → Refusal → Type 0
BearOutRefusal sizes file (NoProblem error) = ReadsAsProblem sizes file (Err error)
BearOutRefusal sizes file (NotRead fault) = ⊥
BearOutRefusal sizes file NoMemoryForJob = ⊤
BearOutRefusal sizes file NoThreads = ⊥
BearOutRefusal sizes file (NoCertificate error) = ⊥
BearOutRefusal sizes file (Invalid error) = ⊥
BearOutRefusal sizes file (NoStart error) = ⊥
BearOutRefusal sizes file (NoScript error) = ⊥

-- the bytes are those of this problem, or bear the refusal out
abbrev pub BearOutProblem : Sizes → List ℕ → Result Problem Refusal → Type 0
BearOutProblem sizes file (Ok p) = IsProblemOf sizes file p
BearOutProblem sizes file (Err refusal) = BearOutRefusal sizes file refusal

-- the problem that a reader has
abbrev pub IsProblemIn : Sizes → Option (List ℕ) → Result Problem Refusal → Type 0
IsProblemIn sizes reader problem = HasFile reader (λ file. BearOutProblem sizes file problem)
