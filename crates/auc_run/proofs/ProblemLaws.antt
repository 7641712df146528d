-- A problem that a reader's text reads as.
use Rattle.std.proofs.Common.{◌≡◌, ◌≤◌, ℕ, List, [], length, Option, Some, None, Result, Ok, Err, refl, sym, subst, ap, ◌∙◌, arith}
use Rattle.std.specs.Prelude.{IfSome, IsErrAnd, replicate}
use Rattle.std.specs.Io.KnownBytes.{Consumes, IsAtEnd}
use Rattle.std.proofs.KnownBytes.{Consumes-whole}
use Rattle.std.proofs.lemmas.List.{length-append, length-replicate}
use Rattle.auc_graph.specs.declared.limits.TheConstants.{MOST_READS}
use Rattle.auc_graph.specs.declared.read_error.ReadError.{ReadError}
use Rattle.auc_graph.specs.declared.read_error.ReadError.TheVariants.{Empty, BadNumber, CountRange, TooManyArcs, PersonRange, ObjectRange, CostRange, Cut, NoMemory, ReadFault, TooManyReads, TooFewObjects}
use Rattle.auc_graph.specs.declared.reading.ReadLimits.{ReadLimits}
use Rattle.auc_graph.specs.Problem.{Problem}
use Rattle.auc_graph.specs.Reading.{reading}
use Rattle.auc_graph.specs.Pieces.{IsRead}
use Rattle.auc_run.specs.declared.command.Sizes.{Sizes}
use Rattle.auc_run.specs.declared.input.ReadFault.{ReadFault as InputFault}
use Rattle.auc_run.specs.declared.input.ReadFault.TheVariants.{Failed, TooManyReads as TooManyInputReads, NoMemory as NoMemoryToRead}
use Rattle.auc_run.specs.declared.refusal.Refusal.{Refusal}
use Rattle.auc_run.specs.declared.refusal.Refusal.TheVariants.{NoProblem}
use Rattle.auc_run.specs.Problems.{AreKnown, AreLimitsOf, BearOutInput, HasFile, IsProblemIn, ReadsAsProblem, arcs_limit, file_reading}

-- the known bytes, or none
abbrev pub known : Option (List ℕ) → List ℕ
known None = []
known (Some xs) = xs

pub are_known : (a : Option (List ℕ)) → AreKnown a (known a)
are_known None = tt
are_known (Some xs) = refl

-- more was known than was taken
many : (old new : Option (List ℕ)) (text : List ℕ) (n : ℕ) → Consumes old new text → n ≤ length text → HasFile old (λ file. n ≤ length file)
many None new text n c le = record { file = text; known = tt; borne = le }
many (Some xs) None text n c le = absurd c
many (Some xs) (Some ys) text n c le = record { file = xs; known = refl; borne = omega (arith, ap length c, length-append text ys, le) }

module _ (limits : ReadLimits) (old new : Option (List ℕ)) (text : List ℕ) (sizes : Sizes) (are : AreLimitsOf sizes limits) (taken : Consumes old new text) where
  -- at the end the whole file was taken
  whole : (answer : Result Problem ReadError) → IsAtEnd new × (reading limits.persons limits.arcs limits.objects text ≡ answer) → HasFile old (λ file. file_reading sizes file ≡ answer)
  whole answer h = record {
    file = text;
    known = Consumes-whole old new text (λ xs. text ≡ xs) taken h.0 refl;
    borne =
        ap (λ (k : ℕ). reading k (arcs_limit sizes.large) sizes.objects text) (sym are.persons) ∙ ap (λ (n : ℕ). reading limits.persons n sizes.objects text) (sym are.arcs) ∙ ap (λ (m : ℕ). reading limits.persons limits.arcs m text) (sym are.objects) ∙ h.1;
  }

  pub read_in : (answer : Result Problem ReadError) → IsRead limits new text answer → HasFile old (λ file. ReadsAsProblem sizes file answer)
  read_in (Ok p) h = whole (Ok p) h
  read_in (Err Empty) h = whole (Err Empty) h
  read_in (Err (BadNumber token)) h = whole (Err (BadNumber token)) h
  read_in (Err CountRange) h = whole (Err CountRange) h
  read_in (Err TooManyArcs) h = whole (Err TooManyArcs) h
  read_in (Err (PersonRange arc)) h = whole (Err (PersonRange arc)) h
  read_in (Err (ObjectRange arc)) h = whole (Err (ObjectRange arc)) h
  read_in (Err (CostRange arc)) h = whole (Err (CostRange arc)) h
  read_in (Err (Cut tokens)) h = whole (Err (Cut tokens)) h
  read_in (Err TooFewObjects) h = whole (Err TooFewObjects) h
  read_in (Err NoMemory) h = record { file = known old; known = are_known old; borne = tt }
  read_in (Err ReadFault) h = record { file = known old; known = are_known old; borne = tt }
  read_in (Err TooManyReads) h = many old new text MOST_READS taken (omega (arith, h, are.reads))

-- a refusal that is this fault
pub refused_in : (sizes : Sizes) (reader : Option (List ℕ)) (r : Result Problem Refusal) (e : ReadError) → IsErrAnd r (λ x. x ≡ NoProblem e) → HasFile reader (λ file. ReadsAsProblem sizes file (Err e)) → IsProblemIn sizes reader r
refused_in sizes reader (Ok x) e p h = absurd p
refused_in sizes reader (Err x) e p h = subst (λ (y : Refusal). IsProblemIn sizes reader (Err y)) (sym p) h

-- ---- an input that is read whole

so_many : (n : ℕ) → (bytes : List ℕ) × (n ≤ length bytes)
so_many n = (replicate n 0, omega (arith, length-replicate {A = ℕ} n 0))

-- the bytes of an input that was not read to its end
pub unread : (a : Option (List ℕ)) (fault : InputFault) → (fault ≡ TooManyInputReads → IfSome a (λ bytes. MOST_READS ≤ length bytes)) → HasFile a (λ bytes. BearOutInput bytes fault)
unread a Failed many = record { file = known a; known = are_known a; borne = tt }
unread a NoMemoryToRead many = record { file = known a; known = are_known a; borne = tt }
unread None TooManyInputReads many = let some = so_many MOST_READS in record { file = some.0; known = tt; borne = some.1 }
unread (Some xs) TooManyInputReads many = record { file = xs; known = refl; borne = many refl }
