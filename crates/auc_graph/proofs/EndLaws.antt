-- The answer at the end of a text: it is never too many reads, and a problem that is read has the wanted number of
-- objects.
use Rattle.std.proofs.Common.{◌≡◌, arith, T, true, false, if◌then◌else◌, ◌<◌, ◌≤◌, Bool, ℕ, ◌+◌, ◌*◌, ◌-◌, ◌++◌, inl, inr, List, [], ◌∷◌, length, Result, Ok, Err, refl, sym, ap, subst, ◌∙◌, Option}
use Rattle.std.specs.Prelude.{◌≢◌, ℤ, pos, neg_ℤ, unsigned_abs, nat_le, nat_lt, ◌==◌, ⊤}
use Rattle.std.specs.Io.KnownBytes.{IsAtEnd}
use Rattle.std.specs.Prelude.{int_le, ◌≤ℤ◌}
use Rattle.std.specs.Int.Signed.{le_z_yes}
use Rattle.std.proofs.lemmas.Int.{ints}
use Rattle.std.proofs.lemmas.Bool.{and_parts, cases_Bool}
use Rattle.auc_graph.specs.declared.number.Number.{Number}
use Rattle.auc_graph.specs.declared.number.Number.TheVariants.{Bad, Value, Huge}
use Rattle.auc_graph.specs.declared.arc.Arc.{Arc}
use Rattle.auc_graph.specs.declared.read_error.ReadError.{ReadError}
use Rattle.auc_graph.specs.declared.read_error.ReadError.TheVariants.{Empty, BadNumber, CountRange, TooManyArcs, PersonRange, ObjectRange, CostRange, Cut, NoMemory, ReadFault, TooManyReads, TooFewObjects}
use Rattle.auc_graph.specs.declared.reading.ReadLimits.{ReadLimits}
use Rattle.auc_graph.specs.declared.stage.Stage.{Stage}
use Rattle.auc_graph.specs.declared.stage.Stage.TheVariants.{AtCount, AtPerson, AtObject, AtCost}
use Rattle.auc_graph.specs.declared.limits.TheConstants.{MOST_COST}
use Rattle.auc_graph.specs.Memory.{AnswersUnless}
use Rattle.auc_graph.specs.Problem.{Problem}
use Rattle.auc_graph.specs.Numbers.{numbers}
use Rattle.auc_graph.specs.Reading.{◌>>=◌, is_between, within, index, cost, room, objects_for, arc_of, State, start, step_at, step, finish_at, finish, reading_on, reading}
use Rattle.auc_graph.specs.Pieces.{IsRead}

abbrev Never : {A : Type 0} → Result A ReadError → Type 0
Never r = r ≢ Err TooManyReads

binds : {A B : Type 0} (p : Result A ReadError) (f : A → Result B ReadError) → Never p → ((x : A) → Never (f x)) → Never (p >>= f)
binds (Ok x) f h k = k x
binds (Err e) f h k = λ is. h (same e is)
  where
    same : {A B : Type 0} (e : ReadError) → ◌≡◌ {A = Result B ReadError} (Err e) (Err TooManyReads) → ◌≡◌ {A = Result A ReadError} (Err e) (Err TooManyReads)
    same e is = let own : e ≡ TooManyReads = cc in ap (λ (x : ReadError). Err x) own

within_never : (least most : ℤ) (token : ℕ) (range : ReadError) (x : Number) → range ≢ TooManyReads → Never (within least most token range x)
within_never least most token range Bad ne = λ is. absurd cc
within_never least most token range Huge ne = λ is. ne cc
within_never least most token range (Value z) ne =
    elim (cases_Bool (is_between least most z)) [
      | inl t ↦ rw t (λ is. absurd cc)
      | inr f ↦ rw f (λ is. ne cc)
    ]

index_never : (most token : ℕ) (range : ReadError) (x : Number) → range ≢ TooManyReads → Never (index most token range x)
index_never most token range x ne = binds (within (pos 1) (pos most) token range x) (λ z. Ok (unsigned_abs z - 1)) (within_never (pos 1) (pos most) token range x ne) (λ z is. absurd cc)

room_never : (limit before : ℕ) → Never (room limit before)
room_never limit before =
    elim (cases_Bool (nat_le limit before)) [
      | inl t ↦ rw t (λ is. absurd cc)
      | inr f ↦ rw f (λ is. absurd cc)
    ]

objects_never : (wanted persons : ℕ) → Never (objects_for wanted persons)
objects_never wanted persons =
    elim (cases_Bool (wanted == 0)) [
      | inl t ↦ rw t (λ is. absurd cc)
      | inr f ↦
          rw f
          (elim (cases_Bool (nat_lt wanted persons)) [
            | inl few ↦ rw few (λ is. absurd cc)
            | inr enough ↦ rw enough (λ is. absurd cc)
          ])
    ]

step_at_never : (limit : ℕ) (stage : Stage) (arcs : List Arc) (x : Number) → Never (step_at limit stage arcs x)
unfolding step_at
step_at_never limit (AtCount most wanted) arcs x =
    binds (index most 0 CountRange x) (λ before. objects_for wanted (before + 1) >>= λ objects. Ok (AtPerson (before + 1) objects, arcs)) (index_never most 0 CountRange x (λ e. absurd cc)) (λ before.
    binds (objects_for wanted (before + 1)) (λ objects. Ok (AtPerson (before + 1) objects, arcs)) (objects_never wanted (before + 1)) (λ y is. absurd cc))
step_at_never limit (AtPerson persons objects) arcs x =
    binds (room limit (length arcs)) (λ _. index persons (3 * length arcs + 1) (PersonRange (length arcs)) x >>= λ person. Ok (AtObject persons objects person, arcs)) (room_never limit (length arcs)) (λ _.
    binds (index persons (3 * length arcs + 1) (PersonRange (length arcs)) x) (λ person. Ok (AtObject persons objects person, arcs)) (index_never persons (3 * length arcs + 1) (PersonRange (length arcs)) x (λ e. absurd cc)) (λ y is. absurd cc))
step_at_never limit (AtObject persons objects person) arcs x =
    binds (index objects (3 * length arcs + 2) (ObjectRange (length arcs)) x) (λ object. Ok (AtCost persons objects person object, arcs)) (index_never objects (3 * length arcs + 2) (ObjectRange (length arcs)) x (λ e. absurd cc)) (λ y is. absurd cc)
step_at_never limit (AtCost persons objects person object) arcs x =
    binds (cost (3 * length arcs + 3) (CostRange (length arcs)) x) (λ c. Ok (AtPerson persons objects, arcs ++ arc_of person object c ∷ [])) (within_never (neg_ℤ MOST_COST) MOST_COST (3 * length arcs + 3) (CostRange (length arcs)) x (λ e. absurd cc)) (λ y is. absurd cc)

step_never : (limit : ℕ) (state : State) (x : Number) → Never state → Never (step limit state x)
unfolding step
step_never limit (Ok (stage, arcs)) x h = step_at_never limit stage arcs x
step_never limit (Err e) x h = h

finish_at_never : (stage : Stage) (arcs : List Arc) → Never (finish_at stage arcs)
unfolding finish_at
finish_at_never (AtCount most wanted) arcs = λ is. absurd cc
finish_at_never (AtPerson persons objects) arcs = λ is. absurd cc
finish_at_never (AtObject persons objects person) arcs = λ is. absurd cc
finish_at_never (AtCost persons objects person object) arcs = λ is. absurd cc

finish_never : (state : State) → Never state → Never (finish state)
unfolding finish
finish_never (Ok (stage, arcs)) h = finish_at_never stage arcs
finish_never (Err e) h = λ is. h (let own : e ≡ TooManyReads = cc in ap (λ (x : ReadError). Err x) own)

never_on : (limit : ℕ) (state : State) (xs : List Number) → Never state → Never (reading_on limit state xs)
unfolding reading_on
never_on limit state [] h = finish_never state h
never_on limit state (x ∷ xs) h = never_on limit (step limit state x) xs (step_never limit state x h)

reading_never : (most limit wanted : ℕ) (text : List ℕ) → Never (reading most limit wanted text)
reading_never most limit wanted text = never_on limit (start most wanted) (numbers text) (λ is. absurd cc)

-- ---- what is answered

pub answers : (e : ReadError) (answer read : Result Problem ReadError) → read ≡ answer → AnswersUnless e (λ p. p) answer (λ r. read ≡ r)
answers e (Ok p) read is = is
answers e (Err d) read is = λ _. is

pub answers_as : (e : ReadError) (answer read other : Result Problem ReadError) → read ≡ other → AnswersUnless e (λ p. p) answer (λ r. other ≡ r) → AnswersUnless e (λ p. p) answer (λ r. read ≡ r)
answers_as e (Ok p) read other is h = is ∙ h
answers_as e (Err d) read other is h = λ k. is ∙ h k

pub is_read : (limits : ReadLimits) (left : Option (List ℕ)) (text : List ℕ) (answer : Result Problem ReadError) → IsAtEnd left → AnswersUnless NoMemory (λ p. p) answer (λ r. reading limits.persons limits.arcs limits.objects text ≡ r) → IsRead limits left text answer
is_read limits left text (Ok p) end h = (end, h)
is_read limits left text (Err Empty) end h = (end, h (λ e. absurd cc))
is_read limits left text (Err (BadNumber token)) end h = (end, h (λ e. absurd cc))
is_read limits left text (Err CountRange) end h = (end, h (λ e. absurd cc))
is_read limits left text (Err TooManyArcs) end h = (end, h (λ e. absurd cc))
is_read limits left text (Err (PersonRange arc)) end h = (end, h (λ e. absurd cc))
is_read limits left text (Err (ObjectRange arc)) end h = (end, h (λ e. absurd cc))
is_read limits left text (Err (CostRange arc)) end h = (end, h (λ e. absurd cc))
is_read limits left text (Err (Cut tokens)) end h = (end, h (λ e. absurd cc))
is_read limits left text (Err NoMemory) end h = tt
is_read limits left text (Err ReadFault) end h = tt
is_read limits left text (Err TooManyReads) end h = absurd (reading_never limits.persons limits.arcs limits.objects text (h (λ e. absurd cc)))
is_read limits left text (Err TooFewObjects) end h = (end, h (λ e. absurd cc))

-- ---- how many persons and objects what is read has

-- the numbers of persons and objects agree with the greatest number of persons and the number of objects wanted
abbrev AreRead : ℕ → ℕ → ℕ → ℕ → Type 0
AreRead most wanted persons objects = (persons ≤ most) × (objects_for wanted persons ≡ Ok objects)

abbrev IsFor : ℕ → ℕ → Stage → Type 0
IsFor most wanted (AtCount top own) = (top ≡ most) × (own ≡ wanted)
IsFor most wanted (AtPerson persons objects) = AreRead most wanted persons objects
IsFor most wanted (AtObject persons objects person) = AreRead most wanted persons objects
IsFor most wanted (AtCost persons objects person object) = AreRead most wanted persons objects

abbrev AreFor : ℕ → ℕ → State → Type 0
AreFor most wanted (Ok (stage, arcs)) = IsFor most wanted stage
AreFor most wanted (Err e) = ⊤

brings : {A : Type 0} (most wanted : ℕ) (p : Result A ReadError) (f : A → State) → ((x : A) → p ≡ Ok x → AreFor most wanted (f x)) → AreFor most wanted (p >>= f)
brings most wanted (Ok x) f h = h x refl
brings most wanted (Err e) f h = tt

-- the index is below the greatest number
index_below : (most token : ℕ) (range : ReadError) (x : Number) (k : ℕ) → index most token range x ≡ Ok k → k < most
index_below most token range Bad k is = absurd cc
index_below most token range Huge k is = absurd cc
index_below most token range (Value z) k is =
    elim (cases_Bool (is_between (pos 1) (pos most) z)) [
      | inl t ↦
          let own : unsigned_abs z - 1 ≡ k = is_own (is_between (pos 1) (pos most) z) t is in
          let ends = and_parts (int_le (pos 1) z) (int_le z (pos most)) t in
          let low : pos 1 ≤ℤ z = le_z_yes (subst (λ (b : Bool). T b) (sym ends.0) tt) in
          let high : z ≤ℤ pos most = le_z_yes (subst (λ (b : Bool). T b) (sym ends.1) tt) in
          omega (arith, ints, own, low, high)
      | inr f ↦ absurd (is_none (is_between (pos 1) (pos most) z) f is)
    ]
  where
    is_own : (b : Bool) → b ≡ true → ((if b then Ok z else Err range) >>= (λ w. Ok (unsigned_abs w - 1))) ≡ Ok k → unsigned_abs z - 1 ≡ k
    is_own true t e = cc
    is_own false t e = absurd cc

    is_none : (b : Bool) → b ≡ false → ((if b then Ok z else Err range) >>= (λ w. Ok (unsigned_abs w - 1))) ≡ Ok k → ⊥
    is_none true t e = absurd cc
    is_none false t e = cc

step_at_for : (limit most wanted : ℕ) (stage : Stage) (arcs : List Arc) (x : Number) → IsFor most wanted stage → AreFor most wanted (step_at limit stage arcs x)
unfolding step_at
step_at_for limit most wanted (AtCount top own) arcs x h =
    brings most wanted (index top 0 CountRange x) (λ before. objects_for own (before + 1) >>= λ objects. Ok (AtPerson (before + 1) objects, arcs)) (λ before here.
    brings most wanted (objects_for own (before + 1)) (λ objects. Ok (AtPerson (before + 1) objects, arcs)) (λ objects is.
    (omega (arith, index_below top 0 CountRange x before here, h.0), ap (λ (w : ℕ). objects_for w (before + 1)) (sym h.1) ∙ is)))
step_at_for limit most wanted (AtPerson persons objects) arcs x h =
    brings most wanted (room limit (length arcs)) (λ _. index persons (3 * length arcs + 1) (PersonRange (length arcs)) x >>= λ person. Ok (AtObject persons objects person, arcs)) (λ _ _.
    brings most wanted (index persons (3 * length arcs + 1) (PersonRange (length arcs)) x) (λ person. Ok (AtObject persons objects person, arcs)) (λ person _. h))
step_at_for limit most wanted (AtObject persons objects person) arcs x h =
    brings most wanted (index objects (3 * length arcs + 2) (ObjectRange (length arcs)) x) (λ object. Ok (AtCost persons objects person object, arcs)) (λ object _. h)
step_at_for limit most wanted (AtCost persons objects person object) arcs x h =
    brings most wanted (cost (3 * length arcs + 3) (CostRange (length arcs)) x) (λ c. Ok (AtPerson persons objects, arcs ++ arc_of person object c ∷ [])) (λ c _. h)

step_for : (limit most wanted : ℕ) (state : State) (x : Number) → AreFor most wanted state → AreFor most wanted (step limit state x)
unfolding step
step_for limit most wanted (Ok (stage, arcs)) x h = step_at_for limit most wanted stage arcs x h
step_for limit most wanted (Err e) x h = tt

-- a problem that is read has such numbers
abbrev HasSizes : ℕ → ℕ → Result Problem ReadError → Type 0
HasSizes most wanted (Ok p) = AreRead most wanted p.persons p.objects
HasSizes most wanted (Err e) = ⊤

finish_at_for : (most wanted : ℕ) (stage : Stage) (arcs : List Arc) → IsFor most wanted stage → HasSizes most wanted (finish_at stage arcs)
unfolding finish_at
finish_at_for most wanted (AtCount top own) arcs h = tt
finish_at_for most wanted (AtPerson persons objects) arcs h = h
finish_at_for most wanted (AtObject persons objects person) arcs h = tt
finish_at_for most wanted (AtCost persons objects person object) arcs h = tt

finish_for : (most wanted : ℕ) (state : State) → AreFor most wanted state → HasSizes most wanted (finish state)
unfolding finish
finish_for most wanted (Ok (stage, arcs)) h = finish_at_for most wanted stage arcs h
finish_for most wanted (Err e) h = tt

for_on : (limit most wanted : ℕ) (state : State) (xs : List Number) → AreFor most wanted state → HasSizes most wanted (reading_on limit state xs)
unfolding reading_on
for_on limit most wanted state [] h = finish_for most wanted state h
for_on limit most wanted state (x ∷ xs) h = for_on limit most wanted (step limit state x) xs (step_for limit most wanted state x h)

sizes_read : (most limit wanted : ℕ) (text : List ℕ) (p : Problem) → reading most limit wanted text ≡ Ok p → AreRead most wanted p.persons p.objects
sizes_read most limit wanted text p is = subst (HasSizes most wanted) is (for_on limit most wanted (start most wanted) (numbers text) (refl, refl))

pub objects_read : (most limit wanted : ℕ) (text : List ℕ) (p : Problem) → reading most limit wanted text ≡ Ok p → objects_for wanted p.persons ≡ Ok p.objects
objects_read most limit wanted text p is = (sizes_read most limit wanted text p is).1

pub persons_read : (most limit wanted : ℕ) (text : List ℕ) (p : Problem) → reading most limit wanted text ≡ Ok p → p.persons ≤ most
persons_read most limit wanted text p is = (sizes_read most limit wanted text p is).0

pub same_objects : (persons objects : ℕ) → objects_for 0 persons ≡ Ok objects → persons ≡ objects
same_objects persons objects is = cc
