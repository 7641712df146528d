-- What the matches of a command ask for.
use Rattle.std.proofs.Common.{◌≡◌, ◌<◌, ◌⊎◌, ℕ, Bool, true, false, List, Option, Some, None, Result, Ok, Err, arith, codes, is_some, refl, sym, ap, subst, ◌∙◌, inl, inr}
use Rattle.std.specs.Prelude.{IfOk, IsErrAnd}
use Rattle.clap.specs.Words.{Row, Text, first_of, first_value, rows_of}
use Rattle.clap.specs.declared.parser.matches.Found.{Found}
use Rattle.clap.proofs.WalkLemmas.{first_value-rows}
use Rattle.auc_run.specs.declared.command.Job.{Job}
use Rattle.auc_run.specs.declared.command.Job.TheVariants.{Solve, Check, Hall}
use Rattle.auc_run.specs.Problems.{objects_limit}
use Rattle.auction.specs.declared.asked.Watching.{Watching}
use Rattle.auction.specs.declared.asked.Words.{Words}
use Rattle.auction.specs.declared.words_error.WordsError.{WordsError}
use Rattle.auction.specs.declared.words_error.WordsError.TheVariants.{AuditAlone, DirectThreads, FromObjects, LargeAlone, NoMemory, Usage, WatchAlone}
use Rattle.auction.specs.Arguments.{value_in}
use Rattle.auction.specs.CommandLine.{AsksFor, IsAuditAlone, IsDirectThreads, IsFromObjects, IsLargeAlone, IsUsage, IsWatchAlone}
use Rattle.auction.specs.Options.{HasBids, usual_bids, AreNumbers, AskWrongly, AsksToSolve, GoTogether, HasBoth, HasCheckOf, HasHallOf, HasNumber, HasObjects, HasObjectsJob, HasSeconds, HasSolveOf, HasThreads, HasWatch, IsWatchedBy, is_direct, is_large}

-- the parser was refused memory, and so is its caller
pub no_memory : (r : Result Words WordsError) (e : WordsError) → IsErrAnd r (λ x. x ≡ e) → e ≡ NoMemory → r ≡ Err NoMemory
no_memory (Ok w) e same is = elim same [ ]
no_memory (Err x) e same is = ap (λ (y : WordsError). Err y) (same ∙ is)

-- the parser found the words at fault
pub at_fault : (r : Result Words WordsError) (e : WordsError) → IsErrAnd r (λ x. x ≡ e) → (e ≡ Usage) ⊎ (e ≡ NoMemory) → IsUsage r
at_fault (Ok w) e same is = elim same [ ]
at_fault (Err x) e same is = rw same is

-- the same job on files of the same names
pub same_files : (job : Job) (r : Result Words WordsError) (first second one two : Option Text) → first ≡ one → second ≡ two → AsksFor job r first second → AsksFor job r one two
same_files job r first second one two is also h = rw (← is, ← also) h

-- a value gives one number
one_number : (least most usual : ℕ) (value : Option Text) (n m : ℕ) → HasNumber least most usual value n → HasNumber least most usual value m → n ≡ m
one_number least most usual None n m h k = h ∙ sym k
one_number least most usual (Some value) n m h k = h.0.1 ∙ sym k.0.1

-- ---- a check and a hall

module _ (job : ℕ → Bool → Job) (large : Bool) (value first second : Option Text) where
  asks_objects : (r : Result Words WordsError) (n : ℕ) → HasObjectsJob job r large value first second → HasObjects large value n → AsksFor (job n large) r first second
  asks_objects (Ok w) n h is = record {
    job_is = h.asked.job_is ∙ ap (λ (m : ℕ). job m large) (one_number 1 (objects_limit large) 0 value h.objects n h.given is);
    first_is = h.asked.first_is;
    second_is = h.asked.second_is;
  }
  asks_objects (Err e) n (inl out) is = out
  asks_objects (Err e) n (inr wrong) is = absurd (wrong.1 n is)

  asks_no_objects : (r : Result Words WordsError) → HasObjectsJob job r large value first second → ((n : ℕ) → HasObjects large value n → ⊥) → IsUsage r
  asks_no_objects (Ok w) h none = absurd (none h.objects h.given)
  asks_no_objects (Err e) (inl out) none = inr out
  asks_no_objects (Err e) (inr wrong) none = inl wrong.0

-- the same values of the arguments
same_objects : (job : ℕ → Bool → Job) (r : Result Words WordsError) (large big : Bool) (value first second number one two : Option Text) → large ≡ big → value ≡ number → first ≡ one → second ≡ two
    → HasObjectsJob job r large value first second → HasObjectsJob job r big number one two
same_objects job r large big value first second number one two size by is also h = rw (← size, ← by, ← is, ← also) h

-- numbers of the same values
same_numbers : {f g : Text → Option Text} → ((name : Text) → f name ≡ g name) → (workers bids audit objects : ℕ) → AreNumbers f workers bids audit objects → AreNumbers g workers bids audit objects
same_numbers {f = f} {g = g} same workers bids audit objects h = record {
  of_workers = subst (λ (v : Option Text). HasNumber 0 16 0 v workers) (same (codes "workers")) h.of_workers;
  of_bids = subst (λ (b : Bool). HasBids b (g (codes "bids")) bids) (ap is_some (same (codes "large")))
      (subst (λ (v : Option Text). HasBids (is_large f) v bids) (same (codes "bids")) h.of_bids);
  of_audit = subst (λ (v : Option Text). HasNumber 0 1000000 0 v audit) (same (codes "audit")) h.of_audit;
  of_objects = subst (λ (b : Bool). HasObjects b (g (codes "objects")) objects) (ap is_some (same (codes "large")))
      (subst (λ (v : Option Text). HasObjects (is_large f) v objects) (same (codes "objects")) h.of_objects);
  of_seconds = (h.of_seconds.0, subst (λ (v : Option Text). HasSeconds v h.of_seconds.0) (same (codes "seconds")) h.of_seconds.1);
}

module _ {f g : Text → Option Text} (same : (name : Text) → f name ≡ g name) where
  same_both : HasBoth f → HasBoth g
  same_both h = (ap is_some (sym (same (codes "from"))) ∙ h.0, ap is_some (sym (same (codes "objects"))) ∙ h.1)

  same_direct : is_direct f ≡ is_direct g
  same_direct = ap is_some (same (codes "direct"))

  same_large : is_large f ≡ is_large g
  same_large = ap is_some (same (codes "large"))

  same_watch : HasWatch f → HasWatch g
  same_watch (inl h) = inl (ap is_some (sym (same (codes "seconds"))) ∙ h)
  same_watch (inr h) = inr (ap is_some (sym (same (codes "progress"))) ∙ h)

  pub same_watched : (w : Watching) → IsWatchedBy f w → IsWatchedBy g w
  same_watched w h = record {
    seconds = subst (λ (v : Option Text). HasSeconds v w.seconds) (same (codes "seconds")) h.seconds;
    progress = h.progress ∙ ap is_some (same (codes "progress"));
  }

  same_threads : HasThreads f → HasThreads g
  same_threads (inl h) = inl (ap is_some (sym (same (codes "workers"))) ∙ h)
  same_threads (inr h) = inr (ap is_some (sym (same (codes "audit"))) ∙ h)

module _ (rows : List Row) (given : List (Text × Text)) (same : (name : Text) → first_of name rows ≡ value_in given name) where
  check_of : (r : Result Words WordsError) → HasCheckOf r rows
      → HasObjectsJob Check r (is_large (value_in given)) (value_in given (codes "objects")) (value_in given (codes "file")) (value_in given (codes "cert"))
  check_of r h = same_objects Check r _ _ _ _ _ _ _ _ (same_large same) (same (codes "objects")) (same (codes "file")) (same (codes "cert")) h

  hall_of : (r : Result Words WordsError) → HasHallOf r rows → HasObjectsJob Hall r (is_large (value_in given)) (value_in given (codes "objects")) (value_in given (codes "file")) None
  hall_of r h = same_objects Hall r _ _ _ _ None _ _ None (same_large same) (same (codes "objects")) (same (codes "file")) refl h

  pub asks_to_check : (r : Result Words WordsError) (objects : ℕ) → HasCheckOf r rows → HasObjects (is_large (value_in given)) (value_in given (codes "objects")) objects
      → AsksFor (Check objects (is_large (value_in given))) r (value_in given (codes "file")) (value_in given (codes "cert"))
  asks_to_check r objects h is = asks_objects Check _ _ _ _ r objects (check_of r h) is

  pub checks_wrongly : (r : Result Words WordsError) → HasCheckOf r rows → ((n : ℕ) → HasObjects (is_large (value_in given)) (value_in given (codes "objects")) n → ⊥) → IsUsage r
  checks_wrongly r h none = asks_no_objects Check _ _ _ _ r (check_of r h) none

  pub asks_for_hall : (r : Result Words WordsError) (objects : ℕ) → HasHallOf r rows → HasObjects (is_large (value_in given)) (value_in given (codes "objects")) objects
      → AsksFor (Hall objects (is_large (value_in given))) r (value_in given (codes "file")) None
  asks_for_hall r objects h is = asks_objects Hall _ _ _ None r objects (hall_of r h) is

  pub halls_wrongly : (r : Result Words WordsError) → HasHallOf r rows → ((n : ℕ) → HasObjects (is_large (value_in given)) (value_in given (codes "objects")) n → ⊥) → IsUsage r
  halls_wrongly r h none = asks_no_objects Hall _ _ _ None r (hall_of r h) none

-- ---- a solve

-- what the same values ask for
module _ {f g : Text → Option Text} (same : (name : Text) → f name ≡ g name) where
  back : (name : Text) → g name ≡ f name
  back name = sym (same name)

  same_together : (workers audit : ℕ) → GoTogether f workers audit → GoTogether g workers audit
  same_together workers audit h = record {
    direct = λ is threads. h.direct (same_direct same ∙ is) (same_threads back threads);
    trail = λ is none. h.trail (same_direct same ∙ is) none;
    start = λ is both. h.start (same_direct same ∙ is) (same_both back both);
    watch = λ is watch. h.watch (same_direct same ∙ is) (same_watch back watch);
    large = λ is. same_large back ∙ h.large (same_direct same ∙ is);
  }

  pub same_asked : (job : Job) → AsksToSolve f job → AsksToSolve g job
  same_asked job h = record {
    workers = h.workers;
    bids = h.bids;
    audit = h.audit;
    objects = h.objects;
    numbers = same_numbers same h.workers h.bids h.audit h.objects h.numbers;
    together = same_together h.workers h.audit h.together;
    job_is =
        h.job_is ∙ ap (λ (v : Option Text). Solve h.workers h.bids h.audit h.objects (is_some v) (is_direct f) (is_large f)) (same (codes "from"))
        ∙ ap (λ (b : Bool). Solve h.workers h.bids h.audit h.objects (is_some (g (codes "from"))) b (is_large f)) (same_direct same)
        ∙ ap (λ (b : Bool). Solve h.workers h.bids h.audit h.objects (is_some (g (codes "from"))) (is_direct g) b) (same_large same);
  }

  pub same_wrong : (e : WordsError) → AskWrongly f e → AskWrongly g e
  same_wrong Usage h = λ workers bids audit objects are. h workers bids audit objects (same_numbers back workers bids audit objects are)
  same_wrong AuditAlone h = record {
    bids = h.bids;
    audit = h.audit;
    objects = h.objects;
    numbers = same_numbers same 0 h.bids h.audit h.objects h.numbers;
    direct = same_direct back ∙ h.direct;
    some = h.some;
  }
  same_wrong NoMemory h = h
  same_wrong FromObjects h = record {
    workers = h.workers;
    bids = h.bids;
    audit = h.audit;
    objects = h.objects;
    numbers = same_numbers same h.workers h.bids h.audit h.objects h.numbers;
    direct = same_direct back ∙ h.direct;
    trail = h.trail;
    both = same_both same h.both;
  }
  same_wrong DirectThreads h = record {
    workers = h.workers;
    bids = h.bids;
    audit = h.audit;
    objects = h.objects;
    numbers = same_numbers same h.workers h.bids h.audit h.objects h.numbers;
    direct = same_direct back ∙ h.direct;
    threads = same_threads same h.threads;
  }
  same_wrong WatchAlone h = record {
    workers = h.workers;
    bids = h.bids;
    audit = h.audit;
    objects = h.objects;
    numbers = same_numbers same h.workers h.bids h.audit h.objects h.numbers;
    direct = same_direct back ∙ h.direct;
    trail = h.trail;
    apart = λ both. h.apart (same_both back both);
    watch = same_watch same h.watch;
  }
  same_wrong LargeAlone h = record {
    workers = h.workers;
    bids = h.bids;
    audit = h.audit;
    objects = h.objects;
    numbers = same_numbers same h.workers h.bids h.audit h.objects h.numbers;
    direct = same_direct back ∙ h.direct;
    trail = h.trail;
    apart = λ both. h.apart (same_both back both);
    unwatched = λ watch. h.unwatched (same_watch back watch);
    large = same_large back ∙ h.large;
  }

-- options that ask for these numbers
module _ (values : Text → Option Text) (workers bids audit objects : ℕ) (are : AreNumbers values workers bids audit objects) where
  one_workers : (w b a o : ℕ) → AreNumbers values w b a o → w ≡ workers
  one_workers w b a o h = one_number 0 16 0 (values (codes "workers")) w workers h.of_workers are.of_workers

  one_audit : (w b a o : ℕ) → AreNumbers values w b a o → a ≡ audit
  one_audit w b a o h = one_number 0 1000000 0 (values (codes "audit")) a audit h.of_audit are.of_audit

  one_solve : (job : Job) → AsksToSolve values job → job ≡ Solve workers bids audit objects (is_some (values (codes "from"))) (is_direct values) (is_large values)
  one_solve job h =
      let same = one_number 1 1000000000000 (usual_bids (is_large values)) (values (codes "bids")) h.bids bids h.numbers.of_bids are.of_bids in
      let also = one_number 1 (objects_limit (is_large values)) 0 (values (codes "objects")) h.objects objects h.numbers.of_objects are.of_objects in
      h.job_is ∙ (rw (one_workers h.workers h.bids h.audit h.objects h.numbers, same, one_audit h.workers h.bids h.audit h.objects h.numbers, also) refl)

  not_wrongly : GoTogether values workers audit → (e : WordsError) → AskWrongly values e → ⊥
  not_wrongly h Usage wrong = wrong workers bids audit objects are
  not_wrongly h AuditAlone wrong =
      let none = h.trail wrong.direct (sym (one_workers 0 wrong.bids wrong.audit wrong.objects wrong.numbers)) in
      omega (arith, none, one_audit 0 wrong.bids wrong.audit wrong.objects wrong.numbers, wrong.some)
  not_wrongly h NoMemory wrong = wrong
  not_wrongly h FromObjects wrong = h.start wrong.direct wrong.both
  not_wrongly h DirectThreads wrong = h.direct wrong.direct wrong.threads
  not_wrongly h WatchAlone wrong = h.watch wrong.direct wrong.watch
  not_wrongly h LargeAlone wrong = let k = sym (h.large wrong.direct) ∙ wrong.large in absurd cc

  -- the direct solver with threads is at fault for that
  wants_threads : is_direct values ≡ true → (e : WordsError) → AskWrongly values e → e ≡ DirectThreads
  wants_threads is Usage wrong = absurd (wrong workers bids audit objects are)
  wants_threads is AuditAlone wrong = let k = sym is ∙ wrong.direct in absurd cc
  wants_threads is NoMemory wrong = absurd wrong
  wants_threads is FromObjects wrong = let k = sym is ∙ wrong.direct in absurd cc
  wants_threads is DirectThreads wrong = refl
  wants_threads is WatchAlone wrong = let k = sym is ∙ wrong.direct in absurd cc
  wants_threads is LargeAlone wrong = let k = sym is ∙ wrong.direct in absurd cc

  -- another one with a trail and no threads for that
  wants_trail : is_direct values ≡ false → workers ≡ 0 → 0 < audit → (e : WordsError) → AskWrongly values e → e ≡ AuditAlone
  wants_trail is none some Usage wrong = absurd (wrong workers bids audit objects are)
  wants_trail is none some AuditAlone wrong = refl
  wants_trail is none some NoMemory wrong = absurd wrong
  wants_trail is none some FromObjects wrong =
      let no_trail = wrong.trail (one_workers wrong.workers wrong.bids wrong.audit wrong.objects wrong.numbers ∙ none) in
      absurd (omega (arith, no_trail, one_audit wrong.workers wrong.bids wrong.audit wrong.objects wrong.numbers, some))
  wants_trail is none some DirectThreads wrong = let k = sym is ∙ wrong.direct in absurd cc
  wants_trail is none some WatchAlone wrong =
      let no_trail = wrong.trail (one_workers wrong.workers wrong.bids wrong.audit wrong.objects wrong.numbers ∙ none) in
      absurd (omega (arith, no_trail, one_audit wrong.workers wrong.bids wrong.audit wrong.objects wrong.numbers, some))
  wants_trail is none some LargeAlone wrong =
      let no_trail = wrong.trail (one_workers wrong.workers wrong.bids wrong.audit wrong.objects wrong.numbers ∙ none) in
      absurd (omega (arith, no_trail, one_audit wrong.workers wrong.bids wrong.audit wrong.objects wrong.numbers, some))

  -- and then one with a start and a number of objects for that
  wants_both : is_direct values ≡ false → (workers ≡ 0 → audit ≡ 0) → HasBoth values → (e : WordsError) → AskWrongly values e → e ≡ FromObjects
  wants_both is trail both Usage wrong = absurd (wrong workers bids audit objects are)
  wants_both is trail both AuditAlone wrong =
      let none = trail (sym (one_workers 0 wrong.bids wrong.audit wrong.objects wrong.numbers)) in
      absurd (omega (arith, none, one_audit 0 wrong.bids wrong.audit wrong.objects wrong.numbers, wrong.some))
  wants_both is trail both NoMemory wrong = absurd wrong
  wants_both is trail both FromObjects wrong = refl
  wants_both is trail both DirectThreads wrong = let k = sym wrong.direct ∙ is in absurd cc
  wants_both is trail both WatchAlone wrong = absurd (wrong.apart both)
  wants_both is trail both LargeAlone wrong = absurd (wrong.apart both)

  -- and then one that is to be watched for that
  wants_watch : is_direct values ≡ false → (workers ≡ 0 → audit ≡ 0) → (HasBoth values → ⊥) → HasWatch values → (e : WordsError) → AskWrongly values e → e ≡ WatchAlone
  wants_watch is trail apart watch Usage wrong = absurd (wrong workers bids audit objects are)
  wants_watch is trail apart watch AuditAlone wrong =
      let none = trail (sym (one_workers 0 wrong.bids wrong.audit wrong.objects wrong.numbers)) in
      absurd (omega (arith, none, one_audit 0 wrong.bids wrong.audit wrong.objects wrong.numbers, wrong.some))
  wants_watch is trail apart watch NoMemory wrong = absurd wrong
  wants_watch is trail apart watch FromObjects wrong = absurd (apart wrong.both)
  wants_watch is trail apart watch DirectThreads wrong = let k = sym wrong.direct ∙ is in absurd cc
  wants_watch is trail apart watch WatchAlone wrong = refl
  wants_watch is trail apart watch LargeAlone wrong = absurd (wrong.unwatched watch)

  -- and then one with a large problem for that
  wants_large : is_direct values ≡ false → (workers ≡ 0 → audit ≡ 0) → (HasBoth values → ⊥) → (HasWatch values → ⊥) → (e : WordsError) → AskWrongly values e → e ≡ LargeAlone
  wants_large is trail apart unwatched Usage wrong = absurd (wrong workers bids audit objects are)
  wants_large is trail apart unwatched AuditAlone wrong =
      let none = trail (sym (one_workers 0 wrong.bids wrong.audit wrong.objects wrong.numbers)) in
      absurd (omega (arith, none, one_audit 0 wrong.bids wrong.audit wrong.objects wrong.numbers, wrong.some))
  wants_large is trail apart unwatched NoMemory wrong = absurd wrong
  wants_large is trail apart unwatched FromObjects wrong = absurd (apart wrong.both)
  wants_large is trail apart unwatched DirectThreads wrong = let k = sym wrong.direct ∙ is in absurd cc
  wants_large is trail apart unwatched WatchAlone wrong = absurd (unwatched wrong.watch)
  wants_large is trail apart unwatched LargeAlone wrong = refl

-- numbers of which there are none
is_no_number : (values : Text → Option Text) → ((workers bids audit objects : ℕ) → AreNumbers values workers bids audit objects → ⊥) → (e : WordsError) → AskWrongly values e → e ≡ Usage
is_no_number values none Usage wrong = refl
is_no_number values none AuditAlone wrong = absurd (none 0 wrong.bids wrong.audit wrong.objects wrong.numbers)
is_no_number values none NoMemory wrong = absurd wrong
is_no_number values none FromObjects wrong = absurd (none wrong.workers wrong.bids wrong.audit wrong.objects wrong.numbers)
is_no_number values none DirectThreads wrong = absurd (none wrong.workers wrong.bids wrong.audit wrong.objects wrong.numbers)
is_no_number values none WatchAlone wrong = absurd (none wrong.workers wrong.bids wrong.audit wrong.objects wrong.numbers)
is_no_number values none LargeAlone wrong = absurd (none wrong.workers wrong.bids wrong.audit wrong.objects wrong.numbers)

module _ (rows : List Row) (given : List (Text × Text)) (same : (name : Text) → first_of name rows ≡ value_in given name) where
  -- the job that was read, and the numbers with which it goes together
  asked : (w : Words) → HasSolveOf (Ok w) rows → AsksToSolve (value_in given) w.job
  asked w h = same_asked same w.job h.solve

  pub asks_to_solve : (r : Result Words WordsError) (workers bids audit objects : ℕ) → HasSolveOf r rows → AreNumbers (value_in given) workers bids audit objects → GoTogether (value_in given) workers audit
      → AsksFor (Solve workers bids audit objects (is_some (value_in given (codes "from"))) (is_direct (value_in given)) (is_large (value_in given))) r (value_in given (codes "file")) (value_in given (codes "from"))
  asks_to_solve (Ok w) workers bids audit objects h are together = record {
    job_is = one_solve (value_in given) workers bids audit objects are w.job (asked w h);
    first_is = h.names.first_is ∙ same (codes "file");
    second_is = h.names.second_is ∙ same (codes "from");
  }
  asks_to_solve (Err e) workers bids audit objects (inl out) are together = out
  asks_to_solve (Err e) workers bids audit objects (inr wrong) are together = absurd (not_wrongly (value_in given) workers bids audit objects are together e (same_wrong same e wrong))

  pub asks_wrongly : (r : Result Words WordsError) → HasSolveOf r rows → ((workers bids audit objects : ℕ) → AreNumbers (value_in given) workers bids audit objects → ⊥) → IsUsage r
  asks_wrongly (Ok w) h none = let a = asked w h in absurd (none a.workers a.bids a.audit a.objects a.numbers)
  asks_wrongly (Err e) (inl out) none = inr out
  asks_wrongly (Err e) (inr wrong) none = inl (is_no_number (value_in given) none e (same_wrong same e wrong))

  pub asks_threads : (r : Result Words WordsError) (workers bids audit objects : ℕ) → HasSolveOf r rows → AreNumbers (value_in given) workers bids audit objects → is_direct (value_in given) ≡ true
      → HasThreads (value_in given) → IsDirectThreads r
  asks_threads (Ok w) workers bids audit objects h are is threads = let a = asked w h in absurd (a.together.direct is threads)
  asks_threads (Err e) workers bids audit objects (inl out) are is threads = inr out
  asks_threads (Err e) workers bids audit objects (inr wrong) are is threads = inl (wants_threads (value_in given) workers bids audit objects are is e (same_wrong same e wrong))

  pub asks_alone : (r : Result Words WordsError) (bids audit objects : ℕ) → HasSolveOf r rows → AreNumbers (value_in given) 0 bids audit objects → is_direct (value_in given) ≡ false → 0 < audit
      → IsAuditAlone r
  asks_alone (Ok w) bids audit objects h are is some =
      let a = asked w h in
      let none = a.together.trail is (one_workers (value_in given) 0 bids audit objects are a.workers a.bids a.audit a.objects a.numbers) in
      absurd (omega (arith, none, one_audit (value_in given) 0 bids audit objects are a.workers a.bids a.audit a.objects a.numbers, some))
  asks_alone (Err e) bids audit objects (inl out) are is some = inr out
  asks_alone (Err e) bids audit objects (inr wrong) are is some = inl (wants_trail (value_in given) 0 bids audit objects are is refl some e (same_wrong same e wrong))

  pub asks_both : (r : Result Words WordsError) (workers bids audit objects : ℕ) → HasSolveOf r rows → AreNumbers (value_in given) workers bids audit objects → is_direct (value_in given) ≡ false
      → (workers ≡ 0 → audit ≡ 0) → HasBoth (value_in given) → IsFromObjects r
  asks_both (Ok w) workers bids audit objects h are is trail both = let a = asked w h in absurd (a.together.start is both)
  asks_both (Err e) workers bids audit objects (inl out) are is trail both = inr out
  asks_both (Err e) workers bids audit objects (inr wrong) are is trail both =
      inl (wants_both (value_in given) workers bids audit objects are is trail both e (same_wrong same e wrong))

  pub asks_watch : (r : Result Words WordsError) (workers bids audit objects : ℕ) → HasSolveOf r rows → AreNumbers (value_in given) workers bids audit objects → is_direct (value_in given) ≡ false
      → (workers ≡ 0 → audit ≡ 0) → (HasBoth (value_in given) → ⊥) → HasWatch (value_in given) → IsWatchAlone r
  asks_watch (Ok w) workers bids audit objects h are is trail apart watch = let a = asked w h in absurd (a.together.watch is watch)
  asks_watch (Err e) workers bids audit objects (inl out) are is trail apart watch = inr out
  asks_watch (Err e) workers bids audit objects (inr wrong) are is trail apart watch = inl (wants_watch (value_in given) workers bids audit objects are is trail apart watch e (same_wrong same e wrong))

  pub asks_large : (r : Result Words WordsError) (workers bids audit objects : ℕ) → HasSolveOf r rows → AreNumbers (value_in given) workers bids audit objects → is_direct (value_in given) ≡ false
      → (workers ≡ 0 → audit ≡ 0) → (HasBoth (value_in given) → ⊥) → (HasWatch (value_in given) → ⊥) → is_large (value_in given) ≡ true → IsLargeAlone r
  asks_large (Ok w) workers bids audit objects h are is trail apart unwatched large = let a = asked w h in let k = sym (a.together.large is) ∙ large in absurd cc
  asks_large (Err e) workers bids audit objects (inl out) are is trail apart unwatched large = inr out
  asks_large (Err e) workers bids audit objects (inr wrong) are is trail apart unwatched large =
      inl (wants_large (value_in given) workers bids audit objects are is trail apart unwatched e (same_wrong same e wrong))

  pub asks_watched : (r : Result Words WordsError) → HasSolveOf r rows → IfOk r (λ w. IsWatchedBy (value_in given) w.watching)
  asks_watched (Ok w) h = same_watched same w.watching h.watched
  asks_watched (Err e) h = tt

-- ---- the matches' first values are those of their rows

-- the job that the options ask for, with the files, watched so
pub with_files : (r : Result Words WordsError) (rows : List Row) (job : Job) (watching : Watching) → AsksToSolve (λ name. first_of name rows) job → IsWatchedBy (λ name. first_of name rows) watching
    → AsksFor job r (first_of (codes "file") rows) (first_of (codes "from") rows) → IfOk r (λ w. w.watching ≡ watching) → HasSolveOf r rows
with_files (Ok w) rows job watching asked watched names is = record { solve = rw names.job_is asked; names = record { job_is = refl; first_is = names.first_is; second_is = names.second_is }; watched = rw is watched }
with_files (Err e) rows job watching asked watched names is = inl names

-- the options ask for no job
pub without_job : (r : Result Words WordsError) (rows : List Row) (e : WordsError) → IsErrAnd r (λ x. x ≡ e) → AskWrongly (λ name. first_of name rows) e → HasSolveOf r rows
without_job (Ok w) rows e same wrong = elim same [ ]
without_job (Err x) rows e same wrong = inr (rw same wrong)

module _ (found : Found) where
  pub by_rows : (job : Job) → AsksToSolve (λ name. first_value found name) job → AsksToSolve (λ name. first_of name (rows_of found)) job
  by_rows job h = same_asked (first_value-rows found) job h

  pub watched_by_rows : (w : Watching) → IsWatchedBy (λ name. first_value found name) w → IsWatchedBy (λ name. first_of name (rows_of found)) w
  watched_by_rows w h = same_watched (first_value-rows found) w h

  pub wrong_by_rows : (e : WordsError) → AskWrongly (λ name. first_value found name) e → AskWrongly (λ name. first_of name (rows_of found)) e
  wrong_by_rows e h = same_wrong (first_value-rows found) e h

  -- the matches have the flag where their rows have it
  large_by_rows : (large : Bool) → large ≡ is_some (first_value found (codes "large")) → large ≡ is_large (λ name. first_of name (rows_of found))
  large_by_rows large is = is ∙ ap is_some (first_value-rows found (codes "large"))

  module _ (job : ℕ → Bool → Job) (large : Bool) (flag : large ≡ is_some (first_value found (codes "large"))) (r : Result Words WordsError) (first second : Option Text) where
    pub with_objects : (n : ℕ) → HasObjects large (first_value found (codes "objects")) n → AsksFor (job n large) r first second
        → HasObjectsJob job r (is_large (λ name. first_of name (rows_of found))) (first_of (codes "objects") (rows_of found)) first second
    with_objects n is h = rw (← large_by_rows large flag) (go r h)
      where
        go : (r : Result Words WordsError) → AsksFor (job n large) r first second → HasObjectsJob job r large (first_of (codes "objects") (rows_of found)) first second
        go (Ok w) h = record { objects = n; given = subst (λ (v : Option Text). HasObjects large v n) (first_value-rows found (codes "objects")) is; asked = h }
        go (Err e) h = inl h

    pub without_objects : (e : WordsError) → IsErrAnd r (λ x. x ≡ e) → (e ≡ Usage) × ((n : ℕ) → HasObjects large (first_value found (codes "objects")) n → ⊥)
        → HasObjectsJob job r (is_large (λ name. first_of name (rows_of found))) (first_of (codes "objects") (rows_of found)) first second
    without_objects e same wrong = rw (← large_by_rows large flag) (go r same)
      where
        go : (r : Result Words WordsError) → IsErrAnd r (λ x. x ≡ e) → HasObjectsJob job r large (first_of (codes "objects") (rows_of found)) first second
        go (Ok w) same = elim same [ ]
        go (Err x) same = inr (same ∙ wrong.0, λ n is. wrong.1 n (subst (λ (v : Option Text). HasObjects large v n) (sym (first_value-rows found (codes "objects"))) is))
