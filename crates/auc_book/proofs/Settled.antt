-- The seats, looked at one worker after another.
use Rattle.std.proofs.Common.{◌⊎◌, ◌≡◌, ◌≢◌, ⊎_elim, inl, inr, ℕ, ◌+◌, ◌<◌, ◌≤◌, ◌==◌, Bool, true, false, cond, List, [], ◌∷◌, length, nat_lt, All, arith, length-append, ◌∙◌, refl, sym, subst, ap}
use Rattle.std.specs.List.{sum_by, count_by}
use Rattle.std.proofs.lemmas.List.Elements.{All-weaker, All-head, All-tail, All-nil}
use Rattle.std.proofs.lemmas.List.Sums.{sum_by-cons, length-filter}
use Rattle.std.proofs.lemmas.Bool.{cases_eq}
use Rattle.std.proofs.lemmas.Bool.Decides.{nat_tests}
use Rattle.auc_mail.specs.Mail.{Mail, empty_mail}
use Rattle.auc_mail.specs.Run.{Run}
use Rattle.auc_mail.proofs.RunLaws.{run_loses_nothing, run_in_order, run_behind_close}
use Rattle.auc_book.specs.declared.line.TrailLine.{TrailLine}
use Rattle.auc_book.specs.Trail.{lines_of, events_of, IsOwn}
use Rattle.auc_book.specs.Seat.{Account}
use Rattle.auc_book.specs.Seats.{TakesSeat}
use Rattle.auc_book.specs.Settling.{Agrees, Differ, EachSeated, IsSettled, IsTrueOf, IsTurnedByFull, IsUnseated, TellsSent, TellsHanded}
use Rattle.auc_book.proofs.Noting.{empty_is}
use Rattle.auc_book.proofs.Telling.{tells_sent, tells_handed}
use Rattle.auc_book.proofs.Seats.{taken_sum, taken_all, taken_here, taken_left}

-- The seats of the workers below i were taken out, and the rest is left: what is known of all seats by then. Same says
-- whether those agreed.
pub record Settles {T : Type 0} (room : ℕ) (trail : List (TrailLine T)) (seats rest : List (Account T)) (i : ℕ) (same : Bool) : Type 0 where
  pub counted : same ≡ true → sum_by (λ a. a.count) seats ≡ sum_by (λ a. a.count) rest + count_by (λ l. nat_lt l.worker i) trail
  pub agree : same ≡ true → All (IsTrueOf room trail) rest → All (IsTrueOf room trail) seats
  pub differs : same ≡ false → All (IsTrueOf room trail) seats → ⊥
  pub left_agree : All (IsTrueOf room trail) seats → All (IsTrueOf room trail) rest
  pub many : length seats ≡ length rest + i
  pub seated : EachSeated i seats
  pub more : (k : ℕ) → i ≤ k → IsUnseated rest k → IsUnseated seats k
  pub less : (k : ℕ) → IsUnseated seats k → IsUnseated rest k

abbrev pub one_if : Bool → ℕ
one_if b = cond b 1 0

below_more : (w i : ℕ) → one_if (nat_lt w (i + 1)) ≡ one_if (nat_lt w i) + one_if (w == i)
below_more w i = grind (arith, nat_tests)

-- the lines of the workers below i, and those of i
count_more : {T : Type 0} (trail : List (TrailLine T)) (i : ℕ)
    → count_by (λ l. nat_lt l.worker (i + 1)) trail ≡ count_by (λ l. nat_lt l.worker i) trail + length (lines_of i trail)
count_more trail i = rw (length-filter (λ l. l.worker == i) trail) (counts trail i)
  where
    counts : {T : Type 0} (trail : List (TrailLine T)) (i : ℕ)
        → count_by (λ l. nat_lt l.worker (i + 1)) trail ≡ count_by (λ l. nat_lt l.worker i) trail + count_by (λ l. l.worker == i) trail
    counts [] i = refl
    counts {T} (l ∷ ls) i =
        omega (
          arith,
          sum_by-cons (λ (l : TrailLine T). cond (nat_lt l.worker (i + 1)) 1 0) l ls,
          sum_by-cons (λ (l : TrailLine T). cond (nat_lt l.worker i) 1 0) l ls,
          sum_by-cons (λ (l : TrailLine T). cond (l.worker == i) 1 0) l ls,
          below_more l.worker i,
          counts ls i,
        )

-- no line is of a worker below 0, and each is of a worker below the number of workers
below_none : (w : ℕ) → one_if (nat_lt w 0) ≡ 0
below_none w = grind (arith, nat_tests)

count_none : {T : Type 0} (trail : List (TrailLine T)) → count_by (λ l. nat_lt l.worker 0) trail ≡ 0
count_none [] = refl
count_none {T} (l ∷ ls) = omega (arith, sum_by-cons (λ (l : TrailLine T). cond (nat_lt l.worker 0) 1 0) l ls, below_none l.worker, count_none ls)

below_is : (w n : ℕ) → w < n → one_if (nat_lt w n) ≡ 1
below_is w n h = grind (arith, nat_tests)

count_all : {T : Type 0} (trail : List (TrailLine T)) (n : ℕ) → All (λ l. l.worker < n) trail → count_by (λ l. nat_lt l.worker n) trail ≡ length trail
count_all [] n all = refl
count_all {T} (l ∷ ls) n all =
    omega (
      arith,
      sum_by-cons (λ (l : TrailLine T). cond (nat_lt l.worker n) 1 0) l ls,
      below_is l.worker n (All-head (λ (l : TrailLine T). l.worker < n) l ls all),
      count_all ls n (All-tail (λ (l : TrailLine T). l.worker < n) l ls all),
    )

pub settles_none : {T : Type 0} (room : ℕ) (trail : List (TrailLine T)) (seats : List (Account T)) → Settles room trail seats seats 0 true
settles_none room trail seats = record {
  counted = λ same. omega (arith, count_none trail);
  agree = λ same all. all;
  differs = λ e all. absurd (let true_is_false : true ≡ false = e in cc);
  left_agree = λ all. all;
  many = omega arith;
  seated = λ k lt none. absurd (omega arith);
  more = λ k le none. none;
  less = λ k none. none;
}

-- one worker more
pub settles_more : {T : Type 0} (room : ℕ) (trail : List (TrailLine T)) (seats rest left : List (Account T)) (i : ℕ) (same now : Bool) (a : Account T)
    → Settles room trail seats rest i same → TakesSeat i rest a left → a.count ≡ length a.lines
    → (now ≡ true → (same ≡ true) × IsTrueOf room trail a) → (now ≡ false → (same ≡ false) ⊎ (¬ (IsTrueOf room trail a)))
    → Settles room trail seats left (i + 1) now
settles_more {T} room trail seats rest left i same now a so t long yes_both no_either = record {
  counted = λ yes.
      let p = yes_both yes in
      omega (arith, so.counted p.0, taken_sum i rest a left t, count_more trail i, ap length (ap (λ (k : ℕ). lines_of k trail) (sym t.whose) ∙ p.1.0), long);
  agree = λ yes all.
      let p = yes_both yes in
      so.agree p.0 (taken_all i rest a left t (IsTrueOf room trail) p.1 all);
  differs = λ no all.
      ⊎_elim
      (λ (before : same ≡ false). so.differs before all)
      (λ (here : ¬ (IsTrueOf room trail a)). here (taken_here i rest a left t (IsTrueOf room trail) (so.left_agree all)))
      (no_either no);
  left_agree = λ all. taken_left i rest a left t (IsTrueOf room trail) (so.left_agree all);
  many = omega (arith, so.many, ap length t.before, ap length t.after, length-append t.front (a ∷ t.back), length-append t.front t.back);
  seated = λ k lt none.
      ⊎_elim
      (λ (e : k ≡ i). taken_here i rest a left t (λ p. p.worker ≢ k) (so.less k none) (t.whose ∙ sym e))
      (λ (ne : k ≢ i). so.seated k (omega arith) none)
      (cases_eq k i);
  more = λ k le none. so.more k (omega arith) (taken_all i rest a left t (λ p. p.worker ≢ k) (λ e. absurd (omega (arith, e, t.whose))) none);
  less = λ k none. taken_left i rest a left t (λ p. p.worker ≢ k) (so.less k none);
}

-- all workers were looked at, and some didn't agree or a seat is left
pub differ : {T : Type 0} (workers room : ℕ) (trail : List (TrailLine T)) (seats rest : List (Account T)) (i : ℕ) (same : Bool)
    → Settles room trail seats rest i same → i ≡ workers → (same ≡ false) ⊎ (0 < length rest) → Differ workers room seats trail
differ workers room trail seats rest i same so end cause =
    ⊎_elim (λ (no : same ≡ false). inl (so.differs no)) (λ (some : 0 < length rest). inr (omega (arith, so.many, some, end))) cause

-- all workers were looked at, and all agreed
pub settled : {T : Type 0} (boxes workers nodes most room : ℕ) (trail : List (TrailLine T)) (seats rest : List (Account T)) (i : ℕ) (same : Bool)
    → 0 < room → Settles room trail seats rest i same → same ≡ true → rest ≡ [] → i ≡ workers
    → All (λ l. (l.worker < workers) × IsOwn l.worker l.call) trail → (last : Mail T) × Run (empty_mail boxes workers nodes most) (events_of trail) last
    → IsSettled boxes workers nodes most room seats trail
settled {T} boxes workers nodes most room trail seats rest i same some so agreed none end own run =
    let below : All (λ l. l.worker < workers) trail = All-weaker (λ (l : TrailLine T). (l.worker < workers) × IsOwn l.worker l.call) (λ l. l.worker < workers) (λ l p. p.0) trail own in
    let counts : count_by (λ l. nat_lt l.worker i) trail ≡ length trail = ap (λ (n : ℕ). count_by (λ l. nat_lt l.worker n) trail) end ∙ count_all trail workers below in
    let truth : All (IsTrueOf room trail) seats = so.agree agreed (subst (λ (w : List (Account T)). All (IsTrueOf room trail) w) (sym none) (All-nil (IsTrueOf room trail))) in
    let agree : All (Agrees trail) seats = All-weaker (IsTrueOf room trail) (Agrees trail) (λ a p. p.0) seats truth in
    let start : Mail T = empty_mail boxes workers nodes most in
    let empty = empty_is {T = T} boxes workers nodes most in
    record {
      kept = some;
      last = run.0;
      run = run.1;
      lossless = run_loses_nothing start (events_of trail) run.0 empty run.1;
      in_order = run_in_order start (events_of trail) run.0 empty run.1;
      closed = run_behind_close start (events_of trail) run.0 run.1;
      counted = omega (arith, so.counted agreed, ap (sum_by (λ (p : Account T). p.count)) none, counts);
      seated = λ k lt. so.seated k (omega (arith, end));
      agree = agree;
      full = All-weaker (IsTrueOf room trail) (IsTurnedByFull room trail) (λ a p. p.1) seats truth;
      own = own;
      sent_told = All-weaker (Agrees trail) (TellsSent trail) (tells_sent workers trail own) seats agree;
      handed_told = All-weaker (Agrees trail) (TellsHanded trail) (tells_handed trail) seats agree;
    }
