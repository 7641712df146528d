-- The state under the lock.
use Rattle.std.proofs.Common.{not, ◌≡◌, ℕ, ◌<◌, ◌≤◌, Bool, true, false, List, length, get_or, refl, IsTrue, ◌↔◌, All, inl, arith, ap, ◌∙◌, subst}
use Rattle.std.specs.List.{range_with_len}
use Rattle.std.proofs.lemmas.List.{nil_from_length}
use Rattle.std.proofs.lemmas.List.FromFn.{get_or-range_with_len, length-range_with_len}
use Rattle.std.proofs.lemmas.List.Sums.{get_or-le-sum_by, sum_by-le}
use Rattle.auc_mail.specs.declared.call.Call.{Call}
use Rattle.auc_mail.specs.declared.call.Reply.{Reply}
use Rattle.auc_mail.specs.Mail.{Mail, IsClosed, IsOpen, NothingWaits, empty_mail, is_open, lane_of, waiting_at}
use Rattle.auc_mail.specs.Run.{Run}
use Rattle.auc_book.specs.State.{State, IsFull, IsNoted, start_of}
use Rattle.auc_book.specs.LockedMail.{IsNumbered}

is_true : (b : Bool) → (b ≡ false → ⊥) → b ≡ true
is_true true not_false = refl
is_true false not_false = absurd (not_false refl)

-- where a call can be noted, the trail has a place
pub place_left : {T : Type 0} (s : State T) → IsNoted s → (IsFull s → ⊥) → 0 < s.room → s.count < s.room
place_left s kept not_full some =
    let no : s.room ≤ length s.trail → ⊥ = λ e. not_full (inl (some, e)) in
    omega (arith, kept.counted some)

-- a run from the start is one from the empty mail of the name's numbers
pub locked_run : {T : Type 0} (boxes workers nodes most room : ℕ) (s : State T) (es : List (Call T × Reply T))
    → IsNumbered boxes workers nodes most room s → Run (start_of s.mail) es s.mail → Run (empty_mail boxes workers nodes most) es s.mail
locked_run {T} boxes workers nodes most room s es numbers run =
    let m = s.mail in
    let start : start_of m ≡ empty_mail boxes workers nodes most =
    ap (λ (b : ℕ). empty_mail b m.senders m.nodes m.most) numbers.box_count
    ∙ (ap (λ (n : ℕ). empty_mail boxes n m.nodes m.most) numbers.worker_count
    ∙ (ap (λ (n : ℕ). empty_mail boxes workers n m.most) numbers.node_count
    ∙ ap (λ (n : ℕ). empty_mail boxes workers nodes n) numbers.most_posts)) in
    subst (λ (x : Mail T). Run x es s.mail) start run

-- the number of letters that wait in a box is 0 only if none waits
pub none_waits : {T : Type 0} (m : Mail T) (b : ℕ) → waiting_at m b ≡ 0 → NothingWaits m b
none_waits {T} m b zero s lt =
    let f : ℕ → ℕ = λ s. length (lane_of m b s).waiting in
    let le = get_or-le-sum_by f (range_with_len 0 m.senders) s 0 (omega (arith, length-range_with_len 0 m.senders)) in
    let at : get_or (range_with_len 0 m.senders) s 0 ≡ s = omega (arith, get_or-range_with_len 0 m.senders s 0 lt) in
    nil_from_length (lane_of m b s).waiting (omega (arith, le, ap f at, zero))

pub waits_none : {T : Type 0} (m : Mail T) (b : ℕ) → NothingWaits m b → waiting_at m b ≡ 0
waits_none {T} m b none =
    let f : ℕ → ℕ = λ s. length (lane_of m b s).waiting in
    let all : All (λ s. f s ≤ 0) (range_with_len 0 m.senders) = λ k d lt.
    let there : k < m.senders = omega (arith, length-range_with_len 0 m.senders) in
    let at : get_or (range_with_len 0 m.senders) k d ≡ k = omega (arith, get_or-range_with_len 0 m.senders k d there) in
    omega (arith, ap f at, ap length (none k there)) in
    omega (arith, sum_by-le f 0 (range_with_len 0 m.senders) all)

-- a take waits just where nothing would come of it: not full, open, and nothing waits
pub waiting_is : {T : Type 0} (s : State T) (b : ℕ) (some : Bool) → IsTrue some ↔ (0 < waiting_at s.mail b) → (IsFull s → ⊥) → (IsClosed s.mail b → ⊥)
    → IsTrue (not some) ↔ ((¬ (IsFull s)) × IsOpen s.mail b × NothingWaits s.mail b)
waiting_is {T} s b true is not_full not_closed = (
  (λ e. let false_is_true : false ≡ true = e in absurd cc),
  (λ all. let some = is.0 refl in absurd (omega (arith, some, waits_none s.mail b all.2))),
)
waiting_is {T} s b false is not_full not_closed = (
  (λ e.
      let empty : 0 < waiting_at s.mail b → ⊥ = λ lt. let false_is_true : false ≡ true = is.1 lt in cc in
      (not_full, is_true (is_open s.mail b) not_closed, none_waits s.mail b (omega arith))),
  (λ all. refl),
)
