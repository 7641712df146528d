-- A mail after a lane is set, and after a box is closed.
use Rattle.std.proofs.Common.{ℕ, ◌+◌, ◌*◌, ◌<◌, ◌≡◌, refl, arith, Bool, false, List, [], ◌∷◌, length, get_or, sum_by, inl, inr, ap, sym, ◌∙◌}
use Rattle.std.specs.Prelude.{if◌then◌else◌, ◌==◌, ◌&&◌}
use Rattle.std.proofs.lemmas.Bool.{cases_eq, cases_lt}
use Rattle.std.proofs.lemmas.Bool.Decides.{nat_tests}
use Rattle.std.proofs.lemmas.List.{get_or-set_same, get_or-set_other, set_past}
use Rattle.std.proofs.lemmas.List.Sums.{sum_by-set, sum_by-cons}
use Rattle.auc_mail.proofs.StepLaws.{lane_of-with_lane_other, lane_of-with_lane_same, lane_there}
use Rattle.auc_mail.specs.Mail.{HasLane, IsOpen, IsWhole, Lane, Mail, blank_lane, lane_of, waiting_of, with_closed, with_lane}
use Rattle.auc_model.specs.Room.{weight}
use Rattle.auc_model.specs.Channels.{waiting}

at_both : {X : Type 0} (c b t s : ℕ) (x y : X) → c ≡ b → t ≡ s → (if (c == b) && (t == s) then x else y) ≡ x
at_both c b t s x y e f = grind (arith, nat_tests)

off_both : {X : Type 0} (c b t s : ℕ) (x y : X) → ((c ≡ b) × (t ≡ s) → ⊥) → (if (c == b) && (t == s) then x else y) ≡ y
off_both c b t s x y n = grind (arith, nat_tests)

-- the letters in the lane of a sender, and of a number that is no sender
pub waiting_there : {T : Type 0} (m : Mail T) (b x : ℕ) → x < m.senders → waiting m b x ≡ (lane_of m b x).waiting
waiting_there m b x h = grind (arith, nat_tests)

waiting_nobody : {T : Type 0} (m : Mail T) (b x : ℕ) → (x < m.senders → ⊥) → waiting m b x ≡ []
waiting_nobody m b x n = grind (arith, nat_tests)

module _ {T : Type 0} (m : Mail T) (b s : ℕ) (l : Lane T) (whole : IsWhole m) (h : HasLane m b s) where
  set_here : (c t : ℕ) → c ≡ b → t ≡ s → waiting (with_lane m b s l) c t ≡ l.waiting
  set_here c t e f = rw (e, f) (waiting_there (with_lane m b s l) b s h.0 ∙ ap (λ (x : Lane T). x.waiting) (lane_of-with_lane_same m b s l whole h))

  set_off : (c t : ℕ) → ((c ≡ b) × (t ≡ s) → ⊥) → waiting (with_lane m b s l) c t ≡ waiting m c t
  set_off c t n =
      elim (cases_lt t m.senders) [
        | inl k ↦ waiting_there (with_lane m b s l) c t k ∙ (ap (λ (x : Lane T). x.waiting) (lane_of-with_lane_other m c t b s l k h.0 (λ p. n (sym p.0, sym p.1))) ∙ sym (waiting_there m c t k))
        | inr k ↦ waiting_nobody (with_lane m b s l) c t (λ p. omega (arith, k)) ∙ sym (waiting_nobody m c t (λ p. omega (arith, k)))
      ]

  -- the letters that wait after a lane is set
  pub waiting-set : (c t : ℕ) → waiting (with_lane m b s l) c t ≡ (if (c == b) && (t == s) then l.waiting else waiting m c t)
  waiting-set c t =
      elim (cases_eq c b) [
        | inl e ↦ elim (cases_eq t s) [
          | inl f ↦ set_here c t e f ∙ sym (at_both c b t s l.waiting (waiting m c t) e f)
          | inr f ↦ set_off c t (λ p. f p.1) ∙ sym (off_both c b t s l.waiting (waiting m c t) (λ p. f p.1))
        ]
        | inr e ↦ set_off c t (λ p. e p.0) ∙ sym (off_both c b t s l.waiting (waiting m c t) (λ p. e p.0))
      ]

  -- the weight of the waiting letters then
  pub weight-set : (f : T → ℕ) → weight f (with_lane m b s l) + sum_by f (waiting m b s) ≡ weight f m + sum_by f l.waiting
  weight-set f =
      let e = sum_by-set (λ (x : Lane T). sum_by f x.waiting) m.lanes (b * m.senders + s) l blank_lane (lane_there m b s whole h) in
      let w = ap (λ (xs : List T). sum_by f xs) (waiting_there m b s h.0) in
      omega (arith, e, w)

-- a box that is open after another was closed was so before
pub open-close : {T : Type 0} (m : Mail T) (b c : ℕ) → IsOpen (with_closed m b) c → IsOpen m c
open-close m b c o =
    elim (cases_eq c b) [
      | inl e ↦ elim (cases_lt b (length m.accepting)) [
        | inl h ↦ absurd (false_here e h)
        | inr h ↦ sym (ap (λ (xs : List Bool). get_or xs c false) (set_past m.accepting b false h)) ∙ o
      ]
      | inr e ↦ sym (get_or-set_other m.accepting b c false false e) ∙ o
    ]
  where
    false_here : c ≡ b → b < length m.accepting → ⊥
    false_here e h =
        let here = get_or-set_same m.accepting b false false h in
        let there : get_or m.accepting c false ≡ get_or m.accepting c false = refl in
        absurd (cc (here, o, e))

-- every letter weighs one
pub weight_ones : {T : Type 0} (m : Mail T) → weight (λ _. 1) m ≡ waiting_of m
weight_ones m = over m.lanes
  where
    ones : {T : Type 0} (xs : List T) → sum_by (λ _. 1) xs ≡ length xs
    ones [] = refl
    ones (x ∷ xs) = let e = ones xs in let c = sum_by-cons (λ _. 1) x xs in omega (arith, e, c)

    over : {T : Type 0} (ls : List (Lane T)) → sum_by (λ l. sum_by (λ _. 1) l.waiting) ls ≡ sum_by (λ l. length l.waiting) ls
    over [] = refl
    over {T} (l ∷ ls) =
        let e = over ls in
        let o = ones l.waiting in
        let c = sum_by-cons (λ (l : Lane T). sum_by (λ _. 1) l.waiting) l ls in
        let d = sum_by-cons (λ (l : Lane T). length l.waiting) l ls in
        omega (arith, e, o, c, d)
