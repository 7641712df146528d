-- The parts of a new pool.
use Rattle.std.proofs.Common.{◌≡◌, ℕ, zero, suc, ◌+◌, ◌*◌, ◌<◌, Bool, true, List, [], ◌∷◌, length, get_or, map, replicate, refl, ap, sym, ◌∙◌, arith}
use Rattle.std.specs.List.{range_with_len}
use Rattle.std.proofs.lemmas.List.{length-replicate, get_or-replicate}
use Rattle.std.proofs.lemmas.List.Sums.{sum-map}
use Rattle.auc_nodes.specs.Lists.{Lists, empty_lists}
use Rattle.auc_mail.specs.Limits.{LanesFit}
use Rattle.auc_mail.specs.Mail.{Lane, Mail, empty_mail}
use Rattle.auc_mail.specs.Pool.{no_box, new_box, box_of, box_waiting, lanes_of, mail_of, IsKept}
use Rattle.auc_mail.specs.declared.boxes.MailBox.{MailBox}
use Rattle.auc_mail.proofs.Tables.{sum_map_zero}
use Rattle.auc_mail.proofs.Keeping.{new_lanes}

no_letter : {T : Type 0} (n j : ℕ) → get_or {A = List T} (replicate n []) j [] ≡ []
no_letter zero j = refl
no_letter (suc n) zero = refl
no_letter (suc n) (suc j) = no_letter n j

all_open : (n : ℕ) → map (λ (x : MailBox). x.accepting) (replicate n new_box) ≡ replicate n true
all_open zero = refl
all_open (suc n) = ap (λ (bs : List Bool). true ∷ bs) (all_open n)

module _ {T : Type 0} (boxes senders nodes most : ℕ) (states : List MailBox) (posted : List ℕ) (pool : Lists T)
    (states_are : states ≡ replicate boxes new_box) (posted_are : posted ≡ replicate (boxes * senders) 0) (pool_is : pool ≡ empty_lists (boxes * senders) nodes) where
  nothing : (b : ℕ) → box_waiting {T = T} senders (replicate (boxes * senders) []) b ≡ 0
  nothing b =
      let f : ℕ → ℕ = λ s. length (get_or {A = List T} (replicate (boxes * senders) []) (b * senders + s) []) in
      sym (sum-map f (range_with_len 0 senders))
      ∙ sum_map_zero (λ (n : ℕ). n) f (range_with_len 0 senders) (λ s. ap (λ (xs : List T). length xs) (no_letter (boxes * senders) (b * senders + s)))

  new_kept : LanesFit boxes senders → IsKept {T = T} senders most (replicate boxes new_box) (replicate (boxes * senders) 0) (empty_lists (boxes * senders) nodes)
  new_kept fit =
      let lanes = boxes * senders in
      let count = length-replicate boxes new_box in
      let none : length (replicate {A = ℕ} lanes 0) ≡ lanes = length-replicate {A = ℕ} lanes 0 in
      let box : (b : ℕ) → b < length (replicate boxes new_box) → box_of (replicate boxes new_box) b ≡ new_box =
      λ b lt. get_or-replicate boxes b new_box no_box (omega (arith, lt, count)) in
      record {
        lanes = none ∙ ap (λ (n : ℕ). n * senders) (sym count);
        lists = length-replicate {A = List T} lanes [] ∙ sym none;
        lanes_fit = rw count fit;
        spent = λ k lt. omega (arith, get_or-replicate {A = ℕ} lanes k 0 0 (omega (arith, lt, none)));
        counted = λ k lt. omega (arith, ap (λ (xs : List T). length xs) (no_letter lanes k));
        waiting = λ b lt. ap (λ (x : MailBox). x.waiting) (box b lt) ∙ sym (nothing b);
        last = λ b lt some. absurd (omega (arith, some, ap (λ (x : MailBox). x.waiting) (box b lt)));
      }

  pub make_keeps : LanesFit boxes senders → IsKept senders most states posted pool
  make_keeps fit = rw (states_are, posted_are, pool_is) (new_kept fit)

  pub make_makes : mail_of senders most states posted pool ≡ empty_mail boxes senders nodes most
  make_makes =
      rw (states_are, posted_are, pool_is)
      (ap (λ (flags : List Bool). let m : Mail T = record { senders = senders; nodes = nodes; most = most; accepting = flags; lanes = lanes_of (replicate (boxes * senders) 0) (replicate (boxes * senders) []) } in m) (all_open boxes)
      ∙ ap (λ (ls : List (Lane T)). let m : Mail T = record { senders = senders; nodes = nodes; most = most; accepting = replicate boxes true; lanes = ls } in m) (new_lanes (boxes * senders)))
