-- How much the waiting letters weigh after a post and a take; and that prices take at most half of the room.
use Rattle.std.proofs.Common.{ℕ, ◌+◌, ◌*◌, ◌<◌, ◌≤◌, ◌≡◌, refl, arith, Bool, true, false, List, [], ◌∷◌, length, sum_by, inl, inr, ap, sym, ◌∙◌}
use Rattle.std.specs.Prelude.{if◌then◌else◌}
use Rattle.std.proofs.lemmas.Bool.{cases_lt}
use Rattle.std.proofs.lemmas.List.{get_or_past, set_past}
use Rattle.std.proofs.lemmas.List.Sums.{sum_by-cons, sum_by-set, sum_by_push}
use Rattle.auc_letters.specs.declared.letter.Letter.{Letter}
use Rattle.auc_mail.specs.Mail.{IsWhole, Lane, Mail, blank_lane, lane_behind, lane_of, with_lane}
use Rattle.auc_mail.specs.Step.{Step}
use Rattle.auc_mail.specs.declared.call.Call.{Call}
use Rattle.auc_mail.specs.declared.call.Reply.{Reply}
use Rattle.auc_model.specs.Letters.{price_one}
use Rattle.auc_model.specs.Mails.{Takes}
use Rattle.auc_model.specs.Posting.{is_price}
use Rattle.auc_model.specs.Room.{weight}
use Rattle.auc_model.proofs.Mails.{waiting_there, weight-set, weight_ones}
use Rattle.auc_model.proofs.Sums.{sum_by_le}

weight_le : (m : Mail Letter) (f h : Letter → ℕ) → ((l : Letter) → f l ≤ h l) → weight f m ≤ weight h m
weight_le m f h e = sum_by_le (λ (l : Lane Letter). sum_by f l.waiting) (λ (l : Lane Letter). sum_by h l.waiting) (λ l. sum_by_le f h e l.waiting) m.lanes

-- one letter more in the mail
pub weight_posted : (m n : Mail Letter) (s b r k : ℕ) (x : Letter) (f : Letter → ℕ) → IsWhole m → Step m (Call.Post s b x r) (Reply.Posted k) n → weight f n ≡ weight f m + f x
weight_posted m n s b r k x f whole p =
    let a = weight-set m b s (lane_behind (lane_of m b s) x) whole p.lane f in
    let d = sum_by_push f (lane_of m b s).waiting x in
    let u = ap (λ (xs : List Letter). sum_by f xs) (waiting_there m b s p.lane.0) in
    let e = ap (λ (z : Mail Letter). weight f z) p.next in
    omega (arith, a, d, u, e)

-- A letter more makes a mail of any shape heavier by no more than itself: where its lane isn't there, the mail stays as
-- it was
pub weight_posted_le : (m n : Mail Letter) (s b r k : ℕ) (x : Letter) (f : Letter → ℕ) → Step m (Call.Post s b x r) (Reply.Posted k) n → weight f n ≤ weight f m + f x
weight_posted_le m n s b r k x f p = elim (cases_lt at (length m.lanes)) [ inl h ↦ there h | inr h ↦ past h ]
  where
    at : ℕ
    at = b * m.senders + s

    longer : Lane Letter
    longer = lane_behind (lane_of m b s) x

    after : weight f n ≡ weight f (with_lane m b s longer)
    after = ap (λ (z : Mail Letter). weight f z) p.next

    there : at < length m.lanes → weight f n ≤ weight f m + f x
    there h =
        let a = sum_by-set (λ (l : Lane Letter). sum_by f l.waiting) m.lanes at longer blank_lane h in
        let c = sum_by_push f (lane_of m b s).waiting x in
        let e = after in
        omega (arith, a, c, e)

    past : length m.lanes ≤ at → weight f n ≤ weight f m + f x
    past h =
        let a = ap (λ (ls : List (Lane Letter)). sum_by (λ (l : Lane Letter). sum_by f l.waiting) ls) (set_past m.lanes at longer h) in
        let e = after in
        omega (arith, a, e)

-- A letter that is taken makes a mail of any shape lighter by what it weighs: its lane is there, since it waited in it
pub weight_taken : (m n : Mail Letter) (b s k : ℕ) (x : Letter) (f : Letter → ℕ) → Takes m b s k x n → weight f n + f x ≡ weight f m
weight_taken m n b s k x f t = elim (cases_lt at (length m.lanes)) [ inl h ↦ there h | inr h ↦ past h ]
  where
    at : ℕ
    at = b * m.senders + s

    there : at < length m.lanes → weight f n + f x ≡ weight f m
    there h =
        let a = sum_by-set (λ (l : Lane Letter). sum_by f l.waiting) m.lanes at (record { taken = k; waiting = t.rest }) blank_lane h in
        let c = ap (λ (xs : List Letter). sum_by f xs) t.first in
        let d = sum_by-cons f x t.rest in
        let e = ap (λ (z : Mail Letter). weight f z) t.next in
        omega (arith, a, c, d, e)

    past : length m.lanes ≤ at → weight f n + f x ≡ weight f m
    past h = let e : [] ≡ x ∷ t.rest = sym (ap (λ (l : Lane Letter). l.waiting) (get_or_past m.lanes at blank_lane h)) ∙ t.first in absurd cc

one_at_most : (l : Letter) → price_one l ≤ 1
one_at_most (Letter.Price j p) = omega arith
one_at_most (Letter.Award i j p) = omega arith
one_at_most (Letter.Refused i j p) = omega arith
one_at_most (Letter.Outbid i j p) = omega arith
one_at_most (Letter.Bid i a j p) = omega arith
one_at_most (Letter.First j) = omega arith
one_at_most (Letter.Stop y) = omega arith

price_is : (l : Letter) → is_price l ≡ false → price_one l ≡ 0
price_is (Letter.Price j p) e = absurd cc
price_is (Letter.Award i j p) e = refl
price_is (Letter.Refused i j p) e = refl
price_is (Letter.Outbid i j p) e = refl
price_is (Letter.Bid i a j p) e = refl
price_is (Letter.First j) e = refl
price_is (Letter.Stop y) e = refl

-- Prices take at most half of the nodes of the persons mail: one is posted only where more than the reserve is free
pub few_prices_posted : (m n : Mail Letter) (s b r i k : ℕ) (x : Letter) → IsWhole m → Step m (Call.Post s b x r) (Reply.Posted i) n → m.nodes ≡ 4 * k → r ≡ (if is_price x then 2 * k else 0) → weight price_one m ≤ 2 * k → weight price_one n ≤ 2 * k
few_prices_posted m n s b r i k x whole p nodes reserve few = by (is_price x) refl
  where
    by : (t : Bool) → is_price x ≡ t → weight price_one n ≤ 2 * k
    by true e =
        let a = weight_posted m n s b r i x price_one whole p in
        let d = weight_le m price_one (λ _. 1) one_at_most in
        let u = one_at_most x in
        let o = weight_ones m in
        let rr : r ≡ 2 * k = reserve ∙ rw e in
        omega (arith, a, d, u, o, rr, p.free, nodes)
    by false e = let a = weight_posted m n s b r i x price_one whole p in let u = price_is x e in omega (arith, a, u, few)
