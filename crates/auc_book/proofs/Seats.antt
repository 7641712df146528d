-- Lists of seats, out of which one is taken.
use Rattle.std.proofs.Common.{◌≡◌, ℕ, suc, ◌+◌, ◌<◌, List, [], ◌∷◌, ◌++◌, length, map, get_or, take, drop, drop-cons, All, arith, ◌∙◌, refl, sym, subst, ap}
use Rattle.std.specs.List.{range_with_len, sum_by}
use Rattle.std.proofs.lemmas.List.{take-append-drop}
use Rattle.std.proofs.lemmas.List.Elements.{All-append, All-cons, All-head, All-nil, All-tail}
use Rattle.std.proofs.lemmas.List.FromFn.{map-range_with_len_more}
use Rattle.std.proofs.lemmas.List.Sums.{sum_by-append, sum_by-cons}
use Rattle.auc_book.specs.Seat.{Account, new_account}
use Rattle.auc_book.specs.Seats.{IsPlaceOf, TakesSeat}

pub All-front : {X : Type 0} (P : X → Type 0) (xs ys : List X) → All P (xs ++ ys) → All P xs
All-front P [] ys all = All-nil P
All-front {X} P (x ∷ xs) ys all = All-cons P x xs (All-head P x (xs ++ ys) all) (All-front P xs ys (All-tail P x (xs ++ ys) all))

pub All-back : {X : Type 0} (P : X → Type 0) (xs ys : List X) → All P (xs ++ ys) → All P ys
All-back P [] ys all = all
All-back {X} P (x ∷ xs) ys all = All-back P xs ys (All-tail P x (xs ++ ys) all)

-- one new seat more
pub one_more : {T : Type 0} (old : List (Account T)) (a : Account T) (new : List (Account T)) (k : ℕ)
    → old ≡ map new_account (range_with_len 0 k) → a ≡ new_account k → new ≡ old ++ a ∷ [] → new ≡ map new_account (range_with_len 0 (k + 1))
one_more {T} old a new k before fresh after =
    after
    ∙ (ap (λ (w : List (Account T)). w ++ a ∷ []) before
    ∙ (ap (λ (p : Account T). map new_account (range_with_len 0 k) ++ p ∷ []) fresh
    ∙ sym (map-range_with_len_more new_account 0 k k (omega arith))))

-- the effect of removing a seat
pub takes_seat : {T : Type 0} (k : ℕ) (xs : List (Account T)) (i : ℕ) (s : Account T) → IsPlaceOf k xs i → s ≡ get_or xs i s → TakesSeat k xs s (take i xs ++ drop (suc i) xs)
takes_seat {T} k xs i s at read =
    let lt : i < length xs = at.here in
    record {
      front = take i xs;
      back = drop (suc i) xs;
      before = sym (take-append-drop i xs) ∙ ap (λ w. take i xs ++ w) (drop-cons xs i s lt ∙ ap (λ w. w ∷ drop (suc i) xs) (sym read));
      after = refl;
      whose = ap (λ (p : Account T). p.worker) read ∙ at.whose s;
    }

-- the seats before and after one is taken out
module _ {T : Type 0} (k : ℕ) (old : List (Account T)) (s : Account T) (new : List (Account T)) (t : TakesSeat k old s new) where
  pub taken_sum : sum_by (λ (p : Account T). p.count) old ≡ s.count + sum_by (λ (p : Account T). p.count) new
  taken_sum =
      let f : Account T → ℕ = λ p. p.count in
      omega (arith, ap (sum_by f) t.before, ap (sum_by f) t.after, sum_by-append f t.front (s ∷ t.back), sum_by-append f t.front t.back, sum_by-cons f s t.back)

  pub taken_all : (P : Account T → Type 0) → P s → All P new → All P old
  taken_all P p all =
      let apart : All P (t.front ++ t.back) = subst (λ (w : List (Account T)). All P w) t.after all in
      subst (λ (w : List (Account T)). All P w) (sym t.before) (All-append P t.front (s ∷ t.back) (All-front P t.front t.back apart) (All-cons P s t.back p (All-back P t.front t.back apart)))

  pub taken_here : (P : Account T → Type 0) → All P old → P s
  taken_here P all = All-head P s t.back (All-back P t.front (s ∷ t.back) (subst (λ (w : List (Account T)). All P w) t.before all))

  pub taken_left : (P : Account T → Type 0) → All P old → All P new
  taken_left P all =
      let apart : All P (t.front ++ s ∷ t.back) = subst (λ (w : List (Account T)). All P w) t.before all in
      subst (λ (w : List (Account T)). All P w) (sym t.after) (All-append P t.front t.back (All-front P t.front (s ∷ t.back) apart) (All-tail P s t.back (All-back P t.front (s ∷ t.back) apart)))
