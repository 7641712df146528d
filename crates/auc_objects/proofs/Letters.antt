-- The objects of a shard after a letter, as bids on each of them.
use Rattle.std.proofs.Common.{◌≡◌, ◌≢◌, ℕ, ◌<◌, Bool, true, false, List, [], ◌∷◌, length, refl, sym, ap, ◌∙◌, arith, Some, None, subst, inl, inr, ◌==◌, ◌&&◌}
use Rattle.std.specs.Prelude.{ℤ, Option}
use Rattle.std.proofs.lemmas.Bool.{cases_Bool, cases_eq, eq-eqb, eqb-true, ne_eqb}
use Rattle.auc_letters.specs.declared.letter.Letter.{Letter}
use Rattle.auc_letters.specs.declared.letter.Bid.{Bid}
use Rattle.auc_letters.specs.Award.{award, award_all, bid_letter, bid_on, bids_on, bid_of}
use Rattle.auc_graph.specs.Price.{IsPrice}
use Rattle.auc_letters.specs.Price.{is_amount}
use Rattle.auc_letters.proofs.Award.{amount_is_price, price_is_amount}
use Rattle.auc_objects.specs.Objects.{AreObjects, IsBidIn, Objects, Owns, after_bid, sale_of}
use Rattle.auc_objects.proofs.Sales.{sale_here, sale_other}

one_or_none : Option Bid → List Bid
one_or_none None = []
one_or_none (Some b) = b ∷ []

one_letter : (j : ℕ) (l : Letter) → bids_on j (l ∷ []) ≡ one_or_none (bid_on j l)
unfolding one_or_none
one_letter j l = by (bid_on j l) refl
  where
    by : (o : Option Bid) → bid_on j l ≡ o → bids_on j (l ∷ []) ≡ one_or_none o
    by None e = rw e refl
    by (Some b) e = rw e refl

-- a bid on this object, and one on another
bid_here : (j : ℕ) (bid : Bid) → bid.object ≡ j → IsPrice bid.amount → bid_on j (bid_letter bid) ≡ Some bid
bid_here j bid e p = rw (eq-eqb bid.object j e, price_is_amount bid.amount p) refl

bid_there : (j : ℕ) (bid : Bid) → bid.object ≢ j → bid_on j (bid_letter bid) ≡ None
bid_there j bid ne = rw (ne_eqb bid.object j ne) refl

pub dealt : (s : Objects) (eps : ℤ) (l : Letter) (bid : Bid) (j : ℕ) → AreObjects s → IsBidIn s l bid → sale_of (after_bid s eps bid) j ≡ award_all eps (sale_of s j) (bids_on j (l ∷ []))
unfolding one_or_none
dealt s eps l bid j are fits =
    let known = fits.owns.known in
    let held : bid.object < length s.holders = omega (arith, known, are.each) in
    let letter = fits.letter_is in
    elim (cases_eq bid.object j) [
      | inl e ↦ (
          let bids : bids_on j (l ∷ []) ≡ bid ∷ [] = one_letter j l ∙ ap one_or_none (ap (bid_on j) letter ∙ bid_here j bid e fits.amount) in
          let sold : sale_of (after_bid s eps bid) j ≡ award eps (sale_of s j) bid = subst (λ (k : ℕ). sale_of (after_bid s eps bid) k ≡ award eps (sale_of s k) bid) e (sale_here s eps bid known held) in
          sold ∙ ap (award_all eps (sale_of s j)) (sym bids)
          )
      | inr ne ↦ (
          let bids : bids_on j (l ∷ []) ≡ [] = one_letter j l ∙ ap one_or_none (ap (bid_on j) letter ∙ bid_there j bid ne) in
          sale_other s eps bid j ne ∙ ap (award_all eps (sale_of s j)) (sym bids)
          )
    ]

pub stray : (s : Objects) (l : Letter) (j : ℕ) → Owns s j → ((bid : Bid) → IsBidIn s l bid → ⊥) → bids_on j (l ∷ []) ≡ []
stray s (Letter.Bid i a k amount) j own none =
    elim (cases_Bool ((k == j) && is_amount amount)) [
      | inl t ↦ (
          let same : k ≡ j = eqb-true k j (both_left (k == j) (is_amount amount) t) in
          let price : IsPrice amount = amount_is_price amount (both_right (k == j) (is_amount amount) t) in
          absurd (none (bid_of i a k amount) (record { letter_is = refl; owns = subst (λ (m : ℕ). Owns s m) (sym same) own; amount = price }))
          )
      | inr f ↦ rw f refl
    ]
  where
    both_left : (p q : Bool) → (p && q) ≡ true → p ≡ true
    both_left true q e = refl
    both_left false q e = cc

    both_right : (p q : Bool) → (p && q) ≡ true → q ≡ true
    both_right true q e = e
    both_right false q e = cc
stray s (Letter.Award i k p) j own none = refl
stray s (Letter.Refused i k p) j own none = refl
stray s (Letter.Outbid i k p) j own none = refl
stray s (Letter.Price k p) j own none = refl
stray s (Letter.First k) j own none = refl
stray s (Letter.Stop y) j own none = refl
