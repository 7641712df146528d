-- The award rule by cases, and over lists of bids.
use Rattle.std.proofs.Common.{◌^◌, ◌&&◌, pos, ◌≡◌, ℕ, Bool, true, false, cond, List, [], ◌∷◌, refl, ap, arith, None, sym, ◌∙◌}
use Rattle.std.specs.Prelude.{ℤ, ◌≤ℤ◌, ◌<ℤ◌, int_le}
use Rattle.std.proofs.lemmas.Int.{ints}
use Rattle.auc_letters.specs.declared.letter.Bid.{Bid}
use Rattle.auc_graph.specs.Price.{IsPrice}
use Rattle.auc_letters.specs.Price.{IsEps, is_amount}
use Rattle.auc_letters.specs.Award.{Sale, answers, award, award_all, awards, is_accepted, least_amount, refusal, sold_by}

le_true : (a b : ℤ) → a ≤ℤ b → int_le a b ≡ true
le_true a b h = grind (arith, ints)

le_false : (a b : ℤ) → b <ℤ a → int_le a b ≡ false
le_false a b h = grind (arith, ints)

le_back : (a b : ℤ) → int_le a b ≡ true → a ≤ℤ b
le_back a b h = grind (arith, ints)

-- the test of an amount is the range of prices
pub price_is_amount : (amount : ℤ) → IsPrice amount → is_amount amount ≡ true
price_is_amount amount p = rw (le_true (pos 0) amount p.low, le_true amount (pos (2 ^ 61)) p.high) refl

pub amount_is_price : (amount : ℤ) → is_amount amount ≡ true → IsPrice amount
amount_is_price amount e = by (int_le (pos 0) amount) (int_le amount (pos (2 ^ 61))) refl refl e
  where
    by : (p q : Bool) → int_le (pos 0) amount ≡ p → int_le amount (pos (2 ^ 61)) ≡ q → (p && q) ≡ true → IsPrice amount
    by true true low high e = record { low = le_back (pos 0) amount low; high = le_back amount (pos (2 ^ 61)) high }
    by true false low high e = absurd cc
    by false q low high e = absurd cc

module _ (shards : ℕ) (eps : ℤ) (sale : Sale) (bid : Bid) where
  pub award_accepts : least_amount sale.price eps ≤ℤ bid.amount → award eps sale bid ≡ sold_by bid
  award_accepts h = ap (λ b. cond b (sold_by bid) sale) (le_true (least_amount sale.price eps) bid.amount h)

  pub award_declines : bid.amount <ℤ least_amount sale.price eps → award eps sale bid ≡ sale
  award_declines h = ap (λ b. cond b (sold_by bid) sale) (le_false (least_amount sale.price eps) bid.amount h)

  pub answers_accept : least_amount sale.price eps ≤ℤ bid.amount → answers shards eps sale bid ≡ awards shards sale.holder bid.person bid.object bid.amount
  answers_accept h =
      ap (λ b. cond b (awards shards sale.holder bid.person bid.object bid.amount) (refusal shards bid.person bid.object sale.price)) (le_true (least_amount sale.price eps) bid.amount h)

  pub answers_decline : bid.amount <ℤ least_amount sale.price eps → answers shards eps sale bid ≡ refusal shards bid.person bid.object sale.price
  answers_decline h =
      ap (λ b. cond b (awards shards sale.holder bid.person bid.object bid.amount) (refusal shards bid.person bid.object sale.price)) (le_false (least_amount sale.price eps) bid.amount h)

-- one bid doesn't lower the price
award_rises : (eps : ℤ) (sale : Sale) (bid : Bid) → IsEps eps → sale.price ≤ℤ (award eps sale bid).price
award_rises eps sale bid is = by (is_accepted eps sale bid) refl
  where
    by : (b : Bool) → is_accepted eps sale bid ≡ b → sale.price ≤ℤ (cond b (sold_by bid) sale).price
    by true e = omega (arith, ints, le_back (least_amount sale.price eps) bid.amount e, is.low)
    by false e = omega (arith, ints)

pub all_rises : (eps : ℤ) (sale : Sale) (bids : List Bid) → IsEps eps → sale.price ≤ℤ (award_all eps sale bids).price
all_rises eps sale [] is = omega (arith, ints)
all_rises eps sale (bid ∷ bids) is = omega (arith, ints, award_rises eps sale bid is, all_rises eps (award eps sale bid) bids is)

-- once an object has a holder, it keeps one
pub award_holds : (eps : ℤ) (sale : Sale) (bid : Bid) → (award eps sale bid).holder ≡ None → award eps sale bid ≡ sale
award_holds eps sale bid none = by (is_accepted eps sale bid) none
  where
    by : (b : Bool) → (cond b (sold_by bid) sale).holder ≡ None → cond b (sold_by bid) sale ≡ sale
    by true e = absurd cc
    by false e = refl

pub all_unheld : (eps : ℤ) (sale : Sale) (bids : List Bid) → (award_all eps sale bids).holder ≡ None → award_all eps sale bids ≡ sale
all_unheld eps sale [] none = refl
all_unheld eps sale (bid ∷ bids) none =
    let rest : award_all eps (award eps sale bid) bids ≡ award eps sale bid = all_unheld eps (award eps sale bid) bids none in
    rest ∙ award_holds eps sale bid (ap (λ (s : Sale). s.holder) (sym rest) ∙ none)
