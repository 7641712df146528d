-- The steps of a phase that is played by itself, of what is kept of it.
use Rattle.std.proofs.Common.{ℕ, ◌+◌, ◌-◌, ◌<◌, ◌≡◌, ◌≢◌, true, false, List, [], ◌∷◌, ◌++◌, Option, Some, None, map, set, get_or, length, take, add-one, add-zero, refl, sym, ap, ◌∙◌, arith}
use Rattle.std.specs.Prelude.{ℤ, pos, ◌≤ℤ◌, ◌<ℤ◌}
use Rattle.std.proofs.lemmas.Bool.{ne_eqb}
use Rattle.std.proofs.lemmas.Int.{ints}
use Rattle.std.proofs.Math.Seq.{take-suc}
use Rattle.std.proofs.lemmas.List.{get_or-map, map-append, map-set, set-get_or, append_assoc}
use Rattle.auc_letters.specs.declared.letter.Bid.{Bid}
use Rattle.auc_letters.specs.declared.state.Held.{Held}
use Rattle.auc_letters.specs.Award.{is_accepted, least_amount}
use Rattle.auc_world.specs.declared.single_shard.lot.Lot.{Lot}
use Rattle.auc_world.specs.SingleState.{SingleState, awarded, frees, nobody, sale_at}
use Rattle.auc_world.specs.SinglePhase.{answered, with_sale, with_notice}
use Rattle.auc_world.specs.Lots.{holder_by, holder_in, price_in}

-- ---- lots

pub held_by : (person arc : ℕ) → person ≢ nobody → holder_by person arc ≡ Some (record { person = person; arc = arc })
held_by person arc ne = rw (ne_eqb person nobody ne) refl

pub lot_prices : (lots : List Lot) (i : ℕ) (l : Lot) (price : ℤ) → l.price ≡ price → map price_in (set lots i l) ≡ set (map price_in lots) i price
lot_prices lots i l price e = map-set price_in lots i l ∙ ap (set (map price_in lots) i) e

pub lot_holders : (lots : List Lot) (i : ℕ) (l : Lot) (holder : Option Held) → holder_in l ≡ holder → map holder_in (set lots i l) ≡ set (map holder_in lots) i holder
lot_holders lots i l holder e = map-set holder_in lots i l ∙ ap (set (map holder_in lots) i) e

-- the holder of an object, as its lot says
pub holder_here : (lots : List Lot) (i : ℕ) (l : Lot) → i < length lots → l ≡ get_or lots i l → get_or (map holder_in lots) i None ≡ holder_in l
holder_here lots i l lt e = get_or-map holder_in lots i l None lt ∙ ap holder_in (sym e)

pub price_here : (lots : List Lot) (i : ℕ) (l : Lot) → i < length lots → l ≡ get_or lots i l → get_or (map price_in lots) i (pos 0) ≡ l.price
price_here lots i l lt e = get_or-map price_in lots i l (pos 0) lt ∙ ap price_in (sym e)

-- ---- an object is sold

module _ (s : SingleState) (object : ℕ) (price : ℤ) (held : Held) where
  abbrev with_lot : SingleState
  with_lot = record s { prices = set s.prices object price; holders = set s.holders object (Some held) }

  -- for the first time
  pub sells_first : (sale_at s object).holder ≡ None → with_notice (record with_lot { count = s.count + 1 }) (awarded object price) ≡ with_sale s object price held
  sells_first none = rw none refl

  -- and again
  pub sells_again : (other : Held) → (sale_at s object).holder ≡ Some other → with_notice (with_notice with_lot (frees other.person object price)) (awarded object price) ≡ with_sale s object price held
  sells_again other some = rw (some, append_assoc s.notices (frees other.person object price ∷ []) (awarded object price ∷ []), add-zero) refl

-- ---- a bid is answered

module _ (eps : ℤ) (s : SingleState) (bid : Bid) where
  abbrev one_less : SingleState
  one_less = record s { bids = s.bids - 1 }

  accepts : least_amount (sale_at s bid.object).price eps ≤ℤ bid.amount → is_accepted eps (sale_at s bid.object) bid ≡ true
  accepts h = grind (arith, ints)

  declines : bid.amount <ℤ least_amount (sale_at s bid.object).price eps → is_accepted eps (sale_at s bid.object) bid ≡ false
  declines h = grind (arith, ints)

  pub answers_sale : least_amount (sale_at s bid.object).price eps ≤ℤ bid.amount → answered eps s bid ≡ with_sale one_less bid.object bid.amount (record { person = bid.person; arc = bid.arc })
  answers_sale h = rw (accepts h) refl

  pub answers_refusal : bid.amount <ℤ least_amount (sale_at s bid.object).price eps → answered eps s bid ≡ with_notice one_less (frees bid.person bid.object (sale_at s bid.object).price)
  answers_refusal h =
      rw (declines h)
      (ap (λ (ps : List ℤ). record s { prices = ps; holders = set s.holders bid.object (sale_at s bid.object).holder; notices = s.notices ++ frees bid.person bid.object (sale_at s bid.object).price ∷ []; bids = s.bids - 1; count = s.count + 0 }) (set-get_or s.prices bid.object (pos 0))
      ∙ ap (λ (hs : List (Option Held)). record s { holders = hs; notices = s.notices ++ frees bid.person bid.object (sale_at s bid.object).price ∷ []; bids = s.bids - 1; count = s.count + 0 }) (set-get_or s.holders bid.object None)
      ∙ ap (λ (n : ℕ). record s { notices = s.notices ++ frees bid.person bid.object (sale_at s bid.object).price ∷ []; bids = s.bids - 1; count = n }) (add-zero s.count))

-- ---- lists of lots

-- one lot more
pub map_more : {X : Type 0} (f : Lot → X) (lots : List Lot) (i : ℕ) (d : Lot) → i < length lots → map f (take (i + 1) lots) ≡ map f (take i lots) ++ f (get_or lots i d) ∷ []
map_more f lots i d lt = ap (map f) (ap (λ n. take n lots) (add-one i) ∙ take-suc lots i d lt) ∙ map-append f (take i lots) (get_or lots i d ∷ [])
