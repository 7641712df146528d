-- A bid raises the price, and satisfies epsilon-complementary slackness at the new one.
use Rattle.std.proofs.Common.{◌≡◌, ℕ, ◌<◌, ◌^◌, inl, inr, List, length, get_or, set, ap, sym, ◌∙◌, arith}
use Rattle.std.specs.Prelude.{ℤ, pos, ◌+ℤ◌, ◌-ℤ◌, ◌*ℤ◌, ◌≤ℤ◌, ◌<ℤ◌, ◌⊎◌, All}
use Rattle.std.proofs.lemmas.Bool.{cases_eq}
use Rattle.std.proofs.lemmas.Int.{by_lt_z, ints}
use Rattle.std.proofs.lemmas.List.{get_or-set_same, get_or-set_other, get_or_default}
use Rattle.std.proofs.lemmas.List.Elements.{All-contains}
use Rattle.auc_graph.specs.Dual.{price_at}
use Rattle.auc_rows.specs.declared.arc.ShortArc.{ShortArc}
use Rattle.auc_market.specs.declared.best.Best.{Best}
use Rattle.auc_market.specs.Bid.{IsOffer, IsRaise}
use Rattle.auc_market.specs.Scan.{endless, short_value}
use Rattle.auc_market.specs.Shortlist.{IsBest, IsSecond}

-- prices of which one has risen are not lower
pub risen : (prices : List ℤ) (j : ℕ) (amount : ℤ) → j < length prices → price_at prices j ≤ℤ amount → (k : ℕ) → price_at prices k ≤ℤ price_at (set prices j amount) k
risen prices j amount lt up k =
    elim (cases_eq k j) [
      | inl same ↦ (let e = ap (price_at prices) same in let f = ap (price_at (set prices j amount)) same in let h = get_or-set_same prices j amount (pos 0) lt in omega (arith, ints, e, f, h, up))
      | inr other ↦ (let h = get_or-set_other prices j k amount (pos 0) other in omega (arith, ints, h))
    ]

-- no arc of the row has a lower value than the best one
pub best_least : (val : ShortArc → ℤ) (row : List ShortArc) (b : Best) → IsBest val row b → All (λ a. val b.arc ≤ℤ val a) row
best_least val row b h k d lt = by (h.others k d lt)
  where
    by : (get_or row k d ≡ b.arc) ⊎ (b.second ≤ℤ val (get_or row k d)) → val b.arc ≤ℤ val (get_or row k d)
    by (inl same) = let e = ap val same in omega (arith, ints, e)
    by (inr above) = let i = h.is in let l = h.least in omega (arith, ints, above, i, l)

-- a bid that is capped at the greatest price is from the least one up to the whole
pub capped_between : (least margin amount : ℤ) → least ≤ℤ pos (2 ^ 61) → pos 0 ≤ℤ margin → ((least +ℤ margin) ≤ℤ pos (2 ^ 61) → amount ≡ (least +ℤ margin)) → (pos (2 ^ 61) <ℤ (least +ℤ margin) → amount ≡ pos (2 ^ 61)) → (least ≤ℤ amount) × (amount ≤ℤ (least +ℤ margin)) × (amount ≤ℤ pos (2 ^ 61))
capped_between least margin amount most some whole capped =
    by_lt_z (pos (2 ^ 61)) (least +ℤ margin)
    (λ high. let is = capped high in (omega (arith, ints, is, most), omega (arith, ints, is, high), omega (arith, ints, is)))
    (λ fits. let is = whole fits in (omega (arith, ints, is, some), omega (arith, ints, is), omega (arith, ints, is, fits)))

-- the margin: what a bid adds to the price beside eps
pub IsLead : List ShortArc → Best → ℤ → Type 0
IsLead row b margin = (pos 0 ≤ℤ margin) × ((All (λ a. a ≡ b.arc) row) ⊎ (margin ≤ℤ (b.second -ℤ b.value)))

pub margin_is : (val : ShortArc → ℤ) (row : List ShortArc) (b : Best) (margin : ℤ) → IsBest val row b → pos 0 ≤ℤ margin → (b.second <ℤ endless → margin ≤ℤ (b.second -ℤ b.value)) → IsLead row b margin
unfolding IsLead
margin_is val row b margin h low next = (low, by h.second_is)
  where
    by : ((b.second ≡ endless) × All (λ a. a ≡ b.arc) row) ⊎ IsSecond val row b.second → (All (λ a. a ≡ b.arc) row) ⊎ (margin ≤ℤ (b.second -ℤ b.value))
    by (inl e) = inl e.1
    by (inr s) = inr (next (let u = s.range.high in omega (arith, ints, u)))

module _ (scale eps : ℤ) (prices : List ℤ) (row : List ShortArc) (b : Best) (margin amount : ℤ) (h : IsBest (short_value scale prices) row b) (is : IsLead row b margin) (within : b.arc.object < length prices)
    (sum : amount ≡ ((price_at prices b.arc.object +ℤ margin) +ℤ eps)) (some : pos 1 ≤ℤ eps) where
  abbrev arc : ShortArc
  arc = b.arc

  abbrev new : List ℤ
  new = set prices arc.object amount

  up : price_at prices arc.object ≤ℤ amount
  unfolding IsLead
  up = let l = is.0 in omega (arith, ints, sum, l, some)

  -- the arc of the bid itself
  itself : (a : ShortArc) → a ≡ arc → short_value scale new arc ≤ℤ (short_value scale new a +ℤ eps)
  itself a same = let e = ap (short_value scale new) same in omega (arith, ints, e, some)

  other : (a : ShortArc) → b.second ≤ℤ short_value scale prices a → margin ≤ℤ (b.second -ℤ b.value) → short_value scale new arc ≤ℤ (short_value scale new a +ℤ eps)
  other a above e =
      let r = risen prices arc.object amount within up a.object in
      let own = get_or-set_same prices arc.object amount (pos 0) within in
      let i = h.is in
      omega (arith, ints, above, r, own, i, sum, e)

  no_better : (a : ShortArc) (k : ℕ) → k < length row → get_or row k arc ≡ a → (a ≡ arc) ⊎ (b.second ≤ℤ short_value scale prices a) → (All (λ c. c ≡ arc) row) ⊎ (margin ≤ℤ (b.second -ℤ b.value)) → short_value scale new arc ≤ℤ (short_value scale new a +ℤ eps)
  no_better a k lt at (inl same) by = itself a same
  no_better a k lt at (inr above) (inl all) = itself a (sym at ∙ all k arc lt)
  no_better a k lt at (inr above) (inr e) = other a above e

  pub raise_is : IsRaise scale eps prices row arc amount
  unfolding IsLead
  raise_is = record {
    listed = h.listed;
    more = (let l = is.0 in omega (arith, ints, sum, l));
    slack = λ k d lt. no_better (get_or row k d) k lt (get_or_default row k arc d lt) (h.others k d lt) is.1;
  }

-- The amount is at most that of the rule of a bid.
module _ (scale spread eps : ℤ) (prices : List ℤ) (row : List ShortArc) (b : Best) (margin scaled amount : ℤ) (h : IsBest (short_value scale prices) row b) (next : b.second <ℤ endless → margin ≤ℤ (b.second -ℤ b.value)) (only : endless ≤ℤ b.second → margin ≤ℤ scaled) (low : pos 0 ≤ℤ margin) (least : pos 0 ≤ℤ scaled) (product : scaled ≡ (scale *ℤ spread))
    (sum : amount ≡ ((price_at prices b.arc.object +ℤ margin) +ℤ eps)) where
  abbrev Seconds : Type 0
  Seconds = ((b.second ≡ endless) × All (λ a. a ≡ b.arc) row) ⊎ IsSecond (short_value scale prices) row b.second

  margin_second : IsSecond (short_value scale prices) row b.second → margin ≤ℤ (b.second -ℤ b.value)
  margin_second s = next (let u = s.range.high in omega (arith, ints, u))

  wrapping_value : Seconds → (k : ℕ) (d : ShortArc) → k < length row → (get_or row k d ≡ b.arc) ⊎ ((short_value scale prices b.arc +ℤ margin) ≤ℤ short_value scale prices (get_or row k d))
  wrapping_value (inl e) k d lt = inl (e.1 k d lt)
  wrapping_value (inr s) k d lt =
      elim (h.others k d lt) [
        | inl same ↦ inl same
        | inr above ↦ inr (let n = margin_second s in let v = h.is in omega (arith, ints, n, v, above))
      ]

  alone : Seconds → All (λ a. a ≡ b.arc) row → margin ≤ℤ (scale *ℤ spread)
  alone (inl e) all = let o = only (let a = e.0 in omega (arith, ints, a)) in omega (arith, ints, o, product)
  alone (inr s) all =
      let same = ap (short_value scale prices) (All-contains (λ a. a ≡ b.arc) row s.arc all s.listed) in
      let u = s.below in
      let n = margin_second s in
      let v = h.is in
      omega (arith, ints, same, u, n, v, least, product)

  pub offer_is : IsOffer scale spread eps prices row b.arc amount
  offer_is = record {
    listed = h.listed;
    margin = margin;
    low = low;
    others = wrapping_value h.second_is;
    only = alone h.second_is;
    is = sum;
  }
