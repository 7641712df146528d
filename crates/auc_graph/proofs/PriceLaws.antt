-- Prices from 0 to 2^61: none is negative, and what they add up to, where there are few of them.
use Rattle.std.proofs.Common.{◌≡◌, ℕ, zero, suc, ◌^◌, List, [], ◌∷◌, length, set, eqb, sym, ◌∙◌, arith, inl, inr}
use Rattle.std.specs.Prelude.{ℤ, pos, ◌+ℤ◌, ◌*ℤ◌, ◌≤ℤ◌, All, Contains}
use Rattle.std.specs.List.{list_any}
use Rattle.std.proofs.lemmas.Bool.{cases_Bool, cases_lt}
use Rattle.std.proofs.lemmas.Int.{ints}
use Rattle.std.proofs.lemmas.List.{get_or_past}
use Rattle.std.proofs.lemmas.List.Elements.{All-head, All-tail, All-cons, All-get_or}
use Rattle.std.proofs.lemmas.Cmp.{nat_eq_equiv}
use Rattle.std.proofs.lemmas.Map.Views.{list_any-from_Contains}
use Rattle.auc_graph.specs.Assignment.{total}
use Rattle.auc_graph.specs.Price.{IsPrice}
use Rattle.auc_graph.specs.Dual.{AreNotNegative, price_at}
use Rattle.auc_graph.proofs.PriceSums.{zeroed, left_at, stays, none_left}

pub not_negative : (prices : List ℤ) → All IsPrice prices → AreNotNegative prices
not_negative prices all j =
    elim (cases_lt j (length prices)) [
      | inl lt ↦ (All-get_or IsPrice prices j (pos 0) lt all).low
      | inr past ↦ rw (get_or_past prices j (pos 0) past) (omega (arith, ints))
    ]

pub prices_below : (prices : List ℤ) → All IsPrice prices → total prices ≤ℤ (pos (length prices) *ℤ pos (2 ^ 61))
prices_below [] all = omega (arith, ints)
prices_below (z ∷ zs) all = omega (arith, ints, (All-head IsPrice z zs all).high, prices_below zs (All-tail IsPrice z zs all))

-- ---- no more than these objects have a price

pub zero_is_price : IsPrice (pos 0)
zero_is_price = record { low = omega (arith, ints); high = omega (arith, ints) }

one_zeroed : (prices : List ℤ) (j : ℕ) → All IsPrice prices → All IsPrice (set prices j (pos 0)) × (total prices ≤ℤ (total (set prices j (pos 0)) +ℤ pos (2 ^ 61)))
one_zeroed [] j all = (all, omega (arith, ints))
one_zeroed (z ∷ zs) zero all =
    let here = All-head IsPrice z zs all in
    (All-cons IsPrice (pos 0) zs zero_is_price (All-tail IsPrice z zs all), omega (arith, ints, here.high))
one_zeroed (z ∷ zs) (suc j) all =
    let rest = one_zeroed zs j (All-tail IsPrice z zs all) in
    (All-cons IsPrice z (set zs j (pos 0)) (All-head IsPrice z zs all) rest.0, omega (arith, ints, rest.1))

all_zeroed : (prices : List ℤ) (js : List ℕ) → All IsPrice prices → total prices ≤ℤ (total (zeroed prices js) +ℤ (pos (length js) *ℤ pos (2 ^ 61)))
all_zeroed prices [] all = omega (arith, ints)
all_zeroed prices (j ∷ js) all =
    let first = one_zeroed prices j all in
    omega (arith, ints, first.1, all_zeroed (set prices j (pos 0)) js first.0)

pub few_below : (prices : List ℤ) (js : List ℕ) → All IsPrice prices → ((j : ℕ) → ¬ Contains js j → price_at prices j ≡ pos 0) → total prices ≤ℤ (pos (length js) *ℤ pos (2 ^ 61))
few_below prices js all others =
    let nothing : total (zeroed prices js) ≡ pos 0 =
    none_left (zeroed prices js) (λ i lt. elim (cases_Bool (list_any (eqb i) js)) [
      | inl t ↦ left_at prices js i t
      | inr f ↦ stays prices js i (others i (λ there. absurd (let found = list_any-from_Contains nat_eq_equiv i js there in let b = sym found ∙ f in cc)))
    ]) in
    omega (arith, ints, all_zeroed prices js all, nothing)
