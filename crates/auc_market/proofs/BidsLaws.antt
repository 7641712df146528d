-- Counting bids, one after another.
use Rattle.std.proofs.Common.{◌≡◌, ◌∙◌, ℕ, ℤ, pos, ◌+◌, ◌-◌, ◌≤◌, ap, length, refl, subst, sym, arith}
use Rattle.std.specs.Prelude.{◌+ℤ◌, ◌≤ℤ◌}
use Rattle.std.proofs.lemmas.Int.{ints}
use Rattle.std.proofs.lemmas.List.{length-set}
use Rattle.std.proofs.lemmas.List.Elements.{All-contains}
use Rattle.auc_claim.specs.declared.reason.Reason.{Reason}
use Rattle.auc_graph.specs.Assignment.{total}
use Rattle.auc_rows.specs.Rows.{FlatTable, IsFlatTable, IsShort, flat_row_of}
use Rattle.auc_market.specs.declared.ending.Ending.{Ending}
use Rattle.auc_market.specs.Bids.{AreCounted, IsBidMade, IsPathMade, AreSpent, AreMadeWithin, AreMade, State}
use Rattle.auc_market.specs.Bids.AreMade.{bids, goes, opens}
use Rattle.auc_market.proofs.MarketLaws.{total_rises, total_set}

-- no bid so far
pub made_none : (r : FlatTable) (eps : ℤ) (left : ℕ) (s : State) → AreSpent r eps left left s s
made_none r eps left s = record { made = 0; sum = omega arith; run = opens 0 s refl refl }

-- one more bid, and a path
pub made_more : (r : FlatTable) (eps : ℤ) (before left after : ℕ) (s t u v : State) → AreSpent r eps before left s t → IsBidMade r eps t u → IsPathMade r eps u v → left ≡ after + 1 → AreSpent r eps before after s v
made_more r eps before left after s t u v m bid gone one = record {
  made = m.made + 1;
  sum = (let a = m.sum in omega (arith, a, one));
  run = goes (m.made + 1) u v (bids m.made (m.made + 1) t u m.run bid refl) gone;
}

-- the bids of one run, and then those of the next
pub makes_on : (r : FlatTable) (eps : ℤ) (s t u : State) (m n : ℕ) → AreMade r eps s m t → AreMade r eps t n u → AreMade r eps s (m + n) u
makes_on r eps s t u m n first (opens k v none same) = subst (λ (x : State). AreMade r eps s (m + n) x) (sym same) (subst (λ (k : ℕ). AreMade r eps s k t) (omega (arith, none)) first)
makes_on r eps s t u m n first (bids k l v w run bid one) = bids (m + k) (m + n) v w (makes_on r eps s t v m k first run) bid (omega (arith, one))
makes_on r eps s t u m n first (goes k v w run gone) = goes (m + n) v w (makes_on r eps s t v m n first run) gone

pub made_on : (r : FlatTable) (eps : ℤ) (before between after : ℕ) (s t u : State) → AreSpent r eps before between s t → AreSpent r eps between after t u → AreSpent r eps before after s u
made_on r eps before between after s t u a b = record {
  made = a.made + b.made;
  sum = (let x = a.sum in let y = b.sum in omega (arith, x, y));
  run = makes_on r eps s t u a.made b.made a.run b.run;
}

pub made_within : (r : FlatTable) (eps : ℤ) (before after : ℕ) (s t : State) → AreSpent r eps before after s t → AreMadeWithin r eps before s t
made_within r eps before after s t m = record { made = m.made; few = (let x = m.sum in omega (arith, x)); run = m.run }

pub made_all : (r : FlatTable) (eps : ℤ) (before after : ℕ) (s t : State) → after ≡ 0 → AreSpent r eps before after s t → AreMade r eps s before t
made_all r eps before after s t none m = subst (λ (k : ℕ). AreMade r eps s k t) (let x = m.sum in omega (arith, x, none)) m.run

-- each bid has raised a price by 1 or more, and no path lowers one
pub made_raises : (r : FlatTable) (eps : ℤ) (s t : State) (n : ℕ) → IsFlatTable r → pos 1 ≤ℤ eps → length s.prices ≡ r.objects → AreMade r eps s n t → (length t.prices ≡ r.objects) × ((total s.prices +ℤ pos n) ≤ℤ total t.prices)
made_raises r eps s t n sound some many (opens k u none same) = subst (λ (x : State). (length x.prices ≡ r.objects) × ((total s.prices +ℤ pos k) ≤ℤ total x.prices)) (sym same) (many, omega (arith, ints, none))
made_raises r eps s t n sound some many (bids m k u v run bid one) =
    let before = made_raises r eps s u m sound some many run in
    let e = before.0 in
    let b = before.1 in
    let o = (All-contains (IsShort r.objects) (flat_row_of r bid.person) bid.arc (sound.each bid.person) bid.offer.listed).object in
    let set_is = total_set u.prices bid.arc.object bid.amount (omega (arith, o, e)) in
    let low = bid.offer.low in
    let is = bid.offer.is in
    let same = ap total bid.prices in
    (ap length bid.prices ∙ length-set u.prices bid.arc.object bid.amount ∙ e, omega (arith, ints, b, set_is, low, is, same, one, some))
made_raises r eps s t n sound some many (goes k u v run gone) =
    let before = made_raises r eps s u k sound some many run in
    let e = before.0 in
    let b = before.1 in
    let l = gone.augmented.stands.prices_are in
    let up = total_rises u.prices v.prices (omega (arith, l, e)) gone.augmented.higher in
    (l, omega (arith, ints, b, up))

-- so a phase leaves no lower sum
pub made_risen : (r : FlatTable) (eps : ℤ) (s t : State) (most : ℕ) → IsFlatTable r → pos 1 ≤ℤ eps → length s.prices ≡ r.objects → AreMadeWithin r eps most s t → total s.prices ≤ℤ total t.prices
made_risen r eps s t most sound some many within = let up = (made_raises r eps s t within.made sound some many within.run).1 in omega (arith, ints, up)

-- the bids of a slice of a phase
pub made_slice : (r : FlatTable) (eps : ℤ) (most before slice : ℕ) (ending : Ending) (s t u : State) → ending ≡ Ending.Stopped Reason.Bids → slice ≤ before → AreSpent r eps most before s t → AreCounted r eps slice ending t u → AreSpent r eps most (before - slice) s u
made_slice r eps most before slice ending s t u out le m is =
    let run : AreMade r eps t slice u = subst (λ (e : Ending). AreCounted r eps slice e t u) out is in
    made_on r eps most before (before - slice) s t u m (record { made = slice; sum = omega (arith, le); run = run })
