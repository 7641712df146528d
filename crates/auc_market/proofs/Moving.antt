-- Moves of a market, one after another.
use Rattle.std.proofs.Common.{Err, Ok, Result, ℕ, ℤ, pos, refl, ◌+◌, ◌-◌, ◌^◌, ◌≤◌, ◌≡◌, ◌≢◌, ◌∙◌, arith, inl, inr, sym, subst}
use Rattle.std.specs.Prelude.{IfOk, ◌⊎◌, ◌*ℤ◌, ◌≤ℤ◌}
use Rattle.std.proofs.lemmas.Int.{ints}
use Rattle.auc_claim.specs.declared.reason.Reason.{Reason}
use Rattle.auc_letters.specs.Price.{IsEps}
use Rattle.auc_rows.specs.Rows.{FlatTable, IsFlatTable, scale_in}
use Rattle.auc_market.specs.declared.ending.Ending.{Ending}
use Rattle.auc_market.specs.Bids.{AreCounted, AreSpent, IsBidMade}
use Rattle.auc_market.specs.Endings.{IsBlocked, IsEnding}
use Rattle.auc_market.specs.Eps.{IsEpsOf}
use Rattle.auc_market.specs.Market.{IsAbove}
use Rattle.auc_market.specs.Position.{IsBid, IsMove, IsSlice, IsTried, Law, Position, Spends, state_at}
use Rattle.auc_market.specs.Augmented.{IsAugmented}
use Rattle.auc_market.proofs.BidsLaws.{made_all, made_more, made_none, made_on, made_raises, made_risen, made_slice, made_within}
use Rattle.auc_market.proofs.PhasesLaws.{counted_within, within_slice}
use Rattle.auc_graph.proofs.ValueBounds.{scaled_abs}

-- a bid at this eps fits
pub eps_fits : (r : FlatTable) (eps : ℤ) → IsFlatTable r → IsEpsOf r eps → IsEps eps
eps_fits r eps sound is = record { low = is.low; high = by is.high }
  where
    by : (eps ≡ pos 1) ⊎ (eps ≤ℤ (scale_in r *ℤ r.spread)) → eps ≤ℤ pos (2 ^ 60)
    by (inl one) = omega (arith, ints, one)
    by (inr le) = let m = sound.most in let s = scaled_abs (scale_in r) r.spread (omega (arith, ints)) (omega (arith, ints, m)) sound.low sound.high in omega (arith, ints, le, s)

pub eps_one : (r : FlatTable) → IsEpsOf r (pos 1)
eps_one r = record { low = omega (arith, ints); high = inl refl }

-- a smaller eps
pub eps_below : (r : FlatTable) (eps next : ℤ) → IsEpsOf r eps → pos 1 ≤ℤ next → next ≤ℤ eps → IsEpsOf r next
eps_below r eps next is low le = record { low = low; high = by is.high }
  where
    by : (eps ≡ pos 1) ⊎ (eps ≤ℤ (scale_in r *ℤ r.spread)) → (next ≡ pos 1) ⊎ (next ≤ℤ (scale_in r *ℤ r.spread))
    by (inl one) = inl (omega (arith, ints, one, low, le))
    by (inr few) = inr (omega (arith, ints, few, le))

pub spends_none : (p : Position) (left : ℕ) → Spends left left p p
spends_none p left = record { table = refl; eps = refl; spent = made_none p.table p.eps left (state_at p) }

-- one bid more, and a path
pub spends_more : (a b c d : Position) (before left after i j k : ℕ) → Spends before left a b → IsBid i b c j → IsMove j c d k → left ≡ after + 1 → Spends before after a d
spends_more a b c d before left after i j k s bid move one =
    let made : IsBidMade a.table a.eps (state_at b) (state_at c) = rw (s.table, s.eps) at bid.made in
    let augmented : IsAugmented a.table a.eps j c.prices d.prices c.holders d.holders c.owns d.owns k = rw (bid.table ∙ s.table, bid.eps ∙ s.eps) at move.augmented in
    record {
      table = move.table ∙ (bid.table ∙ s.table);
      eps = move.eps ∙ (bid.eps ∙ s.eps);
      spent = made_more a.table a.eps before left after (state_at a) (state_at b) (state_at c) (state_at d) s.spent made (record { person = j; free = k; augmented = augmented }) one;
    }

pub spends_on : (a b c : Position) (before mid after : ℕ) → Spends before mid a b → Spends mid after b c → Spends before after a c
spends_on a b c before mid after s t =
    let spent : AreSpent a.table a.eps mid after (state_at b) (state_at c) = rw (s.table, s.eps) at t.spent in
    record {
      table = t.table ∙ s.table;
      eps = t.eps ∙ s.eps;
      spent = made_on a.table a.eps before mid after (state_at a) (state_at b) (state_at c) s.spent spent;
    }

-- a bid above the greatest price has changed nothing
pub spends_still : (a b c : Position) (before left : ℕ) → c ≡ b → Spends before left a b → Spends before left a c
spends_still a b c before left same s = subst (Spends before left a) (sym same) s

pub above_still : (b c : Position) → c ≡ b → IsAbove b.table b.eps b.prices b.owns → IsAbove c.table c.eps c.prices c.owns
above_still b c same above = subst (λ (p : Position). IsAbove p.table p.eps p.prices p.owns) (sym same) above

-- a slice of a phase that has made all its bids, after those before it
pub spends_slice : (most before slice : ℕ) (ending : Ending) (a b c : Position) → ending ≡ Ending.Stopped Reason.Bids → slice ≤ before → Spends most before a b → IsSlice slice ending b c → Spends most (before - slice) a c
spends_slice most before slice ending a b c out le s is =
    let counted : AreCounted a.table a.eps slice ending (state_at b) (state_at c) = rw (s.table, s.eps) at is.counted in
    record {
      table = is.table ∙ s.table;
      eps = is.eps ∙ s.eps;
      spent = made_slice a.table a.eps most before slice ending (state_at a) (state_at b) (state_at c) out le s.spent counted;
    }

-- this number of bids is a phase, whole or in part
pub spent_tried : (most left : ℕ) (a b : Position) → Law a → Spends most left a b → IsTried most a b
spent_tried most left a b law s =
    let made = made_within a.table a.eps most left (state_at a) (state_at b) s.spent in
    record {
      table = s.table;
      eps = s.eps;
      phase = record { eps = a.eps; is_eps = law.eps; stands = law.stands; made = made };
      risen = made_risen a.table a.eps (state_at a) (state_at b) most law.sound law.eps.low law.stands.prices_are made;
    }

-- the same with a slice after them, however it has ended
pub slice_tried : (most before slice : ℕ) (ending : Ending) (a b c : Position) → Law a → slice ≤ before → Spends most before a b → IsSlice slice ending b c → IsTried most a c
slice_tried most before slice ending a b c law le s is =
    let counted : AreCounted a.table a.eps slice ending (state_at b) (state_at c) = rw (s.table, s.eps) at is.counted in
    let made = within_slice a.table a.eps most before slice (state_at a) (state_at b) (state_at c) s.spent le (counted_within a.table a.eps slice ending (state_at b) (state_at c) counted) in
    record {
      table = is.table ∙ s.table;
      eps = is.eps ∙ s.eps;
      phase = record { eps = a.eps; is_eps = law.eps; stands = law.stands; made = made };
      risen = made_risen a.table a.eps (state_at a) (state_at c) most law.sound law.eps.low law.stands.prices_are made;
    }

-- a phase that has made all its bids
pub all_spent : (most left : ℕ) (a b : Position) → Law a → left ≡ 0 → Spends most left a b → IsEnding a.table most (state_at a) (Ending.Stopped Reason.Bids) b.prices b.owns
all_spent most left a b law none s =
    let all = made_all a.table a.eps most left (state_at a) (state_at b) none s.spent in
    (record { eps = a.eps; is_eps = law.eps; stands = law.stands; last = state_at b; run = all; prices_are = refl }, (made_raises a.table a.eps (state_at a) (state_at b) most law.sound law.eps.low law.stands.prices_are all).1)

-- a part of a phase that has come to a price above the greatest
pub blocked_at : (bids left : ℕ) (a b : Position) → Law a → Law b → Spends bids left a b → IsAbove a.table a.eps b.prices b.owns → IsBlocked a.table bids (state_at a) b.prices
blocked_at bids left a b law after s above = record {
  eps = a.eps;
  is_eps = law.eps;
  last = state_at b;
  phase = (spent_tried bids left a b law s).phase;
  stands = rw (s.table, s.eps) at after.stands;
  above = above;
  prices_are = refl;
}

-- how a slice ends that has bids left is how its phase ends
pub slice_ending : (most before slice : ℕ) (ending : Ending) (a b c : Position) → Law a → Law c → ending ≢ Ending.Stopped Reason.Bids → slice ≤ before → Spends most before a b → IsSlice slice ending b c → IsEnding a.table most (state_at a) ending c.prices c.owns
slice_ending most before slice ending a b c law after out le s is = by ending out (slice_tried most before slice ending a b c law le s is) (rw s.table at is.ended) is.above
  where
    by : (e : Ending) → e ≢ Ending.Stopped Reason.Bids → IsTried most a c → IsEnding a.table slice (state_at b) e c.prices c.owns → (e ≡ Ending.Stopped Reason.Ceiling → IsAbove c.table c.eps c.prices c.owns) → IsEnding a.table most (state_at a) e c.prices c.owns
    by Ending.Sold other tried h above = h
    by (Ending.Stopped Reason.Bids) other tried h above = absurd (other refl)
    by (Ending.Stopped Reason.Ceiling) other tried h above = record {
      eps = a.eps;
      is_eps = law.eps;
      last = state_at c;
      phase = tried.phase;
      stands = rw (tried.table, tried.eps) at after.stands;
      above = rw (tried.table, tried.eps) at above refl;
      prices_are = refl;
    }
    by (Ending.Stopped Reason.Posts) other tried h above = absurd h
    by (Ending.Stopped Reason.Trail) other tried h above = absurd h
    by (Ending.Stopped Reason.Mail) other tried h above = absurd h

-- ---- what holds of a result

pub on_ok : {X E : Type 0} (P Q : X → Type 0) (r : Result X E) → ((x : X) → P x → Q x) → IfOk r P → IfOk r Q
on_ok P Q (Ok x) f h = f x h
on_ok P Q (Err e) f h = tt
