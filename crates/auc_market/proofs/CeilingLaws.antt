-- Where a full matching exists and free objects have price 0, no free person's best object is dear.
use Rattle.std.proofs.Common.{Bool, ℕ, ℤ, pos, zero, suc, true, false, eqb, ◌≡◌, ◌≢◌, ◌+◌, ◌<◌, ◌≤◌, ◌∙◌, arith, Contains, List, [], ◌∷◌, length, get_or, inl, inr, ap, sym, subst, refl}
use Rattle.std.specs.Prelude.{All, ◌+ℤ◌, ◌*ℤ◌, ◌≤ℤ◌}
use Rattle.std.specs.List.{AllPairs, list_any}
use Rattle.std.proofs.Math.IntN.{zero-*ℤ}
use Rattle.std.proofs.lemmas.Bool.{cases_eq, cases_lt, ne_eqb}
use Rattle.std.proofs.lemmas.Bool.Decides.{Decides-eqb}
use Rattle.std.proofs.lemmas.Int.{ints}
use Rattle.std.proofs.lemmas.List.{length-set}
use Rattle.std.proofs.lemmas.List.Elements.{All-cons, All-contains, All-nil}
use Rattle.std.proofs.lemmas.List.Folds.{list_any_none}
use Rattle.std.proofs.lemmas.List.Kept.{AllPairs-cons}
use Rattle.std.proofs.lemmas.Map.Made.{IsDistinct-from_AllPairs}
use Rattle.std.proofs.lemmas.Map.Steps.{length-le_from_distinct_below}
use Rattle.auc_claim.specs.declared.reason.Reason.{Reason}
use Rattle.auc_graph.specs.Dual.{price_at}
use Rattle.auc_graph.proofs.Scale.{once_more, scale-add, scale-mono}
use Rattle.auc_rows.specs.declared.arc.ShortArc.{ShortArc}
use Rattle.auc_rows.specs.Rows.{FlatTable, IsFlatTable, IsShort, flat_row_of, scale_in}
use Rattle.auc_letters.specs.declared.limits.TheConstants.{NOBODY}
use Rattle.auc_market.specs.declared.ending.Ending.{Ending}
use Rattle.auc_market.specs.Bids.{AreMade, State}
use Rattle.auc_market.specs.Bids.AreMade.{bids, goes, opens}
use Rattle.auc_market.specs.Ceiling.{AreSpread, IsMatching, IsWide}
use Rattle.auc_market.specs.Market.{AreUnsold, IsAbove, Stands, holder_at, own_at}
use Rattle.auc_market.specs.Position.{IsPlayed, Law, Position, state_at}
use Rattle.auc_market.specs.Scan.{short_value}
use Rattle.auc_market.proofs.Bounds.{product_low, scaled_low}
use Rattle.auc_market.proofs.MarketLaws.{holder_below, set_unsold}

-- numbers below n, no two of them the same, are at most n
few_below : (xs : List ℕ) (n : ℕ) → AllPairs (λ x y. x ≢ y) xs → All (λ x. x < n) xs → length xs ≤ n
few_below xs n apart below = length-le_from_distinct_below xs n (IsDistinct-from_AllPairs Decides-eqb xs apart) (λ q hit. by q hit)
  where
    no_other : (q : ℕ) → n ≤ q → list_any (eqb q) xs ≡ false
    no_other q ge = list_any_none (eqb q) xs (λ k d lt. ne_eqb q (get_or xs k d) (λ e. (let b = below k d lt in omega (arith, e, b, ge))))

    by : (q : ℕ) → list_any (eqb q) xs ≡ true → q < n
    by q hit = elim (cases_lt q n) [
      | inl lt ↦ lt
      | inr ge ↦ absurd (clash (no_other q ge) hit)
    ]
      where
        clash : list_any (eqb q) xs ≡ false → list_any (eqb q) xs ≡ true → ⊥
        clash a b = absurd cc

-- fewer steps are no longer
fewer_steps : (d : ℤ) → pos 0 ≤ℤ d → (m n : ℕ) → m ≤ n → (pos m *ℤ d) ≤ℤ (pos n *ℤ d)
fewer_steps d low zero n le = let none = zero-*ℤ d in let all = product_low (pos n) d (omega (arith, ints)) low in omega (arith, ints, none, all)
fewer_steps d low (suc m) zero le = absurd (omega (arith, le))
fewer_steps d low (suc m) (suc n) le = omega (arith, ints, once_more m d, once_more n d, fewer_steps d low m n (omega (arith, le)))

module _ (r : FlatTable) (eps : ℤ) (prices : List ℤ) (holders : List ℕ) (owns : List ShortArc) (choice : ℕ → ShortArc) (sound : IsFlatTable r) (some : pos 0 ≤ℤ eps) (spread : AreSpread r) (stands : Stands r eps prices holders owns) (unsold : AreUnsold prices holders) (matching : IsMatching r choice) (above : IsAbove r eps prices owns) where
  -- how far two prices of a row may be apart
  abbrev step : ℤ
  step = (scale_in r *ℤ r.spread) +ℤ eps

  -- the alternating path from the free person: by the matching to an object, and on to its holder
  walk : ℕ → ℕ
  walk zero = above.person
  walk (suc k) = holder_at holders (choice (walk k)).object

  abbrev met : ℕ → ℕ
  met k = (choice (walk k)).object

  -- the first k objects of the path are held
  abbrev AreMet : ℕ → Type 0
  AreMet k = (a : ℕ) → a < k → holder_at holders (met a) ≢ NOBODY

  walk_below : (k : ℕ) → AreMet k → walk k < length r.rows
  unfolding walk
  walk_below zero held = above.known
  walk_below (suc k) held = holder_below r eps prices holders owns sound stands (met k) (held k (omega arith))

  fewer_met : (k a : ℕ) → a ≤ k → AreMet k → AreMet a
  fewer_met k a le held b lt = held b (omega (arith, lt, le))

  apart_by : (i : ℕ) (a b : ShortArc) → Contains (flat_row_of r i) a → Contains (flat_row_of r i) b → (scale_in r *ℤ a.cost) ≤ℤ ((scale_in r *ℤ b.cost) +ℤ (scale_in r *ℤ r.spread))
  apart_by i a b la lb =
      let m = scale-mono (suc (length r.rows)) a.cost (b.cost +ℤ r.spread) (spread i i a b la lb) in
      let d = scale-add (suc (length r.rows)) b.cost r.spread in
      omega (arith, ints, m, d)

  -- the holder of an object of the path has it
  has_met : (k : ℕ) → holder_at holders (met k) ≢ NOBODY → (own_at owns (walk (suc k))).object ≡ met k
  unfolding walk
  has_met k held = stands.held (met k) held

  met_below : (k : ℕ) → AreMet k → met k < r.objects
  met_below k held = (All-contains (IsShort r.objects) (flat_row_of r (walk k)) (choice (walk k)) (sound.each (walk k)) (matching.listed (walk k) (walk_below k held))).object

  has_some : (k : ℕ) → AreMet (suc k) → (own_at owns (walk (suc k))).object ≢ NOBODY
  has_some k held e =
      let is = has_met k (held k (omega arith)) in
      let below = met_below k (fewer_met (suc k) k (omega arith) held) in
      let most = sound.most_objects in
      omega (arith, e, is, below, most)

  price_first : price_at prices above.arc.object ≤ℤ (price_at prices (met zero) +ℤ step)
  unfolding walk
  price_first =
      let i = above.person in
      let listed = matching.listed i above.known in
      let best = All-contains (λ b. short_value (scale_in r) prices above.arc ≤ℤ short_value (scale_in r) prices b) (flat_row_of r i) (choice i) above.best listed in
      let near = apart_by i (choice i) above.arc listed above.listed in
      omega (arith, ints, best, near, some)

  price_next : (k : ℕ) → AreMet (suc k) → price_at prices (met k) ≤ℤ (price_at prices (met (suc k)) +ℤ step)
  price_next k held =
      let i = walk (suc k) in
      let listed = matching.listed i (walk_below (suc k) held) in
      let slack = stands.slack i (has_some k held) in
      let least = All-contains (λ b. short_value (scale_in r) prices (own_at owns i) ≤ℤ (short_value (scale_in r) prices b +ℤ eps)) (flat_row_of r i) (choice i) slack.least listed in
      let near = apart_by i (choice i) (own_at owns i) listed slack.listed in
      let own = ap (price_at prices) (has_met k (held k (omega arith))) in
      omega (arith, ints, least, near, own)

  -- along the path prices fall by at most a step for each person
  price_along : (k : ℕ) → AreMet k → price_at prices above.arc.object ≤ℤ (price_at prices (met k) +ℤ (pos (suc k) *ℤ step))
  price_along zero held = let one = once_more zero step in let none = zero-*ℤ step in omega (arith, ints, price_first, one, none)
  price_along (suc k) held =
      let before = price_along k (fewer_met (suc k) k (omega arith) held) in
      let next = price_next k held in
      let one = once_more (suc k) step in
      omega (arith, ints, before, next, one)

  -- ---- the path meets nobody twice

  back : (a b : ℕ) → AreMet (suc a) → AreMet (suc b) → walk (suc a) ≡ walk (suc b) → walk a ≡ walk b
  back a b held_a held_b e =
      matching.apart (walk a) (walk b) (walk_below a (fewer_met (suc a) a (omega arith) held_a)) (walk_below b (fewer_met (suc b) b (omega arith) held_b))
      (sym (has_met a (held_a a (omega arith))) ∙ ap (λ n. (own_at owns n).object) e ∙ has_met b (held_b b (omega arith)))

  first_free : (own_at owns (walk zero)).object ≡ NOBODY
  unfolding walk
  first_free = above.free

  differ : (a b : ℕ) → a < b → AreMet b → walk a ≢ walk b
  differ a zero lt held e = absurd (omega (arith, lt))
  differ zero (suc b) lt held e = has_some b held (ap (λ n. (own_at owns n).object) (sym e) ∙ first_free)
  differ (suc a) (suc b) lt held e = differ a b (omega (arith, lt)) (fewer_met (suc b) b (omega arith) held) (back a b (fewer_met (suc b) (suc a) (omega (arith, lt)) held) held e)

  walked : ℕ → List ℕ
  walked zero = walk zero ∷ []
  walked (suc k) = walk (suc k) ∷ walked k

  many_walked : (k : ℕ) → length (walked k) ≡ suc k
  unfolding walked
  many_walked zero = refl
  many_walked (suc k) = (let e = many_walked k in omega (arith, e))

  each_walked : (P : ℕ → Type 0) (k : ℕ) → ((a : ℕ) → a ≤ k → P (walk a)) → All P (walked k)
  unfolding walked
  each_walked P zero h = All-cons P (walk zero) [] (h zero (omega arith)) (All-nil P)
  each_walked P (suc k) h = All-cons P (walk (suc k)) (walked k) (h (suc k) (omega arith)) (each_walked P k (λ a le. h a (omega (arith, le))))

  walked_apart : (k : ℕ) → AreMet k → AllPairs (λ x y. x ≢ y) (walked k)
  unfolding walked
  walked_apart zero held = AllPairs-cons (λ x y. x ≢ y) (walk zero) [] (All-nil (λ y. walk zero ≢ y)) (λ i j d lt room. absurd (omega (arith, lt, room)))
  walked_apart (suc k) held =
      AllPairs-cons (λ x y. x ≢ y) (walk (suc k)) (walked k)
      (each_walked (λ y. walk (suc k) ≢ y) k (λ a le e. differ a (suc k) (omega (arith, le)) held (sym e)))
      (walked_apart k (fewer_met (suc k) k (omega arith) held))

  -- so it ends within as many persons as there are
  met_few : (k : ℕ) → AreMet k → k < length r.rows
  met_few k held =
      let few = few_below (walked k) (length r.rows) (walked_apart k held) (each_walked (λ x. x < length r.rows) k (λ a le. walk_below a (fewer_met k a le held))) in
      let many = many_walked k in
      omega (arith, few, many)

  -- with so many persons left, from where the first k objects of the path are held
  wide_from : (left k : ℕ) → length r.rows ≤ k + left → AreMet k → IsWide r eps
  wide_from zero k enough held = absurd (let few = met_few k held in omega (arith, few, enough))
  wide_from (suc left) k enough held = elim (cases_eq (holder_at holders (met k)) NOBODY) [
    | inl free ↦ reached free
    | inr has ↦ wide_from left (suc k) (omega (arith, enough)) (more has)
  ]
    where
      more : holder_at holders (met k) ≢ NOBODY → AreMet (suc k)
      more has a lt = elim (cases_eq a k) [
        | inl same ↦ (λ e. has (ap (λ n. holder_at holders (met n)) (sym same) ∙ e))
        | inr other ↦ held a (omega (arith, lt, other))
      ]

      steps : (pos (suc k) *ℤ step) ≤ℤ (pos (length r.rows) *ℤ step)
      steps =
          let low = scaled_low r sound in
          fewer_steps step (omega (arith, ints, low, some)) (suc k) (length r.rows) (let few = met_few k held in omega (arith, few))

      reached : holder_at holders (met k) ≡ NOBODY → IsWide r eps
      reached free =
          let along = price_along k held in
          let none = unsold (met k) free in
          let over = above.above in
          omega (arith, ints, along, none, over, steps)

  pub is_wide : IsWide r eps
  is_wide = wide_from (length r.rows) 0 (omega arith) (λ a lt. absurd (omega (arith, lt)))

-- ---- in a phase

-- a bid and a path leave it so that objects without a holder have price 0
unsold_made : (r : FlatTable) (eps : ℤ) (s t : State) (n : ℕ) → IsFlatTable r → length s.holders ≡ r.objects → AreMade r eps s n t → AreUnsold s.prices s.holders → (length t.holders ≡ r.objects) × AreUnsold t.prices t.holders
unsold_made r eps s t n sound many (opens k u none same) unsold = subst (λ (x : State). (length x.holders ≡ r.objects) × AreUnsold x.prices x.holders) (sym same) (many, unsold)
unsold_made r eps s t n sound many (bids m k u v run bid one) unsold =
    let before = unsold_made r eps s u m sound many run unsold in
    let object = (All-contains (IsShort r.objects) (flat_row_of r bid.person) bid.arc (sound.each bid.person) bid.offer.listed).object in
    let length_is = before.0 in
    let after = set_unsold u.prices u.holders bid.arc.object bid.person bid.amount (omega (arith, object, length_is)) (let known = bid.known in let most = sound.most in λ e. omega (arith, known, most, e)) before.1 in
    (ap length bid.holders ∙ length-set u.holders bid.arc.object bid.person ∙ before.0, rw (bid.prices, bid.holders) after)
unsold_made r eps s t n sound many (goes k u v run gone) unsold =
    let before = unsold_made r eps s u k sound many run unsold in
    (gone.augmented.stands.holders_are, gone.augmented.unsold before.1)

-- A phase from prices of 0 comes to a price above the greatest only in a wide problem, if there is a full matching.
pub wide_played : (most : ℕ) (before after : Bool) (old new : Position) (choice : ℕ → ShortArc) → Law old → Law new → AreSpread old.table → AreUnsold old.prices old.holders → IsMatching old.table choice → IsPlayed most before after (Ending.Stopped Reason.Ceiling) old new → IsWide old.table old.eps
wide_played most before after old new choice law end spread unsold matching played =
    let tried = played.tried in
    let made = tried.phase.made in
    let left = (unsold_made old.table tried.phase.eps (state_at old) (state_at new) made.made law.sound law.stands.holders_are made.run unsold).1 in
    let stands : Stands old.table old.eps new.prices new.holders new.owns = rw (tried.table, tried.eps) at end.stands in
    let above : IsAbove old.table old.eps new.prices new.owns = rw (tried.table, tried.eps) at (played.above refl) in
    let some = law.eps.low in
    is_wide old.table old.eps new.prices new.holders new.owns choice law.sound (omega (arith, ints, some)) spread stands left matching above
