-- A pass over a row in which arcs come in any order.
use Rattle.std.proofs.Common.{◌≡◌, ◌≢◌, ◌<◌, ◌≤◌, ◌^◌, ◌⊎◌, inl, inr, List, refl, sym, pos, ◌∙◌, arith}
use Rattle.std.specs.Prelude.{ℤ, ◌≤ℤ◌, ◌<ℤ◌, neg_ℤ, All, Contains}
use Rattle.std.proofs.lemmas.Int.{ints, by_lt_z}
use Rattle.std.proofs.lemmas.Bool.{cases_eq, cases_lt}
use Rattle.std.proofs.lemmas.List.Elements.{All-contains, All-weaker}
use Rattle.auc_graph.specs.declared.rows.RowArc.{RowArc}
use Rattle.auc_persons.specs.declared.bidder.scan.Scan.{Scan}
use Rattle.auc_persons.specs.Scan.{endless, Reached, IsValue, IsScan}
use Rattle.auc_persons.specs.Search.{Met, IsFound, Covers, IsLimit, Precedes, Follows, Taken}

-- an arc alone
pub found_alone : (val : RowArc → ℤ) (row : List RowArc) (a : RowArc) (v : ℤ) → Contains row a → v ≡ val a → IsValue v → IsFound val row (record { value = v; second = endless; best = a })
found_alone val row a v there is ok = record { listed = there; is_value = is; in_range = ok; ordered = omega (arith, ints, ok.high); met = inl refl }

-- a pass over some arcs of the row
pub found_in_some : (val : RowArc → ℤ) (row arcs : List RowArc) (f : Scan) → All (Contains row) arcs → IsScan val arcs f → IsFound val row f
found_in_some val row arcs f members s = record {
  listed = All-contains (Contains row) arcs f.best members s.listed;
  is_value = s.is_value;
  in_range = s.in_range;
  ordered = order s.reached;
  met = meet s.reached;
}
  where
    order : Reached val arcs f.best f.second → f.value ≤ℤ f.second
    order (inl (same, none)) = omega (arith, ints, none, s.in_range.high)
    order (inr r) = let low = All-contains (λ b. f.value ≤ℤ val b) arcs r.arc s.least r.listed in let e = r.value_is in omega (arith, ints, low, e)

    meet : Reached val arcs f.best f.second → Met val row f.best f.second
    meet (inl (same, none)) = inl none
    meet (inr r) = inr (record { arc = r.arc; listed = All-contains (Contains row) arcs r.arc members r.listed; other = r.other; value_is = r.value_is; in_range = r.in_range })

-- each arc goes before the best one or doesn't
tied_object : (a : RowArc) (v : ℤ) (f : Scan) → v ≡ f.value → a.object ≡ f.best.object → (a.arc < f.best.arc) ⊎ (f.best.arc ≤ a.arc) → Precedes a v f ⊎ Follows a v f
tied_object a v f tie same (inl lt) = inl (inr (tie, inr (same, lt)))
tied_object a v f tie same (inr le) = inr (inr (tie, inr (same, le)))

tied_above : (a : RowArc) (v : ℤ) (f : Scan) → v ≡ f.value → f.best.object ≤ a.object → (a.object ≡ f.best.object) ⊎ (a.object ≡ f.best.object → ⊥) → Precedes a v f ⊎ Follows a v f
tied_above a v f tie le (inl same) = tied_object a v f tie same (cases_lt a.arc f.best.arc)
tied_above a v f tie le (inr other) = inr (inr (tie, inl (omega (arith, other))))

tied : (a : RowArc) (v : ℤ) (f : Scan) → v ≡ f.value → (a.object < f.best.object) ⊎ (f.best.object ≤ a.object) → Precedes a v f ⊎ Follows a v f
tied a v f tie (inl lt) = inl (inr (tie, inl lt))
tied a v f tie (inr le) = tied_above a v f tie le (cases_eq a.object f.best.object)

pub precedes_or_follows : (a : RowArc) (v : ℤ) (f : Scan) → Precedes a v f ⊎ Follows a v f
precedes_or_follows a v f = by_lt_z v f.value (λ lt. inl (inl lt)) (λ le. by_lt_z f.value v (λ gt. inr (inl gt)) (λ ge. tied a v f (omega (arith, ints)) (cases_lt a.object f.best.object)))

pub clash : (a : RowArc) (v : ℤ) (f : Scan) → Precedes a v f → Follows a v f → ⊥
clash a v f (inl p) (inl q) = omega (arith, ints, p, q)
clash a v f (inl p) (inr q) = omega (arith, ints, p, q.0)
clash a v f (inr p) (inl q) = omega (arith, ints, p.0, q)
clash a v f (inr p) (inr q) = both p.1 q.1
  where
    both : (a.object < f.best.object) ⊎ ((a.object ≡ f.best.object) × (a.arc < f.best.arc)) → (f.best.object < a.object) ⊎ ((a.object ≡ f.best.object) × (f.best.arc ≤ a.arc)) → ⊥
    both (inl x) (inl y) = omega (arith, x, y)
    both (inl x) (inr y) = omega (arith, x, y.0)
    both (inr x) (inl y) = omega (arith, x.0, y)
    both (inr x) (inr y) = omega (arith, x.1, y.1)

precedes_low : (a : RowArc) (v : ℤ) (f : Scan) → Precedes a v f → v ≤ℤ f.value
precedes_low a v f (inl p) = omega (arith, ints, p)
precedes_low a v f (inr p) = omega (arith, ints, p.0)

follows_high : (a : RowArc) (v : ℤ) (f : Scan) → Follows a v f → f.value ≤ℤ v
follows_high a v f (inl p) = omega (arith, ints, p)
follows_high a v f (inr p) = omega (arith, ints, p.0)

-- what covers an arc still covers it after a better arc
below_lowest : (val : RowArc → ℤ) (f : Scan) (a b : RowArc) (v : ℤ) → Precedes a v f → Covers val f b → v ≡ val b → a.object ≤ b.object
below_lowest val f a b v (inl p) h e = let l = h.least in omega (arith, ints, p, l, e)
below_lowest val f a b v (inr p) h e = by p.1
  where
    low : f.best.object ≤ b.object
    low = h.lowest (sym p.0 ∙ e)

    by : (a.object < f.best.object) ⊎ ((a.object ≡ f.best.object) × (a.arc < f.best.arc)) → a.object ≤ b.object
    by (inl x) = omega (arith, x, low)
    by (inr x) = omega (arith, x.0, low)

below_earliest : (val : RowArc → ℤ) (f : Scan) (a b : RowArc) (v : ℤ) → Precedes a v f → Covers val f b → v ≡ val b → a.object ≡ b.object → a.arc ≤ b.arc
below_earliest val f a b v (inl p) h e same = let l = h.least in omega (arith, ints, p, l, e)
below_earliest val f a b v (inr p) h e same = by p.1
  where
    low : f.best.object ≤ b.object
    low = h.lowest (sym p.0 ∙ e)

    by : (a.object < f.best.object) ⊎ ((a.object ≡ f.best.object) × (a.arc < f.best.arc)) → a.arc ≤ b.arc
    by (inl x) = omega (arith, x, low, same)
    by (inr x) = let early = h.earliest (sym p.0 ∙ e) (sym x.0 ∙ same) in omega (arith, x.1, early)

before : (val : RowArc → ℤ) (f : Scan) (a b : RowArc) (v second : ℤ) → Precedes a v f → Covers val f b → (b.object ≢ a.object → second ≤ℤ val b) → Covers val (record { value = v; second = second; best = a }) b
before val f a b v second p h others = record {
  range = h.range;
  least = let l = h.least in let m = precedes_low a v f p in omega (arith, ints, l, m);
  lowest = λ e. below_lowest val f a b v p h e;
  earliest = λ e same. below_earliest val f a b v p h e same;
  others = others;
}

-- the best arc is covered by itself
covers_first : (val : RowArc → ℤ) (a : RowArc) (v second : ℤ) → v ≡ val a → IsValue v → Covers val (record { value = v; second = second; best = a }) a
covers_first val a v second is ok = record {
  range = omega (arith, ints, ok.high, is);
  least = omega (arith, ints, is);
  lowest = λ _. omega arith;
  earliest = λ _ _. omega arith;
  others = λ ne. absurd (ne refl);
}

-- an arc that follows is covered where the second isn't above it
after_lowest : (val : RowArc → ℤ) (f : Scan) (a : RowArc) (v : ℤ) → v ≡ val a → Follows a v f → f.value ≡ val a → f.best.object ≤ a.object
after_lowest val f a v is (inl q) e = omega (arith, ints, q, is, e)
after_lowest val f a v is (inr q) e = by q.1
  where
    by : (f.best.object < a.object) ⊎ ((a.object ≡ f.best.object) × (f.best.arc ≤ a.arc)) → f.best.object ≤ a.object
    by (inl x) = omega (arith, x)
    by (inr x) = omega (arith, x.0)

after_earliest : (val : RowArc → ℤ) (f : Scan) (a : RowArc) (v : ℤ) → v ≡ val a → Follows a v f → f.value ≡ val a → f.best.object ≡ a.object → f.best.arc ≤ a.arc
after_earliest val f a v is (inl q) e same = omega (arith, ints, q, is, e)
after_earliest val f a v is (inr q) e same = by q.1
  where
    by : (f.best.object < a.object) ⊎ ((a.object ≡ f.best.object) × (f.best.arc ≤ a.arc)) → f.best.arc ≤ a.arc
    by (inl x) = omega (arith, x, same)
    by (inr x) = x.1

after : (val : RowArc → ℤ) (f : Scan) (a : RowArc) (v second : ℤ) → v ≡ val a → IsValue v → Follows a v f → (a.object ≢ f.best.object → second ≤ℤ val a) → Covers val (record { value = f.value; second = second; best = f.best }) a
after val f a v second is ok q others = record {
  range = omega (arith, ints, ok.high, is);
  least = let l = follows_high a v f q in omega (arith, ints, l, is);
  lowest = λ e. after_lowest val f a v is q e;
  earliest = λ e same. after_earliest val f a v is q e same;
  others = others;
}

-- ---- one arc more, case by case

pub taken_same_first : (f : Scan) (a : RowArc) (v : ℤ) (r : Scan) → a.object ≡ f.best.object → Precedes a v f → r ≡ record { value = v; second = f.second; best = a } → Taken f a v r
taken_same_first f a v r same p e = record {
  same_first = λ _ _. e;
  other_first = λ other _. absurd (other same);
  other_next = λ other _ _. absurd (other same);
  other_stays = λ other _ _. absurd (other same);
  same_stays = λ _ q. absurd (clash a v f p q);
}

pub taken_other_first : (f : Scan) (a : RowArc) (v : ℤ) (r : Scan) → a.object ≢ f.best.object → Precedes a v f → r ≡ record { value = v; second = f.value; best = a } → Taken f a v r
taken_other_first f a v r other p e = record {
  same_first = λ same _. absurd (other same);
  other_first = λ _ _. e;
  other_next = λ _ q _. absurd (clash a v f p q);
  other_stays = λ _ q _. absurd (clash a v f p q);
  same_stays = λ same _. absurd (other same);
}

pub taken_same_stays : (f : Scan) (a : RowArc) (v : ℤ) → a.object ≡ f.best.object → Follows a v f → Taken f a v f
taken_same_stays f a v same q = record {
  same_first = λ _ p. absurd (clash a v f p q);
  other_first = λ other _. absurd (other same);
  other_next = λ other _ _. absurd (other same);
  other_stays = λ other _ _. absurd (other same);
  same_stays = λ _ _. refl;
}

pub taken_other_stays : (f : Scan) (a : RowArc) (v : ℤ) → a.object ≢ f.best.object → Follows a v f → f.second ≤ℤ v → Taken f a v f
taken_other_stays f a v other q le = record {
  same_first = λ same _. absurd (other same);
  other_first = λ _ p. absurd (clash a v f p q);
  other_next = λ _ _ lt. absurd (omega (arith, ints, lt, le));
  other_stays = λ _ _ _. refl;
  same_stays = λ same _. absurd (other same);
}

pub taken_other_next : (f : Scan) (a : RowArc) (v : ℤ) (r : Scan) → a.object ≢ f.best.object → Follows a v f → v <ℤ f.second → r ≡ record { value = f.value; second = v; best = f.best } → Taken f a v r
taken_other_next f a v r other q lt e = record {
  same_first = λ same _. absurd (other same);
  other_first = λ _ p. absurd (clash a v f p q);
  other_next = λ _ _ _. e;
  other_stays = λ _ _ le. absurd (omega (arith, ints, lt, le));
  same_stays = λ same _. absurd (other same);
}

-- ---- one arc more

-- best and second stay those of arcs of the row, the new arc is covered, and so is what was
pub record IsTaken (val : RowArc → ℤ) (row : List RowArc) (f : Scan) (a : RowArc) (r : Scan) : Type 0 where
  pub found : IsFound val row r
  pub covered : Covers val r a
  pub kept : (b : RowArc) → Covers val f b → Covers val r b

module _ (val : RowArc → ℤ) (row : List RowArc) (f r : Scan) (a : RowArc) (v : ℤ) (h : IsFound val row f) (there : Contains row a) (is : v ≡ val a) (ok : IsValue v) (t : Taken f a v r) where
  met_same : a.object ≡ f.best.object → Met val row f.best f.second → Met val row a f.second
  met_same same (inl e) = inl e
  met_same same (inr m) = inr (record { arc = m.arc; listed = m.listed; other = λ e. m.other (e ∙ same); value_is = m.value_is; in_range = m.in_range })

  same_first : a.object ≡ f.best.object → Precedes a v f → IsTaken val row f a r
  same_first same p = rw (t.same_first same p) (record {
    found = record { listed = there; is_value = is; in_range = ok; ordered = let l = precedes_low a v f p in let o = h.ordered in omega (arith, ints, l, o); met = met_same same h.met };
    covered = covers_first val a v f.second is ok;
    kept = λ b c. before val f a b v f.second p c (λ ne. c.others (λ e. ne (e ∙ sym same)));
  })

  other_first : (a.object ≡ f.best.object → ⊥) → Precedes a v f → IsTaken val row f a r
  other_first other p = rw (t.other_first other p) (record {
    found = record { listed = there; is_value = is; in_range = ok; ordered = precedes_low a v f p; met = inr (record { arc = f.best; listed = h.listed; other = λ e. other (sym e); value_is = sym h.is_value; in_range = h.in_range }) };
    covered = covers_first val a v f.value is ok;
    kept = λ b c. before val f a b v f.value p c (λ ne. c.least);
  })

  other_next : (a.object ≡ f.best.object → ⊥) → Follows a v f → v <ℤ f.second → IsTaken val row f a r
  other_next other q lt = rw (t.other_next other q lt) (record {
    found = record { listed = h.listed; is_value = h.is_value; in_range = h.in_range; ordered = follows_high a v f q; met = inr (record { arc = a; listed = there; other = other; value_is = sym is; in_range = ok }) };
    covered = after val f a v v is ok q (λ _. omega (arith, ints, is));
    kept = λ b c. record { range = c.range; least = c.least; lowest = c.lowest; earliest = c.earliest; others = λ ne. (let o = c.others ne in omega (arith, ints, o, lt)) };
  })

  stays : r ≡ f → Follows a v f → (a.object ≢ f.best.object → f.second ≤ℤ val a) → IsTaken val row f a r
  stays e q others = rw e (record { found = h; covered = after val f a v f.second is ok q others; kept = λ b c. c })

  follows : Follows a v f → (a.object ≡ f.best.object) ⊎ (a.object ≡ f.best.object → ⊥) → IsTaken val row f a r
  follows q (inl same) = stays (t.same_stays same q) q (λ ne. absurd (ne same))
  follows q (inr other) = by_lt_z v f.second (λ lt. other_next other q lt) (λ le. stays (t.other_stays other q le) q (λ _. omega (arith, ints, is, le)))

  precedes : Precedes a v f → (a.object ≡ f.best.object) ⊎ (a.object ≡ f.best.object → ⊥) → IsTaken val row f a r
  precedes p (inl same) = same_first same p
  precedes p (inr other) = other_first other p

  by_cases : Precedes a v f ⊎ Follows a v f → IsTaken val row f a r
  by_cases (inl p) = precedes p (cases_eq a.object f.best.object)
  by_cases (inr q) = follows q (cases_eq a.object f.best.object)

  pub taken_is : IsTaken val row f a r
  taken_is = by_cases (precedes_or_follows a v f)

-- an arc above the limit is covered
pub above_limit : (val : RowArc → ℤ) (row : List RowArc) (f : Scan) (a : RowArc) (v l : ℤ) → IsFound val row f → v ≡ val a → IsValue v → IsLimit f l → l <ℤ v → Covers val f a
above_limit val row f a v l h is ok limit lt =
    let above = limit v lt h.ordered in
    after val f a v f.second is ok (inl above.0) (λ _. omega (arith, ints, above.1, is))

-- no second is below all values
met_low : (val : RowArc → ℤ) (row : List RowArc) (a : RowArc) (second : ℤ) → Met val row a second → neg_ℤ (pos (2 ^ 52)) ≤ℤ second
met_low val row a second (inl e) = omega (arith, ints, e)
met_low val row a second (inr m) = m.in_range.low

pub found_low : (val : RowArc → ℤ) (row : List RowArc) (f : Scan) → IsFound val row f → neg_ℤ (pos (2 ^ 52)) ≤ℤ f.second
found_low val row f h = met_low val row f.best f.second h.met

-- ---- a whole row

reached_by : (val : RowArc → ℤ) (row : List RowArc) (f : Scan) → All (Covers val f) row → Met val row f.best f.second → Reached val row f.best f.second
reached_by val row f all (inl e) = inl (All-weaker (Covers val f) (λ b. b.object ≡ f.best.object) (λ b c. same b c (cases_eq b.object f.best.object)) row all, e)
  where
    same : (b : RowArc) → Covers val f b → (b.object ≡ f.best.object) ⊎ (b.object ≡ f.best.object → ⊥) → b.object ≡ f.best.object
    same b c (inl eq) = eq
    same b c (inr ne) = let o = c.others ne in let m = c.range in absurd (omega (arith, ints, o, m, e))
reached_by val row f all (inr m) = inr m

pub whole : (val : RowArc → ℤ) (row : List RowArc) (f : Scan) → IsFound val row f → All (Covers val f) row → IsScan val row f
whole val row f h all = record {
  listed = h.listed;
  is_value = h.is_value;
  in_range = h.in_range;
  least = All-weaker (Covers val f) (λ b. f.value ≤ℤ val b) (λ b c. c.least) row all;
  lowest = All-weaker (Covers val f) (λ b. f.value ≡ val b → f.best.object ≤ b.object) (λ b c. c.lowest) row all;
  earliest = All-weaker (Covers val f) (λ b. f.value ≡ val b → f.best.object ≡ b.object → f.best.arc ≤ b.arc) (λ b c. c.earliest) row all;
  others = All-weaker (Covers val f) (λ b. b.object ≢ f.best.object → f.second ≤ℤ val b) (λ b c. c.others) row all;
  reached = reached_by val row f all h.met;
}
