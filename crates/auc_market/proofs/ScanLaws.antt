-- One more arc of a pass over a row.
use Rattle.std.proofs.Common.{◌≡◌, ◌≢◌, ℕ, ◌+◌, ◌<◌, inl, inr, List, get_or, refl, ap, ◌∙◌, arith}
use Rattle.std.specs.Int.{int_max, int_min}
use Rattle.std.specs.Prelude.{ℤ, ◌≤ℤ◌, ◌<ℤ◌, ◌⊎◌}
use Rattle.std.proofs.lemmas.Bool.{cases_eq}
use Rattle.std.proofs.lemmas.Int.{clamps, ints, by_lt_z}
use Rattle.auc_rows.specs.declared.arc.ShortArc.{ShortArc}
use Rattle.auc_market.specs.declared.scan.Found.{Found}
use Rattle.auc_market.specs.Scan.{IsFound, IsValue, IsWorth, Lowered, LoweredTwice, endless, no_arc}

pub found_first : (val : ShortArc → ℤ) (row : List ShortArc) (v : ℤ) → v ≡ val (get_or row 0 no_arc) → IsValue v → IsFound val row 1 (record { value = v; second = endless; place = 0 })
found_first val row v is ok = record {
  known = omega arith;
  is = is;
  range = ok;
  others = λ m lt ne. absurd (ne (omega (arith, lt)));
  least = (let h = ok.high in omega (arith, ints, h));
  second_is = inl (refl, refl);
}

module _ (val : ShortArc → ℤ) (row : List ShortArc) (n : ℕ) (f : Found) (v : ℤ) (h : IsFound val row n f) (is : v ≡ val (get_or row n no_arc)) (ok : IsValue v) where
  here : (m k : ℕ) → m ≡ k → val (get_or row m no_arc) ≡ val (get_or row k no_arc)
  here m k e = ap (λ (i : ℕ). val (get_or row i no_arc)) e

  passed : v ≤ℤ f.value → (m : ℕ) → m < n + 1 → m ≢ n → f.value ≤ℤ val (get_or row m no_arc)
  passed less m lt ne =
      elim (cases_eq m f.place) [
        | inl same ↦ (let e = here m f.place same in let i = h.is in omega (arith, ints, e, i))
        | inr other ↦ (let l : m < n = grind (arith, lt, ne) in let o = h.others m l other in let s = h.least in omega (arith, ints, o, s))
      ]

  kept : (z : ℤ) → z ≤ℤ f.second → z ≤ℤ v → (m : ℕ) → m < n + 1 → m ≢ f.place → z ≤ℤ val (get_or row m no_arc)
  kept z below less m lt ne =
      elim (cases_eq m n) [
        | inl same ↦ (let e = here m n same in omega (arith, ints, e, is, less))
        | inr other ↦ (let l : m < n = grind (arith, lt, other) in let o = h.others m l ne in omega (arith, ints, o, below))
      ]

  second_stays : f.second ≤ℤ v → ((f.second ≡ endless) × (n ≡ 1)) ⊎ IsWorth val row n f.second → ((f.second ≡ endless) × (n + 1 ≡ 1)) ⊎ IsWorth val row (n + 1) f.second
  second_stays ge (inl e) = absurd (let a = e.0 in let b = ok.high in omega (arith, ints, a, b, ge))
  second_stays ge (inr s) = inr (record { range = s.range; place = s.place; known = (let k = s.known in omega (arith, k)); below = s.below })

  pub found_more : (r : Found) → Lowered f v n r → IsFound val row (n + 1) r
  found_more r low =
      by_lt_z v f.value
      (λ lt. rw (low.wins lt) (record {
        known = omega arith;
        is = is;
        range = ok;
        others = passed (omega (arith, ints, lt));
        least = omega (arith, ints, lt);
        second_is = inr (record { range = h.range; place = f.place; known = (let k = h.known in omega (arith, k)); below = (let i = h.is in omega (arith, ints, i)) });
      }))
      (λ ge. by_lt_z v f.second
      (λ lt. rw (low.next ge lt) (record {
        known = (let k = h.known in omega (arith, k));
        is = h.is;
        range = h.range;
        others = kept v (omega (arith, ints, lt)) (omega (arith, ints));
        least = ge;
        second_is = inr (record { range = ok; place = n; known = omega arith; below = omega (arith, ints, is) });
      }))
      (λ over. rw (low.stays ge over) (record {
        known = (let k = h.known in omega (arith, k));
        is = h.is;
        range = h.range;
        others = kept f.second (omega (arith, ints)) over;
        least = h.least;
        second_is = second_stays over h.second_is;
      })))

-- ---- two values at once

same_found : (r : Found) (v s : ℤ) (p : ℕ) → r.value ≡ v → r.second ≡ s → r.place ≡ p → r ≡ record { value = v; second = s; place = p }
same_found r v s p value second place =
    ap (λ (z : ℤ). record { value = z; second = r.second; place = r.place }) value
    ∙ (ap (λ (z : ℤ). record { value = v; second = z; place = r.place }) second ∙ ap (λ (n : ℕ). record { value = v; second = s; place = n }) place)

-- one more value, by the lesser of two and the one that is dropped
lowered_by : (f : Found) (v : ℤ) (place : ℕ) (r : Found) → f.value ≤ℤ f.second → r.value ≡ int_min f.value v → r.second ≡ int_min f.second (int_max f.value v) → (v <ℤ f.value → r.place ≡ place) → (f.value ≤ℤ v → r.place ≡ f.place) → Lowered f v place r
lowered_by f v place r ordered value second wins stays = record {
  wins = λ lt. same_found r v f.value place (omega (arith, ints, clamps, value, lt)) (let e : int_max f.value v ≡ f.value = omega (arith, ints, clamps, lt) in omega (arith, ints, clamps, second, e, ordered)) (wins lt);
  next = λ ge lt. same_found r f.value v f.place (omega (arith, ints, clamps, value, ge)) (let e : int_max f.value v ≡ v = omega (arith, ints, clamps, ge) in omega (arith, ints, clamps, second, e, lt)) (stays ge);
  stays = λ ge over. same_found r f.value f.second f.place (omega (arith, ints, clamps, value, ge)) (let e : int_max f.value v ≡ v = omega (arith, ints, clamps, ge) in omega (arith, ints, clamps, second, e, over)) (stays ge);
}

-- Two values are compared with each other first. Then the lesser is compared with the least value, and what remains
-- with the second.
module _ (f : Found) (one other : ℤ) (place : ℕ) (r : Found) (lesser greater rest gone : ℤ) (ordered : f.value ≤ℤ f.second) (lesser_is : lesser ≡ int_min one other) (greater_is : greater ≡ int_max one other) (rest_is : rest ≡ int_min f.second greater) (gone_is : gone ≡ int_max f.value lesser) (value : r.value ≡ int_min f.value lesser) (second : r.second ≡ int_min rest gone) (stays : f.value ≤ℤ lesser → r.place ≡ f.place) (first : lesser <ℤ f.value → one ≤ℤ other → r.place ≡ place) (next : lesser <ℤ f.value → other <ℤ one → r.place ≡ place + 1) where
  -- the first of the two is less than the value
  past_first : one <ℤ f.value → LoweredTwice f one other place r
  past_first lt =
      let between : Found = record { value = one; second = f.value; place = place } in
      let less : lesser <ℤ f.value = omega (arith, ints, clamps, lesser_is, lt) in
      let went : gone ≡ f.value = omega (arith, ints, clamps, gone_is, less) in
      let best : r.value ≡ lesser = omega (arith, ints, clamps, value, less) in
      let left : r.second ≡ int_min f.value greater = omega (arith, ints, clamps, second, rest_is, went, ordered) in (
        between,
        record { wins = λ l. refl; next = λ ge l. absurd (omega (arith, ints, ge, lt)); stays = λ ge l. absurd (omega (arith, ints, ge, lt)) },
        lowered_by between other (place + 1) r (omega (arith, ints, lt)) (omega (arith, ints, clamps, best, lesser_is)) (omega (arith, ints, clamps, left, greater_is)) (next less) (first less),
      )

  -- it is not; then the lesser of both seconds is left, whichever of the two comes later
  left_by : f.value ≤ℤ one → r.second ≡ int_min (int_min f.second one) (int_max f.value other)
  left_by ge =
      by_lt_z other one
      (λ lt.
      let least : lesser ≡ other = omega (arith, ints, clamps, lesser_is, lt) in
      let most : greater ≡ one = omega (arith, ints, clamps, greater_is, lt) in
      rw (rest_is, gone_is, least, most) at second)
      (λ le.
      let least : lesser ≡ one = omega (arith, ints, clamps, lesser_is, le) in
      let most : greater ≡ other = omega (arith, ints, clamps, greater_is, le) in
      let went : gone ≡ one = omega (arith, ints, clamps, gone_is, least, ge) in
      let over : int_max f.value other ≡ other = omega (arith, ints, clamps, ge, le) in
      let kept : int_min (int_min f.second one) (int_max f.value other) ≡ int_min f.second one = omega (arith, ints, clamps, over, le) in
      omega (arith, ints, clamps, second, rest_is, most, went, kept, le))

  past_value : f.value ≤ℤ one → LoweredTwice f one other place r
  past_value ge =
      let between : Found = record { value = f.value; second = int_min f.second one; place = f.place } in
      let same : int_max f.value one ≡ one = omega (arith, ints, clamps, ge) in
      let best : r.value ≡ int_min f.value other = omega (arith, ints, clamps, value, lesser_is, ge) in (
        between,
        lowered_by f one place between ordered (omega (arith, ints, clamps, ge)) (omega (arith, ints, clamps, same)) (λ lt. absurd (omega (arith, ints, ge, lt))) (λ l. refl),
        lowered_by between other (place + 1) r (omega (arith, ints, clamps, ordered, ge)) best (left_by ge)
            (λ lt. next (omega (arith, ints, clamps, lesser_is, lt)) (omega (arith, ints, ge, lt)))
            (λ le. stays (omega (arith, ints, clamps, lesser_is, ge, le))),
      )

  pub lowered_twice : LoweredTwice f one other place r
  lowered_twice = by_lt_z one f.value past_first past_value
