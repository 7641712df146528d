-- The least value of a person's arcs, and the table of these values after a number of arcs.
use Rattle.std.proofs.Common.{◌≡◌, ◌≢◌, ℕ, zero, suc, ◌+◌, ◌<◌, Bool, true, false, cond, eq-eqb, List, [], ◌∷◌, ◌++◌, length, map, get_or, take, set, replicate, refl, sym, ap, subst, ◌∙◌, arith, inl, inr}
use Rattle.std.specs.Prelude.{ℤ, pos, ◌≤ℤ◌, ◌==◌, filter, All, Contains}
use Rattle.std.specs.List.{range_with_len}
use Rattle.std.specs.Int.{int_min}
use Rattle.std.proofs.lemmas.Bool.{cases_Bool, cases_eq, eqb-true, ne_eqb}
use Rattle.std.proofs.lemmas.Int.{ints, clamps}
use Rattle.std.proofs.lemmas.List.{take_more, map-append, append-nil, get_or-set_same, get_or-set_other, length-set, get_or-replicate, length-replicate, get_or_default, same_lists}
use Rattle.std.proofs.lemmas.List.FromFn.{get_or-map-range_with_len, length-map-range_with_len}
use Rattle.std.proofs.lemmas.List.Elements.{All-head, All-tail, filter-append}
use Rattle.auc_graph.specs.declared.arc.Arc.{Arc}
use Rattle.auc_graph.specs.Assignment.{person_of}
use Rattle.auc_graph.specs.Dual.{lowest, least_of, is_his, values, least_value}

-- ---- the least of some numbers

pub min_left : (x y : ℤ) → int_min x y ≤ℤ x
min_left x y = omega (arith, ints, clamps)

pub min_right : (x y : ℤ) → int_min x y ≤ℤ y
min_right x y = omega (arith, ints, clamps)

min_above : (m x y : ℤ) → m ≤ℤ x → m ≤ℤ y → m ≤ℤ int_min x y
min_above m x y h g = omega (arith, ints, clamps, h, g)

under : (x y z : ℤ) → x ≤ℤ y → y ≤ℤ z → x ≤ℤ z
under x y z h g = omega (arith, ints, h, g)

pub lowest_first : (z : ℤ) (ys : List ℤ) → lowest z ys ≤ℤ z
lowest_first z [] = omega (arith, ints)
lowest_first z (y ∷ ys) = under _ _ _ (min_right y (lowest z ys)) (lowest_first z ys)

module _ (value : Arc → ℤ) (i : ℕ) where
  lowest_below : (z : ℤ) (arcs : List Arc) (a : Arc) (k : ℕ) → k < length arcs → get_or arcs k a ≡ a → a.person ≡ i → lowest z (values value arcs i) ≤ℤ value a
  lowest_below z [] a k lt e his = absurd (omega arith)
  lowest_below z (x ∷ xs) a zero lt e his =
      let t : (x.person == i) ≡ true = eq-eqb x.person i (ap person_of e ∙ his) in
      rw t (subst (λ (v : ℤ). int_min (value x) (lowest z (values value xs i)) ≤ℤ v) (ap value e) (min_left (value x) (lowest z (values value xs i))))
  lowest_below z (x ∷ xs) a (suc k) lt e his =
      let rest = lowest_below z xs a k (omega (arith, lt)) e his in
      elim (cases_Bool (x.person == i)) [
        | inl t ↦ rw t (under _ _ _ (min_right (value x) (lowest z (values value xs i))) rest)
        | inr f ↦ rw f rest
      ]

  pub least_below : (arcs : List Arc) (a : Arc) (k : ℕ) → k < length arcs → get_or arcs k a ≡ a → a.person ≡ i → least_value value arcs i ≤ℤ value a
  least_below [] a k lt e his = absurd (omega arith)
  least_below (x ∷ xs) a zero lt e his =
      let t : (x.person == i) ≡ true = eq-eqb x.person i (ap person_of e ∙ his) in
      rw t (subst (λ (v : ℤ). lowest (value x) (values value xs i) ≤ℤ v) (ap value e) (lowest_first (value x) (values value xs i)))
  least_below (x ∷ xs) a (suc k) lt e his =
      elim (cases_Bool (x.person == i)) [
        | inl t ↦ rw t (lowest_below (value x) xs a k (omega (arith, lt)) e his)
        | inr f ↦ rw f (least_below xs a k (omega (arith, lt)) e his)
      ]

  lowest_above : (m z : ℤ) (arcs : List Arc) → m ≤ℤ z → All (λ a. a.person ≡ i → m ≤ℤ value a) arcs → m ≤ℤ lowest z (values value arcs i)
  lowest_above m z [] h all = h
  lowest_above m z (x ∷ xs) h all =
      let rest = lowest_above m z xs h (All-tail (λ (a : Arc). a.person ≡ i → m ≤ℤ value a) x xs all) in
      elim (cases_Bool (x.person == i)) [
        | inl t ↦ rw t (min_above m (value x) (lowest z (values value xs i)) (All-head (λ (a : Arc). a.person ≡ i → m ≤ℤ value a) x xs all (eqb-true x.person i t)) rest)
        | inr f ↦ rw f rest
      ]

  -- of a person who has an arc
  pub least_above : (m : ℤ) (arcs : List Arc) (c : Arc) (k : ℕ) → k < length arcs → get_or arcs k c ≡ c → c.person ≡ i → All (λ a. a.person ≡ i → m ≤ℤ value a) arcs → m ≤ℤ least_value value arcs i
  least_above m [] c k lt e his all = absurd (omega arith)
  least_above m (x ∷ xs) c k lt e his all =
      let others = All-tail (λ (a : Arc). a.person ≡ i → m ≤ℤ value a) x xs all in
      elim (cases_Bool (x.person == i)) [
        | inl t ↦ rw t (lowest_above m (value x) xs (All-head (λ (a : Arc). a.person ≡ i → m ≤ℤ value a) x xs all (eqb-true x.person i t)) others)
        | inr f ↦ rw f (later k lt e f (λ n l h. least_above m xs c n l h his others))
      ]
    where
      later : (k : ℕ) → k < length (x ∷ xs) → get_or (x ∷ xs) k c ≡ c → (x.person == i) ≡ false → ((n : ℕ) → n < length xs → get_or xs n c ≡ c → m ≤ℤ least_value value xs i) → m ≤ℤ least_value value xs i
      later zero lt e f rest = let t : (x.person == i) ≡ true = eq-eqb x.person i (ap person_of e ∙ his) in absurd (let b = sym t ∙ f in cc)
      later (suc k) lt e f rest = rest k (omega (arith, lt)) e

-- ---- the least of a number and some more, one by one

min_turns : (x y z : ℤ) → int_min x (int_min y z) ≡ int_min y (int_min x z)
min_turns x y z = omega (arith, ints, clamps)

min_swap : (x y : ℤ) → int_min x y ≡ int_min y x
min_swap x y = omega (arith, ints, clamps)

lowest_push : (z : ℤ) (ys : List ℤ) (y : ℤ) → lowest z (ys ++ y ∷ []) ≡ int_min y (lowest z ys)
lowest_push z [] y = refl
lowest_push z (x ∷ ys) y = ap (int_min x) (lowest_push z ys y) ∙ min_turns x y (lowest z ys)

lowest_turns : (z y : ℤ) (ys : List ℤ) → int_min y (lowest z ys) ≡ int_min z (lowest y ys)
lowest_turns z y [] = min_swap y z
lowest_turns z y (x ∷ ys) = min_turns y x (lowest z ys) ∙ ap (int_min x) (lowest_turns z y ys) ∙ min_turns x z (lowest y ys)

min_low : (x y : ℤ) → y ≤ℤ x → int_min x y ≡ y
min_low x y h = omega (arith, ints, clamps, h)

-- a number that is at least the least one changes nothing
pub lowest_is : (top : ℤ) (zs : List ℤ) → zs ≢ [] → least_of zs ≤ℤ top → lowest top zs ≡ least_of zs
lowest_is top [] some h = absurd (some refl)
lowest_is top (z ∷ zs) some h = lowest_turns top z zs ∙ min_low top (lowest z zs) h

map_one : (value : Arc → ℤ) (b : Bool) (a : Arc) → map value (cond b (a ∷ []) []) ≡ cond b (value a ∷ []) []
map_one value true a = refl
map_one value false a = refl

values_push : (value : Arc → ℤ) (arcs : List Arc) (a : Arc) (i : ℕ) → values value (arcs ++ a ∷ []) i ≡ values value arcs i ++ cond (a.person == i) (value a ∷ []) []
values_push value arcs a i =
    ap (map value) (filter-append (is_his i) arcs (a ∷ []))
    ∙ map-append value (filter (is_his i) arcs) (cond (is_his i a) (a ∷ []) [])
    ∙ ap (λ (zs : List ℤ). values value arcs i ++ zs) (map_one value (is_his i a) a)

abbrev pub lowest_at : (Arc → ℤ) → ℤ → List Arc → ℕ → ℤ
lowest_at value top arcs i = lowest top (values value arcs i)

his_more : (value : Arc → ℤ) (top : ℤ) (arcs : List Arc) (a : Arc) → lowest_at value top (arcs ++ a ∷ []) a.person ≡ int_min (lowest_at value top arcs a.person) (value a)
his_more value top arcs a =
    ap (lowest top) (values_push value arcs a a.person ∙ ap (λ b. values value arcs a.person ++ cond b (value a ∷ []) []) (eq-eqb a.person a.person refl))
    ∙ lowest_push top (values value arcs a.person) (value a) ∙ min_swap (value a) (lowest_at value top arcs a.person)

other_same : (value : Arc → ℤ) (top : ℤ) (arcs : List Arc) (a : Arc) (i : ℕ) → a.person ≢ i → lowest_at value top (arcs ++ a ∷ []) i ≡ lowest_at value top arcs i
other_same value top arcs a i ne =
    ap (lowest top) (values_push value arcs a i ∙ ap (λ b. values value arcs i ++ cond b (value a ∷ []) []) (ne_eqb a.person i ne) ∙ append-nil (values value arcs i))

-- a table of n numbers: for each person the least of `top` and the values of the person's arcs
pub record AreLeast (n : ℕ) (value : Arc → ℤ) (top : ℤ) (arcs : List Arc) (table : List ℤ) : Type 0 where
  pub len : length table ≡ n
  pub each : (i : ℕ) → i < n → get_or table i (pos 0) ≡ lowest_at value top arcs i

pub least_none : (n : ℕ) (value : Arc → ℤ) (top : ℤ) → AreLeast n value top [] (replicate n top)
least_none n value top = record { len = length-replicate n top; each = λ i lt. get_or-replicate n i top (pos 0) lt }

pub least_more : (n : ℕ) (value : Arc → ℤ) (top : ℤ) (arcs : List Arc) (k : ℕ) (d : Arc) (table : List ℤ) (was now : ℤ) → AreLeast n value top (take k arcs) table → k < length arcs → (get_or arcs k d).person < n
    → was ≡ get_or table (get_or arcs k d).person was → now ≡ int_min was (value (get_or arcs k d)) → AreLeast n value top (take (k + 1) arcs) (set table (get_or arcs k d).person now)
least_more n value top arcs k d table was now h lt within read made = record {
  len = length-set table (get_or arcs k d).person now ∙ h.len;
  each = λ i l. elim (cases_eq i (get_or arcs k d).person) [
    | inl e ↦ rw e here
    | inr ne ↦ get_or-set_other table (get_or arcs k d).person i now (pos 0) ne ∙ h.each i l ∙ sym (ap (λ xs. lowest_at value top xs i) (take_more arcs k d lt) ∙ other_same value top (take k arcs) (get_or arcs k d) i (λ e. ne (sym e)))
  ];
}
  where
    room : (get_or arcs k d).person < length table
    room = let len = h.len in omega (arith, within, len)

    before : was ≡ lowest_at value top (take k arcs) (get_or arcs k d).person
    before = read ∙ get_or_default table (get_or arcs k d).person was (pos 0) room ∙ h.each (get_or arcs k d).person within

    here : get_or (set table (get_or arcs k d).person now) (get_or arcs k d).person (pos 0) ≡ lowest_at value top (take (k + 1) arcs) (get_or arcs k d).person
    here =
        get_or-set_same table (get_or arcs k d).person now (pos 0) room
        ∙ made ∙ ap (λ (z : ℤ). int_min z (value (get_or arcs k d))) before
        ∙ sym (ap (λ xs. lowest_at value top xs (get_or arcs k d).person) (take_more arcs k d lt) ∙ his_more value top (take k arcs) (get_or arcs k d))

-- ---- of a person who has an arc

some_his : (value : Arc → ℤ) (i : ℕ) (arcs : List Arc) (a : Arc) (k : ℕ) → k < length arcs → get_or arcs k a ≡ a → a.person ≡ i → values value arcs i ≢ []
some_his value i [] a k lt e his none = absurd (omega arith)
some_his value i (x ∷ xs) a zero lt e his none =
    let t : (x.person == i) ≡ true = eq-eqb x.person i (ap (λ (b : Arc). b.person) e ∙ his) in
    absurd (let n = rw t at none in cc)
some_his value i (x ∷ xs) a (suc k) lt e his none =
    elim (cases_Bool (x.person == i)) [
      | inl t ↦ absurd (let n = rw t at none in cc)
      | inr f ↦ some_his value i xs a k (omega (arith, lt)) e his (rw f at none)
    ]

least_is : (value : Arc → ℤ) (top : ℤ) (arcs : List Arc) (a : Arc) → Contains arcs a → All (λ (b : Arc). value b ≤ℤ top) arcs → lowest_at value top arcs a.person ≡ least_value value arcs a.person
least_is value top arcs a there most =
    let below = least_below value a.person arcs a there.0 there.1 there.2 refl in
    let le : value a ≤ℤ top = subst (λ (b : Arc). value b ≤ℤ top) there.2 (most there.0 a there.1) in
    lowest_is top (values value arcs a.person) (some_his value a.person arcs a there.0 there.1 there.2 refl) (under _ _ _ below le)

-- the table of all arcs, where each person has one
pub table_is : (value : Arc → ℤ) (top : ℤ) (n : ℕ) (arcs : List Arc) (table : List ℤ) → ((i : ℕ) → i < n → (a : Arc) × Contains arcs a × (a.person ≡ i)) → All (λ (a : Arc). value a ≤ℤ top) arcs → length table ≡ n
    → ((i : ℕ) → i < n → get_or table i (pos 0) ≡ lowest_at value top arcs i) → table ≡ map (least_value value arcs) (range_with_len 0 n)
table_is value top n arcs table some most len each = same_lists table (map (least_value value arcs) (range_with_len 0 n)) (len ∙ sym (length-map-range_with_len (least_value value arcs) 0 n)) at
  where
    at : (i : ℕ) (d : ℤ) → i < length table → get_or table i d ≡ get_or (map (least_value value arcs) (range_with_len 0 n)) i d
    at i d lt =
        let l : i < n = omega (arith, lt, len) in
        let a = some i l in
        let least : lowest_at value top arcs i ≡ least_value value arcs i = subst (λ (j : ℕ). lowest_at value top arcs j ≡ least_value value arcs j) a.2 (least_is value top arcs a.0 a.1 most) in
        get_or_default table i d (pos 0) lt ∙ each i l ∙ least ∙ sym (get_or-map-range_with_len (least_value value arcs) 0 n i i d l (omega arith))
