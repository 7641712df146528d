-- Two rows that rise, one of which has the other's arcs, and as many of them, are one row; so are two that have each
-- other's arcs.
use Rattle.std.proofs.Common.{◌≡◌, ℕ, ◌+◌, ◌-◌, ◌<◌, ◌≤◌, ◌⊎◌, inl, inr, List, length, get_or, ap, sym, ◌∙◌, arith, refl, zero, suc}
use Rattle.std.specs.Prelude.{All, AllPairs, Contains}
use Rattle.std.proofs.lemmas.Bool.{cases_lt}
use Rattle.std.proofs.lemmas.List.{get_or_default, same_lists}
use Rattle.auc_graph.specs.declared.rows.RowArc.{RowArc}
use Rattle.auc_persons.specs.Priced.{no_arc}

abbrev pub Rises : List RowArc → Type 0
Rises row = AllPairs (λ a b. a.arc < b.arc) row

-- the place of an arc in the list of arcs
abbrev pub place : List RowArc → ℕ → ℕ
place row i = (get_or row i no_arc).arc

-- the order of places is that of arcs
pub order : (row : List RowArc) (p q : ℕ) → Rises row → p < length row → q < length row → place row p < place row q → p < q
order row p q rises p_lt q_lt lt = by (cases_lt p q) (cases_lt q p)
  where
    by : (p < q) ⊎ (q ≤ p) → (q < p) ⊎ (p ≤ q) → p < q
    by (inl below) _ = below
    by (inr le) (inl above) = let o = rises q p no_arc above p_lt in absurd (omega (arith, o, lt))
    by (inr le) (inr ge) = let same : p ≡ q = omega arith in let e = ap (place row) same in absurd (omega (arith, e, lt))

-- the place in this row of an arc of the other one
record IsAt (row other : List RowArc) (i : ℕ) : Type 0 where
  place : ℕ
  known : place < length row
  same : get_or row place no_arc ≡ get_or other i no_arc

found : (row other : List RowArc) (i : ℕ) → All (Contains row) other → i < length other → IsAt row other i
found row other i members lt = let m = members i no_arc lt in record { place = m.0; known = m.1; same = get_or_default row m.0 no_arc (get_or other i no_arc) m.1 ∙ m.2 }

module _ (row other : List RowArc) (rises : Rises row) (also : Rises other) (members : All (Contains row) other) where
  -- of two arcs of the other row, the earlier one comes earlier in this row too
  in_order : (i j p q : ℕ) → i < j → j < length other → p < length row → q < length row → get_or row p no_arc ≡ get_or other i no_arc → get_or row q no_arc ≡ get_or other j no_arc → p < q
  in_order i j p q lt j_lt p_lt q_lt p_is q_is =
      let up : place other i < place other j = also i j no_arc lt j_lt in
      let e : place row p ≡ place other i = ap (λ (a : RowArc). a.arc) p_is in
      let f : place row q ≡ place other j = ap (λ (a : RowArc). a.arc) q_is in
      order row p q rises p_lt q_lt (omega (arith, e, f, up))

  no_earlier : (i p : ℕ) → i < length other → p < length row → get_or row p no_arc ≡ get_or other i no_arc → i ≤ p
  no_earlier zero p lt there is = omega arith
  no_earlier (suc i) p lt there is =
      let f = found row other i members (omega (arith, lt)) in
      let le = no_earlier i f.place (omega (arith, lt)) f.known f.same in
      let before = in_order i (suc i) f.place p (omega arith) lt f.known there f.same is in
      omega (arith, le, before)

  -- so there are no more of them
  pub no_longer : length other ≤ length row
  no_longer = by (length other) refl
    where
      by : (n : ℕ) → n ≡ length other → length other ≤ length row
      by zero e = omega (arith, e)
      by (suc n) e =
          let f = found row other n members (omega (arith, e)) in
          let le = no_earlier n f.place (omega (arith, e)) f.known f.same in
          let lt = f.known in
          omega (arith, e, le, lt)

module _ (row other : List RowArc) (rises : Rises row) (also : Rises other) (members : All (Contains row) other) (same : length other ≡ length row) where
  no_later : (left i p : ℕ) → i + left + 1 ≡ length other → p < length row → get_or row p no_arc ≡ get_or other i no_arc → p ≤ i
  no_later zero i p e there is = omega (arith, e, there, same)
  no_later (suc left) i p e there is =
      let lt : suc i < length other = omega (arith, e) in
      let f = found row other (suc i) members lt in
      let le = no_later left (suc i) f.place (omega (arith, e)) f.known f.same in
      let before = in_order row other rises also members i (suc i) p f.place (omega arith) lt there f.known is f.same in
      omega (arith, le, before)

  at : (i : ℕ) (d : RowArc) → i < length other → get_or other i d ≡ get_or row i d
  at i d lt =
      let f = found row other i members lt in
      let low = no_earlier row other rises also members i f.place lt f.known f.same in
      let high = no_later (length other - i - 1) i f.place (omega (arith, lt)) f.known f.same in
      let e : f.place ≡ i = omega (arith, low, high) in
      get_or_default other i d no_arc lt ∙ sym f.same ∙ ap (λ n. get_or row n no_arc) e ∙ get_or_default row i no_arc d (omega (arith, lt, same))

  pub same_row : other ≡ row
  same_row = same_lists other row same at

pub same_by_members : (row other : List RowArc) → Rises row → Rises other → All (Contains row) other → All (Contains other) row → other ≡ row
same_by_members row other rises also members back =
    let few = no_longer row other rises also members in
    let many = no_longer other row also rises back in
    same_row row other rises also members (omega (arith, few, many))
