-- Bounds of blocks, as candidate lists.
use Rattle.std.proofs.Common.{◌≡◌, ℕ, ◌+◌, ◌-◌, ◌*◌, ◌<◌, ◌≤◌, ◌⊎◌, inl, inr, cond, List, [], length, get_or, take, drop, ap, sym, refl, ◌∙◌, arith, pos, true}
use Rattle.std.specs.Prelude.{Bool, T, false, ℤ, ◌≤ℤ◌, ◌<ℤ◌, All, Contains, int_lt}
use Rattle.std.proofs.lemmas.Bool.{cases_lt}
use Rattle.std.proofs.lemmas.List.{get_or-take, get_or-drop, get_or_append_left, get_or-append_right, get_or_default, length-take-le, length-drop, length-append}
use Rattle.std.proofs.lemmas.List.Elements.{All-append, All-contains_itself, All-drop, All-take, Contains-append_left, Contains-append_right, Contains-get_or}
use Rattle.auc_graph.specs.declared.rows.RowArc.{RowArc}
use Rattle.auc_graph.specs.Bid.{value}
use Rattle.auc_graph.specs.Table.{Table, row_of}
use Rattle.auc_persons.specs.declared.bidder.bound.TheConstants.{NO_BOUND}
use Rattle.auc_persons.specs.declared.bidder.bound.Bound.{Bound}
use Rattle.auc_persons.specs.Blocks.{Above, IsOf, beside, of_bound}
use Rattle.auc_persons.specs.Candidates.{Keeps, KeepsListed}
use Rattle.auc_persons.specs.Scan.{copy_in}
use Rattle.auc_persons.proofs.SameRows.{Rises}
use Rattle.auc_persons.proofs.Shortlists.{none_keeps}

module _ (row : List RowArc) (block : ℕ) (within : 16 * block ≤ length row) where
  front_length : length (take (16 * block) row) ≡ 16 * block
  front_length = length-take-le (16 * block) row within

  back_length : length (drop (16 * block + 16) row) ≡ length row - (16 * block + 16)
  back_length = length-drop (16 * block + 16) row

  beside_length : length (beside block row) ≡ 16 * block + (length row - (16 * block + 16))
  beside_length = length-append (take (16 * block) row) (drop (16 * block + 16) row) ∙ omega (arith, front_length, back_length)

  -- the place in the row of an arc outside the block: the same one in front of it, and 16 more behind it
  record StandsAt (i : ℕ) (d : RowArc) : Type 0 where
    place : ℕ
    same : get_or (beside block row) i d ≡ get_or row place d
    known : place < length row
    moved : ((i < 16 * block) × (place ≡ i)) ⊎ ((16 * block ≤ i) × (place ≡ i + 16))

  stands_by : (i : ℕ) (d : RowArc) → i < length (beside block row) → (i < 16 * block) ⊎ (16 * block ≤ i) → StandsAt i d
  stands_by i d lt (inl before) = record {
    place = i;
    same = get_or_append_left (take (16 * block) row) (drop (16 * block + 16) row) d i (omega (arith, front_length, before)) ∙ get_or-take (16 * block) row i d before;
    known = omega (arith, before, within);
    moved = inl (before, refl);
  }
  stands_by i d lt (inr behind) = record {
    place = 16 * block + 16 + (i - 16 * block);
    same = get_or-append_right (take (16 * block) row) (drop (16 * block + 16) row) (16 * block) i d front_length behind ∙ get_or-drop (16 * block + 16) row (i - 16 * block) d;
    known = omega (arith, lt, beside_length, behind);
    moved = inr (behind, omega (arith, behind));
  }

  stands : (i : ℕ) (d : RowArc) → i < length (beside block row) → StandsAt i d
  stands i d lt = stands_by i d lt (cases_lt i (16 * block))

  in_order : (i j p q : ℕ) → i < j → ((i < 16 * block) × (p ≡ i)) ⊎ ((16 * block ≤ i) × (p ≡ i + 16)) → ((j < 16 * block) × (q ≡ j)) ⊎ ((16 * block ≤ j) × (q ≡ j + 16)) → p < q
  in_order i j p q lt (inl x) (inl y) = omega (arith, lt, x.1, y.1)
  in_order i j p q lt (inl x) (inr y) = omega (arith, lt, x.1, y.1)
  in_order i j p q lt (inr x) (inl y) = omega (arith, lt, x.0, y.0)
  in_order i j p q lt (inr x) (inr y) = omega (arith, lt, x.1, y.1)

  beside_rises : Rises row → Rises (beside block row)
  beside_rises rises i j d lt j_lt =
      let x = stands i d (omega (arith, lt, j_lt)) in
      let y = stands j d j_lt in
      rw (x.same, y.same) (rises x.place y.place d (in_order i j x.place y.place lt x.moved y.moved) y.known)

  -- no arc of the block is beside it
  not_beside : (k : ℕ) (d : RowArc) → Rises row → 16 * block ≤ k → k < 16 * block + 16 → k < length row → Contains (beside block row) (get_or row k d) → ⊥
  not_beside k d rises low high lt (m, m_lt, e) =
      let s = stands m (get_or row k d) m_lt in
      let same : get_or row s.place d ≡ get_or row k d = get_or_default row s.place d (get_or row k d) s.known ∙ sym s.same ∙ e in
      apart s.place s.known (ap (λ (a : RowArc). a.arc) same) (other s.place s.moved)
    where
      other : (p : ℕ) → ((m < 16 * block) × (p ≡ m)) ⊎ ((16 * block ≤ m) × (p ≡ m + 16)) → (p < k) ⊎ (k < p)
      other p (inl x) = inl (omega (arith, x.0, x.1, low))
      other p (inr x) = inr (omega (arith, x.0, x.1, high))

      apart : (p : ℕ) → p < length row → (get_or row p d).arc ≡ (get_or row k d).arc → (p < k) ⊎ (k < p) → ⊥
      apart p p_lt same (inl before) = let o = rises p k d before lt in omega (arith, o, same)
      apart p p_lt same (inr behind) = let o = rises k p d behind p_lt in omega (arith, o, same)

  -- the others are
  contained_front : (k : ℕ) (d : RowArc) → k < 16 * block → Contains (take (16 * block) row) (get_or row k d)
  contained_front k d lt = rw (get_or-take (16 * block) row k d lt) at (Contains-get_or (take (16 * block) row) k d (omega (arith, front_length, lt)))

  contained_back : (k : ℕ) (d : RowArc) → 16 * block + 16 ≤ k → k < length row → Contains (drop (16 * block + 16) row) (get_or row k d)
  contained_back k d le lt =
      let here : 16 * block + 16 + (k - (16 * block + 16)) ≡ k = omega (arith, le) in
      let e : get_or (drop (16 * block + 16) row) (k - (16 * block + 16)) d ≡ get_or row k d = get_or-drop (16 * block + 16) row (k - (16 * block + 16)) d ∙ ap (λ n. get_or row n d) here in
      rw e at (Contains-get_or (drop (16 * block + 16) row) (k - (16 * block + 16)) d (omega (arith, back_length, le, lt)))

  rest_by : (val : RowArc → ℤ) (least : ℤ) (k : ℕ) (d : RowArc) → Above val row (16 * block) (16 * block + 16) least → k < length row → (k < 16 * block) ⊎ (16 * block ≤ k) → (k < 16 * block + 16) ⊎ (16 * block + 16 ≤ k) → Contains (beside block row) (get_or row k d) ⊎ (least ≤ℤ val (get_or row k d))
  rest_by val least k d above lt (inl before) _ = inl (Contains-append_left (take (16 * block) row) (drop (16 * block + 16) row) (get_or row k d) (contained_front k d before))
  rest_by val least k d above lt (inr le) (inl inside) = inr (above k d le inside lt)
  rest_by val least k d above lt (inr le) (inr behind) = inl (Contains-append_right (take (16 * block) row) (drop (16 * block + 16) row) (get_or row k d) (contained_back k d behind lt))

  -- a bound of the block's arcs is one of all arcs that aren't beside it
  keeps_beside : (val : RowArc → ℤ) (least : ℤ) → Rises row → Above val row (16 * block) (16 * block + 16) least → Keeps val row (beside block row) least
  keeps_beside val least rises above = record {
    members = All-append (Contains row) (take (16 * block) row) (drop (16 * block + 16) row) (All-take (Contains row) (16 * block) row (All-contains_itself row)) (All-drop (Contains row) (16 * block + 16) row (All-contains_itself row));
    rising = beside_rises rises;
    rest = inr (λ k d lt. rest_by val least k d above lt (cases_lt k (16 * block)) (cases_lt k (16 * block + 16)));
  }

  -- and the converse
  above_by : (val : RowArc → ℤ) (least : ℤ) (k : ℕ) (d : RowArc) → Rises row → 16 * block ≤ k → k < 16 * block + 16 → k < length row → Contains (beside block row) (get_or row k d) ⊎ (least ≤ℤ val (get_or row k d)) → least ≤ℤ val (get_or row k d)
  above_by val least k d rises low high lt (inl there) = absurd (not_beside k d rises low high lt there)
  above_by val least k d rises low high lt (inr out) = out

  beside_above : (val : RowArc → ℤ) (least : ℤ) → Rises row → 256 < length row → (beside block row ≡ []) ⊎ All (λ b. Contains (beside block row) b ⊎ (least ≤ℤ val b)) row → Above val row (16 * block) (16 * block + 16) least
  beside_above val least rises long (inl none) k d low high lt = absurd (omega (arith, ap length none, beside_length, long))
  beside_above val least rises long (inr rest) k d low high lt = above_by val least k d rises low high lt (rest k d lt)

-- ---- a bound

arcs_are : (made : Table) (b : Bound) → NO_BOUND <ℤ b.least → (of_bound made b).arcs ≡ beside b.block.value (row_of made b.person.value)
arcs_are made b lt = ap (λ x. cond x (beside b.block.value (row_of made b.person.value)) []) (by (int_lt NO_BOUND b.least) lt.lt)
  where
    by : (x : Bool) → T x → x ≡ true
    by true told = refl
    by false told = absurd told

-- what a bound says of the block of its person
pub bound_says : (made t : Table) (copies : List ℤ) (b : Bound) (person block : ℕ) → IsOf person block b → NO_BOUND <ℤ b.least → row_of made person ≡ row_of t person → 16 * block ≤ length (row_of t person) → 256 < length (row_of t person) → Rises (row_of t person)
    → KeepsListed t copies (of_bound made b) → Above (value (pos (length t.rows + 1)) (copy_in copies)) (row_of t person) (16 * block) (16 * block + 16) b.least
bound_says made t copies b person block own lt same within long rises keeps =
    let arcs : (of_bound made b).arcs ≡ beside block (row_of t person) = arcs_are made b lt ∙ ap (λ n. beside n (row_of made b.person.value)) own.1 ∙ ap (λ n. beside block (row_of made n)) own.0 ∙ ap (beside block) same in
    let rest = rw (arcs, own.0) at keeps.rest in
    beside_above (row_of t person) block within (value (pos (length t.rows + 1)) (copy_in copies)) b.least rises long rest

-- a new bound is right
pub bound_is : (made t : Table) (copies : List ℤ) (b : Bound) (person block : ℕ) → IsOf person block b → row_of made person ≡ row_of t person → 16 * block ≤ length (row_of t person) → Rises (row_of t person)
    → Above (value (pos (length t.rows + 1)) (copy_in copies)) (row_of t person) (16 * block) (16 * block + 16) b.least → KeepsListed t copies (of_bound made b)
bound_is made t copies b person block own same within rises above = by (int_lt NO_BOUND b.least) refl
  where
    val : RowArc → ℤ
    val = value (pos (length t.rows + 1)) (copy_in copies)

    row : List RowArc
    row = row_of t person

    beside_is : beside b.block.value (row_of made b.person.value) ≡ beside block row
    beside_is = ap (λ n. beside n (row_of made b.person.value)) own.1 ∙ ap (λ n. beside block (row_of made n)) own.0 ∙ ap (beside block) same

    by : (x : Bool) → int_lt NO_BOUND b.least ≡ x → KeepsListed t copies (of_bound made b)
    by true e = rw (e, beside_is, own.0) (keeps_beside row block within val b.least rises above)
    by false e = rw e (none_keeps val (row_of t b.person.value) [] b.least refl)
