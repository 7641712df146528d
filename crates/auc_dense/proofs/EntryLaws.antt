-- Arcs of a table, and its entries.
use Rattle.std.proofs.Common.{◌≡◌, ◌≢◌, inl, inr, ℕ, zero, suc, ◌+◌, ◌-◌, ◌*◌, ◌<◌, ◌≤◌, Bool, true, false, List, [], ◌∷◌, length, drop, get_or, refl, sym, ap, subst, ◌∙◌, arith, Contains}
use Rattle.std.specs.Prelude.{ℤ, pos}
use Rattle.std.specs.Ordering.{int_eq}
use Rattle.std.specs.Cmp.{signed_Decides}
use Rattle.std.proofs.lemmas.Bool.{cases_Bool, cases_lt}
use Rattle.std.proofs.lemmas.List.{get_or-drop, get_or-take, length-drop, length-take-le}
use Rattle.std.proofs.lemmas.List.Elements.{Contains-append_left, Contains-append_right, Contains-append_cases}
use Rattle.auc_graph.specs.declared.arc.Arc.{Arc}
use Rattle.auc_dense.specs.Table.{IsEntry, IsTable, row_of, entry_arcs, row_arcs, table_arcs}
use Rattle.auc_dense.proofs.TableLaws.{arc_for, gap_arcs, own_arcs, same_arc}

-- the arc of an entry of a row, the first of which is that of object k
record InRow (gap : ℤ) (person k : ℕ) (row : List ℤ) (a : Arc) : Type 0 where
  at : ℕ
  inside : at < length row
  person_is : a.person ≡ person
  object_is : a.object ≡ k + at
  cost_is : a.cost ≡ get_or row at (pos 0)
  own : a.cost ≢ gap

one_of : (a b : Arc) → Contains (b ∷ []) a → a ≡ b
one_of a b (zero, lt, e) = sym e
one_of a b (suc j, lt, e) = absurd (omega (arith, lt))

none_of : (a : Arc) → Contains [] a → ⊥
none_of a c = omega (arith, c.1)

both : (b : Bool) → b ≡ true → b ≡ false → ⊥
both b t f = absurd cc

entry_has : (gap : ℤ) (person k : ℕ) (z : ℤ) (a : Arc) → Contains (entry_arcs gap person k z) a → (a ≡ arc_for person k z) × (z ≢ gap)
entry_has gap person k z a c = elim (cases_Bool (int_eq z gap)) [
  | inl t ↦ absurd (none_of a (subst (λ (xs : List Arc). Contains xs a) (gap_arcs gap person k z ((signed_Decides z gap).0 t)) c))
  | inr f ↦
      let own : z ≢ gap = λ e. both (int_eq z gap) ((signed_Decides z gap).1 e) f in
      (one_of a (arc_for person k z) (subst (λ (xs : List Arc). Contains xs a) (own_arcs gap person k z own) c), own)
]

first_in : (gap : ℤ) (person k : ℕ) (z : ℤ) (row : List ℤ) (a : Arc) → a ≡ arc_for person k z → z ≢ gap → InRow gap person k (z ∷ row) a
first_in gap person k z row a e own =
    let e-cost : a.cost ≡ z = ap (λ (b : Arc). b.cost) e in
    record {
      at = 0;
      inside = omega arith;
      person_is = ap (λ (b : Arc). b.person) e;
      object_is = let same : a.object ≡ k = ap (λ (b : Arc). b.object) e in omega (arith, same);
      cost_is = e-cost;
      own = λ gone. own (sym e-cost ∙ gone);
    }

later_in : (gap : ℤ) (person k : ℕ) (z : ℤ) (row : List ℤ) (a : Arc) → InRow gap person (suc k) row a → InRow gap person k (z ∷ row) a
later_in gap person k z row a h = record {
  at = suc h.at;
  inside = omega (arith, h.inside);
  person_is = h.person_is;
  object_is = omega (arith, h.object_is);
  cost_is = h.cost_is;
  own = h.own;
}

row_has : (gap : ℤ) (person k : ℕ) (row : List ℤ) (a : Arc) → Contains (row_arcs gap person k row) a → InRow gap person k row a
row_has gap person k [] a c = absurd (none_of a c)
row_has gap person k (z ∷ row) a c = elim (Contains-append_cases (entry_arcs gap person k z) (row_arcs gap person (suc k) row) a c) [
  | inl here ↦ (let h = entry_has gap person k z a here in first_in gap person k z row a h.0 h.1)
  | inr later ↦ later_in gap person k z row a (row_has gap person (suc k) row a later)
]

at_entry_of : (gap : ℤ) (person k : ℕ) (row : List ℤ) (j : ℕ) → j < length row → get_or row j (pos 0) ≢ gap → Contains (row_arcs gap person k row) (arc_for person (k + j) (get_or row j (pos 0)))
at_entry_of gap person k [] j lt own = absurd (omega (arith, lt))
at_entry_of gap person k (z ∷ row) zero lt own =
    let e : k + 0 ≡ k = omega arith in
    Contains-append_left (entry_arcs gap person k z) (row_arcs gap person (suc k) row) (arc_for person (k + 0) z) (subst (λ (xs : List Arc). Contains xs (arc_for person (k + 0) z)) (sym (own_arcs gap person k z own)) (0, omega arith, ap (λ (m : ℕ). arc_for person m z) (sym e)))
at_entry_of gap person k (z ∷ row) (suc j) lt own =
    let e : suc k + j ≡ k + suc j = omega arith in
    Contains-append_right (entry_arcs gap person k z) (row_arcs gap person (suc k) row) (arc_for person (k + suc j) (get_or row j (pos 0))) (subst (λ (m : ℕ). Contains (row_arcs gap person (suc k) row) (arc_for person m (get_or row j (pos 0)))) e (at_entry_of gap person (suc k) row j (omega (arith, lt)) own))

-- what stands in a row
pub row_len : (objects : ℕ) (costs : List ℤ) (stride person : ℕ) → person * stride + objects ≤ length costs → length (row_of objects costs stride person) ≡ objects
row_len objects costs stride person fit =
    let d = length-drop (person * stride) costs in
    let n : person * stride + objects - person * stride ≡ objects = omega arith in
    length-take-le (person * stride + objects - person * stride) (drop (person * stride) costs) (omega (arith, d, n, fit)) ∙ n

pub row_at : (objects : ℕ) (costs : List ℤ) (stride person j : ℕ) → j < objects → get_or (row_of objects costs stride person) j (pos 0) ≡ get_or costs (person * stride + j) (pos 0)
row_at objects costs stride person j lt =
    let n : person * stride + objects - person * stride ≡ objects = omega arith in
    get_or-take (person * stride + objects - person * stride) (drop (person * stride) costs) j (pos 0) (omega (arith, n, lt)) ∙ get_or-drop (person * stride) costs j (pos 0)

-- an arc of the table is that of an entry
pub has_entry : (persons objects : ℕ) (costs : List ℤ) (stride : ℕ) (gap : ℤ) (a : Arc) → ((i : ℕ) → i < persons → i * stride + objects ≤ length costs) → Contains (table_arcs objects costs stride gap persons) a → IsEntry persons objects costs stride gap a
has_entry zero objects costs stride gap a fit c = absurd (none_of a c)
has_entry (suc persons) objects costs stride gap a fit c = elim (Contains-append_cases (table_arcs objects costs stride gap persons) (row_arcs gap persons 0 (row_of objects costs stride persons)) a c) [
  | inl front ↦ (let h = has_entry persons objects costs stride gap a (λ i lt. fit i (omega (arith, lt))) front in record { person = omega (arith, h.person); object = h.object; cost = h.cost; own = h.own })
  | inr last ↦
      (let h = row_has gap persons 0 (row_of objects costs stride persons) a last in
      let len = row_len objects costs stride persons (fit persons (omega arith)) in
      let inside : h.at < objects = omega (arith, h.inside, len) in
      let object : h.at ≡ a.object = omega (arith, h.object_is) in
      record {
        person = omega (arith, h.person_is);
        object = omega (arith, object, inside);
        cost = h.cost_is ∙ row_at objects costs stride persons h.at inside ∙ ap (λ (i : ℕ). get_or costs (i * stride + h.at) (pos 0)) (sym h.person_is) ∙ ap (λ (j : ℕ). get_or costs (a.person * stride + j) (pos 0)) object;
        own = h.own;
      })
]

-- and an entry that is no gap has its arc there
pub entry_there : (persons objects : ℕ) (costs : List ℤ) (stride : ℕ) (gap : ℤ) (person object : ℕ) → ((i : ℕ) → i < persons → i * stride + objects ≤ length costs) → person < persons → object < objects → get_or costs (person * stride + object) (pos 0) ≢ gap
    → Contains (table_arcs objects costs stride gap persons) (arc_for person object (get_or costs (person * stride + object) (pos 0)))
entry_there zero objects costs stride gap person object fit lt o own = absurd (omega (arith, lt))
entry_there (suc persons) objects costs stride gap person object fit lt o own = elim (cases_lt person persons) [
  | inl before ↦ Contains-append_left (table_arcs objects costs stride gap persons) (row_arcs gap persons 0 (row_of objects costs stride persons)) (arc_for person object (get_or costs (person * stride + object) (pos 0))) (entry_there persons objects costs stride gap person object (λ i l. fit i (omega (arith, l))) before o own)
  | inr not_before ↦
      (let e : persons ≡ person = omega (arith, not_before, lt) in
      let len = row_len objects costs stride persons (fit persons (omega arith)) in
      let z = row_at objects costs stride persons object o in
      let same : get_or (row_of objects costs stride persons) object (pos 0) ≡ get_or costs (person * stride + object) (pos 0) = z ∙ ap (λ (i : ℕ). get_or costs (i * stride + object) (pos 0)) e in
      let there = at_entry_of gap persons 0 (row_of objects costs stride persons) object (omega (arith, o, len)) (λ gone. own (sym same ∙ gone)) in
      let front : 0 + object ≡ object = omega arith in
      Contains-append_right (table_arcs objects costs stride gap persons) (row_arcs gap persons 0 (row_of objects costs stride persons)) (arc_for person object (get_or costs (person * stride + object) (pos 0)))
      (subst (λ (b : Arc). Contains (row_arcs gap persons 0 (row_of objects costs stride persons)) b) (ap (λ (j : ℕ). arc_for persons j (get_or (row_of objects costs stride persons) object (pos 0))) front ∙ ap (λ (i : ℕ). arc_for i object (get_or (row_of objects costs stride persons) object (pos 0))) e ∙ ap (λ (x : ℤ). arc_for person object x) same) there))
]

pub entries_are : (persons objects : ℕ) (costs : List ℤ) (stride : ℕ) (gap : ℤ) (a : Arc) → IsTable persons objects stride (length costs) → (Contains (table_arcs objects costs stride gap persons) a → IsEntry persons objects costs stride gap a) × (IsEntry persons objects costs stride gap a → Contains (table_arcs objects costs stride gap persons) a)
entries_are persons objects costs stride gap a t = (
  λ c. has_entry persons objects costs stride gap a t.within c,
  λ h. subst (λ (b : Arc). Contains (table_arcs objects costs stride gap persons) b) (sym (same_arc a a.person a.object (get_or costs (a.person * stride + a.object) (pos 0)) refl refl h.cost))
      (entry_there persons objects costs stride gap a.person a.object t.within h.person h.object (λ gone. h.own (h.cost ∙ gone))),
)
