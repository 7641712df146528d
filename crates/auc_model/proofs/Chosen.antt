-- If the hub has counted every person, the holders' arcs are an assignment of the problem.
use Rattle.std.proofs.Common.{ℕ, ℤ, zero, suc, ◌+◌, ◌<◌, ◌≤◌, ◌≡◌, ◌≢◌, refl, arith, true, false, List, [], ◌∷◌, Option, Some, length, get_or, map, Contains, All, inl, inr, ap, sym, ◌∙◌, subst}
use Rattle.std.specs.Prelude.{filter, nat_eq, ◌==◌}
use Rattle.std.proofs.lemmas.Option.{slice_get-get_or}
use Rattle.std.specs.List.{slice_get, range_with_len, enumerate_from, IsDistinct, AllByRecursion}
use Rattle.std.proofs.lemmas.Bool.{cases_Bool, eqb-true, ne_eqb}
use Rattle.std.proofs.lemmas.List.FromFn.{get_or-map-range_with_len, length-map-range_with_len}
use Rattle.auc_graph.specs.Assignment.{object_of, person_of}
use Rattle.auc_graph.specs.Problem.{Problem}
use Rattle.auc_graph.specs.Row.{is_of, row, row_arc}
use Rattle.auc_graph.specs.Table.{IsTableOf, Table, row_of}
use Rattle.auc_graph.specs.declared.arc.Arc.{Arc}
use Rattle.auc_graph.specs.declared.rows.RowArc.{RowArc}
use Rattle.auc_letters.specs.declared.state.Held.{Held}
use Rattle.auc_model.specs.Chosen.{HoldersAreAssigned, IsHeldArc}
use Rattle.auc_model.specs.Schedule.{Reached}
use Rattle.auc_model.specs.Channels.{Each}
use Rattle.auc_model.specs.World.{Phase, World, phase_of}
use Rattle.auc_model.proofs.SameAnswers.{from_some}
use Rattle.auc_model.proofs.Theorems.{everyone_holds, holders_slack}

some_same : {a b : Held} → ◌≡◌ {A = Option Held} (Some a) (Some b) → a ≡ b
some_same {a} {b} e = ap (λ (o : Option Held). from_some a o) e

-- an arc of a person's row is at its place of the list
pub record Found (i : ℕ) (a : RowArc) (n : ℕ) (arcs : List Arc) : Type 0 where
  pub place : ℕ
  pub known : place < length arcs
  pub numbered : a.arc ≡ n + place
  pub there : (d : Arc) → get_or arcs place d ≡ record { cost = a.cost; person = i; object = a.object }

pub row_arc_listed : (i n : ℕ) (arcs : List Arc) (a : RowArc) → Contains (map row_arc (filter (is_of i) (enumerate_from n arcs))) a → Found i a n arcs
row_arc_listed i n [] a c = absurd (omega (arith, c.1))
row_arc_listed i n (x ∷ xs) a c = elim (cases_Bool (x.person == i)) [ inl t ↦ his t c.0 (rw t at c.1) (rw t at c.2) (row_arc_listed i (n + 1) xs a) | inr f ↦ later (row_arc_listed i (n + 1) xs a (rw f at c)) ]
  where
    later : Found i a (n + 1) xs → Found i a n (x ∷ xs)
    later f = record { place = suc f.place; known = omega (arith, f.known); numbered = omega (arith, f.numbered); there = f.there }

    his : (x.person == i) ≡ true → (k : ℕ) → k < length (row_arc (n, x) ∷ map row_arc (filter (is_of i) (enumerate_from (n + 1) xs))) → get_or (row_arc (n, x) ∷ map row_arc (filter (is_of i) (enumerate_from (n + 1) xs))) k a ≡ a
        → (Contains (map row_arc (filter (is_of i) (enumerate_from (n + 1) xs))) a → Found i a (n + 1) xs) → Found i a n (x ∷ xs)
    his t zero l e ih = record {
      place = 0;
      known = omega arith;
      numbered = sym (ap (λ (b : RowArc). b.arc) e) ∙ omega arith;
      there = λ d. λ q. record { cost = (ap (λ (b : RowArc). b.cost) e) q; person = (eqb-true x.person i t) q; object = (ap (λ (b : RowArc). b.object) e) q };
    }
    his t (suc k) l e ih = later (ih (k, omega (arith, l), e))

module _ (p : Problem) (t : Table) (shards : ℕ) (eps : ℤ) (v : World) (its : IsTableOf p t) (reached : Reached (phase_of t shards eps) v) where
  abbrev g : Phase
  g = phase_of t shards eps

  -- the rows are those of the problem
  row_is : (i : ℕ) → i < p.persons → row_of t i ≡ map row_arc (filter (is_of i) (enumerate_from 0 p.arcs))
  unfolding row
  row_is i l = ap (λ (rows : List (List RowArc)). get_or rows i []) its.rows ∙ get_or-map-range_with_len (λ person. row person p.arcs) 0 p.persons i i [] l (omega arith)

  persons_are : length t.rows ≡ p.persons
  persons_are = ap length its.rows ∙ length-map-range_with_len (λ person. row person p.arcs) 0 p.persons

  module _ (all : v.count ≡ g.persons) where
    -- the arc of a person
    record Chosen (i : ℕ) : Type 0 where
      arc : Arc
      person : arc.person ≡ i
      listed : Contains p.arcs arc
      held : IsHeldArc p v arc

    by_holder : (i j : ℕ) (h : Held) (a : RowArc) → v.holder j ≡ Some h → h.person ≡ i → a.object ≡ j → a.arc ≡ h.arc → Found i a 0 p.arcs → Chosen i
    by_holder i j h a holds who leads stands found =
        let arc : Arc = record { cost = a.cost; person = i; object = a.object } in
        let place : h.arc ≡ found.place = let e = found.numbered in omega (arith, e, stands) in
        record {
          arc = arc;
          person = refl;
          listed = (found.place, found.known, found.there arc);
          held = record { held = h; holds = ap v.holder leads ∙ holds; person = who; place = ap (slice_get p.arcs) place ∙ slice_get-get_or p.arcs found.place arc found.known ∙ ap Some (found.there arc) };
        }

    chosen : (i : ℕ) → i < p.persons → Chosen i
    chosen i l =
        let e = everyone_holds g v reached all i (rw persons_are l) in
        let f = holders_slack g v reached e.object e.held e.holds in
        let listed : Contains (row_of t i) f.arc = subst (λ (n : ℕ). Contains (row_of t n) f.arc) e.person f.listed in
        by_holder i e.object e.held f.arc e.holds e.person f.leads f.place (row_arc_listed i 0 p.arcs f.arc (rw (row_is i l) at listed))

    -- arcs of persons from a on
    record Later (a : ℕ) (arc : Arc) : Type 0 where
      from : a ≤ arc.person
      listed : Contains p.arcs arc
      held : IsHeldArc p v arc

    weaker : (a : ℕ) (arcs : List Arc) → Each (Later (a + 1)) arcs → Each (Later a) arcs
    weaker a [] e = tt
    weaker a (x ∷ xs) e = (record { from = (let l = e.0.from in omega (arith, l)); listed = e.0.listed; held = e.0.held }, weaker a xs e.1)

    -- later arcs go to other objects
    apart : (a : ℕ) (arc : Arc) → arc.person ≡ a → IsHeldArc p v arc → (arcs : List Arc) → Each (Later (a + 1)) arcs → AllByRecursion (λ j. nat_eq arc.object j ≡ false) (map object_of arcs)
    apart a arc own held [] e = tt
    apart a arc own held (x ∷ xs) e = (ne_eqb arc.object x.object other, apart a arc own held xs e.1)
      where
        other : arc.object ≢ x.object
        other same =
            let h = e.0.held in
            let who : held.held ≡ h.held = some_same (sym held.holds ∙ (ap v.holder same ∙ h.holds)) in
            let k = ap (λ (z : Held). z.person) who in
            let l = e.0.from in
            let m = held.person in
            let n = h.person in
            absurd (omega (arith, k, l, m, n, own))

    record Choice (a n : ℕ) : Type 0 where
      arcs : List Arc
      persons : map person_of arcs ≡ range_with_len a n
      each : Each (Later a) arcs
      distinct : IsDistinct nat_eq (map object_of arcs)

    choice : (n a : ℕ) → a + n ≡ p.persons → Choice a n
    unfolding IsDistinct
    choice zero a e = record { arcs = []; persons = refl; each = tt; distinct = tt }
    choice (suc n) a e =
        let x = chosen a (omega (arith, e)) in
        let rest = choice n (a + 1) (omega (arith, e)) in
        let own = x.person in
        record {
          arcs = x.arc ∷ rest.arcs;
          persons = λ q. own q ∷ rest.persons q;
          each = (record { from = omega (arith, own); listed = x.listed; held = x.held }, weaker a rest.arcs rest.each);
          distinct = (apart a x.arc own x.held rest.arcs rest.each, rest.distinct);
        }

    all_of : (P : Arc → Type 0) (arcs : List Arc) → ((x : Arc) → Later 0 x → P x) → Each (Later 0) arcs → All P arcs
    all_of P [] f e k d l = absurd (omega arith)
    all_of P (x ∷ xs) f e zero d l = f x e.0
    all_of P (x ∷ xs) f e (suc k) d l = all_of P xs f e.1 k d (omega (arith, l))

    pub holders_are_assignment : HoldersAreAssigned p v
    holders_are_assignment =
        let c = choice p.persons 0 (omega arith) in
        record {
          choice = c.arcs;
          assigned = record { persons = c.persons; arcs = all_of (Contains p.arcs) c.arcs (λ x l. l.listed) c.each; objects = c.distinct };
          held = all_of (IsHeldArc p v) c.arcs (λ x l. l.held) c.each;
        }
