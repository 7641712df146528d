-- The arcs by which persons hold are arcs of the problem, and satisfy epsilon-complementary slackness. If each person
-- has one, they are an assignment.
use Rattle.std.proofs.Common.{ℕ, ℤ, pos, zero, suc, ◌+◌, ◌<◌, ◌≤◌, ◌≡◌, ◌≢◌, refl, arith, false, List, [], ◌∷◌, length, get_or, map, Option, Some, None, Contains, inl, inr, ap, sym, subst, ◌∙◌}
use Rattle.std.specs.Prelude.{nat_eq, All, ◌⊎◌, ◌+ℤ◌, ◌*ℤ◌, ◌≤ℤ◌}
use Rattle.std.specs.List.{slice_get, range_with_len, IsDistinct, AllByRecursion}
use Rattle.std.proofs.lemmas.Bool.{ne_eqb}
use Rattle.std.proofs.lemmas.Int.{ints}
use Rattle.std.proofs.lemmas.List.{get_or-map, length-map}
use Rattle.std.proofs.lemmas.List.Elements.{All-contains, Contains-get_or}
use Rattle.std.proofs.lemmas.Option.{same_Some, slice_get-get_or}
use Rattle.auc_graph.specs.Assignment.{IsAssignment, object_of, person_of}
use Rattle.auc_graph.specs.Dual.{IsNoPriceLeft, IsSlackRight, price_at, scale_of}
use Rattle.auc_graph.specs.Problem.{IsProblem, IsSquare, Problem}
use Rattle.auc_graph.specs.Row.{row_arc}
use Rattle.auc_graph.specs.Table.{IsTableOf, Table, row_of}
use Rattle.auc_graph.specs.declared.arc.Arc.{Arc}
use Rattle.auc_graph.specs.declared.rows.RowArc.{RowArc}
use Rattle.auc_graph.proofs.DualLaws.{as_many, none_left_over}
use Rattle.auc_hall.proofs.Membership.{contains_at}
use Rattle.auc_hall.proofs.ProblemLaws.{in_row, length-rows, row_is}
use Rattle.auc_letters.specs.declared.state.Held.{Held}
use Rattle.auc_model.specs.Channels.{Each}
use Rattle.auc_answers.specs.Claims.{ArePlaceable, HasNoPriceUnheld, HoldsAt, HoldsBy, IsChoiceOf, NobodyHoldsTwo, holder_at as held_at}
use Rattle.auc_answers.proofs.FoundLaws.{person_at}
use Rattle.auc_rows.specs.declared.arc.ShortArc.{ShortArc}
use Rattle.auc_rows.specs.Rows.{AreSameRows, FlatTable, IsFlatTable, flat_row_of, scale_in, short}
use Rattle.auc_letters.specs.declared.limits.TheConstants.{NOBODY}
use Rattle.auc_direct.specs.Held.{AreHeld, IsHeld, arc_by}
use Rattle.auc_market.specs.Market.{AreSpare, HaveObjects, Stands, holder_at, own_at}
use Rattle.auc_market.specs.Scan.{short_value}
use Rattle.auc_market.proofs.MarketLaws.{holder_has, owner_below}

-- the value of an arc, on two scales that are one
same_value : (price : ℕ → ℤ) (m n : ℕ) (c : ℤ) (j : ℕ) → m ≡ n → (pos (m + 1) *ℤ c +ℤ price j) ≡ (pos (n + 1) *ℤ c +ℤ price j)
same_value price m n c j e = ap (λ (k : ℕ). pos (k + 1) *ℤ c +ℤ price j) e

-- what is listed among the short arcs of a row is short of one of them
pub in_map : (xs : List RowArc) (a : RowArc) → Contains xs a → Contains (map short xs) (short a)
in_map xs a (k, l, e) = (k, (let m = length-map xs short in omega (arith, l, m)), get_or-map short xs k a (short a) l ∙ ap short e)

module _ (p : Problem) (t : Table) (r : FlatTable) (eps : ℤ) (prices : List ℤ) (holders : List ℕ) (owns : List ShortArc) (held : List (Option Held)) (its : IsTableOf p t) (same : AreSameRows t r) (sound : IsFlatTable r) (stands : Stands r eps prices holders owns) (are : AreHeld p holders owns held) where
  persons_are : length r.rows ≡ p.persons
  persons_are = let e = same.persons in let f = length-rows p t its in omega (arith, e, f)

  has_below : (i : ℕ) → (own_at owns i).object ≢ NOBODY → i < p.persons
  has_below i some = let l = owner_below r eps prices holders owns sound stands i some in let e = persons_are in omega (arith, l, e)

  -- the person holds the object by the arc at this place
  record IsOf (i : ℕ) (h : Held) : Type 0 where
    holds : held_at held (own_at owns i).object ≡ Some h
    who : h.person ≡ i
    at : slice_get p.arcs h.arc ≡ Some (arc_by i (own_at owns i))

  held_by : (i : ℕ) → (own_at owns i).object ≢ NOBODY → (o : Option Held) → held_at held (own_at owns i).object ≡ o → IsHeld p holders owns (own_at owns i).object o → (h : Held) × IsOf i h
  held_by i some None e nobody = absurd (let l = owner_below r eps prices holders owns sound stands i some in let m = sound.most in let h = stands.holds i some in omega (arith, nobody, h, l, m))
  held_by i some (Some h) e is =
      let who : h.person ≡ i = sym is.0 ∙ stands.holds i some in
      (h, record { holds = e; who = who; at = subst (λ (k : ℕ). slice_get p.arcs h.arc ≡ Some (arc_by k (own_at owns k))) who is.2 })

  holder_of : (i : ℕ) → (own_at owns i).object ≢ NOBODY → (h : Held) × IsOf i h
  holder_of i some = held_by i some (held_at held (own_at owns i).object) refl (are (own_at owns i).object)

  -- the holder of an object has it
  has_of : (j : ℕ) (h : Held) → held_at held j ≡ Some h → ((own_at owns h.person).object ≡ j) × ((own_at owns h.person).object ≢ NOBODY)
  has_of j h e =
      let is : IsHeld p holders owns j (Some h) = subst (IsHeld p holders owns j) e (are j) in
      let some : holder_at holders j ≢ NOBODY = λ z. is.1 (sym is.0 ∙ z) in
      (ap (λ (k : ℕ). (own_at owns k).object) (sym is.0) ∙ stands.held j some, λ z. holder_has r eps prices holders owns sound stands j some (ap (λ (k : ℕ). (own_at owns k).object) is.0 ∙ z))

  holds_place : (j : ℕ) (h : Held) → held_at held j ≡ Some h → slice_get p.arcs h.arc ≡ Some (arc_by h.person (own_at owns h.person))
  holds_place j h e =
      let has = has_of j h e in
      let x = holder_of h.person has.1 in
      let one : x.0 ≡ h = same_Some x.0 h (sym x.1.holds ∙ (ap (held_at held) has.0 ∙ e)) in
      ap (λ (y : Held). slice_get p.arcs y.arc) (sym one) ∙ x.1.at

  holds_at : (j : ℕ) (h : Held) → held_at held j ≡ Some h → (a : Arc) × HoldsAt p j h a
  holds_at j h e = (arc_by h.person (own_at owns h.person), record { by = record { place = holds_place j h e; his = refl }; leads = (has_of j h e).0 })

  once : NobodyHoldsTwo held
  once j k a b e f same_person = sym (has_of j a e).0 ∙ ap (λ (i : ℕ). (own_at owns i).object) same_person ∙ (has_of k b f).0

  pub placeable : ArePlaceable p held
  placeable = record { each = holds_at; once = once }

  unheld_by : ((j : ℕ) → holder_at holders j ≡ NOBODY → price_at prices j ≡ pos 0) → (j : ℕ) (o : Option Held) → held_at held j ≡ o → IsHeld p holders owns j o → held_at held j ≡ None → price_at prices j ≡ pos 0
  unheld_by free j None e nobody none = free j nobody
  unheld_by free j (Some h) e is none = absurd (let b : ◌≡◌ {A = Option Held} None (Some h) = sym none ∙ e in cc)

  spare_by : AreSpare r prices holders → IsSquare p ⊎ HasNoPriceUnheld held prices
  spare_by (inl square) = inl (let a = its.objects in let b = same.objects in let c = persons_are in omega (arith, square, a, b, c))
  spare_by (inr free) = inr (λ j. unheld_by free j (held_at held j) refl (are j))

  pub spare : IsSquare p ⊎ HasNoPriceUnheld held prices
  spare = spare_by stands.spare

  pub many_prices : length prices ≡ p.objects
  many_prices = let a = stands.prices_are in let b = same.objects in let c = its.objects in omega (arith, a, b, c)

  -- ---- slackness

  slack_right : (i : ℕ) → (own_at owns i).object ≢ NOBODY → IsSlackRight eps (scale_of p) prices p.arcs (arc_by i (own_at owns i))
  slack_right i some k d l his =
      let b : Arc = get_or p.arcs k d in
      let lt = has_below i some in
      let listed : Contains (row_of t i) (row_arc (k, b)) = subst (λ (xs : List RowArc). Contains xs (row_arc (k, b))) (sym (row_is p t its i lt)) (in_row i p.arcs k b (slice_get-get_or p.arcs k d l) his) in
      let row_same : flat_row_of r i ≡ map short (row_of t i) = same.rows i (let n = length-rows p t its in omega (arith, lt, n)) in
      let own : Contains (flat_row_of r i) (short (row_arc (k, b))) = subst (λ (xs : List ShortArc). Contains xs (short (row_arc (k, b)))) (sym row_same) (in_map (row_of t i) (row_arc (k, b)) listed) in
      let le = All-contains (λ (s : ShortArc). short_value (scale_in r) prices (own_at owns i) ≤ℤ (short_value (scale_in r) prices s +ℤ eps)) (flat_row_of r i) (short (row_arc (k, b))) (stands.slack i some).least own in
      let mine = same_value (price_at prices) (length r.rows) p.persons (own_at owns i).cost (own_at owns i).object persons_are in
      let theirs = same_value (price_at prices) (length r.rows) p.persons b.cost b.object persons_are in
      omega (arith, ints, le, mine, theirs)

  -- ---- where each person has an object

  module _ (all : HaveObjects (length r.rows) owns) where
    has : (i : ℕ) → i < p.persons → (own_at owns i).object ≢ NOBODY
    has i lt = all i (let e = persons_are in omega (arith, lt, e))

    -- the arc is one by which its person holds
    record IsChosen (a : Arc) : Type 0 where
      below : a.person < p.persons
      is : a ≡ arc_by a.person (own_at owns a.person)

    -- arcs of persons from a on
    Later : ℕ → Arc → Type 0
    Later a arc = (a ≤ arc.person) × IsChosen arc

    weaker : (a : ℕ) (arcs : List Arc) → Each (Later (a + 1)) arcs → Each (Later a) arcs
    unfolding Later
    weaker a [] e = tt
    weaker a (x ∷ xs) e = ((let l = e.0.0 in omega (arith, l), e.0.1), weaker a xs e.1)

    chosen_object : (arc : Arc) → IsChosen arc → arc.object ≡ (own_at owns arc.person).object
    chosen_object arc c = ap (λ (x : Arc). x.object) c.is

    -- the holder of the object of an arc by which a person holds
    holder_is : (arc : Arc) → IsChosen arc → holder_at holders arc.object ≡ arc.person
    holder_is arc c = ap (holder_at holders) (chosen_object arc c) ∙ stands.holds arc.person (has arc.person c.below)

    -- later arcs go to other objects
    apart : (a : ℕ) (arc : Arc) → arc.person ≡ a → IsChosen arc → (arcs : List Arc) → Each (Later (a + 1)) arcs → AllByRecursion (λ j. nat_eq arc.object j ≡ false) (map object_of arcs)
    unfolding Later
    apart a arc own chosen [] e = tt
    apart a arc own chosen (x ∷ xs) e = (ne_eqb arc.object x.object other, apart a arc own chosen xs e.1)
      where
        other : arc.object ≢ x.object
        other one =
            let who : arc.person ≡ x.person = sym (holder_is arc chosen) ∙ (ap (holder_at holders) one ∙ holder_is x e.0.1) in
            let l = e.0.0 in
            absurd (omega (arith, who, l, own))

    record Choice (a n : ℕ) : Type 0 where
      picked : List Arc
      persons : map person_of picked ≡ range_with_len a n
      later : Each (Later a) picked
      distinct : IsDistinct nat_eq (map object_of picked)

    choice : (n a : ℕ) → a + n ≡ p.persons → Choice a n
    unfolding Later IsDistinct
    choice zero a e = record { picked = []; persons = refl; later = tt; distinct = tt }
    choice (suc n) a e =
        let rest = choice n (a + 1) (omega (arith, e)) in
        let x : Arc = arc_by a (own_at owns a) in
        let is : IsChosen x = record { below = omega (arith, e); is = refl } in
        record {
          picked = x ∷ rest.picked;
          persons = λ q. a ∷ rest.persons q;
          later = ((omega arith, is), weaker a rest.picked rest.later);
          distinct = (apart a x refl is rest.picked rest.later, rest.distinct);
        }

    all_of : (P : Arc → Type 0) (arcs : List Arc) → ((x : Arc) → Later 0 x → P x) → Each (Later 0) arcs → All P arcs
    all_of P [] f e k d l = absurd (omega arith)
    all_of P (x ∷ xs) f e zero d l = f x e.0
    all_of P (x ∷ xs) f e (suc k) d l = all_of P xs f e.1 k d (omega (arith, l))

    whole : Choice 0 p.persons
    whole = choice p.persons 0 (omega arith)

    pub arcs : List Arc
    arcs = whole.picked

    listed : (a : Arc) → IsChosen a → Contains p.arcs a
    listed a c = (let x = holder_of a.person (has a.person c.below) in subst (Contains p.arcs) (sym c.is) (contains_at p.arcs x.0.arc (arc_by a.person (own_at owns a.person)) x.1.at))

    pub assigned : IsAssignment p arcs
    unfolding Later arcs
    assigned = record { persons = whole.persons; arcs = all_of (Contains p.arcs) arcs (λ x l. listed x l.1) whole.later; objects = whole.distinct }

    pub slack_all : All (IsSlackRight eps (scale_of p) prices p.arcs) arcs
    unfolding Later arcs
    slack_all = all_of (IsSlackRight eps (scale_of p) prices p.arcs) arcs (λ x l. subst (IsSlackRight eps (scale_of p) prices p.arcs) (sym l.1.is) (slack_right x.person (has x.person l.1.below))) whole.later

    chosen : All IsChosen arcs
    unfolding Later arcs
    chosen = all_of IsChosen arcs (λ x l. l.1) whole.later

    -- the arc of each person is among them
    arc_at : (i : ℕ) → i < p.persons → Contains arcs (arc_by i (own_at owns i))
    arc_at i lt =
        let l : i < length arcs = (let n = as_many p arcs assigned in omega (arith, lt, n)) in
        let none : Arc = record { person = 0; object = 0; cost = pos 0 } in
        let c = chosen i none l in
        let person : (get_or arcs i none).person ≡ 0 + i = person_at p.persons 0 i arcs none assigned.persons l in
        let who : (get_or arcs i none).person ≡ i = omega (arith, person) in
        subst (Contains arcs) (c.is ∙ ap (λ (k : ℕ). arc_by k (own_at owns k)) who) (Contains-get_or arcs i none l)

    holds_by : (j : ℕ) (h : Held) → held_at held j ≡ Some h → (a : Arc) × Contains arcs a × HoldsBy p h a
    holds_by j h e =
        let has_it = has_of j h e in
        (arc_by h.person (own_at owns h.person), arc_at h.person (has_below h.person has_it.1), record { place = holds_place j h e; his = refl })

    pub is_choice : IsChoiceOf p held arcs
    is_choice = record {
      persons = assigned.persons;
      held = λ k d l. (
          let c = chosen k d l in
          let a = get_or arcs k d in
          let x = holder_of a.person (has a.person c.below) in
          record { object = (own_at owns a.person).object; held = x.0; holds = x.1.holds; by = record { place = x.1.at ∙ ap Some (sym c.is); his = sym x.1.who } }
          );
      each = holds_by;
      once = once;
    }

    pub no_price_left : IsProblem p → IsNoPriceLeft prices arcs
    no_price_left is = by_spare spare
      where
        unheld_at : (j : ℕ) → ¬ Contains (map object_of arcs) j → (o : Option Held) → held_at held j ≡ o → held_at held j ≡ None
        unheld_at j left None e = e
        unheld_at j left (Some h) e =
            let has_it = has_of j h e in
            let at = arc_at h.person (has_below h.person has_it.1) in
            absurd (left (at.0, (let l = at.1 in let n = length-map arcs object_of in omega (arith, l, n)), get_or-map object_of arcs at.0 (arc_by h.person (own_at owns h.person)) j at.1 ∙ ap object_of at.2 ∙ has_it.0))

        by_spare : IsSquare p ⊎ HasNoPriceUnheld held prices → IsNoPriceLeft prices arcs
        by_spare (inl square) j left = none_left_over p prices arcs is.within square many_prices assigned j left
        by_spare (inr unheld) j left = unheld j (unheld_at j left (held_at held j) refl)
