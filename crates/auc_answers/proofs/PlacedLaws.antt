-- The holders that were placed, one after another.
use Rattle.std.proofs.Common.{ℕ, ◌+◌, ◌<◌, ◌≤◌, ◌≡◌, ◌≢◌, refl, arith, List, length, set, Option, Some, None, Contains, sym, ap, subst, ◌∙◌, inl, inr}
use Rattle.std.specs.List.{slice_get}
use Rattle.std.proofs.lemmas.Bool.{cases_eq}
use Rattle.std.proofs.lemmas.Option.{get_or_from_slice_get, none-some, same_Some, slice_get_within}
use Rattle.std.proofs.lemmas.List.{get_or-set_same, get_or-set_other}
use Rattle.auc_graph.specs.declared.arc.Arc.{Arc}
use Rattle.auc_graph.specs.declared.rows.RowArc.{RowArc}
use Rattle.auc_graph.specs.Problem.{IsProblem, IsWithin, Problem}
use Rattle.auc_graph.specs.Row.{row_arc}
use Rattle.auc_graph.specs.Table.{IsTableOf, Table, row_of}
use Rattle.auc_hall.specs.Matched.{HasObject}
use Rattle.auc_hall.specs.Partial.{IsNotPlaced, MayPlace, pick}
use Rattle.auc_hall.proofs.ProblemLaws.{in_row, row_is, stands_for}
use Rattle.auc_letters.specs.declared.state.Held.{Held}
use Rattle.auc_answers.specs.Claims.{AreHoldersArcs, ArePlaceable, HasAsHolder, HoldsAt, holder_at}
use Rattle.auc_answers.proofs.FoundLaws.{at_or_before, is_there}

pub nobody_there : (o : Option Held) → ((h : Held) → o ≡ Some h → ⊥) → o ≡ None
nobody_there None none = refl
nobody_there (Some h) none = absurd (none h refl)

-- a holder that has the object by an arc to it is a person of the problem
pub holder_below : (p : Problem) (j : ℕ) (h : Held) (arc : Arc) → IsProblem p → HoldsAt p j h arc → h.person < p.persons
holder_below p j h arc is right =
    let at = get_or_from_slice_get p.arcs h.arc arc arc right.by.place in
    let within : IsWithin p.persons p.objects arc = subst (IsWithin p.persons p.objects) at (is.within h.arc arc (slice_get_within p.arcs h.arc arc right.by.place)) in
    subst (λ (i : ℕ). i < p.persons) right.by.his within.person

-- a person's arc comes of one of the first `count` holders
pub record IsPlacedBy (holders : List (Option Held)) (count person : ℕ) (a : RowArc) : Type 0 where
  pub before : a.object < count
  pub has : HasAsHolder holders person a

-- the first `count` holders have their arcs
pub record ArePlaced (p : Problem) (holders : List (Option Held)) (count : ℕ) (choice : List (Option RowArc)) : Type 0 where
  pub only : (i : ℕ) (a : RowArc) → pick choice i ≡ Some a → IsPlacedBy holders count i a
  pub all : (j : ℕ) (h : Held) → j < count → holder_at holders j ≡ Some h → HasObject choice h.person j
  pub each : (j : ℕ) (h : Held) → j < count → holder_at holders j ≡ Some h → (a : Arc) × HoldsAt p j h a
  pub once : (j k : ℕ) (a b : Held) → j < count → k < count → holder_at holders j ≡ Some a → holder_at holders k ≡ Some b → a.person ≡ b.person → j ≡ k

pub placed_none : (p : Problem) (holders : List (Option Held)) (choice : List (Option RowArc)) → ((i : ℕ) → pick choice i ≡ None) → ArePlaced p holders 0 choice
placed_none p holders choice none = record {
  only = λ i a e. absurd (none-some a (sym (none i) ∙ e));
  all = λ j h lt e. absurd (omega (arith, lt));
  each = λ j h lt e. absurd (omega (arith, lt));
  once = λ j k a b lt le e f s. absurd (omega (arith, lt));
}

module _ (p : Problem) (holders : List (Option Held)) (count : ℕ) (choice : List (Option RowArc)) (are : ArePlaced p holders count choice) where
  later : (i : ℕ) (a : RowArc) → IsPlacedBy holders count i a → IsPlacedBy holders (count + 1) i a
  later i a x = let l = x.before in record { before = omega (arith, l); has = x.has }

  pub placed_nothing : holder_at holders count ≡ None → ArePlaced p holders (count + 1) choice
  placed_nothing none = record {
    only = λ i a e. later i a (are.only i a e);
    all = λ j h lt e. are.all j h (before j h lt e) e;
    each = λ j h lt e. are.each j h (before j h lt e) e;
    once = λ j k a b lt le e f s. are.once j k a b (before j a lt e) (before k b le f) e f s;
  }
    where
      before : (j : ℕ) (h : Held) → j < count + 1 → holder_at holders j ≡ Some h → j < count
      before j h lt e = at_or_before count j lt (λ at. none-some h (sym none ∙ (ap (holder_at holders) (sym at) ∙ e)))

  pub placed_all : length holders ≤ count → ArePlaceable p holders
  placed_all past = record {
    each = λ j h e. are.each j h (let l = is_there holders j h e in omega (arith, l, past)) e;
    once = λ j k a b e f s. are.once j k a b (let l = is_there holders j a e in omega (arith, l, past)) (let l = is_there holders k b f in omega (arith, l, past)) e f s;
  }

  pub placed_holders : length holders ≤ count → AreHoldersArcs holders choice
  placed_holders past = record {
    only = λ i a e. (are.only i a e).has;
    all = λ j h e. are.all j h (let l = is_there holders j h e in omega (arith, l, past)) e;
  }

  module _ (t : Table) (its : IsTableOf p t) (h : Held) (here : holder_at holders count ≡ Some h) (arc : Arc) (right : HoldsAt p count h arc) (below : h.person < p.persons) where
    -- an arc of the person's row with this number leads to the object
    leads_here : (a : RowArc) → Contains (row_of t h.person) a → a.arc ≡ h.arc → a.object ≡ count
    leads_here a own numbered =
        let x = stands_for h.person p.arcs a (subst (λ (xs : List RowArc). Contains xs a) (row_is p t its h.person below) own) in
        let same : x.0 ≡ arc = same_Some _ _ (sym x.1.there ∙ (ap (slice_get p.arcs) numbered ∙ right.by.place)) in
        sym x.1.object ∙ (ap (λ (b : Arc). b.object) same ∙ right.leads)

    module _ (a : RowArc) (may : MayPlace t choice h.person h.arc a) (room : h.person < length choice) where
      abbrev placed : List (Option RowArc)
      placed = set choice h.person (Some a)

      leads : a.object ≡ count
      leads = leads_here a may.his may.numbered

      at_same : pick placed h.person ≡ Some a
      at_same = get_or-set_same choice h.person (Some a) None room

      at_other : (i : ℕ) → i ≢ h.person → pick placed i ≡ pick choice i
      at_other i other = get_or-set_other choice h.person i (Some a) None other

      only_more : (i : ℕ) (b : RowArc) → pick placed i ≡ Some b → IsPlacedBy holders (count + 1) i b
      only_more i b e =
          elim (cases_eq i h.person) [
            | inl at ↦ (
                let same : a ≡ b = same_Some _ _ (sym at_same ∙ (ap (pick placed) (sym at) ∙ e)) in
                let l = leads in
                subst (IsPlacedBy holders (count + 1) i) same (record { before = omega (arith, l); has = record { held = h; holds = ap (holder_at holders) leads ∙ here; who = sym at; by = sym may.numbered } })
                )
            | inr other ↦ later i b (are.only i b (sym (at_other i other) ∙ e))
          ]

      -- no earlier holder is this person
      nobody : (j : ℕ) (g : Held) → j < count → holder_at holders j ≡ Some g → g.person ≡ h.person → ⊥
      nobody j g lt e same = let old = are.all j g lt e in none-some old.arc (sym may.unplaced ∙ (ap (pick choice) (sym same) ∙ old.picked))

      held_here : (j : ℕ) (g : Held) → holder_at holders j ≡ Some g → j ≡ count → g ≡ h
      held_here j g e at = same_Some _ _ (sym e ∙ (ap (holder_at holders) at ∙ here))

      person_here : (j : ℕ) (g : Held) → holder_at holders j ≡ Some g → j ≡ count → g.person ≡ h.person
      person_here j g e at = ap (λ (x : Held). x.person) (held_here j g e at)

      all_more : (j : ℕ) (g : Held) → j < count + 1 → holder_at holders j ≡ Some g → HasObject placed g.person j
      all_more j g lt e =
          elim (cases_eq j count) [
            | inl at ↦ record { arc = a; picked = ap (pick placed) (person_here j g e at) ∙ at_same; object = leads ∙ sym at }
            | inr ne ↦ (
                let l = at_or_before count j lt ne in
                let old = are.all j g l e in
                record { arc = old.arc; picked = at_other g.person (nobody j g l e) ∙ old.picked; object = old.object }
                )
          ]

      each_more : (j : ℕ) (g : Held) → j < count + 1 → holder_at holders j ≡ Some g → (b : Arc) × HoldsAt p j g b
      each_more j g lt e =
          elim (cases_eq j count) [
            | inl at ↦ (arc, subst (λ (x : Held). HoldsAt p j x arc) (sym (held_here j g e at)) (subst (λ (k : ℕ). HoldsAt p k h arc) (sym at) right))
            | inr ne ↦ are.each j g (at_or_before count j lt ne) e
          ]

      once_more : (j k : ℕ) (b c : Held) → j < count + 1 → k < count + 1 → holder_at holders j ≡ Some b → holder_at holders k ≡ Some c → b.person ≡ c.person → j ≡ k
      once_more j k b c lt le e f same =
          elim (cases_eq j count) [
            | inl at ↦ elim (cases_eq k count) [
              | inl there ↦ at ∙ sym there
              | inr ne ↦ absurd (nobody k c (at_or_before count k le ne) f (sym same ∙ person_here j b e at))
            ]
            | inr ne ↦ elim (cases_eq k count) [
              | inl there ↦ absurd (nobody j b (at_or_before count j lt ne) e (same ∙ person_here k c f there))
              | inr other ↦ are.once j k b c (at_or_before count j lt ne) (at_or_before count k le other) e f same
            ]
          ]

      pub placed_more : ArePlaced p holders (count + 1) (set choice h.person (Some a))
      placed_more = record { only = only_more; all = all_more; each = each_more; once = once_more }

    -- ---- where the person can't be placed

    -- the person already holds an earlier object
    holds_two : (b : RowArc) → pick choice h.person ≡ Some b → ArePlaceable p holders → ⊥
    holds_two b e can =
        let old = are.only h.person b e in
        let at = can.once b.object count old.has.held h old.has.holds here old.has.who in
        let l = old.before in
        absurd (omega (arith, at, l))

    pub not_placed : IsNotPlaced t choice h.person h.arc → ArePlaceable p holders → ⊥
    not_placed (IsNotPlaced.placed_already b e) can = holds_two b e can
    not_placed (IsNotPlaced.not_his unplaced none) can =
        let own : Contains (row_of t h.person) (row_arc (h.arc, arc)) = subst (λ (xs : List RowArc). Contains xs (row_arc (h.arc, arc))) (sym (row_is p t its h.person below)) (in_row h.person p.arcs h.arc arc right.by.place right.by.his) in
        none own.0 (row_arc (h.arc, arc)) own.1 (ap (λ (r : RowArc). r.arc) own.2)
    not_placed (IsNotPlaced.object_held a b i unplaced own numbered e same) can =
        let old = are.only i b e in
        let l = old.before in
        let leads = leads_here a own numbered in
        absurd (omega (arith, l, leads, same))

pub not_right : (p : Problem) (holders : List (Option Held)) (j : ℕ) (h : Held) → holder_at holders j ≡ Some h → ((a : Arc) → HoldsAt p j h a → ⊥) → ArePlaceable p holders → ⊥
not_right p holders j h here wrong can = let x = can.each j h here in wrong x.0 x.1
