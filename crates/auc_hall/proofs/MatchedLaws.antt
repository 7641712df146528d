-- Changes of a partial assignment.
use Rattle.std.proofs.Common.{◌≡◌, ℕ, ◌<◌, List, length, get_or, set, Option, Some, None, refl, sym, ap, subst, ◌∙◌, arith, inl, inr, Contains}
use Rattle.std.proofs.lemmas.List.{length-set}
use Rattle.std.proofs.lemmas.Bool.{cases_eq}
use Rattle.std.proofs.lemmas.Option.{none-some, same_Some}
use Rattle.auc_graph.specs.declared.rows.RowArc.{RowArc}
use Rattle.auc_graph.specs.Table.{Table, row_of}
use Rattle.auc_hall.specs.Matched.{holder_of, IsPlaced, AreTied, IsMatched}
use Rattle.auc_hall.specs.Search.{AreHolders, HoldsNothing}
use Rattle.auc_hall.specs.Completion.{IsUntaken}
use Rattle.auc_hall.proofs.Options.{read_set, read_unset, is_within, other_place, same_read}

-- The person p takes a, which is free, and gives up the object j.
tied_moved : (choice : List (Option RowArc)) (holder : List (Option ℕ)) (p : ℕ) (a : RowArc) (j : ℕ) → AreTied choice holder → holder_of holder j ≡ Some p → holder_of holder a.object ≡ None → a.object < length holder
    → AreTied (set choice p (Some a)) (set (set holder a.object (Some p)) j None)
tied_moved choice holder p a j tied has free room =
    let b = tied.held j p has in
    let p_in = is_within choice p b.arc b.picked in
    let j_in : j < length (set holder a.object (Some p)) = omega (arith, is_within holder j p has, length-set holder a.object (Some p)) in
    let j_a = other_place holder a.object j p free has in
    let a_j = λ (e : a.object ≡ j). j_a (sym e) in
    record {
      taken = λ i x h. elim (cases_eq i p) [
        | inl e ↦
            let x_a : a ≡ x = same_Some a x (sym (read_set choice p i (Some a) e p_in) ∙ h) in
            subst (λ (y : RowArc). holder_of (set (set holder a.object (Some p)) j None) y.object ≡ Some i) x_a
            (read_unset (set holder a.object (Some p)) j a.object None a_j ∙ read_set holder a.object a.object (Some p) refl room ∙ ap (λ (n : ℕ). Some n) (sym e))
        | inr n ↦
            let was : get_or choice i None ≡ Some x = sym (read_unset choice p i (Some a) n) ∙ h in
            let by = tied.taken i x was in
            read_unset (set holder a.object (Some p)) j x.object None (λ e. n (same_read holder x.object j i p by has e))
            ∙ read_unset holder a.object x.object (Some p) (other_place holder a.object x.object i free by) ∙ by
      ];
      held = λ k i h. elim (cases_eq k j) [
        | inl e ↦ absurd (none-some i (sym (read_set (set holder a.object (Some p)) j k None e j_in) ∙ h))
        | inr n ↦
            let h1 = sym (read_unset (set holder a.object (Some p)) j k None n) ∙ h in
            elim (cases_eq k a.object) [
              | inl e ↦
                  let i_p : p ≡ i = same_Some p i (sym (read_set holder a.object k (Some p) e room) ∙ h1) in
                  record { arc = a; picked = read_set choice p i (Some a) (sym i_p) p_in; object = sym e }
              | inr n' ↦
                  let h2 : get_or holder k None ≡ Some i = sym (read_unset holder a.object k (Some p) n') ∙ h1 in
                  let x = tied.held k i h2 in
                  record {
                    arc = x.arc;
                    picked = read_unset choice p i (Some a) (λ e. n (sym x.object ∙ ap (λ (y : RowArc). y.object) (same_read choice i p x.arc b.arc x.picked b.picked e) ∙ b.object)) ∙ x.picked;
                    object = x.object;
                  }
            ]
      ];
    }

-- The person p, who has no arc, takes a, which is free.
tied_placed : (choice : List (Option RowArc)) (holder : List (Option ℕ)) (p : ℕ) (a : RowArc) → AreTied choice holder → p < length choice → get_or choice p None ≡ None → holder_of holder a.object ≡ None → a.object < length holder
    → AreTied (set choice p (Some a)) (set holder a.object (Some p))
tied_placed choice holder p a tied p_in none free room =
    record {
      taken = λ i x h. elim (cases_eq i p) [
        | inl e ↦
            let x_a : a ≡ x = same_Some a x (sym (read_set choice p i (Some a) e p_in) ∙ h) in
            subst (λ (y : RowArc). holder_of (set holder a.object (Some p)) y.object ≡ Some i) x_a
            (read_set holder a.object a.object (Some p) refl room ∙ ap (λ (n : ℕ). Some n) (sym e))
        | inr n ↦
            let was : get_or choice i None ≡ Some x = sym (read_unset choice p i (Some a) n) ∙ h in
            let by = tied.taken i x was in
            read_unset holder a.object x.object (Some p) (other_place holder a.object x.object i free by) ∙ by
      ];
      held = λ k i h. elim (cases_eq k a.object) [
        | inl e ↦
            let i_p : p ≡ i = same_Some p i (sym (read_set holder a.object k (Some p) e room) ∙ h) in
            record { arc = a; picked = read_set choice p i (Some a) (sym i_p) p_in; object = sym e }
        | inr n ↦
            let h2 : get_or holder k None ≡ Some i = sym (read_unset holder a.object k (Some p) n) ∙ h in
            let x = tied.held k i h2 in
            record { arc = x.arc; picked = read_unset choice p i (Some a) (other_place choice p i x.arc none x.picked) ∙ x.picked; object = x.object }
      ];
    }

own_set : (t : Table) (choice : List (Option RowArc)) (p : ℕ) (a : RowArc) → p < length choice → ((i : ℕ) (x : RowArc) → get_or choice i None ≡ Some x → Contains (row_of t i) x) → Contains (row_of t p) a
    → (i : ℕ) (x : RowArc) → get_or (set choice p (Some a)) i None ≡ Some x → Contains (row_of t i) x
own_set t choice p a p_in own his i x h =
    elim (cases_eq i p) [
      | inl e ↦
          let x_a : a ≡ x = same_Some a x (sym (read_set choice p i (Some a) e p_in) ∙ h) in
          subst (λ (y : RowArc). Contains (row_of t i) y) x_a (subst (λ (n : ℕ). Contains (row_of t n) a) (sym e) his)
      | inr n ↦ own i x (sym (read_unset choice p i (Some a) n) ∙ h)
    ]

pub moved : (t : Table) (choice : List (Option RowArc)) (holder : List (Option ℕ)) (p : ℕ) (a : RowArc) (j : ℕ) → IsMatched t choice holder → holder_of holder j ≡ Some p → Contains (row_of t p) a → holder_of holder a.object ≡ None → a.object < length holder
    → IsMatched t (set choice p (Some a)) (set (set holder a.object (Some p)) j None)
moved t choice holder p a j m has his free room =
    let b = m.tied.held j p has in
    let p_in = is_within choice p b.arc b.picked in
    record {
      persons = length-set choice p (Some a) ∙ m.persons;
      objects = length-set (set holder a.object (Some p)) j None ∙ length-set holder a.object (Some p) ∙ m.objects;
      own = own_set t choice p a p_in m.own his;
      tied = tied_moved choice holder p a j m.tied has free room;
    }

pub placed : (t : Table) (choice : List (Option RowArc)) (holder : List (Option ℕ)) (p : ℕ) (a : RowArc) → IsMatched t choice holder → p < length choice → get_or choice p None ≡ None → Contains (row_of t p) a → holder_of holder a.object ≡ None → a.object < length holder
    → IsMatched t (set choice p (Some a)) (set holder a.object (Some p))
placed t choice holder p a m p_in none his free room =
    record {
      persons = length-set choice p (Some a) ∙ m.persons;
      objects = length-set holder a.object (Some p) ∙ m.objects;
      own = own_set t choice p a p_in m.own his;
      tied = tied_placed choice holder p a m.tied p_in none free room;
    }

pub kept_set : (choice : List (Option RowArc)) (p : ℕ) (a : RowArc) → p < length choice → (i : ℕ) → IsPlaced choice i → IsPlaced (set choice p (Some a)) i
kept_set choice p a p_in i x = elim (cases_eq i p) [
  | inl e ↦ (a, read_set choice p i (Some a) e p_in)
  | inr n ↦ (x.0, read_unset choice p i (Some a) n ∙ x.1)
]

-- no person has the arc of an object without a holder
pub untaken : (t : Table) (choice : List (Option RowArc)) (holder : List (Option ℕ)) (j : ℕ) → IsMatched t choice holder → holder_of holder j ≡ None → IsUntaken choice j
untaken t choice holder j m free i b h e = none-some i (sym free ∙ ap (λ (k : ℕ). get_or holder k None) (sym e) ∙ m.tied.taken i b h)

pub holders_of : (t : Table) (choice : List (Option RowArc)) (holder : List (Option ℕ)) → IsMatched t choice holder → AreHolders t holder
holders_of t choice holder m = record {
  objects = m.objects;
  within = λ j i h. let b = m.tied.held j i h in omega (arith, is_within choice i b.arc b.picked, m.persons);
  once = λ j k i hj hk.
      let b = m.tied.held j i hj in
      let d = m.tied.held k i hk in
      sym b.object ∙ ap (λ (a : RowArc). a.object) (same_read choice i i b.arc d.arc b.picked d.picked refl) ∙ d.object;
}

pub holds_nothing : (choice : List (Option RowArc)) (holder : List (Option ℕ)) (i : ℕ) → AreTied choice holder → get_or choice i None ≡ None → HoldsNothing holder i
holds_nothing choice holder i tied free j h = let b = tied.held j i h in none-some b.arc (sym free ∙ b.picked)
