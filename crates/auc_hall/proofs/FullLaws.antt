-- If each person holds an object by an arc to it, there is an assignment.
use Rattle.std.proofs.Common.{◌≡◌, ◌∙◌, ℕ, zero, suc, ◌<◌, List, [], ◌∷◌, ◌++◌, length, Option, Some, refl, sym, ap, subst, arith, inl, inr, Contains}
use Rattle.std.specs.List.{slice_get}
use Rattle.std.proofs.lemmas.List.{length-append}
use Rattle.std.proofs.lemmas.Option.{none-some, same_Some}
use Rattle.auc_graph.specs.declared.rows.RowArc.{RowArc}
use Rattle.auc_graph.specs.Table.{Table, row_of}
use Rattle.auc_hall.specs.Matched.{holder_of}
use Rattle.auc_hall.specs.Full.{HasRowAssignment, HoldsOne}
use Rattle.auc_hall.proofs.QueueLaws.{get_cases}

-- arcs of the first n persons, to objects that they hold
record AreHeld (t : Table) (holder : List (Option ℕ)) (n : ℕ) (choice : List RowArc) : Type 0 where
  pub many : length choice ≡ n
  pub own : (i : ℕ) (a : RowArc) → slice_get choice i ≡ Some a → Contains (row_of t i) a
  pub held : (i : ℕ) (a : RowArc) → slice_get choice i ≡ Some a → holder_of holder a.object ≡ Some i

held_pushed : (t : Table) (holder : List (Option ℕ)) (n : ℕ) (choice : List RowArc) → AreHeld t holder n choice → (one : HoldsOne t holder n) → AreHeld t holder (suc n) (choice ++ one.arc ∷ [])
held_pushed t holder n choice are one =
    record {
      many = omega (arith, length-append choice (one.arc ∷ []), are.many);
      own = λ i a h. elim (get_cases choice one.arc i a h) [
        | inl p ↦ are.own i a p
        | inr p ↦ subst (λ (x : RowArc). Contains (row_of t i) x) p.1 (subst (λ (k : ℕ). Contains (row_of t k) one.arc) (sym (p.0 ∙ are.many)) one.own)
      ];
      held = λ i a h. elim (get_cases choice one.arc i a h) [
        | inl p ↦ are.held i a p
        | inr p ↦ subst (λ (x : RowArc). holder_of holder x.object ≡ Some i) p.1 (one.held ∙ ap (λ (k : ℕ). Some k) (sym (p.0 ∙ are.many)))
      ];
    }

held_arcs : (t : Table) (holder : List (Option ℕ)) (n : ℕ) → ((i : ℕ) → i < n → HoldsOne t holder i) → (choice : List RowArc) × AreHeld t holder n choice
held_arcs t holder zero each = ([], record { many = refl; own = λ i a h. absurd (none-some a h); held = λ i a h. absurd (none-some a h) })
held_arcs t holder (suc n) each =
    let before = held_arcs t holder n (λ i lt. each i (omega arith)) in
    let one = each n (omega arith) in
    (before.0 ++ one.arc ∷ [], held_pushed t holder n before.0 before.1 one)

pub assigned : (t : Table) (holder : List (Option ℕ)) → ((i : ℕ) → i < length t.rows → HoldsOne t holder i) → HasRowAssignment t
assigned t holder each =
    let arcs = held_arcs t holder (length t.rows) each in (
      arcs.0,
      record {
        persons = arcs.1.many;
        own = arcs.1.own;
        objects = λ i k a b hi hk same. same_Some i k (sym (arcs.1.held i a hi) ∙ ap (λ (j : ℕ). holder_of holder j) same ∙ arcs.1.held k b hk);
      },
    )
