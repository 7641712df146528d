use Rattle.std.proofs.Common.{ℕ, ◌≡◌, ◌<◌, ◌∙◌, inl, inr, refl, ap, get_or, length, Some, subst, sym, rules, arith, w64, to_z}
use Rattle.std.specs.Prelude.{FitsSigned, slice_get}
use Rattle.std.proofs.lemmas.Bool.{cases_lt}
use Rattle.std.proofs.lemmas.Int.{to_z-of_z}
use Rattle.std.proofs.lemmas.Option.{slice_get-get_or}
use Rattle.auc_graph.specs.declared.arc.Arc.{Arc}
use Rattle.auc_claim.specs.declared.lists.Pick.{Pick}
use Rattle.auc_claim.specs.Claim.{arc_of}
use Rattle.auc_call.specs.Memory.{no_arc}
use Rattle.auc_call.proofs.PlaceLaws.{all_at, no_pick}
use Rattle.auc_call.proofs.places.are_places.Goals as goal

pub returns : goal.returns
returns c = λ _. all_at c.args.arcs.now c.args.picks.now c.args.places.now c.if-places-picks.false (λ i lt. c.loop-person.invariant i (omega (arith, lt, c.loop-person-test.false)))

same_arc : (a : Arc) (i : ℕ) (p : Pick) → a.person ≡ i → a.object ≡ p.object → a.cost ≡ p.cost → a ≡ arc_of i p
same_arc a i p one two three = rw (sym one, sym two, sym three) refl

pub loop-person-preserved : goal.loop-person-preserved
loop-person-preserved c = λ i lt.
    let arcs = c.args.arcs.now in
    let place = get_or c.args.places.now c.loop-person.person 0 in
    let arc : Arc = get_or arcs place no_arc in
    let pick : Pick = get_or c.args.picks.now c.loop-person.person no_pick in
    let inside : place < length arcs = omega (arith, c.if-place-arcs.false) in
    let f1 : FitsSigned w64 arc.cost = search rules in
    let f2 : FitsSigned w64 pick.cost = search rules in
    let cost : arc.cost ≡ pick.cost = simp to_z-of_z at (ap (to_z w64) c.if-arc-pick-2.false) in
    let here : slice_get arcs place ≡ Some (arc_of c.loop-person.person pick) = slice_get-get_or arcs place no_arc inside ∙ ap (λ (a : Arc). Some a) (same_arc arc c.loop-person.person pick c.if-arc-person.false c.if-arc-pick.false cost) in
    elim (cases_lt i c.loop-person.person) [
      | inl before ↦ c.loop-person.invariant i before
      | inr at ↦ subst (λ (k : ℕ). slice_get arcs (get_or c.args.places.now k 0) ≡ Some (arc_of k (get_or c.args.picks.now k no_pick))) (omega (arith, at, lt)) here
    ]
