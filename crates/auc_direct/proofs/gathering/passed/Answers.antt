use Rattle.std.proofs.Common.{ℕ, List, ◌<◌, ◌≤◌, ◌≡◌, ◌≢◌, ap, ◌∙◌, length, get_or, arith, refl, Some}
use Rattle.std.specs.List.{slice_get}
use Rattle.std.proofs.lemmas.List.{length-set}
use Rattle.std.proofs.lemmas.Option.{slice_get-get_or}
use Rattle.auc_graph.specs.declared.arc.Arc.{Arc}
use Rattle.auc_letters.specs.declared.state.Held.{Held}
use Rattle.auc_graph.proofs.ArcLaws.{none, within_at}
use Rattle.auc_letters.specs.declared.limits.TheConstants.{NOBODY}
use Rattle.auc_direct.specs.Held.{IsHeld, arc_by}
use Rattle.auc_market.specs.Market.{holder_at, own_at}
use Rattle.auc_direct.proofs.HeldLaws.{met_all, met_now, met_other}
use Rattle.auc_direct.proofs.gathering.passed.Goals as goal
use Rattle.auc_direct.proofs.gathering.passed.Goals.{then-is_own, else-is_own}

pub loop-place-preserved : goal.loop-place-preserved
loop-place-preserved c =
    let p = c.args.problem.now in
    let m = c.args.holdings.now in
    let n = c.loop-place.place in
    let lt = c.loop-place-test.true in
    let old = c.loop-place.invariant in
    let many = old.many in
    let is = c.arcs-arc-items.ensures.problem in
    let e : get_or c.arcs-arc-items.result.now n none ≡ get_or p.arcs n none = ap (λ (xs : List Arc). get_or xs n none) c.arcs-arc-items.ensures.arcs in
    let inside : n < length p.arcs = (let l = ap length c.arcs-arc-items.ensures.arcs in omega (arith, l, lt)) in
    let arc : Arc = get_or p.arcs n none in
    let w = within_at p p.arcs n none is refl inside in
    let h : Held = record { person = arc.person; arc = n } in
    elim c.if-is_own.branch [
      | then-is_own w' ↦ (
          let mine : arc ≡ arc_by arc.person (own_at m.owns.items arc.person) = rw (e, c.as_slice.ensures.value) at (c.is_own.ensures.yes w'.if-is_own.true) in
          let object : arc.object ≡ (own_at m.owns.items arc.person).object = ap (λ (x : Arc). x.object) mine in
          let some : (own_at m.owns.items arc.person).object ≢ NOBODY = λ z. (let o = w.object in let most = is.most_objects in absurd (omega (arith, z, object, o, most))) in
          let holds : holder_at m.holders.items arc.object ≡ arc.person = ap (holder_at m.holders.items) object ∙ c.requires.holders.holds arc.person some in
          let someone : arc.person ≢ NOBODY = λ z. (let a = w.person in let most = is.most in absurd (omega (arith, z, a, most))) in
          let there : slice_get p.arcs n ≡ Some (arc_by arc.person (own_at m.owns.items arc.person)) = slice_get-get_or p.arcs n none inside ∙ ap Some mine in
          let found : IsHeld p m.holders.items m.owns.items arc.object (Some h) = (holds, someone, there) in
          let room : arc.object < length c.loop-place.holders.items = (let o = w.object in let k = c.requires.holders.holders_are in omega (arith, many, k, o)) in
          rw (w'.holders-is, e) (record {
            many = length-set c.loop-place.holders.items arc.object (Some h) ∙ many;
            met = met_now p m.holders.items m.owns.items c.requires.holders.held n c.loop-place.holders.items h room found old.met;
          })
          )
      | else-is_own w' ↦ (
          let nobody : (q : ℕ) → arc ≡ arc_by q (own_at m.owns.items q) → ⊥ = rw (e, c.as_slice.ensures.value) at (c.is_own.ensures.no w'.if-is_own.false) in
          rw w'.holders-is (record { many = many; met = met_other p m.holders.items m.owns.items n c.loop-place.holders.items nobody old.met })
          )
    ]

pub returns-clause-held : goal.returns-clause-held
returns-clause-held c =
    let over : length c.args.problem.now.arcs ≤ c.loop-place.place = (let e = ap length c.arcs-arc-items.ensures.arcs in let f = c.loop-place-test.false in omega (arith, e, f)) in
    met_all c.args.problem.now c.args.holdings.now.holders.items c.args.holdings.now.owns.items c.loop-place.place c.loop-place.holders.items over c.requires.listed c.loop-place.invariant.met
