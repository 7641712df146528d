use Rattle.std.proofs.Common.{◌≡◌, ℕ, ◌<◌, ◌≤◌, ◌+◌, length, get_or, rules, w32, w64, to_z, inr, refl, sym, ap, ◌∙◌, arith}
use Rattle.std.specs.Prelude.{FitsSigned, ◌-ℤ◌}
use Rattle.std.specs.Vec.{vec_capacity}
use Rattle.std.proofs.lemmas.Int.{ints, to_z-of_z}
use Rattle.auc_graph.specs.declared.rows.RowArc.{RowArc}
use Rattle.auc_graph.specs.Layout.{AreInRows}
use Rattle.auc_graph.proofs.ArcLaws.{none, within_at}
use Rattle.auc_graph.proofs.InOrderLaws.{in_order_none, in_order_begun, in_order_more, in_order_all}
use Rattle.auc_graph.proofs.SpreadLaws.{range_first, range_more, range_all}
use Rattle.auc_graph.proofs.in_order.rows_in_order.Goals as goal
use Rattle.auc_graph.proofs.in_order.rows_in_order.Goals.{then-before-len+else-before-len-2, else-before-len}

pub loop-i-init : goal.loop-i-init
loop-i-init g c =
    let arcs = c.arcs-arcs.result.now in
    let first = c.in-Some.first.now in
    let some : 0 < length arcs = search rules in
    let place : get_or arcs 0 first ≡ first = sym c.in-Some.ensures.item.1 in
    let w = rw place at (within_at c.args.problem.now arcs 0 first c.arcs-arcs.ensures.problem c.arcs-arcs.ensures.arcs some) in
    let f : FitsSigned w64 first.cost = search rules in
    simp to_z-of_z (record {
      in_order = rw (c.in_ok-offsets.ensures.items, c.in_ok-placed.ensures.items) (in_order_none g.A.Kept.of c.persons-persons.result arcs);
      range = range_first arcs first some place w.low w.high;
      starts = c.in_ok-offsets.ensures.capacity;
      places = c.in_ok-placed.ensures.capacity;
    })

pub loop-i-preserved : goal.loop-i-preserved
loop-i-preserved g c =
    let arcs = c.arcs-arcs.result.now in
    let persons = c.persons-persons.result in
    let lt = c.loop-i-test.true in
    let old = c.loop-i.invariant in
    let arc = get_or arcs c.loop-i.i none in
    let w = within_at c.args.problem.now arcs c.loop-i.i none c.arcs-arcs.ensures.problem c.arcs-arcs.ensures.arcs lt in
    let known : arc.person < persons = (let a = w.person in let b = c.persons-persons.ensures.persons in omega (arith, a, b)) in
    let low = w.low in
    let high = w.high in
    let wide : FitsSigned w64 arc.cost = search rules in
    let narrow : FitsSigned w32 arc.cost = omega (arith, ints, low, high) in
    let x : RowArc = record { cost = arc.cost; object = arc.object; arc = c.loop-i.i } in
    let offsets = c.if-before-len.offsets in
    let begun : (length offsets.items ≡ arc.person + 1) × ((j : ℕ) → get_or offsets.items j c.loop-i.i ≡ get_or c.loop-i.offsets.items j c.loop-i.i) × (persons + 1 ≤ vec_capacity offsets) = elim c.if-before-len.branch [
      | then-before-len+else-before-len-2 w ↦ rw w.offsets-is (w.begin_rows.ensures.len, w.begin_rows.ensures.same, omega (arith, old.starts, w.begin_rows.ensures.room))
      | else-before-len w ↦ rw w.offsets-is (omega (arith, w.if-before-len.false, c.len.ensures), λ j. refl, old.starts)
    ] in
    let in_order = in_order_begun g.A.Kept.of persons arcs c.loop-i.offsets.items offsets.items c.loop-i.i c.loop-i.placed.items old.in_order begun.1 (omega (arith, begun.0, known)) in
    let kept : c.of-kept.result ≡ g.A.Kept.of x = simp to_z-of_z at c.of-kept.ensures in
    let range = range_more arcs c.loop-i.i none (to_z w64 c.loop-i.least-bits) (to_z w64 c.loop-i.greatest-bits) arc.cost old.range lt refl low high in
    let f1 : FitsSigned w64 c.min-least.result = search rules in
    let f2 : FitsSigned w64 c.max-greatest.result = search rules in
    let m1 = simp to_z-of_z at c.min-least.ensures.value in
    let m2 = simp to_z-of_z at c.max-greatest.ensures.value in
    record {
      in_order = rw c.push_reserved.ensures.items (in_order_more g.A.Kept.of persons arcs offsets.items c.loop-i.i c.loop-i.placed.items arc.person none c.of-kept.result in_order begun.0 lt refl kept);
      range = simp to_z-of_z (rw (m1, m2) range);
      starts = begun.2;
      places = omega (arith, old.places, c.push_reserved.ensures.capacity);
    }

pub returns : goal.returns
returns g c =
    let arcs = c.arcs-arcs.result.now in
    let persons = c.persons-persons.result in
    let offsets = c.begin_rows-2.new.offsets.items in
    let all : c.loop-i.i ≡ length arcs = omega arith in
    -- the rows that no arc has begun begin at the end
    let ended = in_order_begun g.A.Kept.of persons arcs c.loop-i.offsets.items offsets c.loop-i.i c.loop-i.placed.items c.loop-i.invariant.in_order
    (λ j. ap (λ (n : ℕ). get_or offsets j n) all ∙ c.begin_rows-2.ensures.same j ∙ ap (λ (n : ℕ). get_or c.loop-i.offsets.items j n) (sym all)) (omega (arith, c.begin_rows-2.ensures.len)) in
    let h : AreInRows g.A.Kept.of persons arcs offsets c.loop-i.placed.items = in_order_all g.A.Kept.of persons arcs offsets c.loop-i.i c.loop-i.placed.items ended all c.begin_rows-2.ensures.len in
    let least = to_z w64 c.loop-i.least-bits in
    let greatest = to_z w64 c.loop-i.greatest-bits in
    let range = c.loop-i.invariant.range in
    let ordered = range.ordered in
    let low = range.low in
    let high = range.high in
    let of_all = rw c.arcs-arcs.ensures.arcs at (range_all arcs c.loop-i.i least greatest (omega arith) range) in
    let f : FitsSigned w64 (greatest -ℤ least) = omega (arith, ints) in
    simp to_z-of_z (record {
      problem = c.objects.ensures.problem;
      persons = c.persons-persons.ensures.persons;
      objects = c.objects.ensures.objects;
      rows = rw (← c.persons-persons.ensures.persons, ← c.arcs-arcs.ensures.arcs) h;
      spread = inr (least, greatest, of_all, refl {a = greatest -ℤ least});
      low = omega (arith, ints, ordered);
      high = omega (arith, ints, low, high);
    })
