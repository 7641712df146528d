use Rattle.std.proofs.Common.{arith, ◌≡◌, Bool, List, length, w64, subst, sym, ap, ◌+◌, ◌∙◌}
use Rattle.std.specs.Prelude.{FitsSigned, ℤ}
use Rattle.std.proofs.lemmas.Int.{to_z-of_z}
use Rattle.std.proofs.lemmas.List.{with_items_is}
use Rattle.auc_dense.specs.Shortage.{AreRowsMarked, IsRowMarked}
use Rattle.auc_dense.proofs.MarkLaws.{rows_more, rows_past}
use Rattle.auc_dense.proofs.shortage.known_objects.Goals as goal
use Rattle.auc_dense.proofs.shortage.known_objects.Goals.{then-flags-person, else-flags-person}

pub loop-person-preserved : goal.loop-person-preserved
loop-person-preserved c =
    let gap_fits : FitsSigned w64 c.args.gap = c.ranges.gap in
    let t = c.args.table.now in
    let was = simp to_z-of_z at c.loop-person.invariant in
    elim c.if-flags-person.branch [
      | then-flags-person w ↦
          let row = simp to_z-of_z at w.mark_row.ensures in
          let len : length w.mark_row.new.known ≡ c.loop-person.known.len = omega (arith, row.size, ap length w.as_mut_slice.ensures.value, c.loop-person.known.ok.0) in
          let more : c.if-flags-person.known.items ≡ w.mark_row.new.known = ap (λ v. v.items) w.known-is ∙ with_items_is c.loop-person.known w.mark_row.new.known len in
          let read = subst (λ (xs : List ℤ). IsRowMarked c.args.gap xs w.as_mut_slice.result.now w.mark_row.new.known (length w.row_of-row.result.now)) w.row_of-row.ensures.row row in
          let marks = subst (λ (known : List Bool). IsRowMarked c.args.gap _ known w.mark_row.new.known (length w.row_of-row.result.now)) w.as_mut_slice.ensures.value read in
          simp to_z-of_z (subst (λ (known : List Bool). AreRowsMarked t.objects t.costs.now t.stride c.args.gap c.args.flags.now (c.loop-person.person + 1) known) (sym more)
          (rows_more t.objects t.costs.now t.stride c.args.gap c.args.flags.now c.loop-person.person c.loop-person.known.items was w.mark_row.new.known (length w.row_of-row.result.now) w.if-flags-person.true w.row_of-row.ensures.len marks))
      | else-flags-person w ↦
          let same : c.if-flags-person.known.items ≡ c.loop-person.known.items = ap (λ v. v.items) w.known-is in
          simp to_z-of_z (subst (λ (known : List Bool). AreRowsMarked t.objects t.costs.now t.stride c.args.gap c.args.flags.now (c.loop-person.person + 1) known) (sym same)
          (rows_past t.objects t.costs.now t.stride c.args.gap c.args.flags.now c.loop-person.person c.loop-person.known.items was w.if-flags-person.false))
    ]
