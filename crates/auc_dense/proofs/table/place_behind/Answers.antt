use Rattle.std.proofs.Common.{◌≡◌, ◌≢◌, pos, length, get_or, sym, ap, ◌∙◌, rules, w64, to_z, of_z}
use Rattle.std.specs.Prelude.{FitsSigned}
use Rattle.std.proofs.lemmas.Int.{to_z-of_z}
use Rattle.auc_dense.proofs.TableLaws.{behind_gap, behind_own, first_of_row}
use Rattle.auc_dense.proofs.table.place_behind.Goals as goal
use Rattle.auc_dense.proofs.table.place_behind.Goals.{then-cost-gap+in_default, else-cost-gap}

pub loop-object-preserved : goal.loop-object-preserved
loop-object-preserved c =
    let gap_fits : FitsSigned w64 c.args.gap = c.ranges.gap in
    let cost_fits : FitsSigned w64 (get_or c.args.row.now c.loop-object.object (pos 0)) = search rules in
    let was = simp to_z-of_z at c.loop-object.invariant in
    elim c.if-cost-gap.branch [
      | then-cost-gap+in_default w ↦
          let own : get_or c.args.row.now c.loop-object.object (pos 0) ≢ c.args.gap = λ e. w.if-cost-gap.true (ap (of_z w64) e) in
          simp to_z-of_z (behind_own c.args.persons (length c.args.row.now) c.args.before c.args.gap c.args.person c.args.row.now c.loop-object.object c.loop-object.place c.if-cost-gap.place c.requires.person c.loop-object-test.true c.loop-object-test.true own
          (sym (simp to_z-of_z at w.entry_fault.ensures) ∙ w.in_default.is) was w.place-is)
      | else-cost-gap w ↦
          let same : to_z w64 (of_z w64 (get_or c.args.row.now c.loop-object.object (pos 0))) ≡ to_z w64 (of_z w64 c.args.gap) = ap (to_z w64) w.if-cost-gap.false in
          let gone = simp to_z-of_z at same in
          simp to_z-of_z (behind_gap c.args.persons (length c.args.row.now) c.args.before c.args.gap c.args.person c.args.row.now c.loop-object.object c.loop-object.place c.if-cost-gap.place c.loop-object-test.true gone was w.place-is)
    ]

pub returns-in-Some-clause-fault : goal.returns-in-Some-clause-fault
returns-in-Some-clause-fault c =
    let gap_fits : FitsSigned w64 c.args.gap = c.ranges.gap in
    let cost_fits : FitsSigned w64 (get_or c.args.row.now c.loop-object.object (pos 0)) = search rules in
    let was = simp to_z-of_z at c.loop-object.invariant in
    let own : get_or c.args.row.now c.loop-object.object (pos 0) ≢ c.args.gap = λ e. c.if-cost-gap.true (ap (of_z w64) e) in
    first_of_row c.args.persons (length c.args.row.now) c.args.before c.loop-object.place c.args.gap c.args.person c.args.row.now c.loop-object.object c.in-Some.fault c.requires.person c.loop-object-test.true c.loop-object-test.true own was.faultless was.place_is
    (sym (simp to_z-of_z at c.entry_fault.ensures) ∙ c.in-Some.is)
