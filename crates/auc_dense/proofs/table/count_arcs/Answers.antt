use Rattle.std.proofs.Common.{w64}
use Rattle.std.specs.Prelude.{FitsSigned}
use Rattle.std.proofs.lemmas.Int.{to_z-of_z}
use Rattle.auc_dense.proofs.TableLaws.{count_more, first_of_table, faultless_table}
use Rattle.auc_dense.proofs.table.count_arcs.Goals as goal

pub returns-in-Err-clause-fault : goal.returns-in-Err-clause-fault
returns-in-Err-clause-fault c =
    let gap_fits : FitsSigned w64 c.args.gap = c.ranges.gap in
    let was = simp to_z-of_z at c.loop-person.invariant in
    let found = rw c.row_of-row.ensures.len at c.in-Err.ensures.fault in
    first_of_table c.args.persons c.args.objects c.loop-person.count c.args.costs.now c.args.stride c.args.gap c.loop-person.person c.args.persons c.in-Err.fault c.loop-person-test.true was.faultless was.count (simp (to_z-of_z, c.row_of-row.ensures.row) at found)

pub loop-person-preserved : goal.loop-person-preserved
loop-person-preserved c =
    let gap_fits : FitsSigned w64 c.args.gap = c.ranges.gap in
    let was = simp to_z-of_z at c.loop-person.invariant in
    let faultless = rw c.row_of-row.ensures.len at c.in-Ok.ensures.faultless in
    simp to_z-of_z record {
      count = count_more c.args.objects c.loop-person.count c.in-Ok.place c.args.costs.now c.args.stride c.args.gap c.loop-person.person was.count (simp (to_z-of_z, c.row_of-row.ensures.row) at c.in-Ok.ensures.place);
      few = c.in-Ok.ensures.few;
      faultless = faultless_table c.args.persons c.args.objects c.loop-person.count c.args.costs.now c.args.stride c.args.gap c.loop-person.person was.faultless was.count (simp (to_z-of_z, c.row_of-row.ensures.row) at faultless);
    }
