use Rattle.std.proofs.Common.{◌≡◌, ◌++◌, arith, drop, length, take, List, Bool}
use Rattle.std.proofs.lemmas.List.{take_at}
use Rattle.auc_rows.specs.Rows.{flat_row_of}
use Rattle.auc_market.specs.Hall.{AreAdded}
use Rattle.auc_market.proofs.HallLaws.{row_known, row_past}
use Rattle.auc_market.proofs.hall.known_to.Goals.{then-is_in-person, else-is_in-person}
use Rattle.auc_market.proofs.hall.known_to.Goals as goal

pub loop-person-preserved : goal.loop-person-preserved
loop-person-preserved c =
    let row = flat_row_of c.args.rows.now c.loop-person.person in
    let old : List Bool = c.loop-person.seen.items in
    elim c.if-is_in-person.branch [
      | then-is_in-person w ↦
          let new : List Bool = w.add_row.new.seen in
          let added : AreAdded row (length row) old new = rw (w.row.ensures.row, w.as_mut_slice.ensures.value) at w.add_row.ensures in
          let is : take c.loop-person.seen.len (new ++ drop (length new) old) ≡ new = take_at new (drop (length new) old) c.loop-person.seen.len (let s = added.size in let o = c.loop-person.seen.ok in omega (arith, s, o)) in
          rw (w.seen-is, is) (row_known c.args.rows.now c.args.is_in.now c.loop-person.person old new c.loop-person.invariant w.if-is_in-person.true added)
      | else-is_in-person w ↦ rw w.seen-is (row_past c.args.rows.now c.args.is_in.now c.loop-person.person old c.loop-person.invariant w.if-is_in-person.false)
    ]
