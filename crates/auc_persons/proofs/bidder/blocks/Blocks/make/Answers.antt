use Rattle.std.proofs.Common.{ap, arith, length, refl, sym}
use Rattle.std.proofs.lemmas.List.Elements.{All-push}
use Rattle.auc_graph.specs.Table.{row_of}
use Rattle.auc_persons.specs.declared.bidder.bound.Blocked.{Blocked}
use Rattle.auc_persons.specs.Blocks.{AreNumbered, HasArcs}
use Rattle.auc_persons.proofs.BlockNumbers.{all_numbered_before, numbered_new, unknown_before}
use Rattle.auc_persons.proofs.SameRows.{Rises}
use Rattle.auc_persons.proofs.KeptBlocks.{kept_of, own_new, unknown_are}
use Rattle.auc_persons.proofs.bidder.blocks.Blocks.make.Goals as goal
use Rattle.auc_persons.proofs.bidder.blocks.Blocks.make.Goals.{then-has_list+in_ok-push+in_ok-append_bounds, else-has_list}

pub returns : goal.returns
returns c =
    let t = c.args.rows.now in
    let persons = c.loop-person.persons.items in
    let bounds = c.loop-person.bounds.items in
    let inv = c.loop-person.invariant in
    rw c.of.ensures (record { kept = λ copies. kept_of t t copies persons bounds (own_new t copies persons inv.rises) (unknown_are t t copies bounds inv.unknown) })

pub loop-person-preserved : goal.loop-person-preserved
loop-person-preserved c =
    let inv = c.loop-person.invariant in
    let before = c.loop-person.bounds.items in
    let persons = c.loop-person.persons.items in
    elim c.if-has_list.branch [
      | then-has_list+in_ok-push+in_ok-append_bounds w ↦ (
          let t = c.args.rows.now in
          let person = c.loop-person.person in
          let blocks = w.blocks_of.result in
          let after = w.append_bounds.new.bounds.items in
          let more = w.in_ok-append_bounds.ensures in
          let row = w.row-row.result.now in
          let new : Blocked = record { person = person; arcs = length row; start = w.len.result } in
          let sound = rw w.row-row.ensures.row at w.row-row.ensures.sound in
          rw (w.persons-is, w.bounds-is, w.in_ok-push.ensures.items) (record {
            arcs = All-push (HasArcs t) persons new inv.arcs (ap length (sym w.row-row.ensures.row));
            rises = All-push (λ b. Rises (row_of t b.person)) persons new inv.rises sound.rising;
            numbered = All-push (AreNumbered after) persons new (all_numbered_before before after person blocks persons more inv.numbered) (numbered_new before after person blocks new more refl (omega (arith, w.len.ensures)) w.blocks_of.ensures.all);
            unknown = unknown_before before after person blocks more inv.unknown;
          })
          )
      | else-has_list w ↦ rw (w.persons-is, w.bounds-is) inv
    ]
