use Rattle.std.proofs.Common.{◌≡◌, ◌<◌, ◌+◌, ◌*◌, ◌∙◌, ap, length, pos, w64, arith, rules, refl}
use Rattle.std.specs.Prelude.{FitsSigned, ◌-ℤ◌}
use Rattle.std.proofs.lemmas.Int.{ints, to_z-of_z}
use Rattle.auc_graph.specs.Bid.{value}
use Rattle.auc_graph.specs.Table.{row_of}
use Rattle.auc_persons.specs.Scan.{copy_in}
use Rattle.auc_persons.specs.Priced.{no_arc}
use Rattle.auc_persons.proofs.Shortlists.{gathered_keeps, gathered_none, gathered_to, none_keeps}
use Rattle.auc_persons.proofs.SkippedBlocks.{Holds, left_out, looked_at, same_itself}
use Rattle.auc_persons.proofs.bidder.lists_by_blocks.fill_by_blocks.Goals as goal

pub loop-block-init : goal.loop-block-init
loop-block-init c =
    let f5 : FitsSigned w64 c.args.bound = c.ranges.bound in
    let t = c.args.own.rows.now in
    let made = c.args._made.now.value in
    let copies = c.args.own.copies.now in
    let person = c.args.own.person in
    let row = row_of t person in
    let val = value (pos (length t.rows + 1)) (copy_in copies) in
    let bounds = c.args.bounds.now in
    let sound = rw (c.of-row.ensures.arcs, c.of-row.ensures.copies) at c.of-row.result.is_row in
    let r = c.requires in
    let holds : Holds made t copies bounds bounds c.args.blocked person = record { own = r.person; arcs = r.arcs; long = r.long; rises = sound.rising; row = r.same; numbered = r.numbered; same = same_itself bounds; right = r.right } in
    let limit = c.args.bound -ℤ pos 1 in
    let f6 : FitsSigned w64 limit = omega (arith, ints, r.low, f5) in
    let over = left_out made t copies bounds bounds c.args.blocked person holds limit 0 c.next_within-block.result f6 (simp to_z-of_z at c.next_within-block.ensures.above) in
    rw c.begin.ensures (simp to_z-of_z (record {
      gathered = gathered_to val row _ c.args.bound 0 (16 * c.next_within-block.result) sound.rising (omega arith) (λ k low high below. omega (arith, ints, over k no_arc (omega arith) high below)) (gathered_none val c.args.bound);
      bound = refl;
      owner = refl;
      high = c.next_within-block.ensures.high;
      right = r.right;
      same = holds.same;
    }))

pub take_block-requires-clause-gathered : goal.take_block-requires-clause-gathered
take_block-requires-clause-gathered c =
    let f5 : FitsSigned w64 c.args.bound = c.ranges.bound in
    let scale : c.of-row.result.scale ≡ pos (length c.args.own.rows.now.rows + 1) = c.of-row.ensures.scale in
    let at : c.loop-block.block * 16 ≡ 16 * c.loop-block.block = omega arith in
    let inv = simp to_z-of_z at c.loop-block.invariant in
    simp to_z-of_z (rw (scale, c.of-row.ensures.copies, c.of-row.ensures.arcs, at) inv.gathered)

pub returns-then-not-take_block : goal.returns-then-not-take_block
returns-then-not-take_block c =
    let t = c.args.own.rows.now in
    let made = c.args._made.now.value in
    let copies = c.args.own.copies.now in
    let person = c.args.own.person in
    let row = row_of t person in
    let block = c.loop-block.block in
    let before = c.args.bounds.now in
    let bounds = c.loop-block.bounds in
    let b = c.args.blocked in
    let inv = c.loop-block.invariant in
    let scale : c.of-row.result.scale ≡ pos (length t.rows + 1) = c.of-row.ensures.scale in
    let sound = rw (c.of-row.ensures.arcs, c.of-row.ensures.copies) at c.of-row.result.is_row in
    let f2 : FitsSigned w64 c.least_of-least.result = search rules in
    let least = rw (scale, c.of-row.ensures.copies, c.of-row.ensures.arcs) at c.least_of-least.ensures in
    let r = c.requires in
    let holds : Holds made t copies before bounds b person = record { own = r.person; arcs = r.arcs; long = r.long; rises = sound.rising; row = r.same; numbered = r.numbered; same = inv.same; right = inv.right } in
    let d = c.index-bounds-start.result in
    let lt : 16 * block < length row = omega (arith, c.loop-block-test.true, ap length c.of-row.ensures.arcs, r.long) in
    let after = looked_at made t copies before bounds b person holds block d c.least_of-least.result lt (λ k d low high below. least k d (omega (arith, low)) (omega (arith, high)) below) in
    let none = c.if-not-take_block.ensures in
    simp to_z-of_z (record {
      keeps = none_keeps (value (pos (length t.rows + 1)) (copy_in copies)) row _ _ (none.none refl);
      owner = none.person ∙ inv.owner;
      right = after.right;
      same = after.same;
    })

pub loop-block-preserved : goal.loop-block-preserved
loop-block-preserved c =
    let f5 : FitsSigned w64 c.args.bound = c.ranges.bound in
    let t = c.args.own.rows.now in
    let made = c.args._made.now.value in
    let copies = c.args.own.copies.now in
    let person = c.args.own.person in
    let row = row_of t person in
    let block = c.loop-block.block in
    let before = c.args.bounds.now in
    let bounds = c.loop-block.bounds in
    let b = c.args.blocked in
    let inv = simp to_z-of_z at c.loop-block.invariant in
    let scale : c.of-row.result.scale ≡ pos (length t.rows + 1) = c.of-row.ensures.scale in
    let sound = rw (c.of-row.ensures.arcs, c.of-row.ensures.copies) at c.of-row.result.is_row in
    let f2 : FitsSigned w64 c.least_of-least.result = search rules in
    let least = rw (scale, c.of-row.ensures.copies, c.of-row.ensures.arcs) at c.least_of-least.ensures in
    let r = c.requires in
    let holds : Holds made t copies before bounds b person = record { own = r.person; arcs = r.arcs; long = r.long; rises = sound.rising; row = r.same; numbered = r.numbered; same = inv.same; right = inv.right } in
    let d = c.index-bounds-start.result in
    let lt : 16 * block < length row = omega (arith, c.loop-block-test.true, ap length c.of-row.ensures.arcs, r.long) in
    let after = looked_at made t copies before bounds b person holds block d c.least_of-least.result lt (λ k d low high below. least k d (omega (arith, low)) (omega (arith, high)) below) in
    let next = c.next_within-block-in-loop-block in
    let val = value (pos (length t.rows + 1)) (copy_in copies) in
    let limit = c.args.bound -ℤ pos 1 in
    let f6 : FitsSigned w64 limit = omega (arith, ints, r.low, f5) in
    let over = left_out made t copies before _ b person after limit (block + 1) next.result f6 (simp to_z-of_z at next.ensures.above) in
    let took = c.if-not-take_block.ensures in
    let taken = rw (scale, c.of-row.ensures.copies, c.of-row.ensures.arcs) at (simp to_z-of_z at (took.taken refl)) in
    let at : block * 16 + 16 ≡ 16 * (block + 1) = omega arith in
    simp to_z-of_z (record {
      gathered = gathered_to val row _ c.args.bound (16 * (block + 1)) (16 * next.result) sound.rising (omega (arith, next.ensures.low)) (λ k low high below. omega (arith, ints, over k no_arc low high below)) (rw at at taken);
      bound = took.bound ∙ inv.bound;
      owner = took.person ∙ inv.owner;
      high = next.ensures.high;
      right = after.right;
      same = after.same;
    })

pub returns-clause-keeps : goal.returns-clause-keeps
returns-clause-keeps c =
    let f5 : FitsSigned w64 c.args.bound = c.ranges.bound in
    let t = c.args.own.rows.now in
    let row = row_of t c.args.own.person in
    let inv = simp to_z-of_z at c.loop-block.invariant in
    let len = ap length c.of-row.ensures.arcs in
    let b = inv.bound in
    rw b (gathered_keeps (value (pos (length t.rows + 1)) (copy_in c.args.own.copies.now)) row c.loop-block.list.arcs c.args.bound (16 * c.loop-block.block) (omega (arith, c.loop-block-test.false, len)) inv.gathered)
