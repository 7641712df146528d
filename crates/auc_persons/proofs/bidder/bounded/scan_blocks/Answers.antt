use Rattle.std.proofs.Common.{◌≡◌, ◌<◌, ◌+◌, ◌*◌, ap, length, get_or, pos, w64, arith, rules}
use Rattle.std.specs.Prelude.{FitsSigned}
use Rattle.std.proofs.lemmas.Int.{to_z-of_z}
use Rattle.auc_graph.specs.Bid.{value}
use Rattle.auc_graph.specs.Table.{row_of}
use Rattle.auc_persons.specs.Scan.{copy_in}
use Rattle.auc_persons.proofs.Found.{whole}
use Rattle.auc_persons.proofs.Parts.{covered_above, covered_blocks}
use Rattle.auc_persons.proofs.SkippedBlocks.{Holds, left_out, looked_at, same_itself}
use Rattle.auc_persons.proofs.bidder.bounded.scan_blocks.Goals as goal

pub loop-block-init : goal.loop-block-init
loop-block-init c =
    let t = c.args.own.rows.now in
    let made = c.args._made.now.value in
    let copies = c.args.own.copies.now in
    let person = c.args.own.person in
    let row = row_of t person in
    let bounds = c.args.bounds.now in
    let scale : c.of-row.result.scale ≡ pos (length t.rows + 1) = c.of-row.ensures.scale in
    let sound = rw (c.of-row.ensures.arcs, c.of-row.ensures.copies) at c.of-row.result.is_row in
    let found = rw (scale, c.of-row.ensures.copies, c.of-row.ensures.arcs) at c.in_ok-search.ensures.found in
    let limit = c.in_ok-search.search.limit in
    let f1 : FitsSigned w64 limit = search rules in
    let r = c.requires in
    let holds : Holds made t copies bounds bounds c.args.blocked person = record { own = r.person; arcs = r.arcs; long = r.long; rises = sound.rising; row = r.same; numbered = r.numbered; same = same_itself bounds; right = r.right } in
    let over = left_out made t copies bounds bounds c.args.blocked person holds limit 0 c.next_within-block.result f1 (simp to_z-of_z at c.next_within-block.ensures.above) in
    record {
      found = found;
      limit = c.in_ok-search.ensures.limit;
      covered = λ k d lt below. covered_above (pos (length t.rows + 1)) copies row c.in_ok-search.search.scan limit k d (rw (← scale) c.of-row.result.scale_low) (rw (← scale) c.of-row.result.scale_high) sound c.args.own.are_prices found c.in_ok-search.ensures.limit (over k d (omega arith) lt below) below;
      high = c.next_within-block.ensures.high;
      right = r.right;
      same = holds.same;
    }

pub with_block-search-requires-clause-least : goal.with_block-search-requires-clause-least
with_block-search-requires-clause-least c =
    let f2 : FitsSigned w64 c.least_of-least.result = search rules in
    simp to_z-of_z c.least_of-least.ensures

pub loop-block-preserved : goal.loop-block-preserved
loop-block-preserved c =
    let t = c.args.own.rows.now in
    let made = c.args._made.now.value in
    let copies = c.args.own.copies.now in
    let person = c.args.own.person in
    let row = row_of t person in
    let val = value (pos (length t.rows + 1)) (copy_in copies) in
    let block = c.loop-block.block in
    let before = c.args.bounds.now in
    let bounds = c.loop-block.bounds in
    let b = c.args.blocked in
    let inv = c.loop-block.invariant in
    let scale : c.of-row.result.scale ≡ pos (length t.rows + 1) = c.of-row.ensures.scale in
    let sound = rw (c.of-row.ensures.arcs, c.of-row.ensures.copies) at c.of-row.result.is_row in
    let one = c.with_block-search in
    let limit = one.result.limit in
    let f1 : FitsSigned w64 limit = search rules in
    let f2 : FitsSigned w64 c.least_of-least.result = search rules in
    let found = rw (scale, c.of-row.ensures.copies, c.of-row.ensures.arcs) at one.ensures.found in
    let kept = rw (scale, c.of-row.ensures.copies) at one.ensures.kept in
    let covered = rw (scale, c.of-row.ensures.copies, c.of-row.ensures.arcs) at one.ensures.covered in
    let least = rw (scale, c.of-row.ensures.copies, c.of-row.ensures.arcs) at c.least_of-least.ensures in
    let r = c.requires in
    let holds : Holds made t copies before bounds b person = record { own = r.person; arcs = r.arcs; long = r.long; rises = sound.rising; row = r.same; numbered = r.numbered; same = inv.same; right = inv.right } in
    let d = c.index-bounds-start.result in
    let lt : 16 * block < length row = omega (arith, c.loop-block-test.true, ap length c.of-row.ensures.arcs, r.long) in
    let after = looked_at made t copies before bounds b person holds block d c.least_of-least.result lt (λ k d low high below. least k d (omega (arith, low)) (omega (arith, high)) below) in
    let next = c.next_within-block-in-loop-block in
    let over = left_out made t copies before _ b person after limit (block + 1) next.result f1 (simp to_z-of_z at next.ensures.above) in
    simp to_z-of_z (record {
      found = found;
      limit = one.ensures.limit;
      covered = λ k d lt below. covered_blocks val row one.result.scan (block + 1) next.result k d
          (λ up. covered_blocks val row one.result.scan block (block + 1) k d (λ earlier. kept (get_or row k d) (inv.covered k d earlier below)) (λ low high. covered k d (omega (arith, low)) (omega (arith, high)) below) up)
          (λ low high. covered_above (pos (length t.rows + 1)) copies row one.result.scan limit k d (rw (← scale) c.of-row.result.scale_low) (rw (← scale) c.of-row.result.scale_high) sound c.args.own.are_prices found one.ensures.limit (over k d low high below) below)
          lt;
      high = next.ensures.high;
      right = after.right;
      same = after.same;
    })

pub returns-clause-some : goal.returns-clause-some
returns-clause-some c =
    let t = c.args.own.rows.now in
    let row = row_of t c.args.own.person in
    let inv = c.loop-block.invariant in
    let len = ap length c.of-row.ensures.arcs in
    whole (value (pos (length t.rows + 1)) (copy_in c.args.own.copies.now)) row c.loop-block.search.scan inv.found (λ k d lt. inv.covered k d (omega (arith, c.loop-block-test.false, len, lt)) lt)
