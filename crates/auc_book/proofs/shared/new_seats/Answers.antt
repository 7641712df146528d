use Rattle.std.proofs.Common.{arith}
use Rattle.auc_book.proofs.Seats.{one_more}
use Rattle.auc_book.proofs.shared.new_seats.Goals as goal

pub loop-worker-preserved : goal.loop-worker-preserved
loop-worker-preserved g c =
    let inv = c.loop-worker.invariant in
    record {
      parts = omega (arith, inv.parts, c.split_off-share.ensures.parts_left);
      amount = omega (arith, inv.amount, c.split_off-share.ensures.amount_left);
      told = one_more c.loop-worker.seats.items c.in_ok-new.field-0 c.push_reserved.new.self.items c.loop-worker.worker inv.told c.in_ok-new.ensures c.push_reserved.ensures.items;
      long = omega (arith, inv.long, c.push_reserved.ensures.len);
      room = omega (arith, inv.room, c.push_reserved.ensures.capacity);
    }
