use Rattle.std.proofs.Common.{arith}
use Rattle.auc_book.proofs.Noting.{new_keeps}
use Rattle.auc_book.proofs.state.MailState.with_room.Goals as goal

pub invariant_of-result : goal.invariant_of-result
invariant_of-result g c = (new_keeps c.args.pool c.args.room c.in-Ok.lines.items c.requires c.in-Ok.ensures.items, omega (arith, c.in-Ok.ensures.capacity))
