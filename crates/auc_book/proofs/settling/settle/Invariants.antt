use Rattle.auc_book.proofs.Settled.{Settles}
use Rattle.auc_book.proofs.settling.settle.Given as goal

abbrev pub invariant-loop-worker : goal.invariant-loop-worker
invariant-loop-worker g l = Settles g.N.MailBrand.room l.lines.items l.fn.seats.items l.seats.items l.worker l.same
