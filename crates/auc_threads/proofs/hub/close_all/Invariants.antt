use Rattle.std.proofs.Common.{◌≡◌}
use Rattle.auc_threads.specs.Counting.{Closes}
use Rattle.auc_threads.proofs.hub.close_all.Given as goal

abbrev pub invariant-loop-at : goal.invariant-loop-at
invariant-loop-at g l = record {
  objects : Closes g.O.MailBrand.room l.at l.fn.seats.objects l.seats.objects;
  persons : Closes g.P.MailBrand.room l.at l.fn.seats.persons l.seats.persons;
  hub : l.seats.hub ≡ l.fn.seats.hub;
}
