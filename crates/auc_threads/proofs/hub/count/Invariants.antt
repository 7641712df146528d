use Rattle.std.proofs.Common.{◌≡◌}
use Rattle.auc_threads.specs.Counting.{CountsOn}
use Rattle.auc_threads.proofs.hub.count.Given as goal

abbrev pub invariant-loop : goal.invariant-loop
invariant-loop g l = record {
  counted : CountsOn g.H.MailBrand.room l.persons l.hub l.fn.seats.hub l.seats.hub;
  objects : l.seats.objects ≡ l.fn.seats.objects;
  persons : l.seats.persons ≡ l.fn.seats.persons;
}
