use Rattle.std.proofs.Common.{◌≡◌, take}
use Rattle.auc_threads.specs.declared.calls.Step.{Step}
use Rattle.auc_threads.specs.Posting.{Says}
use Rattle.auc_threads.specs.Worker.{accounts_of, rooms}
use Rattle.auc_threads.proofs.saying.post_each.Given as goal

abbrev pub invariant-loop-out : goal.invariant-loop-out
invariant-loop-out g l = record {
  objects : l.seats.objects ≡ l.fn.seats.objects;
  says : Says (rooms g.O.MailBrand.room g.P.MailBrand.room g.H.MailBrand.room) (accounts_of l.fn.seats) (take l.out-index l.said) (accounts_of l.seats) Step.On;
}
