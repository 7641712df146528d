use Rattle.std.proofs.Common.{◌≡◌, ◌+◌, ◌≤◌, vec_len, vec_capacity}
use Rattle.std.specs.Vec.Iter.{into_iter_items, into_iter_len}
use Rattle.auc_threads.specs.Placed.{Placed}
use Rattle.auc_threads.specs.Starts.{HaveBought, IsPersonPromise}
use Rattle.auc_threads.specs.Worker.{rooms, setting_of}
use Rattle.auc_threads.proofs.person_threads.join_persons.Given as goal

abbrev pub invariant-loop-handle : goal.invariant-loop-handle
invariant-loop-handle g l = record {
  left : Placed (λ k h. IsPersonPromise (setting_of l.task) k h.promise) (vec_len l.works) (into_iter_items l.handle-iterator);
  many : vec_len l.works + into_iter_len l.handle-iterator ≡ vec_len l.fn.handles;
  room : vec_len l.fn.handles ≤ vec_capacity l.works;
  works : HaveBought (setting_of l.task) (rooms g.O.MailBrand.room g.P.MailBrand.room g.H.MailBrand.room) l.works.items;
}
