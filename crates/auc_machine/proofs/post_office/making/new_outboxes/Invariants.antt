use Rattle.std.proofs.Common.{◌≡◌, [], length}
use Rattle.std.specs.Prelude.{All}
use Rattle.auc_machine.proofs.post_office.making.new_outboxes.Given as goal

abbrev pub invariant-loop-outbox : goal.invariant-loop-outbox
invariant-loop-outbox l = record {
  many : length l.made.items ≡ l._outbox;
  each : All (λ x. x ≡ []) l.made.items;
}
