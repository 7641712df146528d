use Rattle.std.proofs.Common.{[], ◌≡◌, ◌<◌, ◌≤◌, ℕ}
use Rattle.auc_nodes.specs.Lists.{list_of}
use Rattle.auc_mail.proofs.boxes.first_waiting.Given as goal

abbrev pub invariant-loop-lane : goal.invariant-loop-lane
invariant-loop-lane g l = (k : ℕ) → l.from ≤ k → k < l.lane → list_of l.lists k ≡ []
