-- The parts of a new world.
use Rattle.std.specs.Prelude.{ℕ, ◌+◌, ◌*◌, ◌<◌, ◌≡◌, ℤ, false, List, [], None, length, All, replicate, slice_index_or}
use Rattle.auc_graph.specs.Table.{Table}
use Rattle.auc_mail.specs.Mail.{empty_mail}
use Rattle.auc_phases.specs.declared.limits.Limits.{Limits}
use Rattle.auc_phases.specs.Shards.{new_objects, new_persons, no_objects, no_persons}
use Rattle.auc_phases.specs.Limits.{nodes_or}
use Rattle.auc_machine.specs.Parts.{Parts, world_of}

-- the parts of a new world with these rows, limits, prices and eps
pub record IsMade (t : Table) (limits : Limits) (prices : List ℤ) (eps : ℤ) (p : Parts) : Type 0 where
  pub table : p.table ≡ t
  pub shards : p.shards ≡ limits.shards
  pub eps_is : p.eps ≡ eps
  pub persons_are : length p.persons ≡ limits.shards
  pub each_persons : (s : ℕ) → s < limits.shards
      → slice_index_or p.persons s no_persons ≡ new_persons limits.shards (length t.rows) limits.bids prices s
  pub objects_are : length p.objects ≡ limits.shards
  pub each_objects : (q : ℕ) → q < limits.shards
      → slice_index_or p.objects q no_objects ≡ new_objects limits.shards (length t.rows) prices q
  pub outboxes_are : length p.outboxes ≡ 2 * limits.shards
  pub each_outbox : All (λ x. x ≡ []) p.outboxes
  pub stopped_are : p.stopped ≡ replicate limits.shards false
  pub objects_mail : p.mails.objects ≡ empty_mail limits.shards (2 * limits.shards + 1) (nodes_or limits.nodes (length t.rows)) limits.posts
  pub persons_mail : p.mails.persons ≡ empty_mail limits.shards (2 * limits.shards + 1)
      (nodes_or limits.nodes (4 * length t.rows)) limits.posts
  pub hub_mail : p.mails.hub ≡ empty_mail 1 (2 * limits.shards + 1) (nodes_or limits.nodes (length t.rows + 2 * limits.shards)) limits.posts
  pub count : p.hub.count ≡ 0
  pub end : p.hub.end ≡ None

-- each object without a holder after some turns had none before them, and has kept its price
abbrev pub KeepsUnheld : Parts → Parts → Type 0
KeepsUnheld before after =
    (j : ℕ) → (world_of after).holder j ≡ None → ((world_of before).holder j ≡ None)
    × ((world_of after).price j ≡ (world_of before).price j)
