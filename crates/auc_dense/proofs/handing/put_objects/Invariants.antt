use Rattle.std.proofs.Common.{◌≡◌, length, map, take}
use Rattle.auc_claim.specs.declared.lists.Pick.{Pick}
use Rattle.auc_dense.proofs.handing.put_objects.Given as goal

abbrev pub invariant-loop-person : goal.invariant-loop-person
invariant-loop-person l = (length l.choice ≡ length l.picks) × (take l.person l.choice ≡ map (λ (pick : Pick). pick.object) (take l.person l.picks))
