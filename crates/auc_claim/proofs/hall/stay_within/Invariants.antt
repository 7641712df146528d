use Rattle.std.proofs.Common.{◌≡◌, ◌||◌, not, true, false, take, slice_index_or}
use Rattle.std.specs.List.{list_all}
use Rattle.auc_claim.proofs.hall.stay_within.Given as goal

abbrev pub invariant-loop-arc : goal.invariant-loop-arc
invariant-loop-arc l = list_all (λ a. not (slice_index_or l.persons a.person false) || slice_index_or l.objects a.object false) (take l.arc-index l.arcs) ≡ true
