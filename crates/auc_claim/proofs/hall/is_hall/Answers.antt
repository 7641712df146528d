use Rattle.std.proofs.Common.{◌≡◌, ◌<◌, true, length, rules}
use Rattle.auc_claim.specs.Claim.{are_below}
use Rattle.auc_claim.proofs.HallLaws.{told_by_flags, told_by_slices}
use Rattle.auc_claim.proofs.hall.is_hall.Goals as goal

pub returns : goal.returns
returns c =
    let persons : are_below c.args.problem.now.persons c.args.persons.now ≡ true = search rules in
    let objects : are_below c.args.problem.now.objects c.args.objects.now ≡ true = search rules in
    let fewer : length c.args.objects.now < length c.args.persons.now = search rules in
    told_by_slices c.args.problem.now c.args.persons.now c.args.objects.now c.in_ok-listed.listed.items c.in_ok-known.known.items c.as_slice.result.now c.as_slice-2.result.now c.arcs.result.now c.stay_within.result
    c.as_slice.ensures.value c.as_slice-2.ensures.value c.arcs.ensures.arcs c.stay_within.ensures
    (told_by_flags c.args.problem.now c.args.persons.now c.args.objects.now c.in_ok-listed.listed.items c.in_ok-known.known.items persons objects fewer c.arcs.ensures.problem.within (search rules) (search rules) c.in_ok-listed.ensures.flags c.in_ok-known.ensures.flags)
