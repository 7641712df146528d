use Rattle.std.proofs.Common.{sym, arith}
use Rattle.auc_claim.specs.Claim.{is_slack_right, chosen}
use Rattle.auc_claim.proofs.ClaimLaws.{from_flags_not, some_length}
use Rattle.auc_claim.proofs.flags.slack_person.Goals as goal

pub first_person-requires : goal.first_person-requires
first_person-requires c = omega (arith, some_length (is_slack_right c.args.scale c.args.prices.now c.args.arcs.now) 0 c.args.choice.now c.as_slice.result.now c.in_ok-fine.fine.items c.as_slice.ensures.value c.in_ok-fine.ensures, c.requires.few)

pub returns : goal.returns
returns c = sym (from_flags_not (is_slack_right c.args.scale c.args.prices.now c.args.arcs.now) (chosen 0 c.args.choice.now) c.as_slice.result.now c.in_ok-fine.fine.items c.first_person.result c.as_slice.ensures.value c.in_ok-fine.ensures c.first_person.ensures)
