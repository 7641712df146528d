use Rattle.std.proofs.Common.{sym, arith}
use Rattle.auc_claim.specs.Claim.{is_missing, chosen}
use Rattle.auc_claim.proofs.ClaimLaws.{from_flags, some_length}
use Rattle.auc_claim.proofs.flags.missing_person.Goals as goal

pub first_person-requires : goal.first_person-requires
first_person-requires c = omega (arith, some_length (is_missing c.args.arcs.now) 0 c.args.choice.now c.as_slice.result.now c.in_ok-missing.missing.items c.as_slice.ensures.value c.in_ok-missing.ensures, c.requires.few)

pub returns : goal.returns
returns c = sym (from_flags (is_missing c.args.arcs.now) (chosen 0 c.args.choice.now) c.as_slice.result.now c.in_ok-missing.missing.items c.first_person.result c.as_slice.ensures.value c.in_ok-missing.ensures c.first_person.ensures)
