use Rattle.std.proofs.Common.{false, get_or, arith}
use Rattle.auc_claim.specs.Claim.{is_flag}
use Rattle.auc_claim.proofs.ClaimLaws.{place_is, no_place, flag_hit}
use Rattle.auc_claim.proofs.flags.first_person.Goals as goal

pub returns-then-flags-i : goal.returns-then-flags-i
returns-then-flags-i c = place_is (is_flag c.args.flag) c.args.flags.now c.loop-i.i false (omega arith) c.loop-i.invariant (flag_hit (get_or c.args.flags.now c.loop-i.i false) c.args.flag c.if-flags-i.true)

pub returns : goal.returns
returns c = no_place (is_flag c.args.flag) c.args.flags.now false (λ k lt. c.loop-i.invariant k (omega arith))
