use Rattle.std.proofs.Common.{◌≡◌, length, take}
use Rattle.auc_claim.specs.Claim.{AreListed}
use Rattle.auc_claim.proofs.hall.listed_flags.Given as goal

abbrev pub invariant-loop-number : goal.invariant-loop-number
invariant-loop-number l = record {
  size : length l.flags.items ≡ l.end;
  listed : AreListed (take l.number-index l.numbers) l.flags.items;
}
