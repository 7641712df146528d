use Rattle.std.proofs.Common.{take}
use Rattle.auc_book.specs.Settling.{IsUnseated}
use Rattle.auc_book.proofs.settling.place_of.Given as goal

abbrev pub invariant-loop-i : goal.invariant-loop-i
invariant-loop-i g l = IsUnseated (take l.i l.seats) l.worker
