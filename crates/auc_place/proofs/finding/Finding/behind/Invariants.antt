use Rattle.std.proofs.Common.{◌<◌, ◌+◌, ◌^◌, ◌++◌, List, ℕ, length, take}
use Rattle.auc_place.specs.Search.{IsFinding}
use Rattle.auc_place.proofs.finding.Finding.behind.Given as goal

abbrev pub invariant-loop-byte : goal.invariant-loop-byte
invariant-loop-byte l = (seen : List ℕ) → length seen + length l.piece < 2 ^ 63 → IsFinding l.number seen l.initial.finding → IsFinding l.number (seen ++ take l.byte-index l.piece) l.finding
