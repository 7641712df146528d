use Rattle.std.proofs.Common.{◌≡◌, ◌≤◌, length, take}
use Rattle.auc_book.specs.Trail.{lines_of}
use Rattle.auc_book.proofs.line.same_lines.Given as goal

abbrev pub invariant-loop-line : goal.invariant-loop-line
invariant-loop-line g l = (l.place ≤ length l.lines) × (lines_of l.worker (take l.line-index l.trail) ≡ take l.place l.lines)
