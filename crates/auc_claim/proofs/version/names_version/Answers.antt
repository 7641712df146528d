use Rattle.std.proofs.Common.{sym, arith}
use Rattle.auc_claim.proofs.VersionLaws.{second_at, first_at, first_empty}
use Rattle.auc_claim.proofs.version.names_version.Goals as goal
use Rattle.auc_claim.proofs.version.names_version.Goals.{else-count-gt0-via-then-count-gt0+else-objects-count-ge-MOST_OBJECTS_IN_FIRST, else-count-gt0-via-else-count-gt0}

pub returns-then-objects-count-ge-MOST_OBJECTS_IN_FIRST : goal.returns-then-objects-count-ge-MOST_OBJECTS_IN_FIRST
returns-then-objects-count-ge-MOST_OBJECTS_IN_FIRST c = sym (second_at c.args.objects.now 0 c.if-count-gt0.true c.if-objects-count-ge-MOST_OBJECTS_IN_FIRST.true)

pub returns-else-count-gt0 : goal.returns-else-count-gt0
returns-else-count-gt0 c =
    elim c.else-count-gt0.branch [
      | else-count-gt0-via-then-count-gt0+else-objects-count-ge-MOST_OBJECTS_IN_FIRST w ↦ sym (first_at c.args.objects.now 0 w.if-count-gt0.true (omega (arith, w.if-objects-count-ge-MOST_OBJECTS_IN_FIRST.false)))
      | else-count-gt0-via-else-count-gt0 w ↦ sym (first_empty c.args.objects.now (omega (arith, w.if-count-gt0.false)))
    ]
