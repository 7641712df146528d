use Rattle.std.proofs.Common.{rules}
use Rattle.auc_persons.proofs.bidder.rising.Nearest.with.Goals as goal
use Rattle.auc_persons.proofs.bidder.rising.Nearest.with.Goals.{then-is_less, else-is_less+then-value-self, else-is_less+else-value-self, then-is_less-2, else-is_less-2, then-is_less-3, else-is_less-3}

pub returns : goal.returns
returns c =
    elim c.if-is_less.branch [
      | then-is_less u ↦ elim c.if-is_less-2.branch [
        | then-is_less-2 v ↦ elim c.if-is_less-3.branch [
          | then-is_less-3 w ↦ rw (u.second-is, v.best-is, w.value-is) (search rules)
          | else-is_less-3 w ↦ rw (u.second-is, v.best-is, w.value-is) (search rules)
        ]
        | else-is_less-2 v ↦ elim c.if-is_less-3.branch [
          | then-is_less-3 w ↦ rw (u.second-is, v.best-is, w.value-is) (search rules)
          | else-is_less-3 w ↦ rw (u.second-is, v.best-is, w.value-is) (search rules)
        ]
      ]
      | else-is_less+then-value-self u ↦ elim c.if-is_less-2.branch [
        | then-is_less-2 v ↦ elim c.if-is_less-3.branch [
          | then-is_less-3 w ↦ rw (u.second-is, v.best-is, w.value-is) (search rules)
          | else-is_less-3 w ↦ rw (u.second-is, v.best-is, w.value-is) (search rules)
        ]
        | else-is_less-2 v ↦ elim c.if-is_less-3.branch [
          | then-is_less-3 w ↦ rw (u.second-is, v.best-is, w.value-is) (search rules)
          | else-is_less-3 w ↦ rw (u.second-is, v.best-is, w.value-is) (search rules)
        ]
      ]
      | else-is_less+else-value-self u ↦ elim c.if-is_less-2.branch [
        | then-is_less-2 v ↦ elim c.if-is_less-3.branch [
          | then-is_less-3 w ↦ rw (u.second-is, v.best-is, w.value-is) (search rules)
          | else-is_less-3 w ↦ rw (u.second-is, v.best-is, w.value-is) (search rules)
        ]
        | else-is_less-2 v ↦ elim c.if-is_less-3.branch [
          | then-is_less-3 w ↦ rw (u.second-is, v.best-is, w.value-is) (search rules)
          | else-is_less-3 w ↦ rw (u.second-is, v.best-is, w.value-is) (search rules)
        ]
      ]
    ]
