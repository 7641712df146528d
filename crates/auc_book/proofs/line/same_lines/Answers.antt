use Rattle.std.proofs.Common.{◌∙◌, sym, arith}
use Rattle.auc_book.proofs.Lines.{matched_more, next_line, not_true, passed_more}
use Rattle.auc_book.proofs.line.same_lines.Goals as goal
use Rattle.auc_book.proofs.line.same_lines.Goals.{then-line-worker+else-place-lines+else-not-same_line, else-line-worker, then-place-lines-via-then-place-lines, then-place-lines-via-else-place-lines+then-not-same_line}

pub loop-line-preserved : goal.loop-line-preserved
loop-line-preserved g c =
    let inv = c.loop-line.invariant in
    elim c.if-line-worker.branch [
      | then-line-worker+else-place-lines+else-not-same_line w ↦
          rw w.place-is (
            omega arith,
            matched_more c.args.trail.now c.args.lines.now c.args.worker c.loop-line.line-index c.loop-line.place c.line-item.result w.index-lines-place.result
                c.loop-line-test.true c.line-item.is w.if-line-worker.true w.if-place-lines.false w.index-lines-place.is (w.same_line.ensures.0 w.if-not-same_line.false) inv.1,
          )
      | else-line-worker w ↦
          rw w.place-is (
            inv.0,
            passed_more c.args.trail.now c.args.lines.now c.args.worker c.loop-line.line-index c.loop-line.place c.line-item.result
                c.loop-line-test.true c.line-item.is w.if-line-worker.false inv.1,
          )
    ]

pub returns-then-place-lines : goal.returns-then-place-lines
returns-then-place-lines g c =
    let inv = c.loop-line.invariant in (
      (λ e. absurd (not_true e)),
      (λ same.
          let next = next_line c.args.trail.now c.args.lines.now c.args.worker c.loop-line.line-index c.loop-line.place c.line-item.result
          c.loop-line-test.true c.line-item.is c.if-line-worker.true inv.0 inv.1 same in
          elim c.then-place-lines.branch [
            | then-place-lines-via-then-place-lines w ↦ absurd (omega (arith, next.0, w.if-place-lines.true))
            | then-place-lines-via-else-place-lines+then-not-same_line w ↦
                absurd (not_true (sym w.if-not-same_line.true ∙ w.same_line.ensures.1 (next.1 w.index-lines-place.result ∙ sym w.index-lines-place.is)))
          ]),
    )
