use Rattle.std.proofs.Common.{◌≤◌, ◌<◌, get_or, take, false, sym, ap, subst, ◌∙◌, arith}
use Rattle.std.specs.Prelude.{IsTrue}
use Rattle.std.proofs.lemmas.List.{take_more}
use Rattle.auc_graph.specs.Rising.{Rises}
use Rattle.auc_claim.specs.Spelled.{least_behind}
use Rattle.auc_claim.proofs.RisingLaws.{rises_at, rises_push, behind_push}
use Rattle.auc_claim.proofs.cert.do_rise.Goals as goal
use Rattle.auc_claim.proofs.cert.do_rise.Goals.{then-number-least-via-then-number-least, then-number-least-via-else-number-least+then-end-number}

not_so : IsTrue false → ⊥
not_so h = cc

pub returns-then-number-least : goal.returns-then-number-least
returns-then-number-least c = (
  λ no. absurd (not_so no),
  λ rises.
      let q = rises_at c.args.end c.args.numbers.now c.loop-number.number-index 0 c.loop-number-test.true rises in
      elim c.then-number-least.branch [
        | then-number-least-via-then-number-least w ↦ absurd (omega (arith, w.if-number-least.true, c.loop-number.invariant.least, q.0))
        | then-number-least-via-else-number-least+then-end-number w ↦ absurd (omega (arith, w.if-end-number.true, q.1))
      ],
)

pub loop-number-preserved : goal.loop-number-preserved
loop-number-preserved c =
    let more = take_more c.args.numbers.now c.loop-number.number-index 0 c.loop-number-test.true in
    let above : least_behind 0 (take c.loop-number.number-index c.args.numbers.now) ≤ get_or c.args.numbers.now c.loop-number.number-index 0 = omega (arith, c.if-number-least.false, c.loop-number.invariant.least) in
    let below : get_or c.args.numbers.now c.loop-number.number-index 0 < c.args.end = omega (arith, c.if-end-number.false) in
    record {
      rises = subst (Rises 0 c.args.end) (sym more) (rises_push c.args.end (take c.loop-number.number-index c.args.numbers.now) (get_or c.args.numbers.now c.loop-number.number-index 0) c.loop-number.invariant.rises above below);
      least = sym (ap (least_behind 0) more ∙ behind_push 0 (take c.loop-number.number-index c.args.numbers.now) (get_or c.args.numbers.now c.loop-number.number-index 0));
    }
