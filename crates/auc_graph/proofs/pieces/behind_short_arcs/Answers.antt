use Rattle.std.proofs.Common.{◌≡◌, ◌-◌, length, drop, ap, ◌∙◌, arith}
use Rattle.auc_graph.proofs.PieceLaws.{rest_of_rest}
use Rattle.auc_graph.proofs.pieces.behind_short_arcs.Goals as goal

pub loop-written-preserved : goal.loop-written-preserved
loop-written-preserved c =
    let old = c.loop-written.invariant in
    let bytes = c.args.bytes.now in
    let rest = c.loop-written.rest.now in
    let behind = c.in_ok-behind.behind.now in
    let le = c.in_ok-behind.ensures.behind.0 in
    let places : length bytes - (length rest - (length rest - length behind)) ≡ length bytes - length behind = omega (arith, le) in
    record {
      exact = λ more. old.exact more ∙ c.in_ok-behind.ensures.exact more;
      sound = c.in_ok-behind.ensures.sound;
      few = omega (arith, le, old.few);
      behind = c.in_ok-behind.ensures.behind.1 ∙ rest_of_rest bytes rest (length rest - length behind) (omega arith) old.few old.behind ∙ ap (λ m. drop m bytes) places;
    }
