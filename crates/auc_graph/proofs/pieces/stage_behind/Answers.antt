use Rattle.std.proofs.Common.{◌≡◌, ◌≤◌, ◌-◌, ◌++◌, Ok, length, drop, refl, ap, ◌∙◌, arith}
use Rattle.std.proofs.lemmas.Result.{err_from_is_err_and}
use Rattle.auc_graph.specs.Numbers.{numbers}
use Rattle.auc_graph.specs.Reading.{reading_on}
use Rattle.auc_graph.proofs.StepLaws.{steps_on, steps_off}
use Rattle.auc_graph.proofs.PieceLaws.{skip_front, rest_of_rest, whole_piece}
use Rattle.auc_graph.proofs.pieces.stage_behind.Goals as goal

pub loop-number-init : goal.loop-number-init
loop-number-init c = record { exact = λ more. refl; sound = c.requires.sound; few = omega arith; behind = whole_piece c.args.piece.now }

pub loop-number-preserved : goal.loop-number-preserved
loop-number-preserved c =
    let old = c.loop-number.invariant in
    let rest = c.loop-number.rest.now in
    let behind = c.in-Some.behind.now in
    let shorter = c.in-Some.ensures.shorter in
    let s = length rest - length behind in
    let places : length c.args.piece.now - (length rest - (length rest - length behind)) ≡ length c.args.piece.now - length behind = omega (arith, shorter) in
    record {
      exact = λ more.
          old.exact more ∙ ap (reading_on c.args.limit (Ok (c.loop-number.stage, c.loop-number.arcs.items))) (c.in-Some.ensures.found more)
          ∙ steps_on c.args.limit c.loop-number.stage c.loop-number.arcs.items c.in-Some.number c.in_ok-stage.stage c.after.new.arcs.items (numbers (behind ++ more)) c.in_ok-stage.ensures.exact;
      sound = c.in_ok-stage.ensures.sound;
      few = omega (arith, shorter, old.few);
      behind = c.in-Some.ensures.behind ∙ rest_of_rest c.args.piece.now rest (length rest - length behind) (omega arith) old.few old.behind ∙ ap (λ m. drop m c.args.piece.now) places;
    }

pub returns-in_err-stage-clause-fault : goal.returns-in_err-stage-clause-fault
returns-in_err-stage-clause-fault c =
    let p = err_from_is_err_and c.from_residual.result c.from_residual.ensures.1 in
    rw (p.1, p.2) (λ other more.
    c.loop-number.invariant.exact more ∙ ap (reading_on c.args.limit (Ok (c.loop-number.stage, c.loop-number.arcs.items))) (c.in-Some.ensures.found more)
    ∙ steps_off c.args.limit c.loop-number.stage c.loop-number.arcs.items c.in-Some.number c.in_err-stage.field-0.0 (numbers (c.in-Some.behind.now ++ more)) (c.in_err-stage.ensures.exact other))

pub returns-clause-exact : goal.returns-clause-exact
returns-clause-exact c = λ more.
    let rest = c.loop-number.rest.now in
    c.loop-number.invariant.exact more ∙ ap (reading_on c.args.limit (Ok (c.loop-number.stage, c.loop-number.arcs.items))) (skip_front c.separators_len.result rest more c.separators_len.ensures.len)
    ∙ ap (λ t. reading_on c.args.limit (Ok (c.loop-number.stage, c.loop-number.arcs.items)) (numbers (t ++ more))) (rest_of_rest c.args.piece.now rest c.separators_len.result c.separators_len.ensures.few c.loop-number.invariant.few c.loop-number.invariant.behind)

pub returns-clause-few : goal.returns-clause-few
returns-clause-few c = omega (arith, c.loop-number.invariant.few)

pub returns-clause-plain : goal.returns-clause-plain
returns-clause-plain c =
    let rest = c.loop-number.rest.now in
    let same = ap (λ m. drop m rest) c.separators_len.ensures.len in
    rw (← rest_of_rest c.args.piece.now rest c.separators_len.result c.separators_len.ensures.few c.loop-number.invariant.few c.loop-number.invariant.behind, same) c.in_default.ensures.none

pub loop-number-preserved-in-AtPerson : goal.loop-number-preserved-in-AtPerson
loop-number-preserved-in-AtPerson c =
    let old = c.loop-number.invariant in
    let piece = c.args.piece.now in
    let rest = c.loop-number.rest.now in
    let mid = c.in-Some.behind.now in
    let last = c.in_ok-rest.rest.now in
    let shorter = c.in-Some.ensures.shorter in
    let few : length mid ≤ length piece = omega (arith, shorter, old.few) in
    let places : length piece - (length rest - (length rest - length mid)) ≡ length piece - length mid = omega (arith, shorter) in
    let mid_is : mid ≡ drop (length piece - length mid) piece = c.in-Some.ensures.behind ∙ rest_of_rest piece rest (length rest - length mid) (omega arith) old.few old.behind ∙ ap (λ m. drop m piece) places in
    let le = c.in_ok-rest.ensures.behind.0 in
    let places_2 : length piece - (length mid - (length mid - length last)) ≡ length piece - length last = omega (arith, le) in
    record {
      exact = λ more.
          old.exact more ∙ ap (reading_on c.args.limit (Ok (c.loop-number.stage, c.loop-number.arcs.items))) (c.in-Some.ensures.found more)
          ∙ steps_on c.args.limit c.loop-number.stage c.loop-number.arcs.items c.in-Some.number c.in_ok-stage.stage c.after.new.arcs.items (numbers (mid ++ more)) c.in_ok-stage.ensures.exact
          ∙ ap (λ s. reading_on c.args.limit (Ok (s, c.after.new.arcs.items)) (numbers (mid ++ more))) c.in-AtPerson.is
          ∙ c.in_ok-rest.ensures.exact more;
      sound = c.in_ok-rest.ensures.sound;
      few = omega (arith, le, few);
      behind = c.in_ok-rest.ensures.behind.1 ∙ rest_of_rest piece mid (length mid - length last) (omega arith) few mid_is ∙ ap (λ m. drop m piece) places_2;
    }
