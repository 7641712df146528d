use Rattle.std.proofs.Common.{◌≡◌, ◌≤◌, ◌<◌, ◌-◌, ◌++◌, ◌∷◌, [], Ok, length, drop, sym, ap, ◌∙◌, arith}
use Rattle.std.proofs.lemmas.List.{length-append}
use Rattle.std.proofs.lemmas.List.Elements.{All-push}
use Rattle.auc_graph.specs.declared.stage.Stage.TheVariants.{AtPerson}
use Rattle.auc_graph.specs.Problem.{IsWithin}
use Rattle.auc_graph.specs.Numbers.{numbers}
use Rattle.auc_graph.specs.Reading.{reading_on}
use Rattle.auc_graph.proofs.StepLaws.{arc_more}
use Rattle.auc_graph.proofs.PieceLaws.{rest_of_rest}
use Rattle.auc_graph.proofs.pieces.behind_row.Goals as goal

pub lines-preserved : goal.lines-preserved
lines-preserved c =
    let old = c.lines.invariant in
    let rest = c.lines.rest.now in
    let behind = c.in-Some.behind.now in
    let shorter = c.in-Some.ensures.shorter in
    let arcs = c.lines.arcs.items in
    let arc = c.in-Some.arc in
    let e = c.push_reserved.ensures.items in
    let room : length c.lines.arcs.items < c.args.limit = omega (arith, c.lines-test.true, c.len-in-lines.ensures, old.most) in
    let places : length c.args.bytes.now - (length rest - (length rest - length behind)) ≡ length c.args.bytes.now - length behind = omega (arith, shorter) in
    let few : length c.push_reserved.new.self.items ≤ c.args.limit = omega (arith, room, ap length e, length-append arcs (arc ∷ [])) in
    record {
      exact = λ more.
          old.exact more ∙ ap (reading_on c.args.limit (Ok (AtPerson c.args._persons c.args.objects, arcs))) (c.in-Some.ensures.found more)
          ∙ arc_more c.args.limit c.args._persons c.args.objects arcs arc (numbers (behind ++ more)) room (c.in-Some.ensures.within c.args._persons c.requires.written.1)
          ∙ ap (λ xs. reading_on c.args.limit (Ok (AtPerson c.args._persons c.args.objects, xs)) (numbers (behind ++ more))) (sym e);
      room = omega (arith, old.room, c.push_reserved.ensures.capacity);
      most = old.most;
      sound = (
        record {
          some = old.sound.0.some;
          most = old.sound.0.most;
          enough = old.sound.0.enough;
          most_objects = old.sound.0.most_objects;
          few = omega (arith, few, c.requires.few);
          within = rw e (All-push (IsWithin c.args._persons c.args.objects) arcs arc old.sound.0.within (c.in-Some.ensures.within c.args._persons c.requires.written.1));
        },
        few,
      );
      few = omega (arith, shorter, old.few);
      behind = c.in-Some.ensures.behind ∙ rest_of_rest c.args.bytes.now rest (length rest - length behind) (omega arith) old.few old.behind ∙ ap (λ m. drop m c.args.bytes.now) places;
    }
