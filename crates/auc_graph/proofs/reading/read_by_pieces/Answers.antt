use Rattle.std.proofs.Common.{◌≡◌, ◌≤◌, ◌<◌, ◌+◌, ◌++◌, [], length, take, drop, Err, sym, ap, ◌∙◌, arith, append_assoc}
use Rattle.std.proofs.KnownBytes.{Consumes-trans}
use Rattle.std.proofs.lemmas.List.{append-nil, length-append, length-drop, length-take-le}
use Rattle.auc_graph.specs.Reading.{reading}
use Rattle.auc_graph.specs.Pieces.{reading_at, reading_from}
use Rattle.std.specs.Prelude.{◌≢◌, ◌-◌}
use borrow.Rule.Slice.PartMut.{put_mid, take_put, same_len_mid}
use Rattle.auc_graph.specs.declared.read_error.ReadError.TheVariants.{NoMemory}
use Rattle.auc_graph.proofs.MagnitudeLaws.{length_of_part}
use Rattle.auc_graph.proofs.PieceLaws.{front_and_more}
use Rattle.std.proofs.lemmas.Result.{err_from_is_err_and}
use Rattle.auc_graph.specs.Numbers.{numbers}
use Rattle.auc_graph.proofs.StepLaws.{fault_stays}
use Rattle.auc_graph.proofs.EndLaws.{answers_as, is_read}
use Rattle.auc_graph.proofs.reading.read_by_pieces.Goals as goal

-- after the last read there is nothing more than what was kept
pub returns-then-count-eq0 : goal.returns-then-count-eq0
returns-then-count-eq0 g c =
    let inv = c.loop-done.invariant in
    let limit = c.args.limits.arcs in
    let arcs = c.loop-done.arcs.items in
    let got = take c.in-Ok.count c.read.new.buf in
    let kept : c.loop-done.kept < length c.loop-done.piece = omega (arith, c.loop-done.invariant.few, c.loop-done.invariant.long, c.requires.room) in
    let buf_long : length c.read.new.buf ≡ length c.loop-done.piece - c.loop-done.kept = c.read.auto.buf ∙ length-take-le (length c.loop-done.piece - c.loop-done.kept) (drop c.loop-done.kept c.loop-done.piece) (omega (arith, length-drop c.loop-done.kept c.loop-done.piece)) in
    let none : take c.in-Ok.count c.read.new.buf ≡ [] = ap (λ n. take n c.read.new.buf) c.if-count-eq0.true in
    let token = take c.loop-done.kept (put_mid c.loop-done.kept (length c.loop-done.piece - c.loop-done.kept) c.loop-done.piece c.read.new.buf) in
    let front : take c.loop-done.kept (put_mid c.loop-done.kept (length c.loop-done.piece - c.loop-done.kept) c.loop-done.piece c.read.new.buf) ≡ take c.loop-done.kept c.loop-done.piece = take_put c.loop-done.kept (length c.loop-done.piece - c.loop-done.kept) c.loop-done.piece c.read.new.buf (omega (arith, kept)) in
    let read : reading c.args.limits.persons limit c.args.limits.objects (inv.text ++ got) ≡ reading_at limit c.in_ok-stage.stage arcs token =
    inv.reads got ∙ ap (reading_from limit c.loop-done.known arcs) (ap (λ t. take c.loop-done.kept c.loop-done.piece ++ t) none ∙ append-nil (take c.loop-done.kept c.loop-done.piece) ∙ sym front)
    ∙ ap (λ k. reading_from limit k arcs token) c.in_ok-stage.was in (
      inv.text ++ got,
      Consumes-trans (g.R.Read.remaining c.args.reader.now) (g.R.Read.remaining c.loop-done.reader) (g.R.Read.remaining c.read.new.self) inv.text got inv.taken c.in-Ok.ensures.bytes.0,
      is_read c.args.limits (g.R.Read.remaining c.read.new.self) (inv.text ++ got) c.problem_behind.result (c.in-Ok.ensures.bytes.1 c.if-count-eq0.true (omega (arith, buf_long, kept)))
          (answers_as NoMemory c.problem_behind.result (reading c.args.limits.persons limit c.args.limits.objects (inv.text ++ got)) (reading_at limit c.in_ok-stage.stage arcs token) read c.problem_behind.ensures),
    )

pub returns-in_err-stage : goal.returns-in_err-stage
returns-in_err-stage g c =
    let p = err_from_is_err_and c.from_residual.result c.from_residual.ensures.1 in
    let inv = c.loop-done.invariant in
    let limit = c.args.limits.arcs in
    let got = take c.in-Ok.count c.read.new.buf in
    let kept : c.loop-done.kept < length c.loop-done.piece = omega (arith, c.loop-done.invariant.few, c.loop-done.invariant.long, c.requires.room) in
    let buf_long : length c.read.new.buf ≡ length c.loop-done.piece - c.loop-done.kept = c.read.auto.buf ∙ length-take-le (length c.loop-done.piece - c.loop-done.kept) (drop c.loop-done.kept c.loop-done.piece) (omega (arith, length-drop c.loop-done.kept c.loop-done.piece)) in
    let left = take c.loop-done.kept c.loop-done.piece ++ got in
    let read : reading c.args.limits.persons limit c.args.limits.objects (inv.text ++ got) ≡ Err c.in_err-stage.field-0.0 =
    inv.reads got ∙ ap (λ k. reading_from limit k c.loop-done.arcs.items left) c.in_err-stage.was ∙ fault_stays limit c.in_err-stage.field-0.0 (numbers left) in (
      inv.text ++ got,
      Consumes-trans (g.R.Read.remaining c.args.reader.now) (g.R.Read.remaining c.loop-done.reader) (g.R.Read.remaining c.read.new.self) inv.text got inv.taken c.in-Ok.ensures.bytes.0,
      rw (p.1, p.2) (is_read c.args.limits (g.R.Read.remaining c.read.new.self) (inv.text ++ got) (Err c.in_err-stage.field-0.0) (c.in-Ok.ensures.bytes.1 c.if-count-eq0.true (omega (arith, buf_long, kept))) (λ _. read)),
    )

pub returns-then-is_want_of_memory : goal.returns-then-is_want_of_memory
returns-then-is_want_of_memory g c =
    let inv = c.loop-done.invariant in
    (inv.text ++ take c.in-Ok.count c.read.new.buf, Consumes-trans (g.R.Read.remaining c.args.reader.now) (g.R.Read.remaining c.loop-done.reader) (g.R.Read.remaining c.read.new.self) inv.text (take c.in-Ok.count c.read.new.buf) inv.taken c.in-Ok.ensures.bytes.0, tt)

pub loop-done-preserved : goal.loop-done-preserved
loop-done-preserved g c =
    let inv = c.loop-done.invariant in
    let got = take c.in-Ok.count c.read.new.buf in
    let kept : c.loop-done.kept < length c.loop-done.piece = omega (arith, c.loop-done.invariant.few, c.loop-done.invariant.long, c.requires.room) in
    let buf_long : length c.read.new.buf ≡ length c.loop-done.piece - c.loop-done.kept = c.read.auto.buf ∙ length-take-le (length c.loop-done.piece - c.loop-done.kept) (drop c.loop-done.kept c.loop-done.piece) (omega (arith, length-drop c.loop-done.kept c.loop-done.piece)) in
    let few : c.in-Ok.count ≤ length c.read.new.buf = c.in-Ok.ensures.bound.0 in
    let front : take (c.loop-done.kept + c.in-Ok.count) (put_mid c.loop-done.kept (length c.loop-done.piece - c.loop-done.kept) c.loop-done.piece c.read.new.buf) ≡ take c.loop-done.kept c.loop-done.piece ++ take c.in-Ok.count c.read.new.buf =
    front_and_more c.loop-done.piece c.read.new.buf c.loop-done.kept c.in-Ok.count (length c.loop-done.piece - c.loop-done.kept) (omega (arith, kept)) few in
    let other : c.known_behind.result.0 ≢ Err NoMemory = c.is_want_of_memory.ensures.other c.if-is_want_of_memory.false in
    record {
      few = c.known_behind.ensures.few;
      long = c.known_behind.ensures.len ∙ same_len_mid c.loop-done.kept (length c.loop-done.piece - c.loop-done.kept) c.loop-done.piece c.read.new.buf c.read.auto.buf ∙ c.loop-done.invariant.long;
      sound = c.known_behind.ensures.sound;
      plain = c.known_behind.ensures.plain;
      text = inv.text ++ take c.in-Ok.count c.read.new.buf;
      taken = Consumes-trans (g.R.Read.remaining c.args.reader.now) (g.R.Read.remaining c.loop-done.reader) (g.R.Read.remaining c.read.new.self) inv.text (take c.in-Ok.count c.read.new.buf) inv.taken c.in-Ok.ensures.bytes.0;
      done = omega (arith, inv.done, length-append inv.text (take c.in-Ok.count c.read.new.buf), length_of_part c.in-Ok.count c.read.new.buf few, c.if-count-eq0.false);
      reads = λ more.
          ap (reading c.args.limits.persons c.args.limits.arcs c.args.limits.objects) (append_assoc inv.text (take c.in-Ok.count c.read.new.buf) more) ∙ inv.reads (take c.in-Ok.count c.read.new.buf ++ more)
          ∙ ap (reading_from c.args.limits.arcs c.loop-done.known c.loop-done.arcs.items) (sym (append_assoc (take c.loop-done.kept c.loop-done.piece) (take c.in-Ok.count c.read.new.buf) more) ∙ ap (λ t. t ++ more) (sym front))
          ∙ c.known_behind.ensures.exact other more;
    }
