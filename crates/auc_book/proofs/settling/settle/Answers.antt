use Rattle.std.proofs.Common.{◌⊎◌, inl, inr, false, [], vec_len, ◌≡◌, ◌<◌, ◌∙◌, length, sym, subst, arith}
use Rattle.std.proofs.lemmas.List.{nil_from_length}
use Rattle.auc_book.specs.Settling.{Differ, IsTrueOf}
use Rattle.auc_book.specs.Seat.{Account}
use Rattle.auc_book.proofs.Lines.{is_none, is_some, not_true}
use Rattle.auc_book.proofs.Settled.{differ, settles_none, settles_more, settled}
use Rattle.auc_book.proofs.settling.settle.Goals as goal
use Rattle.auc_book.proofs.settling.settle.Goals.{then-same, else-same, then-not-same-via-then-not-same, then-not-same-via-else-not-same+then-not-is_empty}

pub loop-worker-init : goal.loop-worker-init
loop-worker-init g c = settles_none g.N.MailBrand.room c.into_lines-lines.result.items c.args.seats.items

pub returns-in_default-clause-unsettled : goal.returns-in_default-clause-unsettled
returns-in_default-clause-unsettled g c =
    let w = c.loop-worker.worker in (
      omega (arith, c.if-room-eq0.false, c.room.ensures),
      (w, omega (arith, c.loop-worker-test.true, c.requires.workers), c.loop-worker.invariant.more w (omega arith) c.in_default.ensures.0),
    )

pub loop-worker-preserved : goal.loop-worker-preserved
loop-worker-preserved g c =
    let seat = c.in-Some.seat in
    let lines = c.into_lines-lines.result.items in
    let n = g.N.MailBrand.room in
    let room : 0 < n = omega (arith, c.if-room-eq0.false, c.room.ensures) in
    let long : seat.count ≡ length seat.lines = subst (λ (p : Account _). p.count ≡ length p.lines) c.seat-in-loop-worker.view_is (c.seat-in-loop-worker.invariant.noted_all room) in
    settles_more n lines c.args.seats.items c.loop-worker.seats.items c.take_seat.new.seats.items c.loop-worker.worker c.loop-worker.same c.if-same.same seat
    c.loop-worker.invariant c.in-Some.ensures long
    (λ yes.
    elim c.if-same.branch [
      | then-same w ↦ (w.if-same.true, subst (λ ls. IsTrueOf n ls seat) w.as_slice.ensures.value (w.is_true_of-same.ensures.0 (sym w.same-is ∙ yes)))
      | else-same w ↦ absurd (not_true (sym w.if-same.false ∙ (sym w.same-is ∙ yes)))
    ])
    (λ no.
    elim c.if-same.branch [
      | then-same w ↦ inr (λ true_of. not_true (sym no ∙ (w.same-is ∙ w.is_true_of-same.ensures.1 (subst (λ ls. IsTrueOf n ls seat) (sym w.as_slice.ensures.value) true_of))))
      | else-same w ↦ inl w.if-same.false
    ])

pub returns-then-not-same-clause-unsettled : goal.returns-then-not-same-clause-unsettled
returns-then-not-same-clause-unsettled g c = (
  omega (arith, c.if-room-eq0.false, c.room.ensures),
  λ k lt none. c.loop-worker.invariant.seated k (omega (arith, c.loop-worker-test.false, c.requires.workers)) none,
)

pub returns-clause-settled : goal.returns-clause-settled
returns-clause-settled g c =
    let room : 0 < g.N.MailBrand.room = omega (arith, c.if-room-eq0.false, c.room.ensures) in
    let none : c.loop-worker.seats.items ≡ [] = nil_from_length c.loop-worker.seats.items (let long : vec_len c.loop-worker.seats ≡ 0 = is_none (vec_len c.loop-worker.seats) c.if-not-is_empty.ensures in omega (arith, long, c.loop-worker.seats.ok.0)) in
    rw c.new.ensures
    (settled g.N.MailBrand.boxes g.N.MailBrand.workers g.N.MailBrand.nodes g.N.MailBrand.most g.N.MailBrand.room
    c.into_lines-lines.result.items c.args.seats.items c.loop-worker.seats.items c.loop-worker.worker c.loop-worker.same
    room c.loop-worker.invariant c.if-not-same.false none (omega (arith, c.loop-worker-test.false, c.requires.workers, c.loop-worker.auto.worker-end)) c.into_lines-lines.ensures.own (c.into_lines-lines.ensures.run room))

pub returns-then-not-same-clause-differs : goal.returns-then-not-same-clause-differs
returns-then-not-same-clause-differs g c = λ e.
    let trail = c.into_lines-lines.result.items in
    let left = c.loop-worker.seats in
    let ended : c.loop-worker.worker ≡ g.N.MailBrand.workers = omega (arith, c.loop-worker-test.false, c.requires.workers, c.loop-worker.auto.worker-end) in
    let differs : (c.loop-worker.same ≡ false) ⊎ (0 < length left.items) → Differ g.N.MailBrand.workers g.N.MailBrand.room c.args.seats.items trail =
    differ g.N.MailBrand.workers g.N.MailBrand.room trail c.args.seats.items left.items c.loop-worker.worker c.loop-worker.same c.loop-worker.invariant ended in
    rw (← c.into_lines-lines.ensures.lines)
    (elim c.then-not-same.branch [
      | then-not-same-via-then-not-same w ↦ differs (inl w.if-not-same.true)
      | then-not-same-via-else-not-same+then-not-is_empty w ↦
          differs (inr (let long : 0 < vec_len left = is_some (vec_len left) (sym w.is_empty.ensures ∙ w.if-not-is_empty.true) in omega (arith, long, left.ok.0)))
    ])
