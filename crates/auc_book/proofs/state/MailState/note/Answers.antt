use Rattle.std.proofs.Common.{◌≡◌, ◌≢◌, ◌<◌, ◌≤◌, length, refl, sym, subst, inl, arith}
use Rattle.auc_book.specs.State.{State, IsFull}
use Rattle.auc_book.proofs.Lines.{is_same, is_other, not_true}
use Rattle.auc_book.proofs.Noting.{noted_keeps}
use Rattle.auc_book.proofs.state.MailState.note.Goals as goal
use Rattle.auc_book.proofs.state.MailState.note.Goals.{then-self-gt0, else-self-gt0}

pub invariant_of-self : goal.invariant_of-self
invariant_of-self g c =
    let s = c.self.inside in
    let kept = c.self.invariant.0 in
    let hk : c.args.worker < s.pool.senders = subst (λ (s : State _). c.args.worker < s.mail.senders) (sym c.self.view_is) c.requires.worker in
    let room : s.places ≤ length s.lines.items → ⊥ = λ e. not_true (c.if-is_full.ensures.1 (subst (λ (s : State _). IsFull s) c.self.view_is (inl (c.if-self-gt0.true, e)))) in
    let noted = noted_keeps s.pool c.answer-reply.new.self c.args.call c.answer-reply.result c.args.worker s.calls s.places s.lines.items kept c.answer-reply.ensures hk c.requires.own (omega (arith, kept.fits)) in
    (rw c.push_reserved.ensures.items noted, rw c.push_reserved.ensures.capacity c.self.invariant.1)

pub returns : goal.returns
returns g c =
    let s = c.self.inside in
    let not_full = λ (f : IsFull c.args.self.now). not_true (c.if-is_full.ensures.1 f) in
    elim c.if-self-gt0.branch [
      | then-self-gt0 w ↦
          let some : s.places ≢ 0 = omega (arith, w.if-self-gt0.true) in
          rw (w.self-is, ← c.self.view_is)
          (subst (λ (s : State _). IsFull s → ⊥) (sym c.self.view_is) not_full, c.answer-reply.ensures, refl, refl, rw (is_other s.places 0 some) w.push_reserved.ensures.items)
      | else-self-gt0 w ↦
          let none : s.places ≡ 0 = omega (arith, w.if-self-gt0.false) in
          rw (w.self-is, ← c.self.view_is)
          (subst (λ (s : State _). IsFull s → ⊥) (sym c.self.view_is) not_full, c.answer-reply.ensures, refl, refl, rw (is_same s.places 0 none) refl)
    ]
