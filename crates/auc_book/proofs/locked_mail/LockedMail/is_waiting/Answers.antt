use Rattle.std.proofs.Common.{◌<◌, ◌∙◌, ◌↔◌, IsTrue, ap, subst}
use Rattle.auc_mail.specs.Mail.{Mail, IsClosed, waiting_at}
use Rattle.auc_book.specs.State.{State, IsFull}
use Rattle.auc_book.proofs.Lines.{not_true}
use Rattle.auc_book.proofs.LockedMailLaws.{waiting_is}
use Rattle.auc_book.proofs.locked_mail.LockedMail.is_waiting.Goals as goal

pub returns : goal.returns
returns g c =
    let s = c.args.self.now in
    let mail = c.pool-pool.ensures ∙ ap (λ (s : State _). s.mail) c.self.view_is in
    let full : IsFull s → ⊥ = λ f. not_true (c.if-is_full.ensures.1 (rw c.self.view_is f)) in
    let closed : IsClosed s.mail c.args.at → ⊥ = λ e. not_true (c.if-is_closed.ensures.1 (rw mail e)) in
    waiting_is s c.args.at c.has_letter.result (subst (λ (m : Mail _). IsTrue c.has_letter.result ↔ (0 < waiting_at m c.args.at)) mail c.has_letter.ensures) full closed
