use Rattle.std.proofs.Common.{ℕ, ◌<◌, All, subst, arith}
use Rattle.auc_book.specs.Trail.{IsOwn, events_of}
use Rattle.auc_book.proofs.LockedMailLaws.{locked_run}
use Rattle.auc_book.proofs.locked_mail.LockedMail.into_lines.Goals as goal

pub returns-clause-run : goal.returns-clause-run
returns-clause-run g c some =
    let state = c.self.inside.state in
    let room : 0 < state.room = omega (arith, c.self.invariant.numbers.place_count) in
    rw c.into_lines.ensures.lines
    (state.mail, locked_run g.N.MailBrand.boxes g.N.MailBrand.workers g.N.MailBrand.nodes g.N.MailBrand.most g.N.MailBrand.room state (events_of state.trail) c.self.invariant.numbers (c.every_state_is_noted.ensures.run room))

pub returns-clause-own : goal.returns-clause-own
returns-clause-own g c =
    let state = c.self.inside.state in
    rw c.into_lines.ensures.lines (subst (λ (n : ℕ). All (λ l. (l.worker < n) × IsOwn l.worker l.call) state.trail) c.self.invariant.numbers.worker_count c.every_state_is_noted.ensures.own)
