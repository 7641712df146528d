use Rattle.std.proofs.Common.{sym, subst}
use Rattle.auc_mail.specs.Mail.{Mail, HasBox}
use Rattle.auc_mail.proofs.Keeping.{box_within, has_box, open_read}
use Rattle.auc_mail.proofs.Closing.{close_makes}
use Rattle.auc_mail.proofs.pool.MailPool.close.Goals as goal

pub returns : goal.returns
returns g c =
    let hb = box_within c.self.invariant c.args.at (subst (λ (m : Mail _). HasBox m c.args.at) (sym c.self.view_is) c.requires) in
    rw (← c.self.view_is, c.note_close.ensures) (record { was = open_read c.self.invariant c.args.at c.index.result.now hb c.index.ensures; next = close_makes c.self.invariant c.args.at hb; box = has_box c.self.invariant c.args.at hb })
