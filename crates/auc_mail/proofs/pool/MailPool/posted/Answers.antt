use Rattle.std.proofs.Common.{◌∙◌, sym, subst}
use Rattle.auc_mail.specs.Mail.{Mail, HasLane}
use Rattle.auc_mail.proofs.Keeping.{box_within, posted_read, posted_is}
use Rattle.auc_mail.proofs.pool.MailPool.posted.Goals as goal

pub returns : goal.returns
returns g c =
    let fits = subst (λ (m : Mail _). HasLane m c.args.at c.args.sender) (sym c.self.view_is) c.requires in
    let hb = box_within c.self.invariant c.args.at fits.1 in
    let n = posted_read c.self.invariant c.args.at c.args.sender c.index.result.now fits.0 hb (rw c.lane_number.ensures at c.index.ensures) in
    rw (← c.self.view_is) (n ∙ sym (posted_is c.self.invariant c.args.at c.args.sender fits.0 hb))
