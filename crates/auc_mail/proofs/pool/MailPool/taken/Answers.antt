use Rattle.std.proofs.Common.{◌+◌, ◌*◌, ap, sym, subst, arith}
use Rattle.auc_mail.specs.Mail.{Lane, Mail, HasLane}
use Rattle.auc_mail.proofs.Keeping.{box_within, lane_within, lane_is, posted_read}
use Rattle.auc_mail.proofs.pool.MailPool.taken.Goals as goal

pub overflow_sub-result : goal.overflow_sub-result
overflow_sub-result g c =
    let fits = subst (λ (m : Mail _). HasLane m c.args.at c.args.sender) (sym c.self.view_is) c.requires in
    let hb = box_within c.self.invariant c.args.at fits.1 in
    let p = c.self.inside in
    let n = posted_read c.self.invariant c.args.at c.args.sender c.index.result.now fits.0 hb (rw c.lane_number-lane.ensures at c.index.ensures) in
    let len = rw c.lane_number-lane.ensures at c.len.ensures in
    omega (arith, n, len, c.from.ensures, c.self.invariant.counted (c.args.at * p.senders + c.args.sender) (lane_within c.self.invariant c.args.at c.args.sender fits.0 hb))

pub returns : goal.returns
returns g c =
    let fits = subst (λ (m : Mail _). HasLane m c.args.at c.args.sender) (sym c.self.view_is) c.requires in
    let hb = box_within c.self.invariant c.args.at fits.1 in
    let n = posted_read c.self.invariant c.args.at c.args.sender c.index.result.now fits.0 hb (rw c.lane_number-lane.ensures at c.index.ensures) in
    let len = rw c.lane_number-lane.ensures at c.len.ensures in
    rw (← c.self.view_is) (omega (arith, n, len, c.from.ensures, ap (λ (l : Lane _). l.taken) (lane_is c.self.invariant c.args.at c.args.sender fits.0 hb)))
