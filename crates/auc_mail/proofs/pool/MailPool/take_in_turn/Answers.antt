use Rattle.std.proofs.Common.{sym, subst}
use Rattle.auc_mail.specs.Mail.{Mail, HasBox}
use Rattle.auc_mail.proofs.Keeping.{box_within, lane_below, lane_has, nothing_waits}
use Rattle.auc_mail.proofs.pool.MailPool.take_in_turn.Goals as goal

pub take_from-requires-clause-some : goal.take_from-requires-clause-some
take_from-requires-clause-some g c =
    let hb = box_within c.self.invariant c.args.at (subst (λ (m : Mail _). HasBox m c.args.at) (sym c.self.view_is) c.requires) in
    rw (← c.self.view_is) (lane_has c.self.invariant c.in-Some.lane (lane_below c.self.invariant c.args.at c.in-Some.lane hb c.in-Some.ensures.0) c.in-Some.ensures.1)

pub none_waits-requires-clause-none : goal.none_waits-requires-clause-none
none_waits-requires-clause-none g c =
    let hb = box_within c.self.invariant c.args.at (subst (λ (m : Mail _). HasBox m c.args.at) (sym c.self.view_is) c.requires) in
    rw (← c.self.view_is) (nothing_waits c.self.invariant c.args.at hb c.in-None.ensures)
