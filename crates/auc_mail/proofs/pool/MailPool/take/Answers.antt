use Rattle.std.proofs.Common.{◌∙◌, List, ap, length, sym, subst, arith}
use Rattle.auc_mail.specs.Mail.{Mail, HasBox}
use Rattle.auc_mail.specs.declared.boxes.MailBox.{MailBox}
use Rattle.auc_mail.proofs.Keeping.{box_within, box_read, empty_box, lane_below, lane_has, lanes_within, last_read, nothing_waits, waiting_read}
use Rattle.auc_mail.proofs.pool.MailPool.take.Goals as goal

pub none_waits-requires-clause-none : goal.none_waits-requires-clause-none
none_waits-requires-clause-none g c =
    let p = c.self.inside in
    let hb = box_within c.self.invariant c.args.at (subst (λ (m : Mail _). HasBox m c.args.at) (sym c.self.view_is) c.requires) in
    let none = sym (waiting_read c.self.invariant c.args.at c.index.result.now hb c.index.ensures) ∙ c.if-index-eq0.true in
    rw (← c.self.view_is) (nothing_waits c.self.invariant c.args.at hb (empty_box p.senders p.lists.lists c.args.at none))

pub len-requires : goal.len-requires
len-requires g c =
    let hb = box_within c.self.invariant c.args.at (subst (λ (m : Mail _). HasBox m c.args.at) (sym c.self.view_is) c.requires) in
    let waits = ap (λ (x : MailBox). x.waiting) (box_read c.self.invariant c.args.at c.index.result.now hb c.index.ensures) in
    let of = last_read c.self.invariant c.args.at c.index-2.result.now hb c.index-2.ensures (omega (arith, waits, c.if-index-eq0.false)) in
    omega (arith, of.1, lanes_within c.self.invariant c.args.at hb)

pub take_from-requires-clause-some : goal.take_from-requires-clause-some
take_from-requires-clause-some g c =
    let hb = box_within c.self.invariant c.args.at (subst (λ (m : Mail _). HasBox m c.args.at) (sym c.self.view_is) c.requires) in
    let waits = ap (λ (x : MailBox). x.waiting) (box_read c.self.invariant c.args.at c.index.result.now hb c.index.ensures) in
    let again = ap (λ (x : MailBox). x.waiting) (box_read c.self.invariant c.args.at c.index-3.result.now hb c.index-3.ensures) in
    let of = last_read c.self.invariant c.args.at c.index-2.result.now hb c.index-2.ensures (omega (arith, waits, c.if-index-eq0.false)) in
    rw (← c.self.view_is) (lane_has c.self.invariant c.index-2.result.now.last (lane_below c.self.invariant c.args.at c.index-2.result.now.last hb of)
    (λ e. omega (arith, ap (λ (xs : List _). length xs) e, c.len.ensures, c.if-len-index.true, waits, again, c.if-index-eq0.false)))
