use Rattle.std.proofs.Common.{slice_index_or, [], ◌≢◌, sym, subst, arith}
use Rattle.auc_mail.specs.Mail.{Mail, HasBox, blank_lane}
use Rattle.auc_mail.specs.Pool.{IsLaneOf}
use Rattle.auc_mail.proofs.Keeping.{box_within, lane_below, list_has}
use Rattle.auc_mail.proofs.Taking.{number_within, some_wait, take_keeps, take_step}
use Rattle.auc_mail.proofs.pool.MailPool.take_from.Goals as goal

pub invariant_of-self : goal.invariant_of-self
invariant_of-self g c =
    let hb = box_within c.self.invariant c.args.at (subst (λ (m : Mail _). HasBox m c.args.at) (sym c.self.view_is) c.requires.at) in
    let of = subst (λ (m : Mail _). IsLaneOf m.senders c.args.at c.args.lane) (sym c.self.view_is) c.requires.lane in
    let popped = c.in-Some.ensures in
    rw (c.note_take.ensures, popped.2) (take_keeps c.self.invariant c.args.at hb c.args.lane c.sender_of-sender.result of c.sender_of-sender.ensures c.in-Some.item popped.0 popped.1 c.index.result.now c.index.ensures)

pub returns : goal.returns
returns g c =
    let hb = box_within c.self.invariant c.args.at (subst (λ (m : Mail _). HasBox m c.args.at) (sym c.self.view_is) c.requires.at) in
    let of = subst (λ (m : Mail _). IsLaneOf m.senders c.args.at c.args.lane) (sym c.self.view_is) c.requires.lane in
    let popped = c.in-Some.ensures in
    rw (← c.self.view_is, c.note_take.ensures, popped.2, c.from.ensures, c.len.ensures) (take_step c.self.invariant c.args.at hb c.args.lane c.sender_of-sender.result of c.sender_of-sender.ensures c.in-Some.item popped.0 popped.1 c.index.result.now c.index.ensures)

pub unreachable-requires : goal.unreachable-requires
unreachable-requires g c =
    let hb = box_within c.self.invariant c.args.at (subst (λ (m : Mail _). HasBox m c.args.at) (sym c.self.view_is) c.requires.at) in
    let of = subst (λ (m : Mail _). IsLaneOf m.senders c.args.at c.args.lane) (sym c.self.view_is) c.requires.lane in
    let some = subst (λ (m : Mail _). (slice_index_or m.lanes c.args.lane blank_lane).waiting ≢ []) (sym c.self.view_is) c.requires.some in
    list_has c.self.invariant c.args.lane (lane_below c.self.invariant c.args.at c.args.lane hb of) some c.in_default.ensures.0

pub note_take-requires-clause-some : goal.note_take-requires-clause-some
note_take-requires-clause-some g c =
    let hb = box_within c.self.invariant c.args.at (subst (λ (m : Mail _). HasBox m c.args.at) (sym c.self.view_is) c.requires.at) in
    let of = subst (λ (m : Mail _). IsLaneOf m.senders c.args.at c.args.lane) (sym c.self.view_is) c.requires.lane in
    let popped = c.in-Some.ensures in
    some_wait c.self.invariant c.args.at hb c.args.lane c.sender_of-sender.result of c.sender_of-sender.ensures c.in-Some.item popped.0 popped.1
