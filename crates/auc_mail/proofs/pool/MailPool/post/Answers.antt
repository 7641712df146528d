use Rattle.std.proofs.Common.{sym, subst, arith}
use Rattle.auc_mail.specs.Mail.{Mail, HasLane}
use Rattle.auc_mail.proofs.Keeping.{box_within}
use Rattle.auc_mail.proofs.Posting.{posted_within_most, post_keeps, post_spent, post_full, post_step, waiting_below}
use Rattle.auc_mail.proofs.pool.MailPool.post.Goals as goal

pub returns-then-posted-self : goal.returns-then-posted-self
returns-then-posted-self g c =
    let fits = subst (λ (m : Mail _). HasLane m c.args.to c.args.sender) (sym c.self.view_is) c.requires in
    let hb = box_within c.self.invariant c.args.to fits.1 in
    let n = rw c.lane_number-lane.ensures at c.index-posted.ensures in
    rw (← c.self.view_is) (post_spent c.self.invariant c.args.to c.args.sender fits.0 hb c.index.result.now c.index.ensures c.index-posted.result.now n c.args.item c.args.reserve c.if-not-index.false c.if-posted-self.true)

pub returns-then-free-reserve : goal.returns-then-free-reserve
returns-then-free-reserve g c =
    let fits = subst (λ (m : Mail _). HasLane m c.args.to c.args.sender) (sym c.self.view_is) c.requires in
    let hb = box_within c.self.invariant c.args.to fits.1 in
    let n = rw c.lane_number-lane.ensures at c.index-posted.ensures in
    let within = posted_within_most c.self.invariant c.args.to c.args.sender fits.0 hb c.index.result.now c.index.ensures c.index-posted.result.now n c.args.item c.args.reserve in
    rw (← c.self.view_is) (post_full c.self.invariant c.args.to c.args.sender fits.0 hb c.index.result.now c.index.ensures c.index-posted.result.now n c.args.item c.args.reserve c.if-not-index.false (omega arith) (omega (arith, c.free.ensures.free)))

pub note_post-requires-clause-fits : goal.note_post-requires-clause-fits
note_post-requires-clause-fits g c =
    let fits = subst (λ (m : Mail _). HasLane m c.args.to c.args.sender) (sym c.self.view_is) c.requires in
    let hb = box_within c.self.invariant c.args.to fits.1 in
    let n = rw c.lane_number-lane.ensures at c.index-posted.ensures in
    waiting_below c.self.invariant c.args.to c.args.sender fits.0 hb c.index.result.now c.index.ensures c.index-posted.result.now n c.args.item c.args.reserve c.every_pool_is_sound.ensures (omega (arith, c.free.ensures.free))

pub invariant_of-self : goal.invariant_of-self
invariant_of-self g c =
    let fits = subst (λ (m : Mail _). HasLane m c.args.to c.args.sender) (sym c.self.view_is) c.requires in
    let hb = box_within c.self.invariant c.args.to fits.1 in
    let n = rw c.lane_number-lane.ensures at c.index-posted.ensures in
    let again = rw c.lane_number-lane.ensures at c.index_mut.ensures.value in
    let within = posted_within_most c.self.invariant c.args.to c.args.sender fits.0 hb c.index.result.now c.index.ensures c.index-posted.result.now n c.args.item c.args.reserve in
    rw (c.note_post.ensures, c.in-Ok.ensures.1, c.lane_number-lane.ensures) (post_keeps c.self.invariant c.args.to c.args.sender fits.0 hb c.index.result.now c.index.ensures c.index-posted.result.now n c.args.item c.args.reserve c.if-not-index.false (omega arith) c.index_mut.result.now again)

pub returns-in-Ok : goal.returns-in-Ok
returns-in-Ok g c =
    let fits = subst (λ (m : Mail _). HasLane m c.args.to c.args.sender) (sym c.self.view_is) c.requires in
    let hb = box_within c.self.invariant c.args.to fits.1 in
    let n = rw c.lane_number-lane.ensures at c.index-posted.ensures in
    let again = rw c.lane_number-lane.ensures at c.index_mut.ensures.value in
    let within = posted_within_most c.self.invariant c.args.to c.args.sender fits.0 hb c.index.result.now c.index.ensures c.index-posted.result.now n c.args.item c.args.reserve in
    rw (← c.self.view_is, c.note_post.ensures, c.in-Ok.ensures.1, c.lane_number-lane.ensures) (post_step c.self.invariant c.args.to c.args.sender fits.0 hb c.index.result.now c.index.ensures c.index-posted.result.now n c.args.item c.args.reserve c.if-not-index.false (omega arith) c.index_mut.result.now again (omega (arith, c.free.ensures.free)))
