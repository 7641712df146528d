use Rattle.std.proofs.Common.{◌≡◌, ◌*◌, replicate, arith}
use Rattle.auc_nodes.specs.Lists.{empty_lists}
use Rattle.auc_mail.proofs.Making.{make_keeps, make_makes}
use Rattle.auc_mail.proofs.pool.MailPool.make.Goals as goal

pub invariant_of-result : goal.invariant_of-result
invariant_of-result g c =
    let e = c.in-Ok.ensures in
    let counts : c.in-Ok.posted.items ≡ replicate (c.args.boxes * c.args.senders) 0 = rw (c.from.ensures, c.from-2.ensures) at e.counts in
    let letters : c.in-Ok.lists ≡ empty_lists (c.args.boxes * c.args.senders) c.args.nodes = rw (c.from.ensures, c.from-2.ensures) at e.letters in
    make_keeps c.args.boxes c.args.senders c.args.nodes c.args.most c.in-Ok.boxes.items c.in-Ok.posted.items c.in-Ok.lists e.boxes counts letters
    (record { few_boxes = omega arith; few_senders = omega arith; few_lanes = rw (c.from.ensures, c.from-2.ensures) at c.if-lanes-gt-MOST_LANES.false })

pub returns-in-Ok-clause-made : goal.returns-in-Ok-clause-made
returns-in-Ok-clause-made g c =
    let e = c.in-Ok.ensures in
    let counts : c.in-Ok.posted.items ≡ replicate (c.args.boxes * c.args.senders) 0 = rw (c.from.ensures, c.from-2.ensures) at e.counts in
    let letters : c.in-Ok.lists ≡ empty_lists (c.args.boxes * c.args.senders) c.args.nodes = rw (c.from.ensures, c.from-2.ensures) at e.letters in
    make_makes c.args.boxes c.args.senders c.args.nodes c.args.most c.in-Ok.boxes.items c.in-Ok.posted.items c.in-Ok.lists e.boxes counts letters
