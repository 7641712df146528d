use Rattle.std.proofs.Common.{◌<◌, ◌∙◌, ap, arith, length}
use Rattle.auc_hall.specs.Chosen.{places}
use Rattle.auc_market.proofs.HallLaws.{is_short_hall_set}
use Rattle.auc_market.proofs.hall.hall_set_of.Goals as goal

pub returns-then-len : goal.returns-then-len
returns-then-len c =
    let persons = c.in_ok-persons.ensures in
    let objects = c.in_ok-objects.ensures ∙ ap (places 0) c.as_slice.ensures.value in
    let fewer : length (places 0 c.in_ok-seen.seen.items) < length (places 0 c.args.is_in.now) = (let p = ap length persons in let o = ap length objects in let m = c.len.ensures in let n = c.len-2.ensures in let t = c.if-len.true in omega (arith, p, o, m, n, t)) in
    rw (persons, objects) (is_short_hall_set c.args.rows.now c.args.is_in.now c.in_ok-seen.seen.items c.requires c.in_ok-seen.ensures fewer)
