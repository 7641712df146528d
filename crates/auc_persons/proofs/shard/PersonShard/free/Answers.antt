use Rattle.std.proofs.Common.{◌<◌, length, arith, ap}
use Rattle.auc_persons.specs.Persons.{Persons}
use Rattle.auc_persons.proofs.Counts.{has_room}
use Rattle.auc_persons.proofs.shard.PersonShard.free.Goals as goal

pub push_back_reserved-requires : goal.push_back_reserved-requires
push_back_reserved-requires c =
    let e = ap (λ (s : Persons). s.states) c.self.view_is in
    let busy = rw (← e) at c.requires.busy in
    let lt : c.args.person < length c.self.inside.states.items = omega (arith, ap length e, c.requires.person) in
    omega (arith, has_room c.self.inside.states.items c.args.person lt busy, c.self.invariant.0, c.self.invariant.1.room)
