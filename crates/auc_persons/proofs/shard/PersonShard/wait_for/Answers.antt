use Rattle.std.proofs.Common.{◌<◌, ◌∷◌, length, arith, ap, sym, set, length-set}
use Rattle.std.proofs.lemmas.List.Elements.{All-head, All-rest, All-same, All-weaker}
use Rattle.auc_letters.specs.declared.state.PersonState.TheVariants.{Waits}
use Rattle.auc_persons.proofs.Counts.{one_less}
use Rattle.auc_persons.proofs.shard.PersonShard.wait_for.Goals as goal

pub invariant_of-self : goal.invariant_of-self
invariant_of-self c =
    let old = c.self.invariant.1 in
    let e = c.in-Some.ensures.items in
    let lt = All-head (λ i. i < length c.self.inside.states.items) c.in-Some.person c.pop_front.new.self.items (All-same (λ i. i < length c.self.inside.states.items) (c.in-Some.person ∷ c.pop_front.new.self.items) c.self.inside.idle.items (sym e) old.idle_are) in
    let same = length-set c.self.inside.states.items c.in-Some.person (Waits c.args.object) in
    let less = one_less c.self.inside.states.items c.in-Some.person c.args.object lt in (
      omega (arith, same, c.pop_front.ensures.capacity, c.self.invariant.0),
      record {
        known = old.known;
        shards = old.shards;
        few = omega (arith, same, old.few);
        copies_are = old.copies_are;
        idle_are = All-weaker (λ i. i < length c.self.inside.states.items) (λ i. i < length (set c.self.inside.states.items c.in-Some.person (Waits c.args.object))) (λ i h. omega (arith, same, h)) c.pop_front.new.self.items (All-rest (λ i. i < length c.self.inside.states.items) c.in-Some.person c.pop_front.new.self.items c.self.inside.idle.items e old.idle_are);
        room = omega (arith, less, ap length e, old.room);
      },
    )
