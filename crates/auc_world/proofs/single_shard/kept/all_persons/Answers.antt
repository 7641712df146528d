use Rattle.std.proofs.Common.{◌%◌, ◌≡◌, ◌++◌, ◌∷◌, [], length, arith, ap, sym, ◌∙◌, length-append}
use Rattle.auc_persons.proofs.Own.{own_yes}
use Rattle.auc_world.proofs.single_shard.kept.all_persons.Goals as goal

pub loop-person-preserved : goal.loop-person-preserved
loop-person-preserved c =
    let old = c.loop-person.invariant in
    let e = c.push_back_reserved.ensures.items in
    let own : c.loop-person.person % 1 ≡ 0 = omega arith in
    record {
      items = e ∙ ap (λ xs. xs ++ c.loop-person.person ∷ []) old.items ∙ sym (own_yes 0 1 c.loop-person.person own);
      room = omega (arith, c.push_back_reserved.ensures.capacity, old.room);
      few = omega (arith, ap length e, length-append c.loop-person.idle.items (c.loop-person.person ∷ []), old.few);
    }
