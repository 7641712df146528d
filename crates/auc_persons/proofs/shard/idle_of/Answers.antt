use Rattle.std.proofs.Common.{◌<◌, ◌++◌, ◌∷◌, [], length, arith, ap, sym, ◌∙◌, length-append}
use Rattle.std.proofs.lemmas.List.Elements.{All-push}
use Rattle.auc_persons.proofs.Own.{own_yes, own_no}
use Rattle.auc_persons.proofs.shard.idle_of.Goals as goal
use Rattle.auc_persons.proofs.shard.idle_of.Goals.{then-person-of, else-person-of}

pub loop-person-preserved : goal.loop-person-preserved
loop-person-preserved c =
    let old = c.loop-person.invariant in
    elim c.if-person-of.branch [
      | then-person-of w ↦
          let e = w.push_back_reserved.ensures.items in
          rw w.idle-is (record {
            items = e ∙ ap (λ xs. xs ++ c.loop-person.person ∷ []) old.items ∙ sym (own_yes c.args.shard c.args.of c.loop-person.person (w.if-person-of.true));
            room = omega (arith, w.push_back_reserved.ensures.capacity, old.room);
            few = omega (arith, ap length e, length-append c.loop-person.idle.items (c.loop-person.person ∷ []), old.few);
            within = rw e (All-push (λ i. i < c.args.persons) c.loop-person.idle.items c.loop-person.person old.within c.loop-person-test.true);
          })
      | else-person-of w ↦ rw w.idle-is (record {
        items = old.items ∙ sym (own_no c.args.shard c.args.of c.loop-person.person (w.if-person-of.false));
        room = old.room;
        few = omega (arith, old.few);
        within = old.within;
      })
    ]
