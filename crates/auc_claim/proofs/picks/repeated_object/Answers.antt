use Rattle.std.proofs.Common.{◌≡◌, ◌<◌, ◌+◌, true, false, Some, length, get_or, set, reverse, take, pos, sym, ap, subst, ◌∙◌, arith, ℕ}
use Rattle.std.proofs.lemmas.List.{length-map, length-set, get_or_default}
use Rattle.std.proofs.lemmas.List.Elements.{All-get_or}
use Rattle.auc_claim.specs.declared.lists.Pick.{Pick}
use Rattle.auc_claim.proofs.RepeatLaws.{HasSeen, objects_of, object_at, found, goes_on, seen_more}
use Rattle.auc_claim.proofs.picks.repeated_object.Goals as goal

pub returns-then-index : goal.returns-then-index
returns-then-index c =
    let no_pick : Pick = record { object = 0; cost = pos 0 } in
    let at : get_or (objects_of c.args.choice.now) c.loop-pick.pick-index 0 ≡ (get_or c.args.choice.now c.loop-pick.pick-index (record { object = 0; cost = pos 0 })).object = object_at c.args.choice.now c.loop-pick.pick-index (record { object = 0; cost = pos 0 }) c.loop-pick-test.true in
    let lt : c.loop-pick.pick-index < length (objects_of c.args.choice.now) = omega (arith, c.loop-pick-test.true, length-map c.args.choice.now (λ (p : Pick). p.object)) in
    let small = All-get_or (λ (p : Pick). p.object < c.args.objects) c.args.choice.now c.loop-pick.pick-index (record { object = 0; cost = pos 0 }) c.loop-pick-test.true c.requires in
    let room : get_or (objects_of c.args.choice.now) c.loop-pick.pick-index 0 < length c.loop-pick.seen.items = omega (arith, at, small, c.loop-pick.invariant.room) in
    let hit : get_or c.loop-pick.seen.items (get_or (objects_of c.args.choice.now) c.loop-pick.pick-index 0) false ≡ true =
    ap (λ (j : ℕ). get_or c.loop-pick.seen.items j false) at ∙ get_or_default c.loop-pick.seen.items _ false c.index.result.now (omega (arith, small, c.loop-pick.invariant.room)) ∙ sym c.index.ensures ∙ c.if-index.true in
    ap (λ (j : ℕ). Some j) (sym at) ∙ sym (found c.loop-pick.seen.items (objects_of c.args.choice.now) c.loop-pick.pick-index lt room c.loop-pick.invariant.seen hit c.loop-pick.invariant.told)

pub loop-pick-preserved : goal.loop-pick-preserved
loop-pick-preserved c =
    let at : get_or (objects_of c.args.choice.now) c.loop-pick.pick-index 0 ≡ (get_or c.args.choice.now c.loop-pick.pick-index (record { object = 0; cost = pos 0 })).object = object_at c.args.choice.now c.loop-pick.pick-index (record { object = 0; cost = pos 0 }) c.loop-pick-test.true in
    let lt : c.loop-pick.pick-index < length (objects_of c.args.choice.now) = omega (arith, c.loop-pick-test.true, length-map c.args.choice.now (λ (p : Pick). p.object)) in
    let small = All-get_or (λ (p : Pick). p.object < c.args.objects) c.args.choice.now c.loop-pick.pick-index (record { object = 0; cost = pos 0 }) c.loop-pick-test.true c.requires in
    let room : get_or (objects_of c.args.choice.now) c.loop-pick.pick-index 0 < length c.loop-pick.seen.items = omega (arith, at, small, c.loop-pick.invariant.room) in
    let miss : get_or c.loop-pick.seen.items (get_or (objects_of c.args.choice.now) c.loop-pick.pick-index 0) false ≡ false =
    ap (λ (j : ℕ). get_or c.loop-pick.seen.items j false) at ∙ get_or_default c.loop-pick.seen.items _ false c.index.result.now (omega (arith, small, c.loop-pick.invariant.room)) ∙ sym c.index.ensures ∙ c.if-index.false in
    let more = seen_more c.loop-pick.seen.items (objects_of c.args.choice.now) c.loop-pick.pick-index lt c.loop-pick.invariant.seen in
    record {
      room = length-set c.loop-pick.seen.items _ true ∙ c.loop-pick.invariant.room;
      seen = subst (λ (j : ℕ). HasSeen (set c.loop-pick.seen.items j true) (reverse (take (c.loop-pick.pick-index + 1) (objects_of c.args.choice.now)))) at more;
      told = goes_on c.loop-pick.seen.items (objects_of c.args.choice.now) c.loop-pick.pick-index lt room c.loop-pick.invariant.seen miss c.loop-pick.invariant.told;
    }
