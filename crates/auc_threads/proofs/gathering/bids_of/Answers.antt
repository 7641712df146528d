use Rattle.std.proofs.Common.{◌≡◌, ◌∙◌, ◌+◌, ◌∷◌, [], ◌++◌, ℕ, ap, sym, arith, length, length-append, map, take}
use Rattle.std.proofs.lemmas.List.{map-append, take_more}
use Rattle.auc_threads.proofs.gathering.bids_of.Goals as goal

pub loop-work-preserved : goal.loop-work-preserved
loop-work-preserved g c =
    let inv = c.loop-work.invariant in
    let xs = c.args.works.now in
    let i = c.loop-work.work-index in
    let x = c.work-item.result in
    let more : take (i + 1) xs ≡ take i xs ++ x ∷ [] = take_more xs i x c.loop-work-test.true ∙ ap (λ y. take i xs ++ y ∷ []) (sym c.work-item.is) in
    let old = c.loop-work.bids.items in
    let pushed : c.push_reserved.new.self.items ≡ old ++ x.seats.objects.count ∷ [] = c.push_reserved.ensures.items ∙ ap (λ (n : ℕ). old ++ n ∷ []) c.count.ensures in
    record {
      bids =
          pushed
          ∙ (ap (λ ns. ns ++ x.seats.objects.count ∷ []) inv.bids
          ∙ (sym (map-append (λ w. w.seats.objects.count) (take i xs) (x ∷ [])) ∙ ap (λ ws. map (λ w. w.seats.objects.count) ws) (sym more)));
      many = omega (arith, inv.many, ap length pushed, length-append old (x.seats.objects.count ∷ []));
      room = omega (arith, inv.room, c.push_reserved.ensures.capacity);
    }
