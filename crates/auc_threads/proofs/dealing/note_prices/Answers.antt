use Rattle.std.proofs.Common.{◌≡◌, ◌≢◌, ◌∙◌, ◌∷◌, [], ◌++◌, ap, arith}
use Rattle.std.proofs.lemmas.Bool.{eq-eqb, ne_eqb}
use Rattle.auc_threads.proofs.DealingLaws.{prices_one, prices_skip}
use Rattle.auc_threads.proofs.dealing.note_prices.Goals as goal
use Rattle.auc_threads.proofs.dealing.note_prices.Goals.{else-other-knowing, then-other-knowing}

pub loop-other-preserved : goal.loop-other-preserved
loop-other-preserved c =
    let inv = c.loop-other.invariant in
    let n = c.loop-other.other in
    elim c.if-other-knowing.branch [
      | then-other-knowing w ↦
          let ne : n ≢ c.args.knowing = omega (arith, w.if-other-knowing.true) in
          record {
            few = rw w.said-is (omega (arith, inv.few, w.push.ensures.len));
            told = rw w.said-is (prices_one c.args.shard.now n c.args.knowing c.args.object c.args.said.now.items c.loop-other.said.items w.push.new.self.items (ne_eqb n c.args.knowing ne) inv.told (w.push.ensures.items ∙ ap (λ o. c.loop-other.said.items ++ o ∷ []) w.tell.ensures));
          }
      | else-other-knowing w ↦
          let e : n ≡ c.args.knowing = omega (arith, w.if-other-knowing.false) in
          record {
            few = rw w.said-is (omega (arith, inv.few));
            told = rw w.said-is (prices_skip c.args.shard.now n c.args.knowing c.args.object c.args.said.now.items c.loop-other.said.items (eq-eqb n c.args.knowing e) inv.told);
          }
    ]
