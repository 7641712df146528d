use Rattle.std.proofs.Common.{arith}
use Rattle.std.proofs.lemmas.List.Elements.{All-push}
use Rattle.auc_persons.specs.Candidates.{Kept}
use Rattle.auc_machine.proofs.making.new_bidders.Goals as goal

pub loop-shard-preserved : goal.loop-shard-preserved
loop-shard-preserved c =
    let items = c.in_ok-push.ensures.items in
    record {
      many = omega (arith, c.in_ok-push.ensures.len, c.loop-shard.invariant.many);
      each = λ prices. rw items (All-push (Kept c.args.rows.now prices) c.loop-shard.made.items c.in_ok-one.one (c.loop-shard.invariant.each prices) (c.in_ok-one.ensures.kept prices));
    }

pub returns : goal.returns
returns c = λ prices. record { many = omega (arith, c.loop-shard.invariant.many, c.loop-shard-test.false); each = c.loop-shard.invariant.each prices }
