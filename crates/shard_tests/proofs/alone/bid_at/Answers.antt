use Rattle.shard_tests.proofs.alone.bid_at.Goals as goal

pub bid-requires-clause-kept : goal.bid-requires-clause-kept
bid-requires-clause-kept c = c.in-Ok.ensures.kept c.args.prices.now
