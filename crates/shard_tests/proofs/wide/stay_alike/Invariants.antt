use Rattle.shard_tests.specs.Twins.{AreTwins}
use Rattle.shard_tests.proofs.wide.stay_alike.Given as goal

abbrev pub invariant-loop-round : goal.invariant-loop-round
invariant-loop-round l = AreTwins l.rows l.twins.whole l.twins.listed l.twins.bidder
