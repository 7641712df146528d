-- The result of asking a person shard for a bid.
use Rattle.std.proofs.Common.{◌≡◌, ℕ, ◌<◌, sym, ◌∙◌, subst, arith}
use Rattle.std.specs.Prelude.{ℤ}
use Rattle.auc_graph.specs.Table.{Table}
use Rattle.auc_letters.specs.declared.out.Out.{Out}
use Rattle.auc_letters.specs.Award.{bid_of, bid_out}
use Rattle.auc_persons.specs.declared.bidding.Bidding.{Bidding}
use Rattle.auc_persons.specs.Persons.{NextBid, Persons, SameShape, first_idle}
use Rattle.auc_phases.specs.Shards.{IsPersonShard}
use Rattle.auc_phases.proofs.ShardLaws.{next_bid_own, persons_shape}
use Rattle.auc_threads.specs.Taking.{GoesWithin}

pub asked_is : (t : Table) (eps : ℤ) (shards number : ℕ) (s n : Persons) (r : Bidding) → IsPersonShard t shards number s → NextBid t eps s r n → SameShape s n → IsPersonShard t shards number n
asked_is t eps shards number s n r is next same = persons_shape t shards number s n same (next_bid_own t eps s n r next same is.idle_own) is

pub asked_reach : (t : Table) (eps : ℤ) (shards number : ℕ) (s n : Persons) (r : Bidding) → IsPersonShard t shards number s → number < shards → NextBid t eps s r n
    → (o : Out) → r ≡ Bidding.Out o → GoesWithin shards o
asked_reach t eps shards number s n Bidding.Idle is known next o e = absurd cc
asked_reach t eps shards number s n (Bidding.Stop why) is known next o e = absurd cc
asked_reach t eps shards number s n (Bidding.Out x) is known next o e =
    let arc = next.2.0 in
    let here : GoesWithin shards (bid_out s.object_shards (bid_of (first_idle s) arc.arc arc.object next.2.1)) = rw is.object_shards (omega arith) in
    subst (λ (y : Out). GoesWithin shards y) (sym next.2.4 ∙ same x o e) here
  where
    same : (x o : Out) → Bidding.Out x ≡ Bidding.Out o → x ≡ o
    same x o e = cc
