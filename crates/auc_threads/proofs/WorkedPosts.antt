-- The posts of two bids on one object, as the definitions compute them: two shards of each kind, two persons, eps 1.
use Rattle.std.proofs.Common.{◌≡◌, ℕ, [], ◌∷◌, refl, inl, inr}
use Rattle.std.specs.Prelude.{pos, Result, Err}
use Rattle.auc_letters.specs.declared.letter.Letter.{Letter}
use Rattle.auc_letters.specs.declared.letter.Bid.{Bid}
use Rattle.auc_letters.specs.declared.out.Out.{Out}
use Rattle.auc_letters.specs.Award.{bid_of}
use Rattle.auc_letters.specs.Routing.{price_told, to_hub, to_person}
use Rattle.auc_objects.specs.Objects.{Objects, after_bid}
use Rattle.auc_book.specs.declared.error.CallRefused.{CallRefused}
use Rattle.auc_book.specs.declared.error.CallRefused.TheVariants as refused
use Rattle.auc_phases.specs.Shards.{new_objects}
use Rattle.auc_threads.specs.declared.calls.Step.{Step}
use Rattle.auc_threads.specs.Posting.{Posts, Sent}
use Rattle.auc_threads.specs.Dealing.{says}

abbrev shard : Objects
shard = new_objects 2 2 (pos 0 ∷ pos 0 ∷ []) 0

abbrev first : Bid
first = bid_of 1 2 0 (pos 3)

abbrev sold : Objects
sold = after_bid shard (pos 1) first

-- the first bid: an award, a First, and the price to the other shard
first_said : says (pos 1) shard first ≡ to_person 2 1 (Letter.Award 1 0 (pos 3)) ∷ to_hub (Letter.First 0) ∷ price_told 2 0 0 (pos 3) ∷ []
first_said = refl

-- a higher bid: the holder before is outbid before the award
second_said : says (pos 1) sold (bid_of 0 0 0 (pos 5)) ≡ to_person 2 1 (Letter.Outbid 1 0 (pos 5)) ∷ to_person 2 0 (Letter.Award 0 0 (pos 5)) ∷ price_told 2 1 0 (pos 5) ∷ []
second_said = refl

-- a bid that is too low is refused, and no price is sent
low_said : says (pos 1) sold (bid_of 0 0 0 (pos 3)) ≡ to_person 2 0 (Letter.Refused 0 0 (pos 3)) ∷ []
low_said = refl

abbrev sent : Out → Result ℕ CallRefused → Sent
sent o answer = record { out = o; answer = answer }

-- a price that finds no room is dropped, and the worker goes on
dropped : Posts (price_told 2 1 0 (pos 5) ∷ []) (sent (price_told 2 1 0 (pos 5)) (Err refused.Full) ∷ []) Step.On
dropped = (refl, inl (refl, refl))

-- an award to a closed box ends it, and nothing is posted after it
ended : Posts (to_person 2 1 (Letter.Award 1 0 (pos 3)) ∷ to_hub (Letter.First 0) ∷ []) (sent (to_person 2 1 (Letter.Award 1 0 (pos 3))) (Err refused.Closed) ∷ []) Step.Over
ended = (refl, inr (record { ends = λ e. cc; last = refl; step_is = refl }))
