-- The work of an object worker: how it deals with the letters that it takes, and what it posts about them.
use Rattle.std.specs.Prelude.{◌≡◌, ◌==◌, ℕ, ◌%◌, ℤ, not, List, [], ◌∷◌, ◌++◌, map, filter, All, if◌then◌else◌}
use Rattle.std.specs.List.{range_with_len}
use Rattle.auc_letters.specs.declared.letter.Letter.{Letter}
use Rattle.auc_letters.specs.declared.letter.Bid.{Bid}
use Rattle.auc_letters.specs.declared.letter.Why.{Why}
use Rattle.auc_letters.specs.declared.out.Out.{Out}
use Rattle.auc_letters.specs.Award.{answers, bid_letter, is_accepted}
use Rattle.auc_graph.specs.Price.{IsPrice}
use Rattle.auc_letters.specs.Routing.{price_told}
use Rattle.auc_objects.specs.Objects.{IsBidIn, Objects, Owns, after_bid, price_of, sale_of}
use Rattle.auc_threads.specs.declared.calls.Step.{Step}
use Rattle.auc_threads.specs.Taking.{AfterTakes, Takes}
use Rattle.auc_threads.specs.Posting.{Says, first_step}
use Rattle.auc_threads.specs.Worker.{Box, Rooms, Taker, Worker, box, dealer_of}

-- the numbers of the shards below n but this one, in rising order
abbrev pub others : ℕ → ℕ → List ℕ
others n one = filter (λ q. not (q == one)) (range_with_len 0 n)

-- letters with the present price of an object to the first n person shards, but one
abbrev pub prices_told : Objects → ℕ → ℕ → ℕ → List Out
prices_told s n one object = map (λ q. price_told s.persons q object (price_of s object)) (others n one)

-- The letters of a shard about a bid. They are its answers in order, and then, if it was accepted, the new price to
-- each person shard but the bidder's.
abbrev pub says : ℤ → Objects → Bid → List Out
says eps s bid =
    answers s.person_shards eps (sale_of s bid.object) bid
    ++ (if is_accepted eps (sale_of s bid.object) bid then prices_told (after_bid s eps bid) s.person_shards (bid.person % s.person_shards)
    bid.object else [])

-- the shard after some bids, one after another, and below the letters about them
abbrev pub after_bids : ℤ → Objects → List Bid → Objects
after_bids eps s [] = s
after_bids eps s (bid ∷ bids) = after_bids eps (after_bid s eps bid) bids

abbrev pub says_all : ℤ → Objects → List Bid → List Out
says_all eps s [] = []
says_all eps s (bid ∷ bids) = says eps s bid ++ says_all eps (after_bid s eps bid) bids

-- the bid fits the shard
pub record Fits (s : Objects) (bid : Bid) : Type 0 where
  pub owns : Owns s bid.object
  pub amount : IsPrice bid.amount

-- the last letter is no bid that fits
pub record IsStray (t : Objects) (stray : List Letter) : Type 0 where
  pub letter : Letter
  pub stray_is : stray ≡ letter ∷ []
  pub unfit : (bid : Bid) → IsBidIn t letter bid → ⊥

-- The step of a worker after its letters, of which the last one may not fit. If all fit, it goes on, or no letter will
-- come any more, or no call could be noted. It stops at the first one that doesn't fit.
abbrev pub AfterLetters : Objects → List Letter → Step → Type 0
AfterLetters t stray Step.On = stray ≡ []
AfterLetters t stray Step.Over = stray ≡ []
AfterLetters t stray (Step.Stop Why.Trail) = stray ≡ []
AfterLetters t stray (Step.Stop Why.Stray) = IsStray t stray
AfterLetters t stray (Step.Stop Why.Bids) = ⊥
AfterLetters t stray (Step.Stop Why.Ceiling) = ⊥
AfterLetters t stray (Step.Stop Why.Stuck) = ⊥
AfterLetters t stray (Step.Stop Why.Posts) = ⊥
AfterLetters t stray (Step.Stop Why.Mail) = ⊥
AfterLetters t stray (Step.Stop Why.Fell) = ⊥

-- The letters are bids that fit the shard, which dealt with them one after another, and then perhaps one that doesn't
-- fit. These are the letters that it has to post.
pub record DealsWith (eps : ℤ) (s : Objects) (letters : List Letter) (said : List Out) (t : Objects) (step : Step) : Type 0 where
  pub bids : List Bid
  pub stray : List Letter
  pub letters_are : letters ≡ map bid_letter bids ++ stray
  pub fit : All (Fits s) bids
  pub left : t ≡ after_bids eps s bids
  pub said_are : said ≡ says_all eps s bids
  pub after : AfterLetters t stray step

-- the same, where what it has to post is put behind what was noted before
pub record DealsBehind (eps : ℤ) (s : Objects) (letters : List Letter) (old new : List Out) (t : Objects) (step : Step) : Type 0 where
  pub more : List Out
  pub behind : new ≡ old ++ more
  pub dealt : DealsWith eps s letters more t step

-- the same, where the worker took the letters from its box
pub record Deals (eps : ℤ) (x : Box) (old : Taker Objects) (said : List Out) (new : Taker Objects) (step : Step) : Type 0 where
  pub letters : List Letter
  pub took : Takes x.room x.at old.seat letters new.seat
  pub dealt : DealsWith eps old.shard letters said new.shard step
  pub taken : AfterTakes took.answers step

-- The worker dealt with letters, and posted what it had to.
pub record Serves (eps : ℤ) (r : Rooms) (at : ℕ) (old new : Worker Objects) (step : Step) : Type 0 where
  pub said : List Out
  pub took_step : Step
  pub said_step : Step
  pub deals : Deals eps (box r.objects at) (dealer_of old) said (dealer_of new) took_step
  pub posts : Says r old.seats said new.seats said_step
  -- a post that ends the worker comes before anything that it took later
  pub is : step ≡ first_step said_step took_step
