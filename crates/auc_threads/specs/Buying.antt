-- The work of a person worker: it takes letters, and bids at the copies of prices that they have set.
use Rattle.std.specs.Prelude.{◌≡◌, ◌≢◌, ◌⊎◌, ℕ, ℤ, List, [], ◌∷◌, ◌++◌, Ok, Err}
use Rattle.auc_graph.specs.Table.{Table}
use Rattle.auc_letters.specs.declared.letter.Letter.{Letter}
use Rattle.auc_letters.specs.declared.letter.Why.{Why}
use Rattle.auc_letters.specs.declared.out.Out.{Out}
use Rattle.auc_persons.specs.declared.bidding.Bidding.{Bidding}
use Rattle.auc_persons.specs.declared.bidding.PersonFault.{PersonFault}
use Rattle.auc_persons.specs.Persons.{NextBid, OnLetter, Persons, Stops, first_idle}
use Rattle.auc_phases.specs.Reasons.{reason_for}
use Rattle.auc_threads.specs.declared.calls.Step.{Step}
use Rattle.auc_threads.specs.Taking.{AfterTakes, Takes}
use Rattle.auc_threads.specs.Posting.{PostsAt, first_step}
use Rattle.auc_threads.specs.Worker.{Box, Rooms, Round, Taker, Worker}

-- the acts of a person shard: it takes a letter, or makes a bid
pub data Act : Type 0 where
  Hear : Letter → Act
  Make : Out → Act

-- an act led to this shard, and from it the later acts led on
pub record LeadsOn (By On : Persons → Type 0) : Type 0 where
  pub next : Persons
  pub by : By next
  pub on : On next

-- These acts, one after another, lead from the shard s to n: each letter fits, and each bid is the next one.
abbrev pub Plays : Table → ℤ → Persons → List Act → Persons → Type 0
Plays t eps s [] n = n ≡ s
Plays t eps s (Hear x ∷ acts) n = LeadsOn (OnLetter s x (Ok tt)) (λ m. Plays t eps m acts n)
Plays t eps s (Make o ∷ acts) n = LeadsOn (NextBid t eps s (Bidding.Out o)) (λ m. Plays t eps m acts n)

-- the letters taken among some acts, and below the bids made, in order
abbrev pub heard_in : List Act → List Letter
heard_in [] = []
heard_in (Hear x ∷ acts) = x ∷ heard_in acts
heard_in (Make o ∷ acts) = heard_in acts

abbrev pub made_in : List Act → List Out
made_in [] = []
made_in (Hear x ∷ acts) = made_in acts
made_in (Make o ∷ acts) = o ∷ made_in acts

-- The step of a worker that asked for a bid, or took a letter, and left its shard as n. Its next person can't bid, for
-- this reason; or no call could be noted; or a letter doesn't fit, or has a lower price than the copy.
abbrev pub CantBid : Table → ℤ → Persons → Why → Type 0
CantBid t eps n why = (n.idle ≢ []) × Stops t eps n (first_idle n) why

pub record CantHear (n : Persons) (fault : List Letter) (why : Why) : Type 0 where
  pub letter : Letter
  pub found : PersonFault
  pub fault_is : fault ≡ letter ∷ []
  pub why_is : why ≡ reason_for found
  pub heard : OnLetter n letter (Err found) n

abbrev pub AfterActs : Table → ℤ → Persons → List Letter → Step → Type 0
AfterActs t eps n fault Step.On = fault ≡ []
AfterActs t eps n fault Step.Over = fault ≡ []
AfterActs t eps n fault (Step.Stop why) = ((fault ≡ []) × CantBid t eps n why) ⊎ (((fault ≡ []) × (why ≡ Why.Trail)) ⊎ CantHear n fault why)

-- The step after asking for bids. No person was free, or the worker had enough bids, or the next person can't bid.
abbrev pub AfterAsks : Table → ℤ → Persons → Step → Type 0
AfterAsks t eps n Step.On = Unit {0}
AfterAsks t eps n Step.Over = ⊥
AfterAsks t eps n (Step.Stop why) = CantBid t eps n why

-- a shard, with the bids that it has been asked for so far
pub record Asker : Type 0 where
  pub shard : Persons
  pub bids : List Out

abbrev pub asker : Persons → List Out → Asker
asker s bids = record { shard = s; bids = bids }

pub record Asks (g : Round) (old new : Asker) (step : Step) : Type 0 where
  pub acts : List Act
  pub plays : Plays g.table g.eps old.shard acts new.shard
  pub heard : heard_in acts ≡ []
  pub made : new.bids ≡ old.bids ++ made_in acts
  pub after : AfterAsks g.table g.eps new.shard step

-- The shard took the letters, but for the last one if that doesn't fit.
pub record ListensTo (g : Round) (s : Persons) (letters : List Letter) (n : Persons) (step : Step) : Type 0 where
  pub acts : List Act
  pub fault : List Letter
  pub plays : Plays g.table g.eps s acts n
  pub made : made_in acts ≡ []
  pub letters_are : letters ≡ heard_in acts ++ fault
  pub after : AfterActs g.table g.eps n fault step

-- the same, where the worker took the letters from its box
pub record Listens (g : Round) (x : Box) (old new : Taker Persons) (step : Step) : Type 0 where
  pub letters : List Letter
  pub took : Takes x.room x.at old.seat letters new.seat
  pub listens : ListensTo g old.shard letters new.shard step
  pub taken : AfterTakes took.answers step

-- The worker bid and took letters. It took exactly these letters from its box, and posted the bids in order, up to the
-- first post that ends it.
pub record Buys (g : Round) (r : Rooms) (at : ℕ) (old new : Worker Persons) (step : Step) : Type 0 where
  pub acts : List Act
  pub fault : List Letter
  pub posts_step : Step
  pub acts_step : Step
  pub plays : Plays g.table g.eps old.shard acts new.shard
  pub posts : PostsAt r.objects old.seats.objects (made_in acts) new.seats.objects posts_step
  pub took : Takes r.persons at old.seats.persons (heard_in acts ++ fault) new.seats.persons
  pub after : AfterActs g.table g.eps new.shard fault acts_step
  pub taken : AfterTakes took.answers acts_step
  -- a post that ends the worker comes before anything that it asked for or took later
  pub is : step ≡ first_step posts_step acts_step
