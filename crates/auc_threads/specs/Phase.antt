-- The outcome of a phase in threads, and what its trails prove of it.
use Rattle.std.specs.Prelude.{◌≡◌, ◌<◌, ◌≤◌, ◌+◌, ◌*◌, ◌%◌, ◌↔◌, ℕ, ℤ, pos, List, Option, Some, None, length, All, IfSome, slice_index_or}
use Rattle.auc_graph.specs.Table.{Table}
use Rattle.auc_letters.specs.declared.letter.Letter.{Letter}
use Rattle.auc_letters.specs.declared.letter.Why.{Why}
use Rattle.auc_letters.specs.Award.{Sale, award_all, bids_on}
use Rattle.auc_mail.specs.declared.call.Call.{Call}
use Rattle.auc_mail.specs.Mail.{Mail, empty_mail}
use Rattle.auc_mail.specs.Run.{Run}
use Rattle.auc_book.specs.declared.line.TrailLine.{TrailLine}
use Rattle.auc_book.specs.Trail.{IsOwn, events_of, lines_of}
use Rattle.auc_model.specs.declared.turn.End.{End}
use Rattle.auc_answers.specs.declared.gathered.Gathered.{Gathered}
use Rattle.auc_phases.specs.declared.limits.Limits.{Limits}
use Rattle.auc_phases.specs.Begins.{ArePrices}
use Rattle.auc_threads.specs.declared.phase.PhaseEnd.{PhaseEnd}
use Rattle.auc_threads.specs.declared.settling.Trails.{Trails}
use Rattle.auc_phases.specs.Shards.{new_persons}
use Rattle.auc_persons.specs.Persons.{NeverFall, Persons}
use Rattle.auc_threads.specs.Buying.{Act, Plays, made_in}
use Rattle.auc_threads.specs.Taking.{letters_in}
use Rattle.auc_threads.specs.Hearing.{Falls, SomebodyStuck}
use Rattle.auc_threads.specs.Counting.{firsts_in}
use Rattle.auc_threads.specs.Worked.{AreWorked}
use Rattle.auc_threads.specs.Worker.{setting}
use Rattle.auc_threads.specs.Naming.{hub_nodes, objects_nodes, persons_nodes, workers_of}

-- the lines are a run (a sequence of steps) of a mail of these numbers, from the empty one
abbrev pub IsRun : ℕ → ℕ → ℕ → ℕ → List (TrailLine Letter) → Type 0
IsRun boxes workers nodes most lines = (last : Mail Letter) × Run (empty_mail boxes workers nodes most) (events_of lines) last

-- a trail of such a mail: the lines are a run of it, and each line is a call that its worker made in its own name
pub record IsTrail (boxes workers nodes most : ℕ) (lines : List (TrailLine Letter)) : Type 0 where
  pub run : IsRun boxes workers nodes most lines
  pub own : All (λ l. (l.worker < workers) × IsOwn l.worker l.call) lines

-- the call is a post
abbrev pub IsPost : Call Letter → Type 0
IsPost (Call.Post s b x r) = Unit {0}
IsPost (Call.Take b) = ⊥
IsPost (Call.Close b) = ⊥

-- the letters that a worker took, in order
abbrev pub taken_by : ℕ → List (TrailLine Letter) → List Letter
taken_by worker trail = letters_in (lines_of worker trail)

-- the price of an object in a list
abbrev pub price_in : List ℤ → ℕ → ℤ
price_in prices j = slice_index_or prices j (pos 0)

-- an object at the start of a phase: it has its price, and no holder
abbrev pub unsold : List ℤ → ℕ → Sale
unsold prices j = record { price = price_in prices j; holder = None }

-- an object as the phase has left it
abbrev pub left_in : Gathered → ℕ → Sale
left_in gathered j = record { price = price_in gathered.prices.items j; holder = slice_index_or gathered.holders.items j None }

-- The number of bids that each person shard has posted: at most the limit, and exactly the limit by one of them if the
-- phase was stopped for that.
pub record AreCounted (limits : Limits) (bids : List ℕ) (end : Option End) : Type 0 where
  pub many : length bids ≡ limits.shards
  pub few : All (λ n. n ≤ limits.bids) bids
  pub spent : end ≡ Some (End.Stopped Why.Bids) → (k : ℕ) × (k < limits.shards) × (slice_index_or bids k 0 ≡ limits.bids)

-- The acts of the person shard number k, with trails or without. From its start it took letters and made bids, one
-- after another, and posted this number of the bids. No copy of a price fell.
pub record HasPlayed (t : Table) (limits : Limits) (eps : ℤ) (start : List ℤ) (k bids : ℕ) : Type 0 where
  pub acts : List Act
  pub left : Persons
  pub plays : Plays t eps (new_persons limits.shards (length t.rows) limits.bids start k) acts left
  pub posted : bids ≤ length (made_in acts)
  pub rise : NeverFall start left.copies

-- What the trails prove of a phase.
pub record IsToldBy (t : Table) (limits : Limits) (eps : ℤ) (start : List ℤ) (p : PhaseEnd) (trails : Trails) : Type 0 where
  -- they are kept only where they have room
  pub kept : 0 < limits.audit
  -- each is a run from the empty mail, of calls that the workers made in their own names
  pub objects_trail : IsTrail limits.shards (workers_of limits.shards) (objects_nodes limits (length t.rows)) limits.posts trails.objects
  pub persons_trail : IsTrail limits.shards (workers_of limits.shards) (persons_nodes limits (length t.rows)) limits.posts trails.persons
  pub hub_trail : IsTrail 1 (workers_of limits.shards) (hub_nodes limits (length t.rows)) limits.posts trails.hub
  -- only person workers post bids
  pub bids_of_persons : All (λ l. IsPost l.call → l.worker < limits.shards) trails.objects
  -- each object's price and holder follow by the award rule from the bids on it that its shard's worker took, in order
  pub sold : (j : ℕ) → j < t.objects → left_in p.gathered j ≡ award_all eps (unsold start j)
      (bids_on j (taken_by (limits.shards + j % limits.shards) trails.objects))
  -- each person has an object exactly if the hub took a First for each person
  pub all : (p.end ≡ Some End.All) ↔ (firsts_in (taken_by (2 * limits.shards) trails.hub) ≡ length t.rows)
  -- a price fell only if a person worker took one below the start price, or below one that it took earlier
  pub fell : p.end ≡ Some (End.Stopped Why.Fell) → (k : ℕ) × (k < limits.shards) × Falls (price_in start) (taken_by k trails.persons)
  -- each worker did its work on the letters that it took, and the phase ended for the first of their reasons
  pub worked : AreWorked (setting t limits eps start) trails p.bids.items p.end

-- A phase at this eps, from these prices.
pub record IsPhase (t : Table) (limits : Limits) (eps : ℤ) (start : List ℤ) (p : PhaseEnd) : Type 0 where
  pub holders : length p.gathered.holders.items ≡ t.objects
  pub prices : ArePrices t p.gathered.prices.items
  -- if it was stopped for that, some person has no arc
  pub stuck : p.end ≡ Some (End.Stopped Why.Stuck) → SomebodyStuck t
  -- no phase is stopped for a full trail if no trail is kept
  pub trail : p.end ≡ Some (End.Stopped Why.Trail) → 0 < limits.audit
  -- with trails or without
  pub counted : AreCounted limits p.bids.items p.end
  pub played : (k : ℕ) → k < limits.shards → HasPlayed t limits eps start k (slice_index_or p.bids.items k 0)
  pub told : IfSome p.trails (IsToldBy t limits eps start p)
