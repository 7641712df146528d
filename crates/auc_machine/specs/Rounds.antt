-- The fixed round of turns, and phases in whole rounds.
use Rattle.std.specs.Prelude.{ℕ, zero, suc, ◌≡◌, ◌||◌, Bool, true, false, List, [], ◌∷◌, ◌++◌, None}
use Rattle.auc_model.specs.declared.turn.Turn.{Turn}
use Rattle.auc_model.specs.declared.turn.TurnReply.{TurnReply}
use Rattle.auc_model.specs.World.{Phase, World}
use Rattle.auc_model.specs.Schedule.{Turned}

abbrev pub has_moved : TurnReply → Bool
has_moved TurnReply.Moved = true
has_moved TurnReply.Nothing = false

-- The turn t, with this reply, leads from w to mid. Rest is true of mid, and of whether a later turn changed anything;
-- `moved` says whether one of them all did.
pub record PlaysTurn (g : Phase) (w : World) (t : Turn) (moved : Bool) (Rest : World → Bool → Type 0) : Type 0 where
  pub mid : World
  pub reply : TurnReply
  pub later : Bool
  pub turned : Turned g w t reply mid
  pub rest : Rest mid later
  pub moved_is : moved ≡ (has_moved reply || later)

-- the turns, one after another, lead from w to v; `moved` says whether one of them changed anything
abbrev pub Plays : Phase → World → List Turn → Bool → World → Type 0
Plays g w [] moved v = (v ≡ w) × (moved ≡ false)
Plays g w (t ∷ ts) moved v = PlaysTurn g w t moved (λ mid later. Plays g mid ts later v)

-- each of this number of person shards bids and posts
abbrev pub bids_of : ℕ → List Turn
bids_of zero = []
bids_of (suc s) = bids_of s ++ Turn.Bid s ∷ Turn.PersonPost s ∷ []

-- each of this number of object shards takes a bid and posts its answers
abbrev pub answers_of : ℕ → List Turn
answers_of zero = []
answers_of (suc q) = answers_of q ++ Turn.ObjectTake q ∷ Turn.ObjectPost q ∷ Turn.ObjectPost q ∷ []

-- each of this number of person shards takes a letter
abbrev pub hearings_of : ℕ → List Turn
hearings_of zero = []
hearings_of (suc s) = hearings_of s ++ Turn.PersonTake s ∷ []

-- the fixed round, with this number of shards of each kind
abbrev pub round_of : ℕ → List Turn
round_of n = ((bids_of n ++ answers_of n) ++ hearings_of n) ++ Turn.HubTake ∷ []

-- Before is true of mid, where the end isn't set, and one whole round leads from there to v
pub record RoundMore (g : Phase) (Before : World → Type 0) (v : World) : Type 0 where
  pub mid : World
  pub moved : Bool
  pub before : Before mid
  pub unended : mid.end ≡ None
  pub played : Plays g mid (round_of g.shards) moved v

-- this number of whole rounds leads from w to v; the end isn't set before any of them
abbrev pub Rounds : Phase → World → ℕ → World → Type 0
Rounds g w zero v = v ≡ w
Rounds g w (suc n) v = RoundMore g (λ mid. Rounds g w n mid) v
