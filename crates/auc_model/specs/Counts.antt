-- Letters under way, counted by kind, and persons and objects, counted by state.
use Rattle.std.specs.Prelude.{ℕ, zero, suc, ◌+◌, ◌≡◌, Option, Some, None, sum_by}
use Rattle.auc_letters.specs.declared.letter.Letter.{Letter}
use Rattle.auc_letters.specs.declared.out.To.{To}
use Rattle.auc_letters.specs.declared.state.Held.{Held}
use Rattle.auc_letters.specs.declared.state.PersonState.{PersonState}
use Rattle.auc_letters.specs.declared.state.PersonState.TheVariants.{Free, Waits, Holds}
use Rattle.auc_model.specs.World.{Phase, World, senders}
use Rattle.auc_model.specs.Letters.{bid_one, award_one, refused_one, outbid_one, first_one}
use Rattle.auc_model.specs.Channels.{Channels}

-- the sum f 0 + f 1 + .. of n terms
abbrev pub total : (ℕ → ℕ) → ℕ → ℕ
total f zero = 0
total f (suc n) = total f n + f n

-- the total weight of all letters under way
abbrev pub everywhere : Phase → (Letter → ℕ) → Channels → ℕ
everywhere g f c =
    (total (λ q. total (λ x. sum_by f (c (To.Object q) x)) (senders g)) g.shards + total (λ s. total (λ x. sum_by f
    (c (To.Person s) x)) (senders g)) g.shards)
    + total (λ x. sum_by f (c To.Hub x)) (senders g)

abbrev pub waits_one : PersonState → ℕ
waits_one Free = 0
waits_one (Waits j) = 1
waits_one (Holds j) = 0

abbrev pub holds_one : PersonState → ℕ
holds_one Free = 0
holds_one (Waits j) = 0
holds_one (Holds j) = 1

abbrev pub held_one : Option Held → ℕ
held_one None = 0
held_one (Some h) = 1

abbrev pub waiting_persons : Phase → World → ℕ
waiting_persons g w = total (λ i. waits_one (w.state i)) g.persons

abbrev pub holding_persons : Phase → World → ℕ
holding_persons g w = total (λ i. holds_one (w.state i)) g.persons

abbrev pub held_objects : Phase → World → ℕ
held_objects g w = total (λ j. held_one (w.holder j)) g.objects

-- Letters under way agree with the states. Bids, awards and refusals are as many as waiting persons. Held objects and
-- outbids are as many as holding persons and awards. First letters, those counted by the hub and those under way, are
-- as many as held objects.
pub record Counts (g : Phase) (w : World) (c : Channels) : Type 0 where
  pub who_waits : everywhere g bid_one c + everywhere g award_one c + everywhere g refused_one c ≡ waiting_persons g w
  pub who_holds : everywhere g outbid_one c + held_objects g w ≡ holding_persons g w + everywhere g award_one c
  pub who_told : w.count + everywhere g first_one c ≡ held_objects g w
