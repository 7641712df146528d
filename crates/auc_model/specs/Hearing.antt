-- PersonTake: a shard of the persons takes a letter.
use Rattle.std.specs.Prelude.{ℕ, ◌%◌, ◌<◌, ◌≤◌, ◌≡◌, ◌⊎◌, ℤ, ◌≤ℤ◌, ◌<ℤ◌, [], ◌∷◌, ◌++◌}
use Rattle.auc_mail.specs.Mail.{Mail}
use Rattle.auc_letters.specs.declared.letter.Letter.{Letter}
use Rattle.auc_letters.specs.declared.letter.Why.{Why}
use Rattle.auc_letters.specs.declared.state.PersonState.{PersonState}
use Rattle.auc_graph.specs.Price.{IsPrice}
use Rattle.auc_model.specs.declared.turn.TurnReply.{TurnReply}
use Rattle.auc_model.specs.Put.{put, put2}
use Rattle.auc_model.specs.World.{Phase, World, ended}
use Rattle.auc_model.specs.Mails.{Takes, TakesNone}

-- an answer to a person about an object fits: numbers are in range, and the person is in the state wanted
pub record FitsAnswer (g : Phase) (w : World) (s i j : ℕ) (p : ℤ) (wanted : PersonState) : Type 0 where
  pub person : i < g.persons
  pub shard : i % g.shards ≡ s
  pub object : j < g.objects
  pub price : IsPrice p
  pub state : w.state i ≡ wanted

-- the letter fits the shard s of the persons
abbrev pub FitsLetter : Phase → World → ℕ → Letter → Type 0
FitsLetter g w s (Letter.Award i j p) = FitsAnswer g w s i j p (PersonState.Waits j)
FitsLetter g w s (Letter.Refused i j p) = FitsAnswer g w s i j p (PersonState.Waits j)
FitsLetter g w s (Letter.Outbid i j p) = FitsAnswer g w s i j p (PersonState.Holds j)
FitsLetter g w s (Letter.Price j p) = (j < g.objects) × IsPrice p
FitsLetter g w s (Letter.Bid i a j p) = ⊥
FitsLetter g w s (Letter.First j) = ⊥
FitsLetter g w s (Letter.Stop y) = ⊥

-- the price of the letter is below the shard's copy
abbrev pub Falls : World → ℕ → Letter → Type 0
Falls w s (Letter.Award i j p) = p <ℤ w.copy s j
Falls w s (Letter.Refused i j p) = p <ℤ w.copy s j
Falls w s (Letter.Outbid i j p) = p <ℤ w.copy s j
Falls w s (Letter.Price j p) = p <ℤ w.copy s j
Falls w s (Letter.Bid i a j p) = ⊥
Falls w s (Letter.First j) = ⊥
Falls w s (Letter.Stop y) = ⊥

-- the price of the letter is no less than the shard's copy
abbrev pub Rises : World → ℕ → Letter → Type 0
Rises w s (Letter.Award i j p) = w.copy s j ≤ℤ p
Rises w s (Letter.Refused i j p) = w.copy s j ≤ℤ p
Rises w s (Letter.Outbid i j p) = w.copy s j ≤ℤ p
Rises w s (Letter.Price j p) = w.copy s j ≤ℤ p
Rises w s (Letter.Bid i a j p) = ⊥
Rises w s (Letter.First j) = ⊥
Rises w s (Letter.Stop y) = ⊥

-- person i of the shard s now holds j; or, below, it is free, and the last in the list of free persons
abbrev pub held_after : World → ℕ → ℕ → ℕ → ℤ → World
held_after w s i j p = record w { state = put w.state i (PersonState.Holds j); copy = put2 w.copy s j p }

abbrev pub free_after : World → ℕ → ℕ → ℕ → ℤ → World
free_after w s i j p =
    record w
    { state = put w.state i PersonState.Free; idle = put w.idle s (w.idle s ++ i ∷ []); copy = put2 w.copy s j p }

-- the world after the shard s has taken a letter that fits: the copy becomes the letter's price
abbrev pub after_letter : World → ℕ → Letter → World
after_letter w s (Letter.Award i j p) = held_after w s i j p
after_letter w s (Letter.Refused i j p) = free_after w s i j p
after_letter w s (Letter.Outbid i j p) = free_after w s i j p
after_letter w s (Letter.Price j p) = record w { copy = put2 w.copy s j p }
after_letter w s (Letter.Bid i a j p) = w
after_letter w s (Letter.First j) = w
after_letter w s (Letter.Stop y) = w

-- PersonTake(s): no letter, a letter that fits, one that doesn't, or one whose price is below the copy
pub data PersonTakeTurn (g : Phase) (w : World) (s : ℕ) (r : TurnReply) (v : World) : Type 0 where
  no_letter : ((g.shards ≤ s) ⊎ TakesNone w.persons_mail s) → r ≡ TurnReply.Nothing → v ≡ w → PersonTakeTurn g w s r v
  hears : (x k : ℕ) (l : Letter) (m : Mail Letter) → s < g.shards → Takes w.persons_mail s x k l m
      → FitsLetter g w s l → Rises w s l
      → r ≡ TurnReply.Moved → v ≡ after_letter (record w { persons_mail = m }) s l → PersonTakeTurn g w s r v
  strays : (x k : ℕ) (l : Letter) (m : Mail Letter) → s < g.shards → Takes w.persons_mail s x k l m
      → (FitsLetter g w s l → ⊥)
      → r ≡ TurnReply.Moved → v ≡ ended (record w { persons_mail = m }) Why.Stray → PersonTakeTurn g w s r v
  falls : (x k : ℕ) (l : Letter) (m : Mail Letter) → s < g.shards → Takes w.persons_mail s x k l m
      → FitsLetter g w s l → Falls w s l
      → r ≡ TurnReply.Moved → v ≡ ended (record w { persons_mail = m }) Why.Fell → PersonTakeTurn g w s r v
