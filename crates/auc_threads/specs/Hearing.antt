-- The prices that a person shard takes.
use Rattle.std.specs.Prelude.{◌≡◌, ◌⊎◌, ℕ, ◌<◌, ℤ, ◌<ℤ◌, List, [], ◌∷◌, ◌++◌, length, Contains}
use Rattle.auc_letters.specs.declared.letter.Letter.{Letter}
use Rattle.auc_graph.specs.Table.{Table, row_of}
use Rattle.auc_persons.specs.Persons.{Persons, NeverFall, copy_of}
use Rattle.auc_threads.specs.Taking.{Takes}
use Rattle.auc_threads.specs.Worker.{Box, Taker}

-- the letter has this price of the object
abbrev pub Tells : ℕ → ℤ → Letter → Type 0
Tells j p (Letter.Award i k q) = (k ≡ j) × (q ≡ p)
Tells j p (Letter.Refused i k q) = (k ≡ j) × (q ≡ p)
Tells j p (Letter.Outbid i k q) = (k ≡ j) × (q ≡ p)
Tells j p (Letter.Price k q) = (k ≡ j) × (q ≡ p)
Tells j p (Letter.Bid i a k q) = ⊥
Tells j p (Letter.First k) = ⊥
Tells j p (Letter.Stop y) = ⊥

-- one of the letters has this price of the object
pub record IsTold (letters : List Letter) (j : ℕ) (p : ℤ) : Type 0 where
  pub letter : Letter
  pub listed : Contains letters letter
  pub tells : Tells j p letter

-- one of the letters has a price of this object above p
pub record IsToldAbove (letters : List Letter) (j : ℕ) (p : ℤ) : Type 0 where
  pub earlier : ℤ
  pub told : IsTold letters j earlier
  pub above : p <ℤ earlier

-- one of the letters has a price of an object below the one at the start, or below that of an earlier letter
pub record Falls (start : ℕ → ℤ) (letters : List Letter) : Type 0 where
  pub front : List Letter
  pub letter : Letter
  pub back : List Letter
  pub are : letters ≡ front ++ letter ∷ back
  pub object : ℕ
  pub price : ℤ
  pub tells : Tells object price letter
  pub below : (price <ℤ start object) ⊎ IsToldAbove front object price

-- A person shard took letters. Each of its copies is as before or from one of the letters, and no copy falls. Where the
-- shard stops for a fall, one of the letters has a lower price.
pub record HearsOf (s : Persons) (letters : List Letter) (t : Persons) (fell : Type 0) : Type 0 where
  pub heard : (j : ℕ) → (copy_of t j ≡ copy_of s j) ⊎ IsTold letters j (copy_of t j)
  pub rise : NeverFall s.copies t.copies
  pub falls : fell → Falls (copy_of s) letters

-- the same, where it took the letters from its box
pub record Hears (x : Box) (old new : Taker Persons) (fell : Type 0) : Type 0 where
  pub letters : List Letter
  pub took : Takes x.room x.at old.seat letters new.seat
  pub hears : HearsOf old.shard letters new.shard fell

-- some person has no arc
pub record SomebodyStuck (t : Table) : Type 0 where
  pub person : ℕ
  pub known : person < length t.rows
  pub stuck : row_of t person ≡ []
