-- The bid of a person in the direct solver: what it does to the price, and the rule of its amount.
use Rattle.std.specs.Prelude.{ℤ, pos, ◌≡◌, ◌⊎◌, ◌+ℤ◌, ◌*ℤ◌, ◌≤ℤ◌, List, All, Contains, set}
use Rattle.auc_graph.specs.Dual.{price_at}
use Rattle.auc_rows.specs.declared.arc.ShortArc.{ShortArc}
use Rattle.auc_market.specs.Scan.{short_value}

-- A bid by an arc of the person raises the object's price by eps or more. At the new price no other arc of the person
-- is better by more than eps.
pub record IsRaise (scale eps : ℤ) (prices : List ℤ) (row : List ShortArc) (arc : ShortArc) (amount : ℤ) : Type 0 where
  pub listed : Contains row arc
  pub more : (price_at prices arc.object +ℤ eps) ≤ℤ amount
  pub slack : All
      (λ b. short_value scale (set prices arc.object amount) arc ≤ℤ (short_value scale (set prices arc.object amount) b +ℤ eps))
      row

-- An amount by the rule of a bid: the object's price, plus a margin, plus eps. Each other arc's value is at least this
-- arc's plus the margin. Where there is no other arc, the margin is at most the scaled spread of all costs.
pub record IsOffer (scale spread eps : ℤ) (prices : List ℤ) (row : List ShortArc) (arc : ShortArc) (amount : ℤ) : Type 0 where
  pub listed : Contains row arc
  pub margin : ℤ
  pub low : pos 0 ≤ℤ margin
  pub others : All (λ b. (b ≡ arc) ⊎ ((short_value scale prices arc +ℤ margin) ≤ℤ short_value scale prices b)) row
  pub only : All (λ b. b ≡ arc) row → margin ≤ℤ (scale *ℤ spread)
  pub is : amount ≡ ((price_at prices arc.object +ℤ margin) +ℤ eps)
