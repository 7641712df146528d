-- Rising lists of numbers.
use Rattle.std.specs.Prelude.{ℕ, ◌+◌, ◌≤◌, ◌<◌, List, [], ◌∷◌, AllPairs}

-- each number is below each later one
abbrev pub IsRising : List ℕ → Type 0
IsRising numbers = AllPairs (λ a b. a < b) numbers

-- the number is `least` or above and below `end`, and this holds of those behind it
pub record RisesFrom (least end k : ℕ) (Behind : Type 0) : Type 0 where
  pub low : least ≤ k
  pub high : k < end
  pub behind : Behind

-- each number is `least` or above, above the one before it, and below `end`
abbrev pub Rises : ℕ → ℕ → List ℕ → Type 0
Rises least end [] = Unit {0}
Rises least end (k ∷ numbers) = RisesFrom least end k (Rises (k + 1) end numbers)
