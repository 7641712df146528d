-- The prices of one object, from the copy of a shard of the persons over the letters to the true price.
use Rattle.std.specs.Prelude.{ℕ, ℤ, ◌≤ℤ◌, List, [], ◌∷◌, ◌++◌}
use Rattle.auc_model.specs.Put.{put, put2}

-- a rising sequence: from low, each price at least the one before, up to high
abbrev pub Rising : ℤ → List ℤ → ℤ → Type 0
Rising low [] high = low ≤ℤ high
Rising low (p ∷ ps) high = (low ≤ℤ p) × Rising p ps high

-- true prices by object; copies (stale prices), and the prices under way, by person shard and object
pub record Prices : Type 0 where
  pub price : ℕ → ℤ
  pub copy : ℕ → ℕ → ℤ
  pub news : ℕ → ℕ → List ℤ

-- on the way from the copy over the letters to the object, the price never falls
abbrev pub NeverFalls : Prices → Type 0
NeverFalls w = (s j : ℕ) → Rising (w.copy s j) (w.news s j) (w.price j)

-- the price of j rises to p
abbrev pub raise : Prices → ℕ → ℤ → Prices
raise w j p = record { price = put w.price j p; copy = w.copy; news = w.news }

-- the present price of j is sent to s
abbrev pub tell : Prices → ℕ → ℕ → Prices
tell w s j = record { price = w.price; copy = w.copy; news = put2 w.news s j (w.news s j ++ w.price j ∷ []) }

-- s takes the price p as its copy, and ps are left
abbrev pub learn : Prices → ℕ → ℕ → ℤ → List ℤ → Prices
learn w s j p ps = record { price = w.price; copy = put2 w.copy s j p; news = put2 w.news s j ps }

-- some prices under way are lost, and ps are left
abbrev pub lose : Prices → ℕ → ℕ → List ℤ → Prices
lose w s j ps = record { price = w.price; copy = w.copy; news = put2 w.news s j ps }
