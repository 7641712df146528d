-- The prices and the holders that the object shards have at the end.
use Rattle.std.specs.Prelude.{◌≡◌, ℕ, ℤ, Option, length}
use Rattle.auc_letters.specs.declared.state.Held.{Held}
use Rattle.auc_objects.specs.Objects.{Objects, holder_of, price_of}

-- the object shard of number k
pub record IsOwnShard (shards objects k : ℕ) (s : Objects) : Type 0 where
  pub number : s.shard ≡ k
  pub of : s.of ≡ shards
  pub prices : length s.prices ≡ objects

-- the price and the holder of the object in its shard
pub record Gathers (s : Objects) (j : ℕ) (price : ℤ) (holder : Option Held) : Type 0 where
  pub price_is : price ≡ price_of s j
  pub holder_is : holder ≡ holder_of s j
