-- The tokens of a text: the runs of bytes between separators.
use Rattle.std.specs.Prelude.{◌≡◌, ◌<◌, ◌≤◌, length, slice_index, ℕ, Bool, true, false, ◌&&◌, ◌||◌, ◌==◌, nat_le, List, [], ◌∷◌, filter}
use Rattle.std.specs.List.{slice_split}

-- tab, LF, VT, FF, CR, the byte 26 and the space
unfoldable pub is_separator : ℕ → Bool
is_separator b = (nat_le 9 b && nat_le b 13) || (b == 26) || (b == 32)

abbrev pub is_nonempty : List ℕ → Bool
is_nonempty [] = false
is_nonempty (b ∷ bs) = true

-- the maximal runs of bytes that are no separators, in order; none is empty
unfoldable pub tokens : List ℕ → List (List ℕ)
tokens text = filter is_nonempty (slice_split is_separator text)

-- The first token at or after `from`: separators up to start, then other bytes up to end. There the text ends, or a
-- separator follows.
pub record IsFirstToken (text : List ℕ) (from start end : ℕ) : Type 0 where
  pub from_start : from ≤ start
  pub start_end : start < end
  pub in_text : end ≤ length text
  pub skipped : (k : ℕ) → from ≤ k → k < start → is_separator (slice_index text k) ≡ true
  pub taken : (k : ℕ) → start ≤ k → k < end → is_separator (slice_index text k) ≡ false
  pub whole : end < length text → is_separator (slice_index text end) ≡ true
