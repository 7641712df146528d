-- The lines and columns of the tokens of a text.
use Rattle.std.specs.Prelude.{◌≡◌, ℕ, ◌+◌, ◌≤◌, ◌==◌, Bool, nat_le, List, ◌∷◌, ◌++◌, length, take, reverse, Option, Some, None}
use Rattle.std.specs.List.{count_by, position_or_len}
use Rattle.auc_graph.specs.Tokens.{tokens}
use Rattle.auc_place.specs.declared.place.Place.{Place}
use Rattle.auc_place.specs.declared.place.TheConstants.{MOST_SHOWN}

abbrev pub is_line_feed : ℕ → Bool
is_line_feed b = b == 10

-- the line after these bytes: one more than the line feeds among them
abbrev pub line_behind : List ℕ → ℕ
line_behind before = count_by is_line_feed before + 1

-- the column after these bytes: one more than the bytes since the last line feed
abbrev pub column_behind : List ℕ → ℕ
column_behind before = position_or_len is_line_feed (reverse before) + 1

-- The text consists of these three parts, and the middle one is the whole token of this number, counted from 0.
pub record IsTokenOf (text : List ℕ) (number : ℕ) (before token behind : List ℕ) : Type 0 where
  pub parts : text ≡ before ++ token ++ behind
  pub numbered : length (tokens before) ≡ number
  pub whole : tokens text ≡ tokens before ++ (token ∷ tokens behind)

-- a place shows the first bytes of a token, and whether they are all
pub record shows (place : Place) (token : List ℕ) : Type 0 where
  pub front : place.front.items ≡ take MOST_SHOWN token
  pub whole : place.whole ≡ nat_le (length token) MOST_SHOWN

-- the place of the token of this number
pub record IsPlaceOf (text : List ℕ) (number : ℕ) (place : Place) : Type 0 where
  pub before : List ℕ
  pub token : List ℕ
  pub behind : List ℕ
  pub is : IsTokenOf text number before token behind
  pub line : place.line ≡ line_behind before
  pub column : place.column ≡ column_behind before
  pub shown : shows place token

-- a text has a token of this number at this place, or no more tokens than this number
abbrev pub IsFound : List ℕ → ℕ → Option Place → Type 0
IsFound text number (Some place) = IsPlaceOf text number place
IsFound text number None = length (tokens text) ≤ number

-- the token of this number, if there is one, doesn't begin among the first `count` bytes
abbrev pub BeginsBehind : List ℕ → ℕ → ℕ → Type 0
BeginsBehind text number count = length (tokens (take count text)) ≤ number
