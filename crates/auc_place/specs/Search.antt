-- The state of the search for a token, after a beginning of the text.
use Rattle.std.specs.Prelude.{◌≡◌, ℕ, ◌<◌, ◌≤◌, Bool, true, false, List, [], ◌∷◌, ◌++◌, length, ⊤}
use Rattle.auc_graph.specs.Tokens.{is_separator, tokens}
use Rattle.auc_place.specs.declared.place.Place.{Place}
use Rattle.auc_place.specs.declared.cursor.Cursor.{Cursor}
use Rattle.auc_place.specs.declared.finding.Finding.{Finding}
use Rattle.auc_place.specs.declared.finding.Finding.TheVariants.{Before, Within, Behind}
use Rattle.auc_place.specs.Places.{IsPlaceOf, line_behind, column_behind, shows}

-- the bytes have no separator among them
abbrev pub IsPlain : List ℕ → Type 0
IsPlain [] = ⊤
IsPlain (b ∷ bs) = (is_separator b ≡ false) × IsPlain bs

-- the text ends outside a token: no token of what follows begins in it
abbrev pub IsApart : List ℕ → Type 0
IsApart seen = (more : List ℕ) → tokens (seen ++ more) ≡ tokens seen ++ tokens more

-- the text ends inside a token: bytes that follow and are no separators continue it
abbrev pub IsInside : List ℕ → Type 0
IsInside seen = (more : List ℕ) → IsPlain more → length (tokens (seen ++ more)) ≡ length (tokens seen)

abbrev pub EndsSo : Bool → List ℕ → Type 0
EndsSo true seen = IsInside seen
EndsSo false seen = IsApart seen

-- this number of tokens begins in the text, and it ends inside a token or outside
pub record HasTokens (seen : List ℕ) (count : ℕ) (inside : Bool) : Type 0 where
  pub many : count ≡ length (tokens seen)
  pub ends : EndsSo inside seen

pub record IsCursor (seen : List ℕ) (cursor : Cursor) : Type 0 where
  pub has : HasTokens seen cursor.tokens cursor.inside
  pub line : cursor.line ≡ line_behind seen
  pub column : cursor.column ≡ column_behind seen

-- the token of this number has begun, and no separator has come since then
pub record IsBegun (number : ℕ) (seen : List ℕ) (place : Place) : Type 0 where
  pub before : List ℕ
  pub token : List ℕ
  pub parts : seen ≡ before ++ token
  pub apart : IsApart before
  pub numbered : length (tokens before) ≡ number
  pub some : 0 < length token
  pub plain : IsPlain token
  pub line : place.line ≡ line_behind before
  pub column : place.column ≡ column_behind before
  pub shown : shows place token

abbrev pub IsFinding : ℕ → List ℕ → Finding → Type 0
IsFinding number seen (Before cursor) = IsCursor seen cursor × (length (tokens seen) ≤ number)
IsFinding number seen (Within place) = IsBegun number seen place × (place.whole ≡ true)
IsFinding number seen (Behind place) = (more : List ℕ) → IsPlaceOf (seen ++ more) number place

-- the place of the token is not known yet
abbrev pub IsOpen : Finding → Type 0
IsOpen (Before cursor) = ⊤
IsOpen (Within place) = ⊤
IsOpen (Behind place) = ⊥
