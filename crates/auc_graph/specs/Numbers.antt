-- The number that a token spells.
use Rattle.std.specs.Prelude.{ℕ, suc, ◌^◌, Bool, true, false, ◌&&◌, ◌==◌, nat_le, if◌then◌else◌, List, [], ◌∷◌, Option, Some, None, map, ℤ, pos, neg_ℤ, unsigned_abs, ◌≡◌, ◌<◌, ◌≤◌, length, take}
use Rattle.std.specs.Option.{option_map, option_map_or}
use Rattle.std.specs.List.{before_first, after_first, list_all, prefix_len, position_or_len}
use Rattle.std.specs.Char.{is_ascii_digit}
use Rattle.std.specs.Str.Parse.{digits_value}
use Rattle.auc_graph.specs.declared.number.Number.{Number}
use Rattle.auc_graph.specs.declared.number.Number.TheVariants.{Bad, Value, Huge}
use Rattle.auc_graph.specs.Tokens.{is_nonempty, is_separator, tokens}

abbrev pub is_point : ℕ → Bool
is_point b = b == 46

abbrev pub is_zero : ℕ → Bool
is_zero b = b == 48

-- one or more digits, and optionally a point that only zeros may follow
unfoldable pub is_magnitude : List ℕ → Bool
is_magnitude bytes =
    is_nonempty (before_first is_point bytes) && list_all is_ascii_digit (before_first is_point bytes) && list_all
    is_zero (after_first is_point bytes)

-- the number that such bytes spell
unfoldable pub magnitude : List ℕ → Option ℕ
magnitude bytes = if is_magnitude bytes then Some (digits_value 10 (before_first is_point bytes)) else None

-- whether the first byte is a minus, and the bytes after the sign, or all bytes if there is no sign
unfoldable pub split_sign : List ℕ → Bool × List ℕ
split_sign [] = (false, [])
split_sign (b ∷ bytes) = if b == 43 then (false, bytes) else (if b == 45 then (true, bytes) else (false, b ∷ bytes))

abbrev pub signed : Bool → ℕ → ℤ
signed negative n = if negative then neg_ℤ (pos n) else pos n

-- the number that a token spells, of any size: an optional sign and a magnitude
unfoldable pub numeral : List ℕ → Option ℤ
numeral token = option_map (signed (split_sign token).0) (magnitude (split_sign token).1)

-- a number by its size: above 10 ^ 18 in magnitude only that it is huge
abbrev pub sized : ℤ → Number
sized z = if nat_le (unsigned_abs z) (10 ^ 18) then Value z else Huge

unfoldable pub number : List ℕ → Number
number token = option_map_or sized (numeral token) Bad

-- the tokens of a text, each as a number
unfoldable pub numbers : List ℕ → List Number
numbers text = map number (tokens text)

-- the number of bytes that a point and the zeros after it take at the front
abbrev pub fraction_len : List ℕ → ℕ
fraction_len [] = 0
fraction_len (b ∷ bytes) = if is_point b then suc (prefix_len is_zero bytes) else 0

-- the token at the front consists of len digits of this value, which is at most 10 ^ 18
pub record IsPlainToken (bytes : List ℕ) (value len : ℕ) : Type 0 where
  pub token : len ≡ position_or_len is_separator bytes
  pub some : 0 < len
  pub few : len ≤ length bytes
  pub digits : list_all is_ascii_digit (take len bytes) ≡ true
  pub value_is : value ≡ digits_value 10 (take len bytes)
  pub small : value ≤ 10 ^ 18
