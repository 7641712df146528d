-- Numbers of a few digits and a separator.
use Rattle.std.proofs.Common.{◌≡◌, ℕ, ◌+◌, ◌-◌, Bool, ◌<◌, ◌≤◌, ◌^◌, not, length, take, drop, List, [], ◌∷◌, ◌++◌, refl, sym, ap, ◌∙◌, arith}
use Rattle.std.specs.Prelude.{pos}
use Rattle.std.proofs.Math.Nat.{pow-le-pow_right}
use Rattle.std.specs.List.{prefix_len, position_or_len}
use Rattle.std.proofs.lemmas.List.{drop-drop, take-append-drop, take-append-le, length-append, length-drop}
use Rattle.std.proofs.lemmas.Bool.{cases_Bool}
use Rattle.std.proofs.Common.{inl, inr}
use Rattle.auc_graph.specs.declared.number.Number.TheVariants.{Value}
use Rattle.auc_graph.specs.Tokens.{is_separator}
use Rattle.auc_graph.specs.Numbers.{numbers, split_sign, signed, IsPlainToken}
use Rattle.auc_graph.proofs.NumberLaws.{number_of_plain, number_of_signed, sign_len, sign_text, sign_drop}
use Rattle.auc_graph.proofs.PieceLaws.{whole_token_and, prefix_front}

pub tens_up : (i n : ℕ) → i ≤ n → 10 ^ i ≤ 10 ^ n
tens_up i n h = pow-le-pow_right (omega arith) h

no_separators : (bytes : List ℕ) → 0 < position_or_len is_separator bytes → 0 ≡ prefix_len is_separator bytes
no_separators [] h = refl
no_separators (b ∷ bytes) h =
    elim (cases_Bool (is_separator b)) [
      | inl parts ↦ let e : position_or_len is_separator (b ∷ bytes) ≡ 0 = rw parts refl in absurd (omega (arith, e, h))
      | inr fails ↦ let e : prefix_len is_separator (b ∷ bytes) ≡ 0 = rw fails refl in sym e
    ]

-- what holds of the token at the front of a prefix holds of the whole text
pub whole_front : (n : ℕ) (bytes front : List ℕ) (value len : ℕ) → front ≡ take n bytes → len < length front → IsPlainToken front value len → IsPlainToken bytes value len
whole_front n bytes front value len is lt h =
    let all : front ++ drop n bytes ≡ bytes = ap (λ (t : List ℕ). t ++ drop n bytes) is ∙ take-append-drop n bytes in
    let same : take len bytes ≡ take len front = sym (ap (take len) all) ∙ take-append-le len front (drop n bytes) (omega (arith, lt)) in
    record {
      token = h.token ∙ sym (prefix_front (λ b. not (is_separator b)) front (drop n bytes) (omega (arith, lt, h.token))) ∙ ap (position_or_len is_separator) all;
      some = h.some;
      few = omega (arith, lt, sym (ap length all), length-append front (drop n bytes));
      digits = rw same h.digits;
      value_is = rw same h.value_is;
      small = h.small;
    }

-- a sign or none, digits, and a separator
pub signed_found : (bytes unsigned rest : List ℕ) (negative : Bool) (value len : ℕ) → (negative, unsigned) ≡ split_sign bytes → length unsigned ≤ length bytes → IsPlainToken unsigned value len → len < length unsigned → rest ≡ drop (len + 1) unsigned
    → (more : List ℕ) → numbers (bytes ++ more) ≡ Value (signed negative value) ∷ numbers (rest ++ more)
signed_found bytes unsigned rest negative value len is few h lt behind more =
    let n : ℕ = length bytes - length unsigned + len in
    let token : n ≡ position_or_len is_separator bytes = omega (arith, sign_len bytes unsigned negative is, h.token) in
    let count : length bytes - length unsigned + (len + 1) ≡ n + 1 = omega arith in
    let left : rest ≡ drop (n + 1) bytes = behind ∙ ap (drop (len + 1)) (sign_drop bytes unsigned negative is) ∙ drop-drop (len + 1) (length bytes - length unsigned) bytes ∙ ap (λ (m : ℕ). drop m bytes) count in
    whole_token_and bytes rest bytes 0 n (no_separators bytes (omega (arith, token, h.some))) refl token (omega (arith, few, lt)) left more
    ∙ ap (λ x. x ∷ numbers (rest ++ more)) (number_of_signed (take n bytes) unsigned negative value len h (sign_text bytes unsigned negative len is))

pub behind_sign : (bytes unsigned rest : List ℕ) (negative : Bool) (n : ℕ) → (negative, unsigned) ≡ split_sign bytes → length unsigned ≤ length bytes → n ≤ length unsigned → rest ≡ drop n unsigned → rest ≡ drop (length bytes - length rest) bytes
behind_sign bytes unsigned rest negative n is few le behind =
    let count : length bytes - length unsigned + n ≡ length bytes - length rest = omega (arith, ap length behind, length-drop n unsigned, few, le) in
    behind ∙ ap (drop n) (sign_drop bytes unsigned negative is) ∙ drop-drop n (length bytes - length unsigned) bytes ∙ ap (λ (m : ℕ). drop m bytes) count

-- the same without a sign
pub short_found : (bytes rest : List ℕ) (value len : ℕ) → IsPlainToken bytes value len → len < length bytes → rest ≡ drop (len + 1) bytes → (more : List ℕ) → numbers (bytes ++ more) ≡ Value (pos value) ∷ numbers (rest ++ more)
short_found bytes rest value len h lt behind more =
    whole_token_and bytes rest bytes 0 len (no_separators bytes (omega (arith, h.token, h.some))) refl h.token lt behind more
    ∙ ap (λ x. x ∷ numbers (rest ++ more)) (number_of_plain bytes value len h)
