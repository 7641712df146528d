-- What a token spells, by the parts that the code reads.
use Rattle.std.proofs.Common.{◌≡◌, ℕ, zero, suc, ◌+◌, ◌-◌, ◌<◌, ◌≤◌, ◌^◌, min, get_or, Bool, true, false, length, take, drop, ◌⊎◌, List, [], ◌∷◌, Option, Some, None, refl, sym, ap, ◌∙◌, arith, inl, inr}
use Rattle.std.specs.Prelude.{unsigned_abs}
use Rattle.std.specs.Char.{is_ascii_digit, digit_value}
use Rattle.std.specs.List.{prefix_len, position_or_len}
use Rattle.std.specs.Prelude.{map, ◌==◌}
use Rattle.std.specs.Option.{option_map, option_map_or}
use Rattle.std.proofs.lemmas.Bool.{cases_lt, cases_Bool, and_parts}
use Rattle.std.proofs.lemmas.Bool.Decides.{nat_tests}
use Rattle.auc_graph.specs.declared.number.Number.TheVariants.{Bad, Huge}
use Rattle.std.specs.Prelude.{nat_le, pos}
use Rattle.std.specs.List.{list_all}
use Rattle.auc_graph.specs.declared.number.Number.TheVariants.{Value}
use Rattle.std.specs.Str.Parse.{digits_value}
use Rattle.std.proofs.lemmas.List.{append-nil}
use Rattle.std.proofs.lemmas.List.Sums.{position_or_len_is}
use Rattle.auc_graph.specs.Tokens.{is_nonempty, is_separator}
use Rattle.auc_graph.specs.Numbers.{IsPlainToken, number, numbers, numeral, magnitude, is_magnitude, split_sign, signed, sized}
use Rattle.auc_graph.proofs.MagnitudeLaws.{none_if, magnitude_is_plain, digit_is_no_separator, digits_pass, some_digits, some_parts}
use Rattle.auc_graph.proofs.TokenLaws.{no_token, next_token, prefix_len_is}

pub value_of_digit : (c : ℕ) → is_ascii_digit c ≡ true → (digit_value c ≡ c - 48) × (48 ≤ c)
value_of_digit c h = (grind (arith, nat_tests), grind (arith, nat_tests))

-- the bytes before i are digits, and so is the one at i
pub all_and_next : (bytes : List ℕ) (i : ℕ) → ((k : ℕ) → k < i → is_ascii_digit (get_or bytes k 0) ≡ true) → is_ascii_digit (get_or bytes i 0) ≡ true → (k : ℕ) → k < i + 1 → is_ascii_digit (get_or bytes k 0) ≡ true
all_and_next bytes i before here k lt =
    elim (cases_lt k i) [
      | inl less ↦ before k less
      | inr more ↦ let same : k ≡ i = omega arith in ap (λ (n : ℕ). is_ascii_digit (get_or bytes n 0)) same ∙ here
    ]

abs_signed : (negative : Bool) (n : ℕ) → unsigned_abs (signed negative n) ≡ n
abs_signed true zero = refl
abs_signed true (suc n) = refl
abs_signed false n = refl

huge : (negative : Bool) (n : ℕ) → 10 ^ 18 < n → sized (signed negative n) ≡ Huge
huge negative n lt = rw (abs_signed negative n) (grind (arith, nat_tests))

sized_capped : (negative : Bool) (n : ℕ) → sized (signed negative (min n (10 ^ 18 + 1))) ≡ sized (signed negative n)
sized_capped negative n =
    elim (cases_lt (10 ^ 18) n) [
      | inl lt ↦ huge negative (min n (10 ^ 18 + 1)) (omega arith) ∙ sym (huge negative n lt)
      | inr le ↦ ap (λ (m : ℕ). sized (signed negative m)) (omega arith)
    ]

none_from : (negative : Bool) (o : Option ℕ) → option_map (λ n. min n (10 ^ 18 + 1)) o ≡ None → option_map_or sized (option_map (signed negative) o) Bad ≡ Bad
none_from negative None h = refl
none_from negative (Some n) h = absurd cc

some_from : (negative : Bool) (o : Option ℕ) (m : ℕ) → option_map (λ n. min n (10 ^ 18 + 1)) o ≡ Some m → option_map_or sized (option_map (signed negative) o) Bad ≡ sized (signed negative m)
some_from negative None m h = absurd cc
some_from negative (Some n) m h =
    let e : min n (10 ^ 18 + 1) ≡ m = cc in
    sym (sized_capped negative n) ∙ ap (λ (k : ℕ). sized (signed negative k)) e

pub number_none : (token : List ℕ) → option_map (λ n. min n (10 ^ 18 + 1)) (magnitude (split_sign token).1) ≡ None → number token ≡ Bad
unfolding number numeral
number_none token h = none_from (split_sign token).0 (magnitude (split_sign token).1) h

pub number_some : (token : List ℕ) (m : ℕ) → option_map (λ n. min n (10 ^ 18 + 1)) (magnitude (split_sign token).1) ≡ Some m → number token ≡ sized (signed (split_sign token).0 m)
unfolding number numeral
number_some token m h = some_from (split_sign token).0 (magnitude (split_sign token).1) m h

-- ---- the sign

-- the first byte is a sign, whatever is behind it
record IsSign (b : ℕ) (bytes : List ℕ) : Type 0 where
  behind : (split_sign (b ∷ bytes)).1 ≡ bytes
  no_separator : is_separator b ≡ false
  splits : (n : ℕ) → split_sign (b ∷ take n bytes) ≡ ((split_sign (b ∷ bytes)).0, take n bytes)

sign_is : (b : ℕ) (bytes : List ℕ) → IsSign b bytes ⊎ ((split_sign (b ∷ bytes) ≡ (false, b ∷ bytes)) × ((more : List ℕ) → split_sign (b ∷ more) ≡ (false, b ∷ more)))
unfolding split_sign is_separator
sign_is b bytes =
    elim (cases_Bool (b == 43)) [
      | inl plus ↦ inl (record { behind = rw plus refl; no_separator = grind (arith, nat_tests); splits = λ n. rw plus refl })
      | inr no_plus ↦ elim (cases_Bool (b == 45)) [
        | inl minus ↦ inl (record { behind = rw (no_plus, minus) refl; no_separator = grind (arith, nat_tests); splits = λ n. rw (no_plus, minus) refl })
        | inr no_minus ↦ inr (rw (no_plus, no_minus) refl, λ more. rw (no_plus, no_minus) refl)
      ]
    ]

pub sign_len : (bytes rest : List ℕ) (negative : Bool) → (negative, rest) ≡ split_sign bytes → position_or_len is_separator bytes ≡ length bytes - length rest + position_or_len is_separator rest
unfolding split_sign
sign_len [] rest negative is =
    let none : rest ≡ [] = ap (λ x. x.1) is in
    omega (arith, ap length none, ap (position_or_len is_separator) none)
sign_len (b ∷ bytes) rest negative is =
    elim (sign_is b bytes) [
      | inl sign ↦
          let rest_is : rest ≡ bytes = ap (λ x. x.1) is ∙ sign.behind in
          let more : position_or_len is_separator (b ∷ bytes) ≡ suc (position_or_len is_separator bytes) = rw sign.no_separator (omega arith) in
          omega (arith, more, ap length rest_is, ap (position_or_len is_separator) rest_is)
      | inr unsigned ↦
          let rest_is : rest ≡ b ∷ bytes = ap (λ x. x.1) is ∙ ap (λ x. x.1) unsigned.0 in
          omega (arith, ap length rest_is, ap (position_or_len is_separator) rest_is)
    ]

take_nothing : (n : ℕ) → take {A = ℕ} n [] ≡ []
take_nothing zero = refl
take_nothing (suc n) = refl

unsigned_text : (b : ℕ) (bytes : List ℕ) (n : ℕ) → ((more : List ℕ) → split_sign (b ∷ more) ≡ (false, b ∷ more)) → split_sign (take n (b ∷ bytes)) ≡ (false, take n (b ∷ bytes))
unfolding split_sign
unsigned_text b bytes zero is = refl
unsigned_text b bytes (suc n) is = is (take n bytes)

pub sign_text : (bytes rest : List ℕ) (negative : Bool) (n : ℕ) → (negative, rest) ≡ split_sign bytes → split_sign (take (length bytes - length rest + n) bytes) ≡ (negative, take n rest)
unfolding split_sign
sign_text [] rest negative n is =
    let front : ◌≡◌ {A = Bool × List ℕ} (negative, take n rest) (false, take n []) = ap (λ x. (x.0, take n x.1)) is in
    let none : ◌≡◌ {A = Bool × List ℕ} (false, take n []) (false, []) = ap (λ (t : List ℕ). (false, t)) (take_nothing n) in
    ap split_sign (take_nothing (length {A = ℕ} [] - length rest + n)) ∙ sym (front ∙ none)
sign_text (b ∷ bytes) rest negative n is =
    elim (sign_is b bytes) [
      | inl sign ↦
          let rest_is : rest ≡ bytes = ap (λ x. x.1) is ∙ sign.behind in
          let count : suc (length bytes) - length rest + n ≡ suc n = omega (arith, ap length rest_is) in
          ap (λ (m : ℕ). split_sign (take m (b ∷ bytes))) count ∙ sign.splits n
          ∙ ap (λ (t : List ℕ). ((split_sign (b ∷ bytes)).0, take n t)) (sym sign.behind) ∙ sym (ap (λ x. (x.0, take n x.1)) is)
      | inr unsigned ↦
          let rest_is : rest ≡ b ∷ bytes = ap (λ x. x.1) is ∙ ap (λ x. x.1) unsigned.0 in
          let count : suc (length bytes) - length rest + n ≡ n = omega (arith, ap length rest_is) in
          ap (λ (m : ℕ). split_sign (take m (b ∷ bytes))) count ∙ unsigned_text b bytes n unsigned.1 ∙ sym (ap (λ x. (x.0, take n x.1)) (is ∙ unsigned.0))
    ]

-- the bytes after the sign
pub sign_drop : (bytes rest : List ℕ) (negative : Bool) → (negative, rest) ≡ split_sign bytes → rest ≡ drop (length bytes - length rest) bytes
unfolding split_sign
sign_drop [] rest negative is =
    let none : rest ≡ [] = ap (λ x. x.1) is in
    none ∙ sym (drop_nothing (length {A = ℕ} [] - length rest))
  where
    drop_nothing : (n : ℕ) → drop {A = ℕ} n [] ≡ []
    drop_nothing zero = refl
    drop_nothing (suc n) = refl
sign_drop (b ∷ bytes) rest negative is =
    elim (sign_is b bytes) [
      | inl sign ↦
          let rest_is : rest ≡ bytes = ap (λ x. x.1) is ∙ sign.behind in
          let count : suc (length bytes) - length rest ≡ 1 = omega (arith, ap length rest_is) in
          rest_is ∙ sym (ap (λ (m : ℕ). drop m (b ∷ bytes)) count)
      | inr unsigned ↦
          let rest_is : rest ≡ b ∷ bytes = ap (λ x. x.1) is ∙ ap (λ x. x.1) unsigned.0 in
          let count : suc (length bytes) - length rest ≡ 0 = omega (arith, ap length rest_is) in
          rest_is ∙ sym (ap (λ (m : ℕ). drop m (b ∷ bytes)) count)
    ]

-- ---- a token has no separator in it

pub parted_is_bad : (token : List ℕ) → position_or_len is_separator token < length token → number token ≡ Bad
parted_is_bad token lt =
    elim (cases_Bool (is_magnitude (split_sign token).1)) [
      | inl fine ↦ absurd (omega (arith, sign_len token (split_sign token).1 (split_sign token).0 refl, magnitude_is_plain (split_sign token).1 fine))
      | inr broken ↦ number_none token (ap (λ (o : Option ℕ). option_map (λ n. min n (10 ^ 18 + 1)) o) (none_if (split_sign token).1 broken))
    ]

-- ---- the numbers of a text

pub numbers_none : (text : List ℕ) → length text ≤ prefix_len is_separator text → numbers text ≡ []
unfolding numbers
numbers_none text h = ap (map number) (no_token text h)

pub numbers_next : (text : List ℕ) (s n : ℕ) → s ≡ prefix_len is_separator text → s < length text → n ≡ position_or_len is_separator (drop s text)
    → (0 < n) × (numbers text ≡ number (take n (drop s text)) ∷ numbers (drop n (drop s text)))
unfolding numbers
numbers_next text s n es lt en = let next = next_token text s n es lt en in (next.0, ap (map number) next.1)

-- ---- a token that is a few digits

-- digits, and then a separator
pub plain_token : (bytes : List ℕ) (value i : ℕ) → 0 < i → i < length bytes → ((k : ℕ) → k < i → is_ascii_digit (get_or bytes k 0) ≡ true) → is_ascii_digit (get_or bytes i 0) ≡ false → is_separator (get_or bytes i 0) ≡ true
    → value ≡ digits_value 10 (take i bytes) → value < 10 ^ 18 → IsPlainToken bytes value i
plain_token bytes value i some lt digits stop parted is small =
    let count : prefix_len is_ascii_digit bytes ≡ i = prefix_len_is is_ascii_digit bytes i (omega arith) digits (λ _. stop) in
    record {
      token = sym (position_or_len_is is_separator bytes i 0 (omega arith) (λ k below. digit_is_no_separator (get_or bytes k 0) (digits k below)) (λ _. parted));
      some = some;
      few = omega arith;
      digits = digits_pass bytes i (sym count);
      value_is = is;
      small = omega arith;
    }

pub some_bytes : (bytes : List ℕ) → (length bytes == 0) ≡ false → 0 < length bytes
some_bytes [] h = absurd cc
some_bytes (b ∷ bytes) h = omega arith

-- digits, and then the end
pub plain_end : (bytes : List ℕ) (value i : ℕ) → 0 < length bytes → length bytes ≤ i → i ≤ length bytes → ((k : ℕ) → k < i → is_ascii_digit (get_or bytes k 0) ≡ true) → value ≡ digits_value 10 (take i bytes) → value < 10 ^ 18 → IsPlainToken bytes value (length bytes)
plain_end bytes value i some low high digits is small =
    let all : i ≡ length bytes = omega arith in
    let count : prefix_len is_ascii_digit bytes ≡ length bytes = prefix_len_is is_ascii_digit bytes (length bytes) (omega arith) (λ k lt. digits k (omega arith)) (λ lt. absurd (omega arith)) in
    record {
      token = sym (position_or_len_is is_separator bytes (length bytes) 0 (omega arith) (λ k lt. digit_is_no_separator (get_or bytes k 0) (digits k (omega arith))) (λ lt. absurd (omega arith)));
      some = some;
      few = omega arith;
      digits = digits_pass bytes (length bytes) (sym count);
      value_is = is ∙ ap (λ (n : ℕ). digits_value 10 (take n bytes)) all;
      small = omega arith;
    }

no_sign : (token : List ℕ) → is_nonempty token ≡ true → list_all is_ascii_digit token ≡ true → split_sign token ≡ (false, token)
unfolding split_sign
no_sign [] some h = absurd cc
no_sign (b ∷ token) some h =
    let digit = (and_parts (is_ascii_digit b) (list_all is_ascii_digit token) h).0 in
    let no_plus : (b == 43) ≡ false = grind (arith, nat_tests) in
    let no_minus : (b == 45) ≡ false = grind (arith, nat_tests) in
    rw (no_plus, no_minus) refl

told : (negative : Bool) (n : ℕ) → n ≤ 10 ^ 18 → sized (signed negative n) ≡ Value (signed negative n)
told negative n le = let t : nat_le n (10 ^ 18) ≡ true = grind (arith, nat_tests) in rw (abs_signed negative n, t) refl

some_number : (n : ℕ) → Option ℕ
some_number n = Some n

-- after a sign or none
pub number_of_signed : (token bytes : List ℕ) (negative : Bool) (value len : ℕ) → IsPlainToken bytes value len → split_sign token ≡ (negative, take len bytes) → number token ≡ Value (signed negative value)
unfolding some_number
number_of_signed token bytes negative value len is sign =
    let some : is_nonempty (take len bytes) ≡ true = some_digits bytes len is.some is.few in
    let whole : magnitude (take len bytes) ≡ Some (digits_value 10 (take len bytes)) = ap magnitude (sym (append-nil (take len bytes))) ∙ some_parts (take len bytes) [] is.digits some in
    let capped : min value (10 ^ 18 + 1) ≡ value = omega (arith, is.small) in
    let found : option_map (λ n. min n (10 ^ 18 + 1)) (magnitude (split_sign token).1) ≡ Some value =
    ap (λ (x : Bool × List ℕ). option_map (λ n. min n (10 ^ 18 + 1)) (magnitude x.1)) sign ∙ ap (option_map (λ n. min n (10 ^ 18 + 1))) whole
    ∙ ap (λ (n : ℕ). some_number (min n (10 ^ 18 + 1))) (sym is.value_is) ∙ ap some_number capped in
    number_some token value found ∙ ap (λ (x : Bool × List ℕ). sized (signed x.0 value)) sign ∙ told negative value is.small

pub number_of_plain : (bytes : List ℕ) (value len : ℕ) → IsPlainToken bytes value len → number (take len bytes) ≡ Value (pos value)
number_of_plain bytes value len is = number_of_signed (take len bytes) bytes false value len is (no_sign (take len bytes) (some_digits bytes len is.some is.few) is.digits)
