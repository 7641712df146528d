-- Eight bytes as a word, whose lowest bytes fix the first ones.
use Rattle.std.proofs.Common.{◌≡◌, ℕ, zero, suc, ◌+◌, ◌-◌, ◌*◌, ◌/◌, ◌%◌, ◌<◌, ◌≤◌, ◌^◌, true, false, length, get_or, take, List, refl, sym, ap, ◌∙◌, arith}
use Rattle.std.specs.Int.{w64, to_le_bytes, from_le_bytes}
use Rattle.std.specs.Int.Bits.{bit_and}
use Rattle.std.proofs.lemmas.Nat.{field_of, and_mask, le_bytes_8}
use Rattle.std.proofs.Math.Pow.{mod-mod-pow}
use Rattle.std.proofs.lemmas.List.{get_or-take, length-take-le}
use Rattle.std.proofs.lemmas.List.Sums.{fails_before_first, passes_at_first, position_or_len_is}
use Rattle.std.proofs.lemmas.Grind.{same_number_lists}
use Rattle.auc_graph.specs.Tokens.{is_separator}
use Rattle.auc_graph.specs.Numbers.{IsPlainToken}
use Rattle.auc_graph.specs.declared.line.WrittenPerson.{WrittenPerson}
use Rattle.auc_graph.specs.Written.{AreBytes, IsWritten}
use Rattle.auc_graph.proofs.ShortLaws.{whole_front}

-- byte k of a number is one of its lowest k + 1 + d bytes
low_byte : (n k d : ℕ) → n / 2 ^ (8 * k) % 2 ^ 8 ≡ n % 2 ^ (8 * (k + 1 + d)) / 2 ^ (8 * k) % 2 ^ 8
low_byte n k d =
    let count : 8 * (k + 1 + d) ≡ 8 * d + 8 + 8 * k = omega arith in
    sym (ap (λ (m : ℕ). n % 2 ^ m / 2 ^ (8 * k) % 2 ^ 8) count ∙ ap (λ (x : ℕ). x % 2 ^ 8) (field_of n (8 * d + 8) (8 * k)) ∙ mod-mod-pow (n / 2 ^ (8 * k)) (8 * d) 8)

same_byte : (a b m k : ℕ) → a % 2 ^ (8 * m) ≡ b % 2 ^ (8 * m) → k < m → a / 2 ^ (8 * k) % 2 ^ 8 ≡ b / 2 ^ (8 * k) % 2 ^ 8
same_byte a b m k same lt =
    let d : ℕ = m - (k + 1) in
    let count : m ≡ k + 1 + d = omega (arith, lt) in
    let low : a % 2 ^ (8 * (k + 1 + d)) ≡ b % 2 ^ (8 * (k + 1 + d)) = ap (λ (j : ℕ). a % 2 ^ (8 * j)) (sym count) ∙ same ∙ ap (λ (j : ℕ). b % 2 ^ (8 * j)) count in
    low_byte a k d ∙ ap (λ (x : ℕ). x / 2 ^ (8 * k) % 2 ^ 8) low ∙ sym (low_byte b k d)

-- the bytes that a number is written as
written_byte : (n k : ℕ) → k < 8 → get_or (to_le_bytes w64 n) k 0 ≡ n / 2 ^ (8 * k) % 2 ^ 8
written_byte n zero lt = omega arith
written_byte n (suc zero) lt = refl
written_byte n (suc (suc zero)) lt = refl
written_byte n (suc (suc (suc zero))) lt = refl
written_byte n (suc (suc (suc (suc zero)))) lt = refl
written_byte n (suc (suc (suc (suc (suc zero))))) lt = refl
written_byte n (suc (suc (suc (suc (suc (suc zero)))))) lt = refl
written_byte n (suc (suc (suc (suc (suc (suc (suc zero))))))) lt = refl
written_byte n (suc (suc (suc (suc (suc (suc (suc (suc k)))))))) lt = absurd (omega arith)

byte_of_word : (bytes : List ℕ) (word k : ℕ) → length bytes ≡ 8 → AreBytes bytes → word ≡ from_le_bytes w64 bytes → k < 8 → get_or bytes k 0 ≡ word / 2 ^ (8 * k) % 2 ^ 8
byte_of_word bytes word k len all is lt = sym (ap (λ (xs : List ℕ). get_or xs k 0) (le_bytes_8 bytes word len all is)) ∙ written_byte word k lt

-- words that are the same under a mask have the same first bytes
pub same_front : (xs ys : List ℕ) (a b m k : ℕ) → length xs ≡ 8 → length ys ≡ 8 → AreBytes xs → AreBytes ys → a ≡ from_le_bytes w64 xs → b ≡ from_le_bytes w64 ys → m ≤ 8
    → bit_and a (2 ^ (8 * m) - 1) ≡ bit_and b (2 ^ (8 * m) - 1) → k < m → get_or xs k 0 ≡ get_or ys k 0
same_front xs ys a b m k xlen ylen xall yall ais bis le same lt =
    let low : a % 2 ^ (8 * m) ≡ b % 2 ^ (8 * m) = sym (and_mask a (8 * m)) ∙ same ∙ and_mask b (8 * m) in
    byte_of_word xs a k xlen xall ais (omega (arith, le, lt)) ∙ same_byte a b m k low lt ∙ sym (byte_of_word ys b k ylen yall bis (omega (arith, le, lt)))

-- a token with a separator after it is fixed by these bytes
pub same_token : (xs ys : List ℕ) (value n : ℕ) → length xs ≡ length ys → n < length ys → ((k : ℕ) → k < n + 1 → get_or xs k 0 ≡ get_or ys k 0) → IsPlainToken ys value n → IsPlainToken xs value n
same_token xs ys value n len lt same h =
    let before : (k : ℕ) → k < n → is_separator (get_or xs k 0) ≡ false = λ k below. ap is_separator (same k (omega (arith, below))) ∙ fails_before_first is_separator ys k 0 (omega (arith, below, h.token)) in
    let stop : is_separator (get_or ys n 0) ≡ true = ap (λ (m : ℕ). is_separator (get_or ys m 0)) h.token ∙ passes_at_first is_separator ys 0 (omega (arith, lt, h.token)) in
    let front : take n xs ≡ take n ys =
    same_number_lists (take n xs) (take n ys) (length-take-le n xs (omega (arith, lt, len)) ∙ sym (length-take-le n ys (omega (arith, lt))))
    (λ k below. let few : k < n = omega (arith, below, length-take-le n xs (omega (arith, lt, len))) in get_or-take n xs k 0 few ∙ same k (omega (arith, few)) ∙ sym (get_or-take n ys k 0 few)) in
    record {
      token = sym (position_or_len_is is_separator xs n 0 (omega (arith, lt, len)) before (λ _. ap is_separator (same n (omega arith)) ∙ stop));
      some = h.some;
      few = omega (arith, lt, len);
      digits = rw front h.digits;
      value_is = rw front h.value_is;
      small = h.small;
    }

-- the mask of a person's digits and the separator
pub mask_is : (n : ℕ) → n < 8 → (2 ^ 64 - 1) / 2 ^ (8 * (8 - 1 - n)) ≡ 2 ^ (8 * (n + 1)) - 1
mask_is zero lt = refl
mask_is (suc zero) lt = refl
mask_is (suc (suc zero)) lt = refl
mask_is (suc (suc (suc zero))) lt = refl
mask_is (suc (suc (suc (suc zero)))) lt = refl
mask_is (suc (suc (suc (suc (suc zero))))) lt = refl
mask_is (suc (suc (suc (suc (suc (suc zero)))))) lt = refl
mask_is (suc (suc (suc (suc (suc (suc (suc zero))))))) lt = refl
mask_is (suc (suc (suc (suc (suc (suc (suc (suc n)))))))) lt = absurd (omega arith)

-- so the bytes under the mask fix the token
pub told_by_word : (ys : List ℕ) (b value n mask : ℕ) → length ys ≡ 8 → AreBytes ys → b ≡ from_le_bytes w64 ys → n < 8 → mask ≡ 2 ^ (8 * (n + 1)) - 1 → IsPlainToken ys value n
    → (xs : List ℕ) (a : ℕ) → length xs ≡ 8 → AreBytes xs → a ≡ from_le_bytes w64 xs → bit_and a mask ≡ bit_and b mask → (n < 8) × IsPlainToken xs value n
told_by_word ys b value n mask ylen yall bis few mask_is h xs a xlen xall ais same =
    let under : bit_and a (2 ^ (8 * (n + 1)) - 1) ≡ bit_and b (2 ^ (8 * (n + 1)) - 1) = ap (bit_and a) (sym mask_is) ∙ same ∙ ap (bit_and b) mask_is in
    (few, same_token xs ys value n (xlen ∙ sym ylen) (omega (arith, few, ylen)) (λ k lt. same_front xs ys a b (n + 1) k xlen ylen xall yall ais bis (omega (arith, few)) under lt) h)

-- and a text that begins with them begins with the token
pub written_front : (bytes front : List ℕ) (word : ℕ) (written : WrittenPerson) → IsWritten written → 8 ≤ length bytes → front ≡ take 8 bytes → AreBytes front → word ≡ from_le_bytes w64 front → bit_and word written.mask ≡ written.word
    → (written.digits < 8) × IsPlainToken bytes (written.person + 1) written.digits
written_front bytes front word written told enough same all is under =
    let len : length front ≡ 8 = ap length same ∙ length-take-le 8 bytes enough in
    let h = told front word len all is under in
    (h.0, whole_front 8 bytes front (written.person + 1) written.digits same (omega (arith, h.0, len)) h.1)
