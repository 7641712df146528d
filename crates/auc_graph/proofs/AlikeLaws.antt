-- A long unfinished token and a short one that read alike, whatever bytes follow.
use Rattle.std.proofs.Common.{◌≡◌, ℕ, zero, suc, ◌+◌, ◌*◌, ◌<◌, ◌≤◌, ◌^◌, min, Bool, true, false, not, length, take, drop, ◌⊎◌, List, [], ◌∷◌, ◌++◌, Option, Some, None, refl, sym, ap, ◌∙◌, arith, inl, inr, append_assoc, if◌then◌else◌}
use Rattle.std.specs.Prelude.{◌&&◌, ◌==◌}
use Rattle.std.specs.Char.{is_ascii_digit, digit_value}
use Rattle.std.specs.List.{prefix_len, before_first, after_first, list_all, position_or_len}
use Rattle.std.specs.Option.{option_map}
use Rattle.std.specs.Fmt.{decimal}
use Rattle.std.specs.Str.Parse.{digits_value, digits_value_after, AllDigits}
use Rattle.std.proofs.lemmas.Bool.{cases_Bool, and_from}
use Rattle.std.proofs.lemmas.Bool.Decides.{nat_tests}
use Rattle.std.proofs.lemmas.Fmt.{decimal_is_IsNumeral}
use Rattle.std.proofs.lemmas.List.{take-append-drop, append-nil}
use Rattle.std.proofs.lemmas.List.Folds.{list_all-append}
use Rattle.std.proofs.lemmas.List.Sums.{prefix_len-le-length}
use Rattle.auc_graph.specs.declared.number.Number.TheVariants.{Bad}
use Rattle.auc_graph.specs.declared.unfinished.Unfinished.TheVariants.{NoNumber, Digits}
use Rattle.auc_graph.specs.Tokens.{is_nonempty, is_separator}
use Rattle.auc_graph.specs.Numbers.{is_point, is_zero, is_magnitude, magnitude, fraction_len, number, split_sign, signed, sized}
use Rattle.auc_graph.specs.declared.unfinished.Unfinished.{Unfinished}
use Rattle.auc_graph.specs.Pieces.{spelled, AreAlike, IsCapped, IsPlain}
use Rattle.auc_graph.proofs.MagnitudeLaws.{broken_digits, broken_zeros, none_if, some_if, tested, before_digits, after_digits, all_plain, plain, digit_is_no_separator, digits_pass, digits_stop, next_fails, all_taken, some_digits}
use Rattle.auc_graph.proofs.NumberLaws.{number_none, number_some}

abbrev capped : Option ℕ → Option ℕ
capped o = option_map (λ n. min n (10 ^ 18 + 1)) o

-- ---- what is after a sign, and a number by its parts

pub sign_front : (token more : List ℕ) (negative : Bool) (rest : List ℕ) → 0 < length token → (negative, rest) ≡ split_sign token → split_sign (token ++ more) ≡ (negative, rest ++ more)
unfolding split_sign
sign_front [] more negative rest some is = absurd (omega arith)
sign_front (b ∷ token) more negative rest some is =
    front b token more ∙ sym (ap (λ (x : Bool × List ℕ). (x.0, x.1 ++ more)) is)
  where
    front : (b : ℕ) (token more : List ℕ) → split_sign (b ∷ (token ++ more)) ≡ ((split_sign (b ∷ token)).0, (split_sign (b ∷ token)).1 ++ more)
    front b token more =
        elim (cases_Bool (b == 43)) [
          | inl plus ↦ rw plus refl
          | inr no_plus ↦ elim (cases_Bool (b == 45)) [
            | inl minus ↦ rw (no_plus, minus) refl
            | inr no_minus ↦ rw (no_plus, no_minus) refl
          ]
        ]

pub sign_is_short : (token : List ℕ) (negative : Bool) (rest : List ℕ) → (negative, rest) ≡ split_sign token → length token ≤ suc (length rest)
unfolding split_sign
sign_is_short [] negative rest is = omega arith
sign_is_short (b ∷ token) negative rest is = omega (arith, ap (λ (x : Bool × List ℕ). length x.1) is, behind b token)
  where
    behind : (b : ℕ) (token : List ℕ) → length token ≤ length (split_sign (b ∷ token)).1
    behind b token =
        elim (cases_Bool (b == 43)) [
          | inl plus ↦ rw plus (omega arith)
          | inr no_plus ↦ elim (cases_Bool (b == 45)) [
            | inl minus ↦ rw (no_plus, minus) (omega arith)
            | inr no_minus ↦ rw (no_plus, no_minus) (omega arith)
          ]
        ]

by_capped : (x y : List ℕ) (o : Option ℕ) → capped (magnitude (split_sign x).1) ≡ o → capped (magnitude (split_sign y).1) ≡ o → (split_sign x).0 ≡ (split_sign y).0 → number x ≡ number y
by_capped x y None h k s = number_none x h ∙ sym (number_none y k)
by_capped x y (Some m) h k s = number_some x m h ∙ ap (λ (b : Bool). sized (signed b m)) s ∙ sym (number_some y m k)

same_number : (x y : List ℕ) (negative : Bool) (s t : List ℕ) → split_sign x ≡ (negative, s) → split_sign y ≡ (negative, t) → capped (magnitude s) ≡ capped (magnitude t) → number x ≡ number y
same_number x y negative s t is js h =
    by_capped x y (capped (magnitude t)) (ap (λ (p : Bool × List ℕ). capped (magnitude p.1)) is ∙ h) (ap (λ (p : Bool × List ℕ). capped (magnitude p.1)) js) (ap (λ (p : Bool × List ℕ). p.0) is ∙ sym (ap (λ (p : Bool × List ℕ). p.0) js))

no_number : (x : List ℕ) (negative : Bool) (s : List ℕ) → split_sign x ≡ (negative, s) → magnitude s ≡ None → number x ≡ Bad
no_number x negative s is none = number_none x (ap (λ (p : Bool × List ℕ). capped (magnitude p.1)) is ∙ ap capped none)

-- ---- digits of one value

cap_more : (n m : ℕ) (cs : List ℕ) → min n (10 ^ 18 + 1) ≡ min m (10 ^ 18 + 1) → min (digits_value_after 10 n cs) (10 ^ 18 + 1) ≡ min (digits_value_after 10 m cs) (10 ^ 18 + 1)
cap_more n m [] h = h
cap_more n m (c ∷ cs) h = cap_more (n * 10 + digit_value c) (m * 10 + digit_value c) cs (omega (arith, h))

value_append : (n : ℕ) (ds cs : List ℕ) → digits_value_after 10 n (ds ++ cs) ≡ digits_value_after 10 (digits_value_after 10 n ds) cs
value_append n [] cs = refl
value_append n (d ∷ ds) cs = value_append (n * 10 + digit_value d) ds cs

nonempty_front : (ds cs : List ℕ) → is_nonempty ds ≡ true → is_nonempty (ds ++ cs) ≡ true
nonempty_front [] cs h = absurd cc
nonempty_front (d ∷ ds) cs h = refl

and_three : (a b c d : Bool) → a ≡ true → b ≡ true → (a && (b && c) && d) ≡ (c && d)
and_three a b c d h k = rw (h, k) refl

test_behind : (ds r : List ℕ) → list_all is_ascii_digit ds ≡ true → is_nonempty ds ≡ true → is_magnitude (ds ++ r) ≡ (list_all is_ascii_digit (before_first is_point r) && list_all is_zero (after_first is_point r))
test_behind ds r digits some =
    tested (ds ++ r) (ds ++ before_first is_point r) (after_first is_point r) (before_digits ds r digits) (after_digits ds r digits)
    ∙ ap (λ (b : Bool). is_nonempty (ds ++ before_first is_point r) && b && list_all is_zero (after_first is_point r)) (list_all-append is_ascii_digit ds (before_first is_point r))
    ∙ and_three (is_nonempty (ds ++ before_first is_point r)) (list_all is_ascii_digit ds) (list_all is_ascii_digit (before_first is_point r)) (list_all is_zero (after_first is_point r)) (nonempty_front ds (before_first is_point r) some) digits

some_value : (n : ℕ) → Option ℕ
some_value n = Some n

same_digits : (ds es r : List ℕ) → list_all is_ascii_digit ds ≡ true → is_nonempty ds ≡ true → list_all is_ascii_digit es ≡ true → is_nonempty es ≡ true → min (digits_value 10 ds) (10 ^ 18 + 1) ≡ min (digits_value 10 es) (10 ^ 18 + 1)
    → capped (magnitude (ds ++ r)) ≡ capped (magnitude (es ++ r))
unfolding some_value
same_digits ds es r digits some digits_2 some_2 h =
    elim (cases_Bool (list_all is_ascii_digit (before_first is_point r) && list_all is_zero (after_first is_point r))) [
      | inl fine ↦
          let a = some_if (ds ++ r) (ds ++ before_first is_point r) (test_behind ds r digits some ∙ fine) (before_digits ds r digits) in
          let b = some_if (es ++ r) (es ++ before_first is_point r) (test_behind es r digits_2 some_2 ∙ fine) (before_digits es r digits_2) in
          let more = cap_more (digits_value 10 ds) (digits_value 10 es) (before_first is_point r) h in
          let c : min (digits_value 10 (ds ++ before_first is_point r)) (10 ^ 18 + 1) ≡ min (digits_value 10 (es ++ before_first is_point r)) (10 ^ 18 + 1) =
          ap (λ (n : ℕ). min n (10 ^ 18 + 1)) (value_append 0 ds (before_first is_point r)) ∙ more ∙ sym (ap (λ (n : ℕ). min n (10 ^ 18 + 1)) (value_append 0 es (before_first is_point r))) in
          ap capped a ∙ ap some_value c ∙ sym (ap capped b)
      | inr broken ↦ ap capped (none_if (ds ++ r) (test_behind ds r digits some ∙ broken)) ∙ sym (ap capped (none_if (es ++ r) (test_behind es r digits_2 some_2 ∙ broken)))
    ]

-- zeros after the point change nothing
point_zeros : (ds : List ℕ) (b : ℕ) (zeros more : List ℕ) → list_all is_ascii_digit ds ≡ true → is_nonempty ds ≡ true → is_point b ≡ true → list_all is_zero zeros ≡ true → capped (magnitude (ds ++ b ∷ (zeros ++ more))) ≡ capped (magnitude (ds ++ 46 ∷ more))
point_zeros ds b zeros more digits some point h =
    let here : position_or_len is_point (b ∷ (zeros ++ more)) ≡ 0 = rw point refl in
    let before : before_first is_point (b ∷ (zeros ++ more)) ≡ [] = ap (λ (n : ℕ). take n (b ∷ (zeros ++ more))) here in
    let after : after_first is_point (b ∷ (zeros ++ more)) ≡ zeros ++ more = ap (λ (n : ℕ). drop (n + 1) (b ∷ (zeros ++ more))) here in
    let first : is_magnitude (ds ++ b ∷ (zeros ++ more)) ≡ list_all is_zero more = test_behind ds (b ∷ (zeros ++ more)) digits some ∙ rw (before, after, list_all-append, h) refl in
    let second : is_magnitude (ds ++ 46 ∷ more) ≡ list_all is_zero more = test_behind ds (46 ∷ more) digits some in
    let front : before_first is_point (ds ++ b ∷ (zeros ++ more)) ≡ ds = before_digits ds (b ∷ (zeros ++ more)) digits ∙ ap (λ (t : List ℕ). ds ++ t) before ∙ append-nil ds in
    let front_2 : before_first is_point (ds ++ 46 ∷ more) ≡ ds = before_digits ds (46 ∷ more) digits ∙ append-nil ds in
    elim (cases_Bool (list_all is_zero more)) [
      | inl fine ↦ ap capped (some_if (ds ++ b ∷ (zeros ++ more)) ds (first ∙ fine) front) ∙ sym (ap capped (some_if (ds ++ 46 ∷ more) ds (second ∙ fine) front_2))
      | inr broken ↦ ap capped (none_if (ds ++ b ∷ (zeros ++ more)) (first ∙ broken)) ∙ sym (ap capped (none_if (ds ++ 46 ∷ more) (second ∙ broken)))
    ]

-- ---- no number, however it ends

starts_bad : (c : ℕ) (more : List ℕ) → is_ascii_digit c ≡ false → magnitude (c ∷ more) ≡ None
starts_bad c more no_digit =
    elim (cases_Bool (is_point c)) [
      | inl point ↦
          let here : position_or_len is_point (c ∷ more) ≡ 0 = rw point refl in
          none_if (c ∷ more) (tested (c ∷ more) [] (after_first is_point (c ∷ more)) (ap (λ (n : ℕ). take n (c ∷ more)) here) refl)
      | inr other ↦ broken_digits [] c more refl no_digit other
    ]

-- the digits are followed by something else than a point with zeros, or by more after those
goes_bad : (ds rest more : List ℕ) → list_all is_ascii_digit ds ≡ true → ((c : ℕ) (others : List ℕ) → rest ≡ c ∷ others → is_ascii_digit c ≡ false) → fraction_len rest < length rest → magnitude (ds ++ (rest ++ more)) ≡ None
goes_bad ds [] more digits stops lt = absurd (omega arith)
goes_bad ds (b ∷ rest) more digits stops lt =
    elim (cases_Bool (is_point b)) [
      | inl point ↦
          let len : fraction_len (b ∷ rest) ≡ suc (prefix_len is_zero rest) = rw point refl in
          ap (λ (t : List ℕ). magnitude (ds ++ b ∷ (t ++ more))) (sym (take-append-drop (prefix_len is_zero rest) rest))
          ∙ split ds b (take (prefix_len is_zero rest) rest) (drop (prefix_len is_zero rest) rest) more digits point (next_fails is_zero rest) (some_left (prefix_len is_zero rest) rest (omega (arith, lt, len)))
      | inr other ↦ broken_digits ds b (rest ++ more) digits (stops b rest refl) other
    ]
  where
    some_left : (n : ℕ) (xs : List ℕ) → n < length xs → 0 < length (drop n xs)
    some_left zero xs h = h
    some_left (suc n) [] h = absurd (omega arith)
    some_left (suc n) (x ∷ xs) h = some_left n xs (omega arith)

    split : (ds : List ℕ) (b : ℕ) (zeros others more : List ℕ) → list_all is_ascii_digit ds ≡ true → is_point b ≡ true → ((c : ℕ) (left : List ℕ) → others ≡ c ∷ left → is_zero c ≡ false) → 0 < length others → magnitude (ds ++ b ∷ ((zeros ++ others) ++ more)) ≡ None
    split ds b zeros [] more digits point stops some = absurd (omega arith)
    split ds b zeros (c ∷ others) more digits point stops some =
        ap (λ (t : List ℕ). magnitude (ds ++ b ∷ t)) (append_assoc zeros (c ∷ others) more) ∙ broken_zeros ds b zeros c (others ++ more) digits point (stops c others refl)

bad_by_parts : (u more : List ℕ) (d f : ℕ) → 0 < length u → d ≡ prefix_len is_ascii_digit u → f ≡ fraction_len (drop d u) → (d ≡ 0) ⊎ (f < length (drop d u)) → magnitude (u ++ more) ≡ None
bad_by_parts [] more d f some ds fs why = absurd (omega arith)
bad_by_parts (c ∷ u) more d f some ds fs (inl none) = starts_bad c (u ++ more) (digits_stop (c ∷ u) d ds c u (ap (λ (n : ℕ). drop n (c ∷ u)) none))
bad_by_parts (c ∷ u) more d f some ds fs (inr left) =
    ap (λ (t : List ℕ). magnitude (t ++ more)) (sym (take-append-drop d (c ∷ u))) ∙ ap magnitude (append_assoc (take d (c ∷ u)) (drop d (c ∷ u)) more)
    ∙ goes_bad (take d (c ∷ u)) (drop d (c ∷ u)) more (digits_pass (c ∷ u) d ds) (digits_stop (c ∷ u) d ds) (omega (arith, fs, left))

-- ---- the whole unfinished token

pub alike_bad : (token u : List ℕ) (negative : Bool) (d f : ℕ) → 0 < length token → 0 < length u → (negative, u) ≡ split_sign token → d ≡ prefix_len is_ascii_digit u → f ≡ fraction_len (drop d u) → (d ≡ 0) ⊎ (f < length (drop d u)) → AreAlike token (spelled NoNumber)
unfolding split_sign
alike_bad token u negative d f some some_u is ds fs why = λ more.
    no_number (token ++ more) negative (u ++ more) (sign_front token more negative u some is) (bad_by_parts u more d f some_u ds fs why) ∙ sym (no_number (120 ∷ more) false (120 ∷ more) refl (starts_bad 120 more refl))

digit_small : (c : ℕ) → digit_value c < 10 → is_ascii_digit c ≡ true
digit_small c h = grind (arith, nat_tests)

all_small : (cs : List ℕ) → AllDigits 10 cs → list_all is_ascii_digit cs ≡ true
all_small [] h = refl
all_small (c ∷ cs) h = and_from (is_ascii_digit c) (list_all is_ascii_digit cs) (digit_small c h.0) (all_small cs h.1)

nonempty_by : (xs : List ℕ) → 0 < length xs → is_nonempty xs ≡ true
nonempty_by [] h = absurd (omega arith)
nonempty_by (x ∷ xs) h = refl

point_tail : Bool → List ℕ
point_tail point = if point then 46 ∷ [] else []

sign_spelled : (negative : Bool) (t more : List ℕ) → split_sign (((if negative then 45 else 43) ∷ t) ++ more) ≡ (negative, t ++ more)
unfolding split_sign
sign_spelled true t more = refl
sign_spelled false t more = refl

-- the bytes after the digits: none, or a point and zeros
behind_digits : (ds es rest more : List ℕ) (point : Bool) → list_all is_ascii_digit ds ≡ true → is_nonempty ds ≡ true → list_all is_ascii_digit es ≡ true → is_nonempty es ≡ true → min (digits_value 10 ds) (10 ^ 18 + 1) ≡ min (digits_value 10 es) (10 ^ 18 + 1)
    → length rest ≤ fraction_len rest → (point ≡ true → 0 < fraction_len rest) → (point ≡ false → fraction_len rest ≡ 0)
    → capped (magnitude (ds ++ (rest ++ more))) ≡ capped (magnitude (es ++ (point_tail point ++ more)))
unfolding point_tail
behind_digits ds es [] more true digits some digits_2 some_2 h full has hasnt = absurd (omega (arith, has refl))
behind_digits ds es [] more false digits some digits_2 some_2 h full has hasnt = same_digits ds es more digits some digits_2 some_2 h
behind_digits ds es (b ∷ rest) more false digits some digits_2 some_2 h full has hasnt = absurd (omega (arith, hasnt refl, full))
behind_digits ds es (b ∷ rest) more true digits some digits_2 some_2 h full has hasnt =
    elim (cases_Bool (is_point b)) [
      | inl is ↦
          let len : fraction_len (b ∷ rest) ≡ suc (prefix_len is_zero rest) = rw is refl in
          let all : prefix_len is_zero rest ≡ length rest = omega (arith, len, full, prefix_len-le-length is_zero rest) in
          let zeros : list_all is_zero rest ≡ true = ap (list_all is_zero) (sym (take_whole rest)) ∙ ap (λ (n : ℕ). list_all is_zero (take n rest)) (sym all) ∙ all_taken is_zero rest in
          point_zeros ds b rest more digits some is zeros ∙ same_digits ds es (46 ∷ more) digits some digits_2 some_2 h
      | inr other ↦ let len : fraction_len (b ∷ rest) ≡ 0 = rw other refl in absurd (omega (arith, len, full))
    ]
  where
    take_whole : (xs : List ℕ) → take (length xs) xs ≡ xs
    take_whole [] = refl
    take_whole (x ∷ xs) = ap (λ (t : List ℕ). x ∷ t) (take_whole xs)

pub alike_digits : (token u : List ℕ) (negative point : Bool) (d f value : ℕ) → 0 < length token → (negative, u) ≡ split_sign token → d ≡ prefix_len is_ascii_digit u → 0 < d → value ≡ min (digits_value 10 (take d u)) (10 ^ 18 + 1)
    → f ≡ fraction_len (drop d u) → length (drop d u) ≤ f → (point ≡ true → 0 < f) → (point ≡ false → f ≡ 0) → AreAlike token (spelled (Digits negative value point))
unfolding point_tail
alike_digits token u negative point d f value some is ds some_d is_value fs full has hasnt = λ more.
    let numeral = decimal_is_IsNumeral value (omega (arith, is_value)) in
    let few : d ≤ length u = omega (arith, ds, prefix_len-le-length is_ascii_digit u) in
    let text : u ++ more ≡ take d u ++ (drop d u ++ more) = ap (λ (t : List ℕ). t ++ more) (sym (take-append-drop d u)) ∙ append_assoc (take d u) (drop d u) more in
    let short : (decimal value ++ point_tail point) ++ more ≡ decimal value ++ (point_tail point ++ more) = append_assoc (decimal value) (point_tail point) more in
    let same : capped (magnitude (u ++ more)) ≡ capped (magnitude ((decimal value ++ point_tail point) ++ more)) =
    ap (λ (t : List ℕ). capped (magnitude t)) text
    ∙ behind_digits (take d u) (decimal value) (drop d u) more point (digits_pass u d ds) (some_digits u d some_d few) (all_small (decimal value) numeral.0.1) (nonempty_by (decimal value) numeral.0.0) (omega (arith, is_value, numeral.1)) (omega (arith, fs, full)) (λ e. omega (arith, fs, has e)) (λ e. omega (arith, fs, hasnt e))
    ∙ sym (ap (λ (t : List ℕ). capped (magnitude t)) short) in
    same_number (token ++ more) (((if negative then 45 else 43) ∷ (decimal value ++ point_tail point)) ++ more) negative (u ++ more) ((decimal value ++ point_tail point) ++ more) (sign_front token more negative u some is) (sign_spelled negative (decimal value ++ point_tail point) more) same

-- ---- the short text has no separator in it

tail_plain : (point : Bool) → list_all (λ b. not (is_separator b)) (point_tail point) ≡ true
unfolding point_tail is_separator
tail_plain true = refl
tail_plain false = refl

sign_plain : (negative : Bool) → not (is_separator (if negative then 45 else 43)) ≡ true
unfolding is_separator
sign_plain true = refl
sign_plain false = refl

pub spelled_plain : (u : Unfinished) → IsCapped u → IsPlain (spelled u)
unfolding is_separator point_tail
spelled_plain NoNumber h = refl
spelled_plain (Digits negative value point) h =
    let numeral = decimal_is_IsNumeral value (omega (arith, h)) in
    let digits : list_all (λ b. not (is_separator b)) (decimal value) ≡ true = plain is_ascii_digit (decimal value) digit_is_no_separator (all_small (decimal value) numeral.0.1) in
    let behind : list_all (λ b. not (is_separator b)) (decimal value ++ point_tail point) ≡ true = list_all-append (λ b. not (is_separator b)) (decimal value) (point_tail point) ∙ and_from (list_all (λ b. not (is_separator b)) (decimal value)) (list_all (λ b. not (is_separator b)) (point_tail point)) digits (tail_plain point) in
    all_plain ((if negative then 45 else 43) ∷ (decimal value ++ point_tail point)) (and_from (not (is_separator (if negative then 45 else 43))) (list_all (λ b. not (is_separator b)) (decimal value ++ point_tail point)) (sign_plain negative) behind)

pub spelled_some : (u : Unfinished) → 0 < length (spelled u)
spelled_some NoNumber = omega arith
spelled_some (Digits negative value point) = omega arith
