-- The numbers of a text of which only the front is there.
use Rattle.std.proofs.Common.{◌≡◌, ℕ, zero, suc, ◌+◌, ◌-◌, ◌<◌, ◌≤◌, Bool, true, not, length, get_or, take, drop, List, [], ◌∷◌, ◌++◌, refl, sym, ap, ◌∙◌, arith, inl, inr}
use Rattle.std.specs.Prelude.{map, slice_range}
use Rattle.std.proofs.lemmas.Grind.{common_steps}
use Rattle.std.specs.List.{prefix_len, position_or_len}
use Rattle.std.proofs.lemmas.Bool.{cases_Bool}
use Rattle.std.proofs.lemmas.List.{drop_more, take-append-le, drop-append-le, length-append, length-drop, drop-drop, append-nil, take_all}
use Rattle.std.proofs.Common.{set}
use borrow.Rule.Slice.PartMut.{put_mid, post_of}
use Rattle.std.proofs.lemmas.Grind.{take-set_at}
use Rattle.std.proofs.lemmas.List.Sums.{prefix_len-le-length, passes_at_first}
use Rattle.std.proofs.Math.Seq.{take-append-add, drop-append-add}
use Rattle.auc_graph.specs.declared.number.Number.{Number}
use Rattle.auc_graph.specs.Tokens.{is_separator, tokens}
use Rattle.auc_graph.specs.Numbers.{number, numbers}
use Rattle.std.proofs.Common.{Ok, Err}
use Rattle.auc_graph.specs.declared.arc.Arc.{Arc}
use Rattle.auc_graph.specs.declared.read_error.ReadError.{ReadError}
use Rattle.auc_graph.specs.declared.stage.Stage.{Stage}
use Rattle.auc_graph.specs.Reading.{step_at, finish_at, reading_on}
use Rattle.auc_graph.specs.Pieces.{AreAlike, reading_at}
use Rattle.auc_graph.proofs.StepLaws.{at_end, steps_on, steps_off}
use Rattle.auc_graph.proofs.TokenLaws.{parts, parts_yes}
use Rattle.auc_graph.proofs.NumberLaws.{numbers_none, numbers_next}

-- ---- counts at the front

pub prefix_front : (p : ℕ → Bool) (xs more : List ℕ) → prefix_len p xs < length xs → prefix_len p (xs ++ more) ≡ prefix_len p xs
prefix_front p [] more lt = absurd (omega arith)
prefix_front p (x ∷ xs) more lt =
    elim (cases_Bool (p x)) [
      | inl passes ↦
          let a : prefix_len p (x ∷ xs) ≡ suc (prefix_len p xs) = rw passes (omega arith) in
          let b : prefix_len p (x ∷ (xs ++ more)) ≡ suc (prefix_len p (xs ++ more)) = rw passes (omega arith) in
          b ∙ ap suc (prefix_front p xs more (omega (arith, lt, a))) ∙ sym a
      | inr fails ↦
          let a : prefix_len p (x ∷ xs) ≡ 0 = rw fails refl in
          let b : prefix_len p (x ∷ (xs ++ more)) ≡ 0 = rw fails refl in
          b ∙ sym a
    ]

prefix_all : (p : ℕ → Bool) (xs more : List ℕ) → prefix_len p xs ≡ length xs → prefix_len p (xs ++ more) ≡ length xs + prefix_len p more
prefix_all p [] more all = omega arith
prefix_all p (x ∷ xs) more all =
    elim (cases_Bool (p x)) [
      | inl passes ↦
          let a : prefix_len p (x ∷ xs) ≡ suc (prefix_len p xs) = rw passes (omega arith) in
          let b : prefix_len p (x ∷ (xs ++ more)) ≡ suc (prefix_len p (xs ++ more)) = rw passes (omega arith) in
          b ∙ ap suc (prefix_all p xs more (omega (arith, all, a))) ∙ omega arith
      | inr fails ↦ let a : prefix_len p (x ∷ xs) ≡ 0 = rw fails refl in absurd (omega (arith, all, a))
    ]

-- ---- a token with a separator after it

pub skip_one : (b : ℕ) (text : List ℕ) → is_separator b ≡ true → numbers (b ∷ text) ≡ numbers text
unfolding numbers tokens
skip_one b text h = ap (map number) (parts_yes is_separator b text h)

pub whole_token : (bytes rest token : List ℕ) (s n : ℕ) → s ≡ prefix_len is_separator bytes → token ≡ drop s bytes → n ≡ position_or_len is_separator token → n < length token → rest ≡ drop n token
    → (more : List ℕ) → numbers (bytes ++ more) ≡ number (take n token) ∷ numbers (rest ++ more)
whole_token bytes rest token s n es is en lt behind more =
    let len : length token ≡ length bytes - s = ap length is ∙ length-drop s bytes in
    let few : s < length bytes = omega (arith, len, lt) in
    let front : s ≡ prefix_len is_separator (bytes ++ more) = es ∙ sym (prefix_front is_separator bytes more (omega (arith, es, few))) in
    let long : s < length (bytes ++ more) = omega (arith, length-append bytes more, few) in
    let there : drop s (bytes ++ more) ≡ token ++ more = drop-append-le s bytes more (omega (arith, few)) ∙ ap (λ (t : List ℕ). t ++ more) (sym is) in
    let stop : n ≡ position_or_len is_separator (token ++ more) = en ∙ sym (prefix_front (λ b. not (is_separator b)) token more (omega (arith, en, lt))) in
    let next = numbers_next (bytes ++ more) s n front long (stop ∙ ap (position_or_len is_separator) (sym there)) in
    let word : take n (drop s (bytes ++ more)) ≡ take n token = ap (take n) there ∙ take-append-le n token more (omega (arith, lt)) in
    let left : drop n (drop s (bytes ++ more)) ≡ rest ++ more = ap (drop n) there ∙ drop-append-le n token more (omega (arith, lt)) ∙ ap (λ (t : List ℕ). t ++ more) (sym behind) in
    next.1 ∙ ap (λ (t : List ℕ). number t ∷ numbers (drop n (drop s (bytes ++ more)))) word ∙ ap (λ (t : List ℕ). number (take n token) ∷ numbers t) left

-- the same, where the separator is left out
pub whole_token_and : (bytes rest token : List ℕ) (s n : ℕ) → s ≡ prefix_len is_separator bytes → token ≡ drop s bytes → n ≡ position_or_len is_separator token → n < length token → rest ≡ drop (n + 1) token
    → (more : List ℕ) → numbers (bytes ++ more) ≡ number (take n token) ∷ numbers (rest ++ more)
whole_token_and bytes rest token s n es is en lt behind more =
    let stop : is_separator (get_or token n 0) ≡ true = ap (λ (m : ℕ). is_separator (get_or token m 0)) en ∙ passes_at_first is_separator token 0 (omega (arith, lt, en)) in
    let next : drop n token ≡ get_or token n 0 ∷ drop (n + 1) token = drop_more token n 0 lt in
    whole_token bytes (drop n token) token s n es is en lt refl more
    ∙ ap (λ (t : List ℕ). number (take n token) ∷ numbers (t ++ more)) next
    ∙ ap (λ (xs : List Number). number (take n token) ∷ xs) (skip_one (get_or token n 0) (drop (n + 1) token ++ more) stop ∙ ap (λ (t : List ℕ). numbers (t ++ more)) (sym behind))

-- the text gets shorter
pub token_takes : (bytes rest token : List ℕ) (s n : ℕ) → token ≡ drop s bytes → n < length token → rest ≡ drop (n + 1) token → length rest < length bytes
token_takes bytes rest token s n is lt behind = omega (arith, ap length is, length-drop s bytes, ap length behind, length-drop (n + 1) token, lt)

-- ---- separators in front

pub skip_front : (n : ℕ) (bytes more : List ℕ) → n ≡ prefix_len is_separator bytes → numbers (bytes ++ more) ≡ numbers (drop n bytes ++ more)
unfolding numbers tokens
skip_front n bytes more is = ap (map number) (by bytes more ∙ ap (λ (m : ℕ). parts is_separator (drop m bytes ++ more)) (sym is))
  where
    by : (bytes more : List ℕ) → parts is_separator (bytes ++ more) ≡ parts is_separator (drop (prefix_len is_separator bytes) bytes ++ more)
    by [] more = refl
    by (b ∷ bytes) more =
        elim (cases_Bool (is_separator b)) [
          | inl passes ↦
              let e : prefix_len is_separator (b ∷ bytes) ≡ suc (prefix_len is_separator bytes) = rw passes (omega arith) in
              parts_yes is_separator b (bytes ++ more) passes ∙ by bytes more ∙ sym (ap (λ (m : ℕ). parts is_separator (drop m (b ∷ bytes) ++ more)) e)
          | inr fails ↦
              let e : prefix_len is_separator (b ∷ bytes) ≡ 0 = rw fails refl in
              sym (ap (λ (m : ℕ). parts is_separator (drop m (b ∷ bytes) ++ more)) e)
        ]

-- ---- a token that is cut

starts_plain : (token more : List ℕ) → 0 < length token → position_or_len is_separator token ≡ length token → prefix_len is_separator (token ++ more) ≡ 0
starts_plain [] more some plain = absurd (omega arith)
starts_plain (b ∷ token) more some plain =
    elim (cases_Bool (is_separator b)) [
      | inl parts ↦ let e : position_or_len is_separator (b ∷ token) ≡ 0 = rw parts refl in absurd (omega (arith, e, plain))
      | inr fails ↦ rw fails refl
    ]

-- such a token goes on up to the next separator
token_in_front : (token more : List ℕ) → 0 < length token → position_or_len is_separator token ≡ length token
    → numbers (token ++ more) ≡ number (token ++ take (position_or_len is_separator more) more) ∷ numbers (drop (position_or_len is_separator more) more)
token_in_front token more some plain =
    let n : position_or_len is_separator (token ++ more) ≡ length token + position_or_len is_separator more = prefix_all (λ b. not (is_separator b)) token more plain in
    let next = numbers_next (token ++ more) 0 (length token + position_or_len is_separator more) (sym (starts_plain token more some plain)) (omega (arith, length-append token more)) (sym n) in
    next.1 ∙ ap (λ (t : List ℕ). number t ∷ numbers (drop (length token + position_or_len is_separator more) (token ++ more))) (take-append-add token more (position_or_len is_separator more))
    ∙ ap (λ (t : List ℕ). number (token ++ take (position_or_len is_separator more) more) ∷ numbers t) (drop-append-add token more (position_or_len is_separator more))

pub alike_numbers : (a b : List ℕ) → 0 < length a → position_or_len is_separator a ≡ length a → 0 < length b → position_or_len is_separator b ≡ length b → AreAlike a b → (more : List ℕ) → numbers (a ++ more) ≡ numbers (b ++ more)
alike_numbers a b some_a plain_a some_b plain_b alike more =
    token_in_front a more some_a plain_a ∙ ap (λ x. x ∷ numbers (drop (position_or_len is_separator more) more)) (alike (take (position_or_len is_separator more) more)) ∙ sym (token_in_front b more some_b plain_b)

-- the last token of a text
pub last_number : (token : List ℕ) → 0 < length token → position_or_len is_separator token ≡ length token → numbers token ≡ number token ∷ []
last_number token some plain =
    let e = token_in_front token [] some plain in
    ap numbers (sym (append-nil token)) ∙ e ∙ ap (λ (t : List ℕ). number t ∷ numbers []) (append-nil token) ∙ ap (λ xs. number token ∷ xs) (numbers_none [] (omega arith))

-- where nothing is left whole, at most one token is left
pub cut_behind : (bytes : List ℕ) (s n : ℕ) → s ≡ prefix_len is_separator bytes → n ≡ position_or_len is_separator (drop s bytes) → length (drop s bytes) ≤ n → position_or_len is_separator (drop (prefix_len is_separator bytes) bytes) ≡ length (drop (prefix_len is_separator bytes) bytes)
cut_behind bytes s n es en le =
    ap (λ (m : ℕ). position_or_len is_separator (drop m bytes)) (sym es) ∙ omega (arith, en, le, prefix_len-le-length (λ b. not (is_separator b)) (drop s bytes)) ∙ ap (λ (m : ℕ). length (drop m bytes)) es

-- the rest of a rest
pub rest_of_rest : (piece rest : List ℕ) (s : ℕ) → s ≤ length rest → length rest ≤ length piece → rest ≡ drop (length piece - length rest) piece → drop s rest ≡ drop (length piece - (length rest - s)) piece
rest_of_rest piece rest s le few is =
    ap (drop s) is ∙ drop-drop s (length piece - length rest) piece ∙ (let e : length piece - length rest + s ≡ length piece - (length rest - s) = omega arith in ap (λ (m : ℕ). drop m piece) e)

pub whole_piece : (piece : List ℕ) → piece ≡ drop (length piece - length piece) piece
whole_piece piece = let e : length piece - length piece ≡ 0 = omega arith in sym (ap (λ (m : ℕ). drop m piece) e)

-- ---- writes at the front

pub put_one : (xs : List ℕ) (x : ℕ) → 0 < length xs → take 1 (set xs 0 x) ≡ x ∷ []
put_one [] x some = absurd (omega arith)
put_one (y ∷ xs) x some = refl

pub put_text : (xs ys : List ℕ) (x n : ℕ) → 0 < length xs → n ≡ length ys → take (1 + n) (put_mid 1 (1 + n - 1) (set xs 0 x) ys) ≡ x ∷ ys
put_text [] ys x n some len = absurd (omega arith)
put_text (y ∷ xs) ys x n some len =
    (let e : 1 + n ≡ suc (length ys) = omega (arith, len) in ap (λ (m : ℕ). take m (x ∷ (ys ++ post_of 1 (1 + n - 1) (x ∷ xs)))) e)
    ∙ ap (λ (t : List ℕ). x ∷ t) (take-append-le (length ys) ys (post_of 1 (1 + n - 1) (x ∷ xs)) (omega arith) ∙ take_all (length ys) ys (omega arith))

pub put_text_and : (xs ys : List ℕ) (x z n : ℕ) → 1 + n < length xs → n ≡ length ys → take (1 + n + 1) (set (put_mid 1 (1 + n - 1) (set xs 0 x) ys) (1 + n) z) ≡ x ∷ (ys ++ z ∷ [])
put_text_and [] ys x z n room len = absurd (omega arith)
put_text_and (y ∷ xs) ys x z n room len =
    let long : length (put_mid 1 (1 + n - 1) (x ∷ xs) ys) ≡ 1 + length (ys ++ drop (1 + n - 1) xs) = omega arith in
    take-set_at (put_mid 1 (1 + n - 1) (x ∷ xs) ys) (1 + n) (1 + n + 1) z (omega arith) (omega (arith, long, length-append ys (drop (1 + n - 1) xs), length-drop (1 + n - 1) xs, len, room))
    ∙ ap (λ (t : List ℕ). t ++ z ∷ []) (put_text (y ∷ xs) ys x n (omega arith) len)

-- ---- the end of the text

pub reads_end : (limit : ℕ) (stage : Stage) (arcs : List Arc) (token : List ℕ) → length token ≡ 0 → reading_at limit stage arcs token ≡ finish_at stage arcs
reads_end limit stage arcs token none =
    ap (reading_on limit (Ok (stage, arcs))) (numbers_none token (omega (arith, none))) ∙ at_end limit stage arcs

one_left : (token : List ℕ) (x : Number) (n : ℕ) → 0 < length token → position_or_len is_separator token ≡ length token → n ≡ position_or_len is_separator token → x ≡ number (take n token) → numbers token ≡ x ∷ []
one_left token x n some plain en is = last_number token some plain ∙ ap (λ y. y ∷ []) (sym (is ∙ ap number (take_all n token (omega (arith, en, plain)))))

pub reads_last : (limit : ℕ) (stage : Stage) (arcs : List Arc) (token : List ℕ) (x : Number) (n : ℕ) (next : Stage) (arcs_next : List Arc) → 0 < length token → position_or_len is_separator token ≡ length token → n ≡ position_or_len is_separator token → x ≡ number (take n token)
    → step_at limit stage arcs x ≡ Ok (next, arcs_next) → reading_at limit stage arcs token ≡ finish_at next arcs_next
reads_last limit stage arcs token x n next arcs_next some plain en is h =
    ap (reading_on limit (Ok (stage, arcs))) (one_left token x n some plain en is) ∙ steps_on limit stage arcs x next arcs_next [] h ∙ at_end limit next arcs_next

pub reads_fault : (limit : ℕ) (stage : Stage) (arcs : List Arc) (token : List ℕ) (x : Number) (n : ℕ) (e : ReadError) → 0 < length token → position_or_len is_separator token ≡ length token → n ≡ position_or_len is_separator token → x ≡ number (take n token)
    → step_at limit stage arcs x ≡ Err e → reading_at limit stage arcs token ≡ Err e
reads_fault limit stage arcs token x n e some plain en is h =
    ap (reading_on limit (Ok (stage, arcs))) (one_left token x n some plain en is) ∙ steps_off limit stage arcs x e [] h

-- ---- the front of the array

cut_front : (i n : ℕ) (xs : List ℕ) → drop i (take n xs) ≡ take (n - i) (drop i xs)
cut_front zero n xs = let e : n ≡ n - 0 = omega arith in ap (λ (m : ℕ). take m xs) e
cut_front (suc i) zero xs = let e : 0 - suc i ≡ 0 = omega arith in sym (ap (λ (m : ℕ). take m (drop (suc i) xs)) e)
cut_front (suc i) (suc n) [] = sym (nothing (suc n - suc i))
  where
    nothing : (n : ℕ) → take {A = ℕ} n [] ≡ []
    nothing zero = refl
    nothing (suc n) = refl
cut_front (suc i) (suc n) (x ∷ xs) = cut_front i n xs ∙ (let e : n - i ≡ suc n - suc i = omega arith in ap (λ (m : ℕ). take m (drop i xs)) e)

pub tail_of_front : (xs : List ℕ) (len kept : ℕ) → len ≤ length xs → drop (length (take len xs) - kept) (take len xs) ≡ slice_range xs (len - kept) len
tail_of_front xs len kept le =
    let e : length (take len xs) ≡ len = grind (arith, common_steps) in
    ap (λ (m : ℕ). drop (m - kept) (take len xs)) e ∙ cut_front (len - kept) len xs

-- the bytes at the front, followed by those that were read
pub front_and_more : (xs ys : List ℕ) (kept n k : ℕ) → kept ≤ length xs → n ≤ length ys → take (kept + n) (put_mid kept k xs ys) ≡ take kept xs ++ take n ys
front_and_more xs ys kept n k le few =
    let len : length (take kept xs) ≡ kept = grind (arith, common_steps) in
    ap (λ (m : ℕ). take (m + n) (put_mid kept k xs ys)) (sym len) ∙ take-append-add (take kept xs) (ys ++ post_of kept k xs) n ∙ ap (λ (t : List ℕ). take kept xs ++ t) (take-append-le n ys (post_of kept k xs) few)
