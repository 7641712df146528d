-- The tokens of a text, from its front on.
use Rattle.std.proofs.Common.{◌≡◌, ℕ, zero, suc, ◌+◌, ◌-◌, ◌<◌, ◌≤◌, Bool, true, false, not, List, [], ◌∷◌, length, get_or, take, drop, refl, sym, ap, ◌∙◌, arith, add-zero, inl, inr}
use Rattle.std.specs.List.{slice_split, prefix_len, position_or_len, after_first, filter, All}
use Rattle.std.proofs.lemmas.Bool.{cases_Bool, cases_lt}
use Rattle.std.proofs.lemmas.List.{drop_more, drop_all, drop-drop, length-drop, get_or-drop}
use Rattle.std.proofs.lemmas.Grind.{common_steps}
use Rattle.std.proofs.lemmas.List.Splits.{slice_split-cons_yes, slice_split_none, slice_split_first}
use Rattle.std.proofs.lemmas.List.Sums.{prefix_len-le-length, prefix_len_passes, prefix_len_stops, fails_before_first, passes_at_first}
use Rattle.std.specs.Prelude.{slice_range}
use Rattle.auc_graph.specs.Tokens.{is_nonempty, is_separator, tokens, IsFirstToken}

-- the runs between elements that pass, without the empty ones
abbrev pub parts : (ℕ → Bool) → List ℕ → List (List ℕ)
parts p xs = filter is_nonempty (slice_split p xs)

pub parts_yes : (p : ℕ → Bool) (x : ℕ) (xs : List ℕ) → p x ≡ true → parts p (x ∷ xs) ≡ parts p xs
parts_yes p x xs h = ap (filter is_nonempty) (slice_split-cons_yes p x xs h)

pub skip : (p : ℕ → Bool) (xs : List ℕ) → parts p (drop (prefix_len p xs) xs) ≡ parts p xs
skip p [] = refl
skip p (x ∷ xs) =
    elim (cases_Bool (p x)) [
      | inl passes ↦
          let e : prefix_len p (x ∷ xs) ≡ suc (prefix_len p xs) = rw passes (omega arith) in
          ap (λ (n : ℕ). parts p (drop n (x ∷ xs))) e ∙ skip p xs ∙ sym (parts_yes p x xs passes)
      | inr fails ↦
          let e : prefix_len p (x ∷ xs) ≡ 0 = rw fails refl in
          ap (λ (n : ℕ). parts p (drop n (x ∷ xs))) e
    ]

some_taken : (n : ℕ) (xs : List ℕ) → 0 < n → 0 < length xs → is_nonempty (take n xs) ≡ true
some_taken zero xs h k = absurd (omega arith)
some_taken (suc n) [] h k = absurd (omega arith)
some_taken (suc n) (x ∷ xs) h k = refl

with_front : (x : List ℕ) (xss : List (List ℕ)) → is_nonempty x ≡ true → filter is_nonempty (x ∷ xss) ≡ x ∷ filter is_nonempty xss
with_front x xss h = rw h refl

pub first : (p : ℕ → Bool) (xs : List ℕ) → 0 < position_or_len p xs → parts p xs ≡ take (position_or_len p xs) xs ∷ parts p (drop (position_or_len p xs) xs)
first p xs h =
    let n : ℕ = position_or_len p xs in
    let le : position_or_len p xs ≤ length xs = prefix_len-le-length (λ x. not (p x)) xs in
    let some : is_nonempty (take (position_or_len p xs) xs) ≡ true = some_taken (position_or_len p xs) xs h (omega arith) in
    elim (cases_lt (position_or_len p xs) (length xs)) [
      | inl lt ↦
          let e = ap (filter is_nonempty) (slice_split_first p xs 0 lt) in
          let f = with_front (take (position_or_len p xs) xs) (slice_split p (after_first p xs)) some in
          let g : drop (position_or_len p xs) xs ≡ get_or xs (position_or_len p xs) 0 ∷ after_first p xs = drop_more xs (position_or_len p xs) 0 lt in
          let k : parts p (drop (position_or_len p xs) xs) ≡ parts p (after_first p xs) = ap (parts p) g ∙ parts_yes p (get_or xs (position_or_len p xs) 0) (after_first p xs) (passes_at_first p xs 0 lt) in
          e ∙ f ∙ ap (λ (r : List (List ℕ)). take (position_or_len p xs) xs ∷ r) (sym k)
      | inr ge ↦
          let all : take (position_or_len p xs) xs ≡ xs = grind (arith, common_steps) in
          let nothing : drop (position_or_len p xs) xs ≡ [] = drop_all (position_or_len p xs) xs ge in
          let none : All (λ x. p x ≡ false) xs = λ k d lt. fails_before_first p xs k d (omega arith) in
          let e = ap (filter is_nonempty) (slice_split_none p xs none) in
          let f = with_front xs [] (rw (← all) some) in
          e ∙ f ∙ rw (all, nothing) refl
    ]

at_first : (p : ℕ → Bool) (xs : List ℕ) → p (get_or xs 0 0) ≡ false → 0 < length xs → 0 < position_or_len p xs
at_first p [] fails h = absurd (omega arith)
at_first p (x ∷ xs) fails h = rw fails (omega arith)

-- the number of elements at the front that pass
pub prefix_len_is : (p : ℕ → Bool) (xs : List ℕ) (i : ℕ) → i ≤ length xs → ((k : ℕ) → k < i → p (get_or xs k 0) ≡ true) → (i < length xs → p (get_or xs i 0) ≡ false) → prefix_len p xs ≡ i
prefix_len_is p [] i le pass stop = omega arith
prefix_len_is p (x ∷ xs) zero le pass stop = rw (stop (omega arith)) refl
prefix_len_is p (x ∷ xs) (suc i) le pass stop =
    let rest : prefix_len p xs ≡ i = prefix_len_is p xs i (omega arith) (λ k lt. pass (suc k) (omega arith)) (λ lt. stop (omega arith)) in
    rw (pass 0 (omega arith)) (omega arith)

-- The token at the front, by the number of separators before it and its length.
pub no_token : (text : List ℕ) → length text ≤ prefix_len is_separator text → tokens text ≡ []
unfolding tokens
no_token text h = sym (skip is_separator text) ∙ ap (parts is_separator) (drop_all _ text h)

pub next_token : (text : List ℕ) (s n : ℕ) → s ≡ prefix_len is_separator text → s < length text → n ≡ position_or_len is_separator (drop s text)
    → (0 < n) × (tokens text ≡ take n (drop s text) ∷ tokens (drop n (drop s text)))
unfolding tokens
next_token text s n es lt en =
    let stops : is_separator (get_or text s 0) ≡ false = rw es (prefix_len_stops is_separator text 0 (omega (arith, es))) in
    let some : 0 < position_or_len is_separator (drop s text) = at_first is_separator (drop s text) (rw (get_or-drop, add-zero) stops) (omega (arith, length-drop s text)) in
    let here : parts is_separator text ≡ parts is_separator (drop s text) = sym (skip is_separator text) ∙ ap (λ (m : ℕ). parts is_separator (drop m text)) (sym es) in
    (omega (arith, en, some), here ∙ first is_separator (drop s text) some ∙ ap (λ (m : ℕ). take m (drop s text) ∷ parts is_separator (drop m (drop s text))) (sym en))

pub next_token_from : (text : List ℕ) (from s n : ℕ) → s ≡ prefix_len is_separator (drop from text) → n ≡ position_or_len is_separator (drop (from + s) text) → from + s < length text
    → (0 < n) × (tokens (drop from text) ≡ slice_range text (from + s) (from + s + n) ∷ tokens (drop (from + s + n) text))
next_token_from text from s n es en lt =
    let there : drop s (drop from text) ≡ drop (from + s) text = drop-drop s from text in
    let next = next_token (drop from text) s n es (omega (arith, length-drop from text)) (en ∙ ap (position_or_len is_separator) (sym there)) in
    let range : take n (drop (from + s) text) ≡ slice_range text (from + s) (from + s + n) = ap (λ (m : ℕ). take m (drop (from + s) text)) (omega arith) in
    let behind : drop n (drop (from + s) text) ≡ drop (from + s + n) text = drop-drop n (from + s) text in
    (next.0, next.1 ∙ ap (λ (t : List ℕ). take n t ∷ tokens (drop n t)) there ∙ ap (λ (t : List ℕ). t ∷ tokens (drop n (drop (from + s) text))) range ∙ ap (λ (t : List ℕ). slice_range text (from + s) (from + s + n) ∷ tokens t) behind)

-- what `&text[n..]` is
pub tail : (n : ℕ) (text : List ℕ) → take (length text - n) (drop n text) ≡ drop n text
tail n text = grind (arith, common_steps)

read_back : (text : List ℕ) (from k : ℕ) → from ≤ k → get_or (drop from text) (k - from) 0 ≡ get_or text k 0
read_back text from k le = get_or-drop from text (k - from) 0 ∙ ap (λ (m : ℕ). get_or text m 0) (omega arith)

pub first_token_is : (text : List ℕ) (from s n : ℕ) → s ≡ prefix_len is_separator (drop from text) → n ≡ position_or_len is_separator (drop (from + s) text) → from + s < length text → 0 < n → IsFirstToken text from (from + s) (from + s + n)
first_token_is text from s n es en lt some =
    let le : n ≤ length (drop (from + s) text) = omega (arith, en, prefix_len-le-length (λ x. not (is_separator x)) (drop (from + s) text)) in
    record {
      from_start = omega arith;
      start_end = omega arith;
      in_text = omega (arith, length-drop (from + s) text);
      skipped = λ k h1 h2. rw (read_back text from k h1) at (prefix_len_passes is_separator (drop from text) (k - from) 0 (omega (arith, es)));
      taken = λ k h1 h2. rw (read_back text (from + s) k h1) at (fails_before_first is_separator (drop (from + s) text) (k - (from + s)) 0 (omega (arith, en)));
      whole = λ h.
          let below : position_or_len is_separator (drop (from + s) text) < length (drop (from + s) text) = omega (arith, en, length-drop (from + s) text) in
          let here = passes_at_first is_separator (drop (from + s) text) 0 below in
          rw (← en, get_or-drop) at here;
    }
