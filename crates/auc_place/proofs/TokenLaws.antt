-- The tokens of a text that grows.
use Rattle.std.proofs.Common.{◌≡◌, ℕ, ◌+◌, ◌<◌, ◌≤◌, Bool, true, false, List, [], ◌∷◌, ◌++◌, length, ◌⊎◌, refl, sym, ap, subst, ◌∙◌, arith, append_assoc, inl, inr}
use Rattle.std.specs.List.{slice_split, onto_first, filter}
use Rattle.std.proofs.lemmas.Bool.{cases_Bool}
use Rattle.std.proofs.lemmas.List.{append-nil, length-append}
use Rattle.std.proofs.lemmas.List.Elements.{filter-append}
use Rattle.std.proofs.lemmas.List.Sums.{count_by-le-length, length-filter}
use Rattle.std.proofs.lemmas.List.Splits.{length-slice_split, slice_split-cons_yes, slice_split-cons_no}
use Rattle.auc_graph.specs.Tokens.{is_nonempty, is_separator, tokens}
use Rattle.auc_place.specs.Search.{IsPlain, IsApart, IsInside}

some_part : (p : ℕ → Bool) (xs : List ℕ) → 0 < length (slice_split p xs)
some_part p xs = omega (arith, length-slice_split p xs)

onto_append : (x : ℕ) (a b : List (List ℕ)) → 0 < length a → onto_first x (a ++ b) ≡ onto_first x a ++ b
onto_append x [] b h = absurd (omega arith)
onto_append x (part ∷ a) b h = refl

split_apart : (p : ℕ → Bool) (s : ℕ) (xs ys : List ℕ) → p s ≡ true → slice_split p (xs ++ s ∷ ys) ≡ slice_split p xs ++ slice_split p ys
split_apart p s [] ys h = slice_split-cons_yes p s ys h
split_apart p s (x ∷ xs) ys h =
    elim (cases_Bool (p x)) [
      | inl parts ↦ slice_split-cons_yes p x (xs ++ s ∷ ys) parts ∙ ap (λ (t : List (List ℕ)). [] ∷ t) (split_apart p s xs ys h) ∙ sym (ap (λ (t : List (List ℕ)). t ++ slice_split p ys) (slice_split-cons_yes p x xs parts))
      | inr stays ↦
          slice_split-cons_no p x (xs ++ s ∷ ys) stays ∙ ap (onto_first x) (split_apart p s xs ys h) ∙ onto_append x (slice_split p xs) (slice_split p ys) (some_part p xs)
          ∙ sym (ap (λ (t : List (List ℕ)). t ++ slice_split p ys) (slice_split-cons_no p x xs stays))
    ]

pub nothing : tokens [] ≡ []
unfolding tokens
nothing = refl

-- a separator parts the tokens before it from those after it
pub apart : (xs ys : List ℕ) (s : ℕ) → is_separator s ≡ true → tokens (xs ++ s ∷ ys) ≡ tokens xs ++ tokens ys
unfolding tokens
apart xs ys s h = ap (filter is_nonempty) (split_apart is_separator s xs ys h) ∙ filter-append is_nonempty (slice_split is_separator xs) (slice_split is_separator ys)

plain_split : (xs : List ℕ) → IsPlain xs → slice_split is_separator xs ≡ xs ∷ []
plain_split [] h = refl
plain_split (x ∷ xs) h = slice_split-cons_no is_separator x xs h.0 ∙ ap (onto_first x) (plain_split xs h.1)

-- bytes with no separator among them are one token
pub one : (xs : List ℕ) → 0 < length xs → IsPlain xs → tokens xs ≡ xs ∷ []
unfolding tokens
one [] h plain = absurd (omega arith)
one (x ∷ xs) h plain = ap (filter is_nonempty) (plain_split (x ∷ xs) plain)

pub skipped : (s : ℕ) (more : List ℕ) → is_separator s ≡ true → tokens (s ∷ more) ≡ tokens more
skipped s more h = apart [] more s h ∙ ap (λ (t : List (List ℕ)). t ++ tokens more) nothing

-- a token that a separator ends
pub ended : (token more : List ℕ) (s : ℕ) → 0 < length token → IsPlain token → is_separator s ≡ true → tokens (token ++ s ∷ more) ≡ token ∷ tokens (s ∷ more)
ended token more s some plain h =
    apart token more s h ∙ ap (λ (t : List (List ℕ)). t ++ tokens more) (one token some plain) ∙ ap (λ (t : List (List ℕ)). token ∷ t) (sym (skipped s more h))

pub same_behind : (seen : List ℕ) (s : ℕ) → is_separator s ≡ true → tokens (seen ++ s ∷ []) ≡ tokens seen
same_behind seen s h = apart seen [] s h ∙ ap (λ (t : List (List ℕ)). tokens seen ++ t) nothing ∙ append-nil (tokens seen)

pub apart_behind : (seen : List ℕ) (s : ℕ) → is_separator s ≡ true → IsApart (seen ++ s ∷ [])
apart_behind seen s h = λ more. ap tokens (append_assoc seen (s ∷ []) more) ∙ apart seen more s h ∙ ap (λ (t : List (List ℕ)). t ++ tokens more) (sym (same_behind seen s h))

-- a token begins
begun_by : (seen : List ℕ) (b : ℕ) (more : List ℕ) → IsApart seen → is_separator b ≡ false → IsPlain more → length (tokens (seen ++ b ∷ more)) ≡ length (tokens seen) + 1
begun_by seen b more apart h plain =
    let token : tokens (b ∷ more) ≡ (b ∷ more) ∷ [] = one (b ∷ more) (omega arith) (h, plain) in
    ap length (apart (b ∷ more) ∙ ap (λ (t : List (List ℕ)). tokens seen ++ t) token) ∙ length-append (tokens seen) ((b ∷ more) ∷ [])

pub one_more : (seen : List ℕ) (b : ℕ) → IsApart seen → is_separator b ≡ false → length (tokens (seen ++ b ∷ [])) ≡ length (tokens seen) + 1
one_more seen b apart h = begun_by seen b [] apart h tt

pub inside_begun : (seen : List ℕ) (b : ℕ) → IsApart seen → is_separator b ≡ false → IsInside (seen ++ b ∷ [])
inside_begun seen b apart h = λ more plain. ap (λ (t : List ℕ). length (tokens t)) (append_assoc seen (b ∷ []) more) ∙ begun_by seen b more apart h plain ∙ sym (one_more seen b apart h)

-- a token goes on
pub as_many : (seen : List ℕ) (b : ℕ) → IsInside seen → is_separator b ≡ false → length (tokens (seen ++ b ∷ [])) ≡ length (tokens seen)
as_many seen b inside h = inside (b ∷ []) (h, tt)

pub inside_more : (seen : List ℕ) (b : ℕ) → IsInside seen → is_separator b ≡ false → IsInside (seen ++ b ∷ [])
inside_more seen b inside h = λ more plain. ap (λ (t : List ℕ). length (tokens t)) (append_assoc seen (b ∷ []) more) ∙ inside (b ∷ more) (h, plain) ∙ sym (as_many seen b inside h)

pub plain_more : (token : List ℕ) (b : ℕ) → IsPlain token → is_separator b ≡ false → IsPlain (token ++ b ∷ [])
plain_more [] b plain h = (h, tt)
plain_more (x ∷ token) b plain h = (plain.0, plain_more token b plain.1 h)

-- ---- the empty text, and how many tokens there may be

pub none_yet : 0 ≡ length (tokens [])
none_yet = ap length (sym nothing)

pub apart_first : IsApart []
apart_first = λ more. ap (λ (t : List (List ℕ)). t ++ tokens more) (sym nothing)

pub few_tokens : (text : List ℕ) → length (tokens text) ≤ length text + 1
unfolding tokens
few_tokens text = omega (arith, length-filter is_nonempty (slice_split is_separator text), count_by-le-length is_nonempty (slice_split is_separator text), length-slice_split is_separator text, count_by-le-length is_separator text)

-- ---- a text has at least the tokens of its beginning

one_on : (seen : List ℕ) (b : ℕ) → IsApart seen ⊎ IsInside seen → IsApart (seen ++ b ∷ []) ⊎ IsInside (seen ++ b ∷ [])
one_on seen b ends = elim (cases_Bool (is_separator b)) [
  | inl parts ↦ inl (apart_behind seen b parts)
  | inr stays ↦ elim ends [ inl apart ↦ inr (inside_begun seen b apart stays) | inr inside ↦ inr (inside_more seen b inside stays) ]
]

one_grows : (seen : List ℕ) (b : ℕ) → IsApart seen ⊎ IsInside seen → length (tokens seen) ≤ length (tokens (seen ++ b ∷ []))
one_grows seen b ends = elim (cases_Bool (is_separator b)) [
  | inl parts ↦ omega (arith, ap length (same_behind seen b parts))
  | inr stays ↦ elim ends [ inl apart ↦ omega (arith, one_more seen b apart stays) | inr inside ↦ omega (arith, as_many seen b inside stays) ]
]

-- each text ends inside a token or outside
ends_on : (seen more : List ℕ) → IsApart seen ⊎ IsInside seen → IsApart (seen ++ more) ⊎ IsInside (seen ++ more)
ends_on seen [] ends = subst (λ (t : List ℕ). IsApart t ⊎ IsInside t) (sym (append-nil seen)) ends
ends_on seen (b ∷ more) ends =
    let next : IsApart (seen ++ b ∷ []) ⊎ IsInside (seen ++ b ∷ []) = one_on seen b ends in
    subst (λ (t : List ℕ). IsApart t ⊎ IsInside t) (append_assoc seen (b ∷ []) more) (ends_on (seen ++ b ∷ []) more next)

grows : (seen more : List ℕ) → IsApart seen ⊎ IsInside seen → length (tokens seen) ≤ length (tokens (seen ++ more))
grows seen [] ends = omega (arith, ap (λ (t : List ℕ). length (tokens t)) (append-nil seen))
grows seen (b ∷ more) ends =
    omega (arith, one_grows seen b ends, grows (seen ++ b ∷ []) more (one_on seen b ends), ap (λ (t : List ℕ). length (tokens t)) (append_assoc seen (b ∷ []) more))

pub begins_with : (front rest : List ℕ) → length (tokens front) ≤ length (tokens (front ++ rest))
begins_with front rest = grows front rest (ends_on [] front (inl apart_first))
