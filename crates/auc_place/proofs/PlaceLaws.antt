-- Lines, columns and places of a text that grows.
use Rattle.std.proofs.Common.{◌≡◌, ◌≢◌, ℕ, ◌+◌, ◌-◌, ◌<◌, ◌≤◌, true, false, List, [], ◌∷◌, ◌++◌, length, take, drop, inl, inr, refl, sym, ap, subst, ◌∙◌, arith, append_assoc, not}
use Rattle.std.specs.Prelude.{nat_le, reverse, Option, Some, None, IfSome}
use Rattle.std.specs.Io.KnownBytes.{Consumes}
use Rattle.std.proofs.lemmas.Bool.{cases_Bool}
use Rattle.std.proofs.lemmas.Bool.Decides.{nat_tests}
use Rattle.std.proofs.lemmas.List.{append-nil, length-append, reverse-append, length-reverse, take-append-drop, take-append-le}
use Rattle.std.proofs.lemmas.List.Sums.{sum_by-append, count_by-le-length, prefix_len-le-length}
use Rattle.auc_graph.specs.Tokens.{is_separator, tokens}
use Rattle.auc_place.specs.declared.place.Place.{Place}
use Rattle.auc_place.specs.declared.place.TheConstants.{MOST_SHOWN}
use Rattle.auc_place.specs.declared.finding.Finding.{Finding}
use Rattle.auc_place.specs.declared.finding.Finding.TheVariants.{Before, Within, Behind}
use Rattle.auc_place.specs.Places.{is_line_feed, line_behind, column_behind, shows, BeginsBehind, IsPlaceOf}
use Rattle.auc_place.specs.Search.{IsBegun, IsFinding, IsOpen}
use Rattle.auc_place.proofs.TokenLaws.{begins_with, ended, one, nothing, plain_more}

last_first : (seen : List ℕ) (b : ℕ) → reverse (seen ++ b ∷ []) ≡ b ∷ reverse seen
last_first seen b = reverse-append seen (b ∷ [])

pub next_line : (seen : List ℕ) (b : ℕ) → is_line_feed b ≡ true → line_behind (seen ++ b ∷ []) ≡ line_behind seen + 1
next_line seen b h = rw (sum_by-append, h) (omega arith)

pub same_line : (seen : List ℕ) (b : ℕ) → is_line_feed b ≡ false → line_behind (seen ++ b ∷ []) ≡ line_behind seen
same_line seen b h = rw (sum_by-append, h) (omega arith)

pub first_column : (seen : List ℕ) (b : ℕ) → is_line_feed b ≡ true → column_behind (seen ++ b ∷ []) ≡ 1
first_column seen b h = rw (last_first, h) refl

pub next_column : (seen : List ℕ) (b : ℕ) → is_line_feed b ≡ false → column_behind (seen ++ b ∷ []) ≡ column_behind seen + 1
next_column seen b h = rw (last_first, h) (omega arith)

pub few_lines : (seen : List ℕ) → line_behind seen ≤ length seen + 1
few_lines seen = omega (arith, count_by-le-length is_line_feed seen)

pub few_columns : (seen : List ℕ) → column_behind seen ≤ length seen + 1
few_columns seen = omega (arith, prefix_len-le-length (λ b. not (is_line_feed b)) (reverse seen), length-reverse seen)

-- ---- the place of a token

-- a token that a separator has ended
pub place_behind : (number : ℕ) (seen : List ℕ) (place : Place) (s : ℕ) → IsBegun number seen place → is_separator s ≡ true → (more : List ℕ) → IsPlaceOf (seen ++ s ∷ [] ++ more) number place
place_behind number seen place s begun h more = record {
  before = begun.before;
  token = begun.token;
  behind = s ∷ more;
  is = record {
    parts = ap (λ (t : List ℕ). t ++ s ∷ [] ++ more) begun.parts ∙ append_assoc (begun.before ++ begun.token) (s ∷ []) more;
    numbered = begun.numbered;
    whole =
        ap (λ (t : List ℕ). tokens (t ++ s ∷ [] ++ more)) begun.parts ∙ ap tokens (append_assoc (begun.before ++ begun.token) (s ∷ []) more ∙ append_assoc begun.before begun.token (s ∷ more))
        ∙ begun.apart (begun.token ++ s ∷ more) ∙ ap (λ (t : List (List ℕ)). tokens begun.before ++ t) (ended begun.token more s begun.some begun.plain h);
  };
  line = begun.line;
  column = begun.column;
  shown = begun.shown;
}

-- a token that the text's end has ended
pub place_at_end : (number : ℕ) (seen : List ℕ) (place : Place) → IsBegun number seen place → IsPlaceOf seen number place
place_at_end number seen place begun = record {
  before = begun.before;
  token = begun.token;
  behind = [];
  is = record {
    parts = begun.parts ∙ sym (append-nil (begun.before ++ begun.token));
    numbered = begun.numbered;
    whole =
        ap tokens begun.parts ∙ begun.apart begun.token ∙ ap (λ (t : List (List ℕ)). tokens begun.before ++ t) (one begun.token begun.some begun.plain ∙ ap (λ (t : List (List ℕ)). begun.token ∷ t) (sym nothing));
  };
  line = begun.line;
  column = begun.column;
  shown = begun.shown;
}

-- a place that shows less than the token stays the same as the token goes on
shows_more : (place : Place) (token : List ℕ) (b : ℕ) → shows place token → place.whole ≡ false → shows place (token ++ b ∷ [])
shows_more place token b shown cut =
    let is_long : nat_le (length token) MOST_SHOWN ≡ false = sym shown.whole ∙ cut in
    let long : MOST_SHOWN < length token = grind (arith, nat_tests) in
    let longer : length (token ++ b ∷ []) ≡ length token + 1 = length-append token (b ∷ []) in
    let stays : nat_le (length (token ++ b ∷ [])) MOST_SHOWN ≡ false = grind (arith, nat_tests) in
    record { front = shown.front ∙ sym (take-append-le MOST_SHOWN token (b ∷ []) (omega arith)); whole = cut ∙ sym stays }

-- a token that goes on
pub goes_on : (number : ℕ) (seen : List ℕ) (place longer : Place) (b : ℕ) → IsBegun number seen place → is_separator b ≡ false → longer.line ≡ place.line → longer.column ≡ place.column
    → ((token : List ℕ) → shows place token → shows longer (token ++ b ∷ [])) → IsBegun number (seen ++ b ∷ []) longer
goes_on number seen place longer b begun stays line column shown = record {
  before = begun.before;
  token = begun.token ++ b ∷ [];
  parts = ap (λ (t : List ℕ). t ++ b ∷ []) begun.parts ∙ append_assoc begun.before begun.token (b ∷ []);
  apart = begun.apart;
  numbered = begun.numbered;
  some = omega (arith, length-append begun.token (b ∷ []));
  plain = plain_more begun.token b begun.plain stays;
  line = line ∙ begun.line;
  column = column ∙ begun.column;
  shown = shown begun.token begun.shown;
}

-- so it is known whatever follows
pub cut_stays : (number : ℕ) (place : Place) (more seen : List ℕ) → IsBegun number seen place → place.whole ≡ false → IsPlaceOf (seen ++ more) number place
cut_stays number place [] seen begun cut = subst (λ (t : List ℕ). IsPlaceOf t number place) (sym (append-nil seen)) (place_at_end number seen place begun)
cut_stays number place (b ∷ more) seen begun cut = elim (cases_Bool (is_separator b)) [
  | inl parts ↦ subst (λ (t : List ℕ). IsPlaceOf t number place) (append_assoc seen (b ∷ []) more) (place_behind number seen place b begun parts more)
  | inr stays ↦
      subst (λ (t : List ℕ). IsPlaceOf t number place) (append_assoc seen (b ∷ []) more) (cut_stays number place more (seen ++ b ∷ []) (goes_on number seen place place b begun stays refl refl (λ token shown. shows_more place token b shown cut)) cut)
]

-- a place stays
pub place_stays : (number : ℕ) (seen : List ℕ) (b : ℕ) (place : Place) → ((more : List ℕ) → IsPlaceOf (seen ++ more) number place) → (more : List ℕ) → IsPlaceOf (seen ++ b ∷ [] ++ more) number place
place_stays number seen b place h more = subst (λ (t : List ℕ). IsPlaceOf t number place) (sym (append_assoc seen (b ∷ []) more)) (h (b ∷ more))

-- a place that is known whatever follows is that of the whole text
pub found_early : (number : ℕ) (place : Place) (old new : Option (List ℕ)) (seen : List ℕ) → Consumes old new seen → ((more : List ℕ) → IsPlaceOf (seen ++ more) number place) → IfSome old (λ text. IsPlaceOf text number place)
found_early number place None new seen consumed found = tt
found_early number place (Some text) None seen consumed found = absurd consumed
found_early number place (Some text) (Some rest) seen consumed found = subst (λ (t : List ℕ). IsPlaceOf t number place) (sym consumed) (found rest)

-- ---- a token whose place is not known yet

pub is_open : (finding : Finding) → ((place : Place) → finding ≢ Behind place) → IsOpen finding
is_open (Before cursor) other = tt
is_open (Within place) other = tt
is_open (Behind place) other = absurd (other place refl)

few_shown : (number : ℕ) (seen : List ℕ) (place : Place) (begun : IsBegun number seen place) → place.whole ≡ true → length begun.token ≤ MOST_SHOWN
few_shown number seen place begun whole =
    let is_short : nat_le (length begun.token) MOST_SHOWN ≡ true = sym begun.shown.whole ∙ whole in
    grind (arith, nat_tests)

fewer : (number count : ℕ) (front rest : List ℕ) → count ≤ length front → length (tokens front) ≤ number → BeginsBehind (front ++ rest) number count
fewer number count front rest le few =
    let same : take count (front ++ rest) ≡ take count front = take-append-le count front rest le in
    omega (arith, ap (λ (t : List ℕ). length (tokens t)) same, begins_with (take count front) (drop count front), ap (λ (t : List ℕ). length (tokens t)) (take-append-drop count front), few)

begins_behind : (number limit : ℕ) (finding : Finding) (seen rest : List ℕ) → limit ≤ length seen → IsOpen finding → IsFinding number seen finding → BeginsBehind (seen ++ rest) number (limit - MOST_SHOWN)
begins_behind number limit (Before cursor) seen rest le still found = fewer number (limit - MOST_SHOWN) seen rest (omega (arith, le)) found.1
begins_behind number limit (Within place) seen rest le still found =
    let begun = found.0 in
    let long : length seen ≡ length begun.before + length begun.token = ap length begun.parts ∙ length-append begun.before begun.token in
    let same : seen ++ rest ≡ begun.before ++ (begun.token ++ rest) = ap (λ (t : List ℕ). t ++ rest) begun.parts ∙ append_assoc begun.before begun.token rest in
    subst (λ (t : List ℕ). BeginsBehind t number (limit - MOST_SHOWN)) (sym same)
    (fewer number (limit - MOST_SHOWN) begun.before (begun.token ++ rest) (omega (arith, le, long, few_shown number seen place begun found.1)) (omega (arith, begun.numbered)))
begins_behind number limit (Behind place) seen rest le still found = absurd still

-- a search that was given up after at least this number of bytes
pub given_up : (number limit : ℕ) (finding : Finding) (old new : Option (List ℕ)) (seen : List ℕ) → Consumes old new seen → limit ≤ length seen → IsOpen finding → IsFinding number seen finding
    → IfSome old (λ text. BeginsBehind text number (limit - MOST_SHOWN))
given_up number limit finding None new seen consumed le still found = tt
given_up number limit finding (Some text) None seen consumed le still found = absurd consumed
given_up number limit finding (Some text) (Some rest) seen consumed le still found = subst (λ (t : List ℕ). BeginsBehind t number (limit - MOST_SHOWN)) (sym consumed) (begins_behind number limit finding seen rest le still found)
