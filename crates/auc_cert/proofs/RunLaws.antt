-- Numbered lines: how a run grows, where it breaks off, and what two runs of one text have in common.
use Rattle.std.proofs.Common.{◌≡◌, ℕ, suc, ◌+◌, ◌<◌, ◌≤◌, List, [], ◌∷◌, ◌++◌, length, Option, Some, None, refl, sym, ap, subst, ◌∙◌, arith, All, append_assoc}
use Rattle.std.specs.Prelude.{ℤ}
use Rattle.std.proofs.lemmas.List.{append-nil, length-append}
use Rattle.std.proofs.lemmas.List.Concat.{flat_map-append}
use Rattle.std.proofs.lemmas.List.Elements.{All-nil, All-push, All-head, All-tail}
use Rattle.auc_graph.specs.declared.limits.TheConstants.{MOST_OBJECTS, MOST_PERSONS}
use Rattle.auc_claim.specs.declared.lists.Pick.{Pick}
use Rattle.auc_graph.specs.Price.{IsPrice}
use Rattle.auc_claim.specs.Spelled.{IsPick}
use Rattle.auc_cert.specs.Text.{numbered, joined, assign_line, price_line, number_line}
use Rattle.auc_cert.specs.Fields.{pick_line_at, price_line_at, number_at}
use Rattle.auc_cert.specs.Runs.{IsRun, BreaksOff}
use Rattle.auc_claim.specs.Spelled.{IsBelow}
use Rattle.auc_cert.proofs.WriteLaws.{numbered_push}
use Rattle.auc_cert.proofs.WordLaws.{some_is}
use Rattle.auc_cert.proofs.LineLaws.{pick_again, pick_takes, price_again, price_takes, number_again}

length_push : {X : Type 0} (xs : List X) (x : X) → length (xs ++ x ∷ []) ≡ length xs + 1
length_push xs x = length-append xs (x ∷ [])

pub run_begins : {X : Type 0} (line : ℕ → X → List ℕ) (ok : X → Type 0) (bytes : List ℕ) → IsRun line ok 0 bytes [] bytes
run_begins line ok bytes = record { text = refl; len = refl; all = All-nil ok }

pub run_more : {X : Type 0} (line : ℕ → X → List ℕ) (ok : X → Type 0) (i : ℕ) (bytes : List ℕ) (xs : List X) (rest : List ℕ) (x : X) (more : List ℕ)
    → IsRun line ok i bytes xs rest → rest ≡ line i x ++ more → ok x → IsRun line ok (i + 1) bytes (xs ++ x ∷ []) more
run_more line ok i bytes xs rest x more run is right =
    let at : line (0 + length xs) x ≡ line i x = ap (λ (m : ℕ). line m x) (omega (arith, run.len)) in
    let grown : joined (numbered line 0 (xs ++ x ∷ [])) ≡ joined (numbered line 0 xs) ++ line i x =
    ap joined (numbered_push line 0 xs x) ∙ flat_map-append (λ (l : List ℕ). l) (numbered line 0 xs) (line (0 + length xs) x ∷ [])
    ∙ ap (λ (r : List ℕ). joined (numbered line 0 xs) ++ r) (append-nil (line (0 + length xs) x) ∙ at) in
    record {
      text = run.text ∙ ap (λ (r : List ℕ). joined (numbered line 0 xs) ++ r) is ∙ sym (append_assoc (joined (numbered line 0 xs)) (line i x) more) ∙ ap (λ (r : List ℕ). r ++ more) (sym grown);
      len = length_push xs x ∙ ap (λ (m : ℕ). m + 1) run.len;
      all = All-push ok xs x run.all right;
    }

pub breaks_off : {X : Type 0} (line : ℕ → X → List ℕ) (ok : X → Type 0) (n : ℕ) (bytes : List ℕ) (k : ℕ) (xs : List X) (rest : List ℕ)
    → IsRun line ok k bytes xs rest → k < n → ((x : X) (more : List ℕ) → ok x → rest ≡ line k x ++ more → ⊥) → BreaksOff line ok n bytes k
breaks_off line ok n bytes k xs rest run few none = record { front = xs; rest = rest; run = run; few = few; none = none }

pub none_some : {A : Type 0} (x : A) → ◌≡◌ {A = Option A} None (Some x) → ⊥
none_some x e = cc

pub no_pick : (most i : ℕ) (rest : List ℕ) → most ≤ MOST_OBJECTS → i < MOST_PERSONS → None ≡ pick_line_at most i rest → (x : Pick) (more : List ℕ) → IsPick most x → rest ≡ assign_line i x ++ more → ⊥
no_pick most i rest few lt e x more h is = none_some (x, more) (e ∙ ap (pick_line_at most i) is ∙ pick_again most i x more few lt h)

pub no_price : (j : ℕ) (rest : List ℕ) → j < MOST_OBJECTS → None ≡ price_line_at j rest → (z : ℤ) (more : List ℕ) → IsPrice z → rest ≡ price_line j z ++ more → ⊥
no_price j rest lt e z more h is = none_some (z, more) (e ∙ ap (price_line_at j) is ∙ price_again j z more lt h)

pub pick_more : (most i : ℕ) (bytes : List ℕ) (xs : List Pick) (rest : List ℕ) (x : Pick) (more : List ℕ)
    → IsRun assign_line (IsPick most) i bytes xs rest → pick_line_at most i rest ≡ Some (x, more) → IsRun assign_line (IsPick most) (i + 1) bytes (xs ++ x ∷ []) more
pick_more most i bytes xs rest x more run e = let t = pick_takes most i rest x more e in run_more assign_line (IsPick most) i bytes xs rest x more run t.0 t.1

pub price_more : (j : ℕ) (bytes : List ℕ) (xs : List ℤ) (rest : List ℕ) (z : ℤ) (more : List ℕ)
    → IsRun price_line IsPrice j bytes xs rest → price_line_at j rest ≡ Some (z, more) → IsRun price_line IsPrice (j + 1) bytes (xs ++ z ∷ []) more
price_more j bytes xs rest z more run e = let t = price_takes j rest z more e in run_more price_line IsPrice j bytes xs rest z more run t.0 t.1

-- ---- two runs of one text

-- a line of one value is the line of no other, on the first lines
abbrev pub TellsApart : ℕ → (X : Type 0) → (ℕ → X → List ℕ) → (X → Type 0) → Type 0
TellsApart lines X line ok = (k : ℕ) (x y : X) → k < lines → ok x → ok y → line k x ≡ line k y → x ≡ y

pub picks_apart : (most : ℕ) → most ≤ MOST_OBJECTS → TellsApart MOST_PERSONS Pick assign_line (IsPick most)
picks_apart most few k x y lt p q e =
    let pair = some_is (x, []) (y, []) (sym (pick_again most k x [] few lt p) ∙ ap (λ (l : List ℕ). pick_line_at most k (l ++ [])) e ∙ pick_again most k y [] few lt q) in
    ap (λ (t : Pick × List ℕ). t.0) pair

pub prices_apart : TellsApart MOST_OBJECTS ℤ price_line IsPrice
prices_apart k x y lt p q e =
    let pair = some_is (x, []) (y, []) (sym (price_again k x [] lt p) ∙ ap (λ (l : List ℕ). price_line_at k (l ++ [])) e ∙ price_again k y [] lt q) in
    ap (λ (t : ℤ × List ℕ). t.0) pair

pub numbers_apart : (front : List ℕ) → TellsApart MOST_OBJECTS ℕ (number_line front) (IsBelow MOST_OBJECTS)
numbers_apart front k x y lt p q e =
    let pair = some_is (x, []) (y, []) (sym (number_again front k 0 MOST_OBJECTS x [] (omega arith) p (omega arith)) ∙ ap (λ (l : List ℕ). number_at front 0 MOST_OBJECTS (l ++ [])) e ∙ number_again front k 0 MOST_OBJECTS y [] (omega arith) q (omega arith)) in
    ap (λ (t : ℕ × List ℕ). t.0) pair

-- runs of one length at the front of one list of lines are the same, and so is what follows
pub same_run : (lines : ℕ) (X : Type 0) (line : ℕ → X → List ℕ) (ok : X → Type 0) (k : ℕ) (xs ys : List X) (t u : List (List ℕ)) → TellsApart lines X line ok → All ok xs → All ok ys → k + length xs ≤ lines → length xs ≡ length ys
    → numbered line k xs ++ t ≡ numbered line k ys ++ u → (xs ≡ ys) × (t ≡ u)
same_run lines X line ok k [] [] t u apart p q le len e = (refl, e)
same_run lines X line ok k [] (y ∷ ys) t u apart p q le len e = absurd (omega arith)
same_run lines X line ok k (x ∷ xs) [] t u apart p q le len e = absurd (omega arith)
same_run lines X line ok k (x ∷ xs) (y ∷ ys) t u apart p q le len e =
    let here : line k x ≡ line k y = cc in
    let more : numbered line (k + 1) xs ++ t ≡ numbered line (k + 1) ys ++ u = cc in
    let r = same_run lines X line ok (k + 1) xs ys t u apart (All-tail ok x xs p) (All-tail ok y ys q) (omega arith) (omega arith) more in
    let h : x ≡ y = apart k x y (omega arith) (All-head ok x xs p) (All-head ok y ys q) here in
    (ap (λ (l : List X). x ∷ l) r.0 ∙ ap (λ (a : X). a ∷ ys) h, r.1)

-- After runs of one length the same follows, even where nothing is known of their values.
pub same_rest : (X : Type 0) (line : ℕ → X → List ℕ) (k : ℕ) (xs ys : List X) (t u : List (List ℕ)) → length xs ≡ length ys → numbered line k xs ++ t ≡ numbered line k ys ++ u → t ≡ u
same_rest X line k [] [] t u len e = e
same_rest X line k [] (y ∷ ys) t u len e = absurd (omega arith)
same_rest X line k (x ∷ xs) [] t u len e = absurd (omega arith)
same_rest X line k (x ∷ xs) (y ∷ ys) t u len e = same_rest X line (k + 1) xs ys t u (omega arith) cc

-- what follows a shorter run in a longer one
pub record NextLine (X : Type 0) (line : ℕ → X → List ℕ) (ok : X → Type 0) (k : ℕ) (more : List (List ℕ)) : Type 0 where
  pub value : X
  pub right : ok value
  pub others : List (List ℕ)
  pub is : more ≡ line k value ∷ others

pub next_of : (X : Type 0) (line : ℕ → X → List ℕ) (ok : X → Type 0) (k : ℕ) (xs ys : List X) (t more : List (List ℕ)) → All ok ys → length xs < length ys → numbered line k ys ++ t ≡ numbered line k xs ++ more → NextLine X line ok (k + length xs) more
next_of X line ok k xs [] t more all lt e = absurd (omega arith)
next_of X line ok k [] (y ∷ ys) t more all lt e =
    let at : k ≡ k + 0 = omega arith in
    record { value = y; right = All-head ok y ys all; others = numbered line (k + 1) ys ++ t; is = sym e ∙ ap (λ (m : ℕ). line m y ∷ (numbered line (k + 1) ys ++ t)) at }
next_of X line ok k (x ∷ xs) (y ∷ ys) t more all lt e =
    let rest : numbered line (k + 1) ys ++ t ≡ numbered line (k + 1) xs ++ more = cc in
    let r = next_of X line ok (k + 1) xs ys t more (All-tail ok y ys all) (omega arith) rest in
    let at : k + 1 + length xs ≡ k + suc (length xs) = omega arith in
    subst (λ (m : ℕ). NextLine X line ok m more) at r

-- a longer run goes on after a shorter one
pub record GoesBeyond (X : Type 0) (line : ℕ → X → List ℕ) (xs ys : List X) (k : ℕ) (more : List (List ℕ)) : Type 0 where
  pub value : X
  pub behind : List X
  pub split : ys ≡ xs ++ value ∷ behind
  pub others : List (List ℕ)
  pub is : more ≡ line k value ∷ others

pub goes_beyond : (lines : ℕ) (X : Type 0) (line : ℕ → X → List ℕ) (ok : X → Type 0) (k : ℕ) (xs ys : List X) (t more : List (List ℕ)) → TellsApart lines X line ok → All ok xs → All ok ys → k + length ys ≤ lines → length xs < length ys
    → numbered line k ys ++ t ≡ numbered line k xs ++ more → GoesBeyond X line xs ys (k + length xs) more
goes_beyond lines X line ok k xs [] t more apart p q le lt e = absurd (omega arith)
goes_beyond lines X line ok k [] (y ∷ ys) t more apart p q le lt e =
    let at : k ≡ k + 0 = omega arith in
    record { value = y; behind = ys; split = refl; others = numbered line (k + 1) ys ++ t; is = sym e ∙ ap (λ (m : ℕ). line m y ∷ (numbered line (k + 1) ys ++ t)) at }
goes_beyond lines X line ok k (x ∷ xs) (y ∷ ys) t more apart p q le lt e =
    let here : line k y ≡ line k x = cc in
    let rest : numbered line (k + 1) ys ++ t ≡ numbered line (k + 1) xs ++ more = cc in
    let r = goes_beyond lines X line ok (k + 1) xs ys t more apart (All-tail ok x xs p) (All-tail ok y ys q) (omega arith) (omega arith) rest in
    let same : y ≡ x = apart k y x (omega arith) (All-head ok y ys q) (All-head ok x xs p) here in
    let at : k + 1 + length xs ≡ k + suc (length xs) = omega arith in
    record {
      value = r.value;
      behind = r.behind;
      split = ap (λ (l : List X). y ∷ l) r.split ∙ ap (λ (a : X). a ∷ (xs ++ r.value ∷ r.behind)) same;
      others = r.others;
      is = r.is ∙ ap (λ (m : ℕ). line m r.value ∷ r.others) at;
    }
