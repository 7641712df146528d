-- The lines of one worker in a trail.
use Rattle.std.proofs.Common.{◌≡◌, ◌≢◌, ℕ, suc, ◌+◌, ◌<◌, ◌≤◌, ◌==◌, Bool, true, false, cond, List, [], ◌∷◌, ◌++◌, length, get_or, take, drop, drop-cons, ap, sym, ◌∙◌, arith, length-append}
use Rattle.std.proofs.Math.Seq.{get_or-append_seam}
use Rattle.std.proofs.lemmas.List.{take_more, take-append-drop, length-take-le, append-nil}
use Rattle.std.proofs.lemmas.List.Elements.{filter_more, filter-append}
use Rattle.std.proofs.lemmas.Bool.Decides.{nat_tests}
use Rattle.auc_book.specs.declared.line.TrailLine.{TrailLine}
use Rattle.auc_book.specs.Trail.{lines_of}

pub is_same : (a b : ℕ) → a ≡ b → (a == b) ≡ true
is_same a b e = grind (arith, nat_tests)

pub is_other : (a b : ℕ) → a ≢ b → (a == b) ≡ false
is_other a b ne = grind (arith, nat_tests)

-- one more line, which is the worker's next
pub matched_more : {T : Type 0} (trail lines : List (TrailLine T)) (worker i place : ℕ) (x y : TrailLine T)
    → i < length trail → x ≡ get_or trail i x → x.worker ≡ worker → place < length lines → y ≡ get_or lines place y → x ≡ y
    → lines_of worker (take i trail) ≡ take place lines
    → lines_of worker (take (i + 1) trail) ≡ take (place + 1) lines
matched_more {T} trail lines worker i place x y lt read own lt' read' same before =
    let pass : Bool → List (TrailLine T) = λ b. cond b (x ∷ []) [] in
    filter_more (λ l. l.worker == worker) trail i x lt
    ∙ (ap (λ (w : TrailLine T). lines_of worker (take i trail) ++ cond (w.worker == worker) (w ∷ []) []) (sym read)
    ∙ (ap (λ b. lines_of worker (take i trail) ++ pass b) (is_same x.worker worker own)
    ∙ (ap (λ w. w ++ x ∷ []) before
    ∙ (ap (λ w. take place lines ++ w ∷ []) (same ∙ read')
    ∙ sym (take_more lines place y lt')))))

-- one more line, of another worker
pub passed_more : {T : Type 0} (trail lines : List (TrailLine T)) (worker i place : ℕ) (x : TrailLine T)
    → i < length trail → x ≡ get_or trail i x → x.worker ≢ worker
    → lines_of worker (take i trail) ≡ take place lines
    → lines_of worker (take (i + 1) trail) ≡ take place lines
passed_more {T} trail lines worker i place x lt read other before =
    let pass : Bool → List (TrailLine T) = λ b. cond b (x ∷ []) [] in
    filter_more (λ l. l.worker == worker) trail i x lt
    ∙ (ap (λ (w : TrailLine T). lines_of worker (take i trail) ++ cond (w.worker == worker) (w ∷ []) []) (sym read)
    ∙ (ap (λ b. lines_of worker (take i trail) ++ pass b) (is_other x.worker worker other)
    ∙ (append-nil (lines_of worker (take i trail)) ∙ before)))

pub not_true : false ≡ true → ⊥
not_true e = cc

pub is_none : (n : ℕ) → true ≡ (n == 0) → n ≡ 0
is_none n e = grind (arith, nat_tests)

pub is_some : (n : ℕ) → (n == 0) ≡ false → 0 < n
is_some n e = grind (arith, nat_tests)

-- The worker's next line is at this place of any list that has all the worker's lines.
pub next_line : {T : Type 0} (trail lines : List (TrailLine T)) (worker i place : ℕ) (x : TrailLine T)
    → i < length trail → x ≡ get_or trail i x → x.worker ≡ worker → place ≤ length lines → lines_of worker (take i trail) ≡ take place lines
    → lines_of worker trail ≡ lines → (place < length lines) × ((d : TrailLine T) → x ≡ get_or lines place d)
next_line {T} trail lines worker i place x lt read own le before same =
    let rest = lines_of worker (drop (suc i) trail) in
    let long : length (take place lines) ≡ place = length-take-le place lines le in
    let split : trail ≡ take i trail ++ x ∷ drop (suc i) trail =
    sym (take-append-drop i trail) ∙ ap (λ w. take i trail ++ w) (drop-cons trail i x lt ∙ ap (λ w. w ∷ drop (suc i) trail) (sym read)) in
    let here : lines_of worker (x ∷ drop (suc i) trail) ≡ x ∷ rest = ap (λ b. cond b (x ∷ rest) rest) (is_same x.worker worker own) in
    let whole : lines ≡ take place lines ++ x ∷ rest =
    sym same
    ∙ (ap (lines_of worker) split
    ∙ (filter-append (λ l. l.worker == worker) (take i trail) (x ∷ drop (suc i) trail)
    ∙ (ap (λ w. w ++ lines_of worker (x ∷ drop (suc i) trail)) before ∙ ap (λ w. take place lines ++ w) here))) in (
      omega (arith, ap length whole, length-append (take place lines) (x ∷ rest), long),
      (λ d. sym (
          ap (λ w. get_or w place d) whole
          ∙ (ap (λ (n : ℕ). get_or (take place lines ++ x ∷ rest) n d) (sym long) ∙ get_or-append_seam (take place lines) x rest d)
          )),
    )
