-- Places of arcs, as the list is gone through.
use Rattle.std.proofs.Common.{◌≡◌, ℕ, zero, suc, ◌+◌, ◌<◌, ◌≤◌, List, [], ◌∷◌, length, map, get_or, Some, refl, sym, ap, ◌∙◌, arith, All, Contains}
use Rattle.std.specs.Prelude.{pos, slice_get}
use Rattle.std.proofs.lemmas.List.{same_lists, get_or-map, get_or_default, length-map}
use Rattle.auc_graph.specs.declared.arc.Arc.{Arc}
use Rattle.auc_graph.specs.Rising.{Rises}
use Rattle.auc_claim.specs.declared.lists.Pick.{Pick}
use Rattle.auc_claim.specs.Claim.{arc_of, chosen}
use Rattle.auc_call.specs.Memory.{AreAt, no_arc}
use Rattle.auc_claim.proofs.ClaimLaws.{length_chosen}

abbrev pub no_pick : Pick
no_pick = record { cost = pos 0; object = 0 }

-- of each person whose pick stands among the first n arcs, a place of it was written
abbrev pub Placed : List Arc → List Pick → List ℕ → ℕ → Type 0
Placed arcs picks choice n = (i j : ℕ) → i < length picks → j < n → get_or arcs j no_arc ≡ arc_of i (get_or picks i no_pick) → slice_get arcs (get_or choice i 0) ≡ Some (arc_of i (get_or picks i no_pick))

pub chosen_at : (k i : ℕ) (picks : List Pick) (d : Arc) → i < length picks → get_or (chosen k picks) i d ≡ arc_of (k + i) (get_or picks i no_pick)
chosen_at k i [] d lt = absurd (omega arith)
chosen_at k zero (p ∷ picks) d lt = let e : k ≡ k + 0 = omega arith in ap (λ (m : ℕ). arc_of m p) e
chosen_at k (suc i) (p ∷ picks) d lt = let e : k + 1 + i ≡ k + suc i = omega arith in chosen_at (k + 1) i picks d (omega arith) ∙ ap (λ (m : ℕ). arc_of m (get_or picks i no_pick)) e

-- for each person the place of his arc
abbrev pub ArePlaced : List Arc → List Pick → List ℕ → ℕ → Type 0
ArePlaced arcs picks places n = (i : ℕ) → i < n → slice_get arcs (get_or places i 0) ≡ Some (arc_of i (get_or picks i no_pick))

pub all_at : (arcs : List Arc) (picks : List Pick) (places : List ℕ) → length places ≡ length picks → ArePlaced arcs picks places (length picks) → AreAt arcs places (chosen 0 picks)
all_at arcs picks places len placed =
    same_lists (map (slice_get arcs) places) (map Some (chosen 0 picks)) (length-map places (slice_get arcs) ∙ len ∙ sym (length_chosen 0 picks) ∙ sym (length-map (chosen 0 picks) Some))
    (λ k d lt.
    let inside : k < length places = omega (arith, lt, length-map places (slice_get arcs)) in
    let known : k < length picks = omega (arith, inside, len) in
    let within : k < length (chosen 0 picks) = omega (arith, known, length_chosen 0 picks) in
    let front : 0 + k ≡ k = omega arith in
    let arc : get_or (chosen 0 picks) k no_arc ≡ arc_of k (get_or picks k no_pick) = chosen_at 0 k picks no_arc known ∙ ap (λ (m : ℕ). arc_of m (get_or picks k no_pick)) front in
    get_or-map (slice_get arcs) places k 0 d inside ∙ placed k known ∙ ap (λ (a : Arc). Some a) (sym arc) ∙ sym (get_or-map Some (chosen 0 picks) k no_arc d within))

-- as many places as picks
pub as_many : (arcs : List Arc) (picks : List Pick) (places : List ℕ) → AreAt arcs places (chosen 0 picks) → length places ≡ length picks
as_many arcs picks places at = sym (length-map places (slice_get arcs)) ∙ ap length at ∙ length-map (chosen 0 picks) Some ∙ length_chosen 0 picks

pub all_placed : (arcs : List Arc) (picks : List Pick) (choice : List ℕ) (n : ℕ) → length arcs ≤ n → length choice ≡ length picks → All (Contains arcs) (chosen 0 picks) → Placed arcs picks choice n → AreAt arcs choice (chosen 0 picks)
all_placed arcs picks choice n le len there placed =
    all_at arcs picks choice len
    (λ k known.
    let within : k < length (chosen 0 picks) = omega (arith, known, length_chosen 0 picks) in
    let front : 0 + k ≡ k = omega arith in
    let arc : get_or (chosen 0 picks) k no_arc ≡ arc_of k (get_or picks k no_pick) = chosen_at 0 k picks no_arc known ∙ ap (λ (m : ℕ). arc_of m (get_or picks k no_pick)) front in
    let held = there k no_arc within in
    let here : get_or arcs held.0 no_arc ≡ arc_of k (get_or picks k no_pick) = get_or_default arcs held.0 no_arc (get_or (chosen 0 picks) k no_arc) held.1 ∙ held.2 ∙ arc in
    placed k held.0 known (omega (arith, held.1, le)) here)

-- rising numbers below a bound are no more than it
pub few : (n least end : ℕ) (xs : List ℕ) → ((i : ℕ) → Contains xs i → i < n) → Rises least end xs → least ≤ n → least + length xs ≤ n
few n least end [] within rise le = omega (arith, le)
few n least end (x ∷ xs) within rise le =
    let above : least ≤ x = rise.low in
    let here : x < n = within x (0, omega arith, refl) in
    let more : x + 1 + length xs ≤ n = few n (x + 1) end xs (λ y c. within y (suc c.0, omega (arith, c.1), c.2)) rise.behind (omega (arith, here)) in
    omega (arith, more, above)
