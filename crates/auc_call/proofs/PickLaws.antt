-- Picks by their places.
use Rattle.std.proofs.Common.{◌≡◌, ℕ, suc, ◌+◌, ◌<◌, ◌≤◌, List, [], ◌∷◌, ◌++◌, length, map, take, get_or, Option, Some, None, sym, ap, subst, ◌∙◌, arith}
use Rattle.std.specs.Prelude.{slice_get}
use Rattle.std.proofs.lemmas.List.{map-append, take_more, take_all, get_or-map, get_or-take, length-map, length-take-le}
use Rattle.std.proofs.lemmas.Option.{slice_get-get_or, slice_get_within, get_or_from_slice_get}
use Rattle.auc_graph.specs.declared.arc.Arc.{Arc}
use Rattle.auc_claim.specs.declared.lists.Pick.{Pick}
use Rattle.auc_claim.specs.Claim.{arc_of, chosen, pick_of}
use Rattle.auc_call.specs.Memory.{AreAt, no_arc}
use Rattle.auc_call.specs.Checking.{IsMisplaced}
use Rattle.auc_call.proofs.PlaceLaws.{no_pick, chosen_at}
use Rattle.auc_claim.proofs.ClaimLaws.{length_chosen}

chosen_push : (k : ℕ) (picks : List Pick) (p : Pick) → chosen k (picks ++ p ∷ []) ≡ chosen k picks ++ arc_of (k + length picks) p ∷ []
chosen_push k [] p = let e : k ≡ k + 0 = omega arith in ap (λ (m : ℕ). arc_of m p ∷ []) e
chosen_push k (q ∷ picks) p =
    let e : k + 1 + length picks ≡ k + suc (length picks) = omega arith in
    ap (λ (arcs : List Arc). arc_of k q ∷ arcs) (chosen_push (k + 1) picks p ∙ ap (λ (m : ℕ). chosen (k + 1) picks ++ arc_of m p ∷ []) e)

same_arc : (a : Arc) (i : ℕ) → a.person ≡ i → a ≡ arc_of i (pick_of a)
same_arc a i e = ap (λ (k : ℕ). arc_of k (pick_of a)) e

-- one more pick
pub at_more : (arcs : List Arc) (choice : List ℕ) (i : ℕ) (picks : List Pick) → i < length choice → get_or choice i 0 < length arcs → (get_or arcs (get_or choice i 0) no_arc).person ≡ i → length picks ≡ i
    → AreAt arcs (take i choice) (chosen 0 picks) → AreAt arcs (take (i + 1) choice) (chosen 0 (picks ++ pick_of (get_or arcs (get_or choice i 0) no_arc) ∷ []))
at_more arcs choice i picks lt inside own len at =
    let arc : Arc = get_or arcs (get_or choice i 0) no_arc in
    let front : 0 + length picks ≡ i = omega (arith, len) in
    let there : slice_get arcs (get_or choice i 0) ≡ Some (get_or arcs (get_or choice i 0) no_arc) = slice_get-get_or arcs (get_or choice i 0) no_arc inside in
    let is : get_or arcs (get_or choice i 0) no_arc ≡ arc_of (0 + length picks) (pick_of (get_or arcs (get_or choice i 0) no_arc)) = same_arc (get_or arcs (get_or choice i 0) no_arc) (0 + length picks) (own ∙ sym front) in
    let left : map (slice_get arcs) (take (i + 1) choice) ≡ map (slice_get arcs) (take i choice) ++ slice_get arcs (get_or choice i 0) ∷ [] = ap (map (slice_get arcs)) (take_more choice i 0 lt) ∙ map-append (slice_get arcs) (take i choice) (get_or choice i 0 ∷ []) in
    let right : map Some (chosen 0 (picks ++ pick_of (get_or arcs (get_or choice i 0) no_arc) ∷ [])) ≡ map Some (chosen 0 picks) ++ Some (arc_of (0 + length picks) (pick_of (get_or arcs (get_or choice i 0) no_arc))) ∷ [] = ap (map Some) (chosen_push 0 picks (pick_of (get_or arcs (get_or choice i 0) no_arc))) ∙ map-append Some (chosen 0 picks) (arc_of (0 + length picks) (pick_of (get_or arcs (get_or choice i 0) no_arc)) ∷ []) in
    left ∙ ap (λ (o : Option Arc). map (slice_get arcs) (take i choice) ++ o ∷ []) (there ∙ ap (λ (a : Arc). Some a) is) ∙ ap (λ (os : List (Option Arc)). os ++ Some (arc_of (0 + length picks) (pick_of (get_or arcs (get_or choice i 0) no_arc))) ∷ []) at ∙ sym right

pub all_at : (arcs : List Arc) (choice : List ℕ) (i : ℕ) (picks : List Pick) → length choice ≤ i → AreAt arcs (take i choice) (chosen 0 picks) → AreAt arcs choice (chosen 0 picks)
all_at arcs choice i picks le at = subst (λ (places : List ℕ). AreAt arcs places (chosen 0 picks)) (take_all i choice le) at

pub at_length : (arcs : List Arc) (places : List ℕ) (picks : List Pick) → AreAt arcs places (chosen 0 picks) → length places ≡ length picks
at_length arcs places picks at = sym (length-map places (slice_get arcs)) ∙ ap length at ∙ length-map (chosen 0 picks) Some ∙ length_chosen 0 picks

-- at a person's place stands the arc of his pick
pub at_person : (arcs : List Arc) (places : List ℕ) (picks : List Pick) (i : ℕ) → i < length places → AreAt arcs places (chosen 0 picks) → slice_get arcs (get_or places i 0) ≡ Some (arc_of i (get_or picks i no_pick))
at_person arcs places picks i lt at =
    let same : length places ≡ length picks = at_length arcs places picks at in
    let known : i < length picks = omega (arith, same, lt) in
    let within : i < length (chosen 0 picks) = omega (arith, length_chosen 0 picks, known) in
    let front : 0 + i ≡ i = omega arith in
    let arc : get_or (chosen 0 picks) i no_arc ≡ arc_of i (get_or picks i no_pick) = chosen_at 0 i picks no_arc known ∙ ap (λ (m : ℕ). arc_of m (get_or picks i no_pick)) front in
    sym (get_or-map (slice_get arcs) places i 0 None lt) ∙ ap (λ (os : List (Option Arc)). get_or os i None) at ∙ get_or-map Some (chosen 0 picks) i no_arc None within ∙ ap (λ (a : Arc). Some a) arc

-- and so where only the first places are looked at
at_first : (arcs : List Arc) (places : List ℕ) (picks : List Pick) (i : ℕ) → i < length places → AreAt arcs (take (i + 1) places) (chosen 0 picks) → slice_get arcs (get_or places i 0) ≡ Some (arc_of i (get_or picks i no_pick))
at_first arcs places picks i lt at =
    let len : length (take (i + 1) places) ≡ i + 1 = length-take-le (i + 1) places (omega (arith, lt)) in
    ap (slice_get arcs) (sym (get_or-take (i + 1) places i 0 (omega arith))) ∙ at_person arcs (take (i + 1) places) picks i (omega (arith, len)) at

-- the place is none of the list
pub misplaced_past : (arcs : List Arc) (places : List ℕ) (i : ℕ) (picks : List Pick) → i < length places → length arcs ≤ get_or places i 0 → AreAt arcs (take i places) (chosen 0 picks) → IsMisplaced arcs places i
misplaced_past arcs places i picks lt past at = record {
  one = lt;
  picks = picks;
  before = at;
  not_his = λ others there. let inside : get_or places i 0 < length arcs = slice_get_within arcs (get_or places i 0) (arc_of i (get_or others i no_pick)) (at_first arcs places others i lt there) in absurd (omega (arith, inside, past));
}

-- the place is that of another one's arc
pub misplaced_other : (arcs : List Arc) (places : List ℕ) (i : ℕ) (picks : List Pick) → i < length places → ((get_or arcs (get_or places i 0) no_arc).person ≡ i → ⊥) → AreAt arcs (take i places) (chosen 0 picks) → IsMisplaced arcs places i
misplaced_other arcs places i picks lt other at = record {
  one = lt;
  picks = picks;
  before = at;
  not_his = λ others there. other (ap (λ (a : Arc). a.person) (get_or_from_slice_get arcs (get_or places i 0) (arc_of i (get_or others i no_pick)) no_arc (at_first arcs places others i lt there)));
}
