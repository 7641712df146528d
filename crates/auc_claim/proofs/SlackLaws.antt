-- Epsilon-complementary slackness, arc by arc: each arc beside the pick of its person.
use Rattle.std.proofs.Common.{◌≡◌, ℕ, zero, suc, ◌+◌, ◌<◌, Bool, true, not, ◌&&◌, List, [], ◌∷◌, length, get_or, take, All, None, refl, sym, ap, ◌∙◌, arith, eqb, inl, inr, pos}
use Rattle.std.specs.Prelude.{ℤ, ◌+ℤ◌, int_le}
use Rattle.std.specs.List.{position}
use Rattle.std.proofs.lemmas.Bool.{cases_Bool, and_parts}
use Rattle.std.proofs.lemmas.Bool.Decides.{Decides-eqb}
use Rattle.std.proofs.lemmas.List.Elements.{All-head, All-tail, All-more}
use Rattle.std.specs.Option.{option_map}
use Rattle.auc_graph.specs.declared.arc.Arc.{Arc}
use Rattle.auc_graph.specs.Problem.{Problem}
use Rattle.auc_graph.specs.Dual.{arc_value}
use Rattle.auc_claim.specs.declared.lists.Pick.{Pick}
use Rattle.auc_claim.specs.Claim.{arc_of, chosen, is_slack_right, slack_fault, pick_value}
use Rattle.auc_claim.specs.declared.refused.CertRefused.TheVariants.{Slack}
use Rattle.auc_claim.proofs.ClaimLaws.{no_place}

abbrev pub no_pick : Pick
no_pick = record { object = 0; cost = pos 0 }

abbrev pub no_arc : Arc
no_arc = record { person = 0; object = 0; cost = pos 0 }

-- the arc is not better than its person's pick by more than 1
abbrev pub IsNear : ℕ → List ℤ → List Pick → Arc → Type 0
IsNear s prices picks a = int_le (pick_value s prices (get_or picks a.person no_pick)) (arc_value s prices a +ℤ pos 1) ≡ true

-- one arc more
pub near_more : (s : ℕ) (prices : List ℤ) (picks : List Pick) (arcs : List Arc) (i : ℕ) (before near now : Bool) → i < length arcs → (before ≡ true → All (IsNear s prices picks) (take i arcs)) → now ≡ (before && near)
    → near ≡ int_le (pick_value s prices (get_or picks (get_or arcs i no_arc).person no_pick)) (arc_value s prices (get_or arcs i no_arc) +ℤ pos 1) → now ≡ true → All (IsNear s prices picks) (take (i + 1) arcs)
near_more s prices picks arcs i before near now lt so_far made is h =
    let both = and_parts before near (sym made ∙ h) in
    All-more (IsNear s prices picks) arcs i no_arc lt (so_far both.0) (sym is ∙ both.1)

chosen_at : (k i : ℕ) (picks : List Pick) (d : Arc) → i < length (chosen k picks) → get_or (chosen k picks) i d ≡ arc_of (k + i) (get_or picks i no_pick)
chosen_at k i [] d lt = absurd (omega arith)
chosen_at k zero (p ∷ picks) d lt = let e : k ≡ k + 0 = omega arith in ap (λ (m : ℕ). arc_of m p) e
chosen_at k (suc i) (p ∷ picks) d lt =
    let e : k + 1 + i ≡ k + suc i = omega arith in
    chosen_at (k + 1) i picks d (omega arith) ∙ ap (λ (m : ℕ). arc_of m (get_or picks i no_pick)) e

borne : (s : ℕ) (prices : List ℤ) (picks : List Pick) (i : ℕ) (arcs : List Arc) → All (IsNear s prices picks) arcs → is_slack_right s prices arcs (arc_of i (get_or picks i no_pick)) ≡ true
borne s prices picks i [] near = refl
borne s prices picks i (a ∷ arcs) near =
    let rest = borne s prices picks i arcs (All-tail (IsNear s prices picks) a arcs near) in
    let here : int_le (pick_value s prices (get_or picks a.person no_pick)) (arc_value s prices a +ℤ pos 1) ≡ true = All-head (IsNear s prices picks) a arcs near in
    elim (cases_Bool (eqb i a.person)) [
      | inl same ↦
          let e : i ≡ a.person = (Decides-eqb i a.person).0 same in
          let his : int_le (pick_value s prices (get_or picks i no_pick)) (arc_value s prices a +ℤ pos 1) ≡ true = ap (λ (m : ℕ). int_le (pick_value s prices (get_or picks m no_pick)) (arc_value s prices a +ℤ pos 1)) e ∙ here in
          rw (same, his) rest
      | inr other ↦ rw other rest
    ]

-- if no arc is better by more than 1, each pick satisfies epsilon-complementary slackness
pub near_is_right : (s : ℕ) (prices : List ℤ) (picks : List Pick) (arcs : List Arc) → All (IsNear s prices picks) arcs → position (λ c. not (is_slack_right s prices arcs c)) (chosen 0 picks) ≡ None
near_is_right s prices picks arcs near =
    sym (no_place (λ c. not (is_slack_right s prices arcs c)) (chosen 0 picks) no_arc
    (λ k lt. ap (λ (c : Arc). not (is_slack_right s prices arcs c)) (chosen_at 0 k picks no_arc lt ∙ (let e : 0 + k ≡ k = omega arith in ap (λ (m : ℕ). arc_of m (get_or picks k no_pick)) e))
    ∙ ap not (borne s prices picks k arcs near)))

-- the same as a fault of the claim
pub slack_passed : (p : Problem) (choice : List Pick) (prices : List ℤ) (arcs : List Arc) (persons : ℕ) → arcs ≡ p.arcs → persons ≡ p.persons → position (λ c. not (is_slack_right (persons + 1) prices arcs c)) (chosen 0 choice) ≡ None → slack_fault p choice prices ≡ None
slack_passed p choice prices arcs persons are is none =
    ap (option_map (λ i. Slack i))
    (sym (ap (λ (xs : List Arc). position (λ c. not (is_slack_right (persons + 1) prices xs c)) (chosen 0 choice)) are
    ∙ ap (λ (m : ℕ). position (λ c. not (is_slack_right (m + 1) prices p.arcs c)) (chosen 0 choice)) is)
    ∙ none)
