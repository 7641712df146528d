-- The arcs by which persons hold are found in the problem's list, arc by arc.
use Rattle.std.proofs.Common.{ℕ, ◌+◌, ◌<◌, ◌≤◌, ◌≡◌, ◌≢◌, arith, inl, inr, List, length, get_or, set, Contains, Option, Some, None, ap, sym, subst, ◌∙◌}
use Rattle.std.proofs.lemmas.Bool.{cases_eq}
use Rattle.std.proofs.lemmas.List.{get_or_default, get_or_past, get_or-set_other, get_or-set_same}
use Rattle.auc_graph.specs.declared.arc.Arc.{Arc}
use Rattle.auc_graph.specs.Problem.{Problem}
use Rattle.auc_answers.specs.Claims.{holder_at as held_at}
use Rattle.auc_letters.specs.declared.state.Held.{Held}
use Rattle.auc_rows.specs.declared.arc.ShortArc.{ShortArc}
use Rattle.auc_graph.proofs.ArcLaws.{none}
use Rattle.auc_letters.specs.declared.limits.TheConstants.{NOBODY}
use Rattle.auc_direct.specs.Held.{AreHeld, AreListed, IsHeld, arc_by}
use Rattle.auc_market.specs.Market.{holder_at, no_own, own_at}

module _ (p : Problem) (holders : List ℕ) (owns : List ShortArc) where
  -- an arc is the one by which this person holds
  abbrev IsOwn : Arc → ℕ → Type 0
  IsOwn a q = a ≡ arc_by q (own_at owns q)

  -- the holder holds the object by none of the first n arcs, or has been found
  abbrev pub IsMet : ℕ → ℕ → Option Held → Type 0
  IsMet n j None = (m : ℕ) → m < n → holder_at holders j ≢ NOBODY → IsOwn (get_or p.arcs m none) (holder_at holders j) → ⊥
  IsMet n j (Some h) = IsHeld p holders owns j (Some h)

  abbrev pub AreMet : ℕ → List (Option Held) → Type 0
  AreMet n held = (j : ℕ) → IsMet n j (held_at held j)

  -- one arc more, by which the object's holder doesn't hold it
  other : (n j : ℕ) (o : Option Held) → (holder_at holders j ≢ NOBODY → IsOwn (get_or p.arcs n none) (holder_at holders j) → ⊥) → IsMet n j o → IsMet (n + 1) j o
  other n j None differs met = λ m lt some e. elim (cases_eq m n) [
    | inl same ↦ differs some (subst (λ (k : ℕ). IsOwn (get_or p.arcs k none) (holder_at holders j)) same e)
    | inr ne ↦ met m (grind (arith, lt, ne)) some e
  ]
  other n j (Some h) differs met = met

  -- no person holds by this arc
  pub met_other : (n : ℕ) (held : List (Option Held)) → ((q : ℕ) → IsOwn (get_or p.arcs n none) q → ⊥) → AreMet n held → AreMet (n + 1) held
  met_other n held differs met j = other n j (held_at held j) (λ some e. differs (holder_at holders j) e) (met j)

  module _ (has : (j : ℕ) → holder_at holders j ≢ NOBODY → (own_at owns (holder_at holders j)).object ≡ j) where
    -- the holder of another object doesn't hold it by an arc to this one
    elsewhere : (n j : ℕ) → j ≢ (get_or p.arcs n none).object → holder_at holders j ≢ NOBODY → IsOwn (get_or p.arcs n none) (holder_at holders j) → ⊥
    elsewhere n j ne some e = ne (sym (ap (λ (x : Arc). x.object) e ∙ has j some))

    -- its holder holds it by this arc
    pub met_now : (n : ℕ) (held : List (Option Held)) (h : Held) → (get_or p.arcs n none).object < length held → IsHeld p holders owns (get_or p.arcs n none).object (Some h) → AreMet n held → AreMet (n + 1) (set held (get_or p.arcs n none).object (Some h))
    met_now n held h inside is met j =
        elim (cases_eq j (get_or p.arcs n none).object) [
          | inl same ↦ (
              let here : held_at (set held (get_or p.arcs n none).object (Some h)) j ≡ Some h = ap (held_at (set held (get_or p.arcs n none).object (Some h))) same ∙ get_or-set_same held (get_or p.arcs n none).object (Some h) None inside in
              subst (IsMet (n + 1) j) (sym here) (subst (λ (k : ℕ). IsHeld p holders owns k (Some h)) (sym same) is)
              )
          | inr ne ↦ (
              let off : held_at (set held (get_or p.arcs n none).object (Some h)) j ≡ held_at held j = get_or-set_other held (get_or p.arcs n none).object j (Some h) None ne in
              subst (IsMet (n + 1) j) (sym off) (other n j (held_at held j) (elsewhere n j ne) (met j))
              )
        ]

  -- ---- all arcs

  all_by : (n j : ℕ) → length p.arcs ≤ n → (holder_at holders j ≢ NOBODY → Contains p.arcs (arc_by (holder_at holders j) (own_at owns (holder_at holders j)))) → (o : Option Held) → IsMet n j o → IsHeld p holders owns j o
  all_by n j over listed None met =
      elim (cases_eq (holder_at holders j) NOBODY) [
        | inl nobody ↦ nobody
        | inr some ↦ (
            let c = listed some in
            absurd (met c.0 (let l = c.1 in omega (arith, l, over)) some (get_or_default p.arcs c.0 none (arc_by (holder_at holders j) (own_at owns (holder_at holders j))) c.1 ∙ c.2))
            )
      ]
  all_by n j over listed (Some h) met = met

  pub met_all : (n : ℕ) (held : List (Option Held)) → length p.arcs ≤ n → AreListed p holders owns → AreMet n held → AreHeld p holders owns held
  met_all n held over listed met j = all_by n j over (listed j) (held_at held j) (met j)

  -- ---- person by person

  -- the holder of the object, if any, comes after the first n persons, or has been found
  abbrev pub IsSeen : ℕ → ℕ → Option Held → Type 0
  IsSeen n j None = holder_at holders j ≢ NOBODY → n ≤ holder_at holders j
  IsSeen n j (Some h) = IsHeld p holders owns j (Some h)

  abbrev pub AreSeen : ℕ → List (Option Held) → Type 0
  AreSeen n held = (j : ℕ) → IsSeen n j (held_at held j)

  -- one more person, who doesn't hold the object
  seen_later : (n j : ℕ) (o : Option Held) → (holder_at holders j ≢ NOBODY → holder_at holders j ≡ n → ⊥) → IsSeen n j o → IsSeen (n + 1) j o
  seen_later n j None other seen = λ some. (
      let le = seen some in
      let ne = other some in
      grind (arith, le, ne)
      )
  seen_later n j (Some h) other seen = seen

  module _ (has : (j : ℕ) → holder_at holders j ≢ NOBODY → (own_at owns (holder_at holders j)).object ≡ j) where
    pub seen_now : (n object : ℕ) (held : List (Option Held)) (h : Held) → (own_at owns n).object ≡ object → object < length held → IsHeld p holders owns object (Some h) → AreSeen n held → AreSeen (n + 1) (set held object (Some h))
    seen_now n object held h his inside is seen j =
        elim (cases_eq j object) [
          | inl same ↦ (
              let here : held_at (set held object (Some h)) j ≡ Some h = ap (held_at (set held object (Some h))) same ∙ get_or-set_same held object (Some h) None inside in
              subst (IsSeen (n + 1) j) (sym here) (subst (λ (k : ℕ). IsHeld p holders owns k (Some h)) (sym same) is)
              )
          | inr ne ↦ (
              let off : held_at (set held object (Some h)) j ≡ held_at held j = get_or-set_other held object j (Some h) None ne in
              subst (IsSeen (n + 1) j) (sym off) (seen_later n j (held_at held j) (λ some e. ne (sym (has j some) ∙ ap (λ (k : ℕ). (own_at owns k).object) e ∙ his)) (seen j))
              )
        ]

    -- ---- all persons

    seen_by : (n j : ℕ) → length owns ≤ n → length holders ≤ NOBODY → (o : Option Held) → IsSeen n j o → IsHeld p holders owns j o
    seen_by n j over few None seen =
        elim (cases_eq (holder_at holders j) NOBODY) [
          | inl nobody ↦ nobody
          | inr some ↦ (
              let past : own_at owns (holder_at holders j) ≡ no_own = get_or_past owns (holder_at holders j) no_own (let le = seen some in omega (arith, le, over)) in
              let is : NOBODY ≡ j = sym (ap (λ (s : ShortArc). s.object) past) ∙ has j some in
              absurd (some (get_or_past holders j NOBODY (omega (arith, few, is))))
              )
        ]
    seen_by n j over few (Some h) seen = seen

    pub seen_all : (n : ℕ) (held : List (Option Held)) → length owns ≤ n → length holders ≤ NOBODY → AreSeen n held → AreHeld p holders owns held
    seen_all n held over few seen j = seen_by n j over few (held_at held j) (seen j)
