-- The holders, with the arcs of the problem by which they hold.
use Rattle.std.specs.Prelude.{ℕ, ◌≡◌, ◌≢◌, ◌<◌, List, [], length, Contains, Option, Some, None, slice_get}
use Rattle.auc_graph.specs.declared.arc.Arc.{Arc}
use Rattle.auc_graph.specs.Problem.{Problem}
use Rattle.auc_letters.specs.declared.state.Held.{Held}
use Rattle.auc_answers.specs.Claims.{holder_at as held_at}
use Rattle.auc_rows.specs.Rows.{short_row}
use Rattle.auc_rows.specs.declared.arc.ShortArc.{ShortArc}
use Rattle.auc_letters.specs.declared.limits.TheConstants.{NOBODY}
use Rattle.auc_market.specs.Market.{holder_at, own_at}

-- the problem's arc that an arc of a person's row stands for
abbrev pub arc_by : ℕ → ShortArc → Arc
arc_by i s = record { person = i; object = s.object; cost = s.cost }

-- holders and arcs agree: each object's holder has it, and each person with an object is its holder
pub record AreHolders (p : Problem) (holders : List ℕ) (owns : List ShortArc) : Type 0 where
  pub holders_are : length holders ≡ p.objects
  pub owns_are : length owns ≡ p.persons
  pub held : (j : ℕ) → holder_at holders j ≢ NOBODY → (own_at owns (holder_at holders j)).object ≡ j
  pub holds : (i : ℕ) → (own_at owns i).object ≢ NOBODY → holder_at holders (own_at owns i).object ≡ i

-- each arc by which an object is held is in the problem's list
abbrev pub AreListed : Problem → List ℕ → List ShortArc → Type 0
AreListed p holders owns =
    (j : ℕ) → holder_at holders j ≢ NOBODY
    → Contains p.arcs (arc_by (holder_at holders j) (own_at owns (holder_at holders j)))

-- the object has no holder; or its holder is this person, by the arc at this place of the problem's list
abbrev pub IsHeld : Problem → List ℕ → List ShortArc → ℕ → Option Held → Type 0
IsHeld p holders owns j None = holder_at holders j ≡ NOBODY
IsHeld p holders owns j (Some h) =
    (holder_at holders j ≡ h.person) × (h.person ≢ NOBODY)
    × (slice_get p.arcs h.arc ≡ Some (arc_by h.person (own_at owns h.person)))

-- the same for every object
abbrev pub AreHeld : Problem → List ℕ → List ShortArc → List (Option Held) → Type 0
AreHeld p holders owns held = (j : ℕ) → IsHeld p holders owns j (held_at held j)

-- each person of a problem has an arc
abbrev pub EachHasRow : Problem → Type 0
EachHasRow p = (i : ℕ) → i < p.persons → short_row i p.arcs ≢ []
