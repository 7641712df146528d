-- The claim that follows from holders and prices.
use Rattle.std.specs.Prelude.{ℕ, ℤ, pos, ◌≡◌, List, [], map, Option, Some, None, All, Contains, FitsSigned, slice_get, slice_index_or}
use Rattle.std.specs.Int.{w64}
use Rattle.std.specs.List.{range_with_len}
use Rattle.auc_graph.specs.declared.arc.Arc.{Arc}
use Rattle.auc_graph.specs.Assignment.{IsAssignment, person_of, total_cost}
use Rattle.auc_graph.specs.Dual.{IsLower, dual, price_at, scale_of}
use Rattle.auc_graph.specs.declared.rows.RowArc.{RowArc}
use Rattle.auc_graph.specs.Problem.{Problem}
use Rattle.auc_graph.specs.Table.{IsTableOf, Table}
use Rattle.auc_hall.specs.Completion.{IsGrownTo}
use Rattle.auc_hall.specs.Matched.{HasObject}
use Rattle.auc_hall.specs.Partial.{pick}
use Rattle.auc_letters.specs.declared.state.Held.{Held}
use Rattle.auc_claim.specs.declared.reason.Reason.{Reason}
use Rattle.auc_claim.specs.declared.cert.CertParts.{CertParts}
use Rattle.auc_claim.specs.declared.lists.Pick.{Pick}
use Rattle.auc_claim.specs.Claim.{pick_of}

-- the holder of an object, if there is one
abbrev pub holder_at : List (Option Held) → ℕ → Option Held
holder_at holders j = slice_index_or holders j None

-- the person holds an object by this arc: it is at the named place of the problem's list, and it is the person's
pub record HoldsBy (p : Problem) (held : Held) (arc : Arc) : Type 0 where
  pub place : slice_get p.arcs held.arc ≡ Some arc
  pub his : arc.person ≡ held.person

-- some object is held by this arc
pub record IsHoldersArc (p : Problem) (holders : List (Option Held)) (arc : Arc) : Type 0 where
  pub object : ℕ
  pub held : Held
  pub holds : holder_at holders object ≡ Some held
  pub by : HoldsBy p held arc

-- no person holds two objects
abbrev pub NobodyHoldsTwo : List (Option Held) → Type 0
NobodyHoldsTwo holders = (j k : ℕ) (a b : Held) → holder_at holders j ≡ Some a → holder_at holders k ≡ Some b → a.person ≡ b.person → j ≡ k

-- each object without a holder has price 0
abbrev pub HasNoPriceUnheld : List (Option Held) → List ℤ → Type 0
HasNoPriceUnheld holders prices = (j : ℕ) → holder_at holders j ≡ None → price_at prices j ≡ pos 0

-- the dual bound of the prices fits 64 bits
abbrev pub BoundFits : Problem → List ℤ → Type 0
BoundFits p prices = (lower : ℤ) → IsLower (scale_of p) (dual p prices) lower → FitsSigned w64 lower

-- the choice consists of the holders' arcs: one for each person, in order, none left out, and no person holds two
-- objects
pub record IsChoiceOf (p : Problem) (holders : List (Option Held)) (choice : List Arc) : Type 0 where
  pub persons : map person_of choice ≡ range_with_len 0 p.persons
  pub held : All (IsHoldersArc p holders) choice
  pub each : (j : ℕ) (h : Held) → holder_at holders j ≡ Some h → (a : Arc) × Contains choice a × HoldsBy p h a
  pub once : NobodyHoldsTwo holders

-- the pick of the arc at this place
abbrev pub pick_at : List Arc → ℕ → Pick
pick_at arcs n = pick_of (slice_index_or arcs n (record { person = 0; object = 0; cost = pos 0 }))

-- the claim that a choice costs least, with these prices as the proof
abbrev pub claim_of : List Arc → List ℤ → CertParts
claim_of choice prices = CertParts.Optimal (total_cost choice) (map pick_of choice) prices

-- the claim that the holders' arcs cost least, with these prices as the proof
pub record IsClaimOf (p : Problem) (holders : List (Option Held)) (prices : List ℤ) (cert : CertParts) : Type 0 where
  pub choice : List Arc
  pub held : IsChoiceOf p holders choice
  pub claim_is : cert ≡ claim_of choice prices

-- the person holds this object by an arc to it
pub record HoldsAt (p : Problem) (object : ℕ) (held : Held) (arc : Arc) : Type 0 where
  pub by : HoldsBy p held arc
  pub leads : arc.object ≡ object

-- each holder has the object by an arc of the person to it, and no person holds two
pub record ArePlaceable (p : Problem) (holders : List (Option Held)) : Type 0 where
  pub each : (j : ℕ) (h : Held) → holder_at holders j ≡ Some h → (a : Arc) × HoldsAt p j h a
  pub once : NobodyHoldsTwo holders

-- a bracket: an assignment, with the dual bound of the prices
pub record IsBracketBy (p : Problem) (reason : Reason) (prices : List ℤ) (cert : CertParts) : Type 0 where
  pub choice : List Arc
  pub assigned : IsAssignment p choice
  pub lower : ℤ
  pub bound : IsLower (scale_of p) (dual p prices) lower
  pub is : cert ≡ CertParts.Bracket reason lower (total_cost choice) (map pick_of choice) prices

-- the person has the object of this arc, and holds it by this arc
pub record HasAsHolder (holders : List (Option Held)) (person : ℕ) (arc : RowArc) : Type 0 where
  pub held : Held
  pub holds : holder_at holders arc.object ≡ Some held
  pub who : held.person ≡ person
  pub by : held.arc ≡ arc.arc

-- the choice consists of exactly the holders' arcs
pub record AreHoldersArcs (holders : List (Option Held)) (choice : List (Option RowArc)) : Type 0 where
  pub only : (i : ℕ) (a : RowArc) → pick choice i ≡ Some a → HasAsHolder holders i a
  pub all : (j : ℕ) (h : Held) → holder_at holders j ≡ Some h → HasObject choice h.person j

-- the picks of a certificate
abbrev pub picks_of : CertParts → List Pick
picks_of (CertParts.Optimal cost choice prices) = choice
picks_of (CertParts.Infeasible persons objects) = []
picks_of (CertParts.Bracket reason lower cost choice prices) = choice

-- the picks come from arcs that have grown from the holders' arcs until each person had one
pub record GrowsFrom (p : Problem) (holders : List (Option Held)) (picks : List Pick) : Type 0 where
  pub table : Table
  pub of : IsTableOf p table
  pub placed : List (Option RowArc)
  pub held : AreHoldersArcs holders placed
  pub numbers : List ℕ
  pub grown : IsGrownTo table placed numbers
  pub are : picks ≡ map (pick_at p.arcs) numbers
