-- What a check comes to.
use Rattle.std.specs.Prelude.{◌≡◌, ℕ, ◌+◌, ◌<◌, ℤ, List, length, take, Option, Some, None, Result, Ok, Err, ⊤}
use Rattle.auc_graph.specs.declared.arc.Arc.{Arc}
use Rattle.auc_graph.specs.Problem.{Problem, IsProblem}
use Rattle.auc_graph.specs.HallSet.{IsHallSet}
use Rattle.auc_graph.specs.InMemory.{problem_fault}
use Rattle.auc_claim.specs.declared.lists.Pick.{Pick}
use Rattle.auc_claim.specs.declared.cert.CertParts.{CertParts}
use Rattle.auc_claim.specs.declared.refused.CertRefused.{CertRefused}
use Rattle.auc_claim.specs.Claim.{chosen, fault_of}
use Rattle.auc_claim.specs.InRange.{IsInRange}
use Rattle.auc_call.specs.declared.checked.Checked.{Checked}
use Rattle.auc_call.specs.declared.checked.Checked.TheVariants.{Valid, Invalid}
use Rattle.auc_call.specs.declared.checked.ClaimFault.{ClaimFault}
use Rattle.auc_call.specs.declared.checked.ClaimFault.TheVariants.{Misplaced, OutOfRange, Refused}
use Rattle.auc_call.specs.declared.solved.Failed.{Failed}
use Rattle.auc_call.specs.declared.solved.Failed.TheVariants.{Sizes, Fault, Start, NoMemory}
use Rattle.auc_call.specs.Memory.{AreAt}
use Rattle.auc_call.specs.Shown.{IsLeastAt}

-- a place for each person, and a price for each object
pub record AreClaimSizes (p : Problem) (places : List ℕ) (prices : List ℤ) : Type 0 where
  pub places_are : length places ≡ p.persons
  pub prices_are : length prices ≡ p.objects

-- this person is the first one whose place is none of the list, or that of another one's arc
pub record IsMisplaced (arcs : List Arc) (places : List ℕ) (person : ℕ) : Type 0 where
  pub one : person < length places
  pub picks : List Pick
  pub before : AreAt arcs (take person places) (chosen 0 picks)
  pub not_his : (others : List Pick) → AreAt arcs (take (person + 1) places) (chosen 0 others) → ⊥

-- the picks that stand at these places, with the cost and the prices, are a claim with this property
pub record Claims (p : Problem) (places : List ℕ) (prices : List ℤ) (cost : ℤ) (Has : CertParts → Type 0) : Type 0 where
  pub picks : List Pick
  pub at : AreAt p.arcs places (chosen 0 picks)
  pub has : Has (CertParts.Optimal cost picks prices)

-- a claim has this fault
abbrev pub IsClaimFault : Problem → List ℕ → List ℤ → ℤ → ClaimFault → Type 0
IsClaimFault p places prices cost (Misplaced person) = IsMisplaced p.arcs places person
IsClaimFault p places prices cost OutOfRange = Claims p places prices cost (λ claim. IsInRange claim → ⊥)
IsClaimFault p places prices cost (Refused fault) = Claims p places prices cost (λ claim. fault_of p claim ≡ Some fault)

-- and so has a Hall set
abbrev pub IsHallFault : Problem → List ℕ → List ℕ → ClaimFault → Type 0
IsHallFault p persons objects (Misplaced person) = ⊥
IsHallFault p persons objects OutOfRange = IsInRange (CertParts.Infeasible persons objects) → ⊥
IsHallFault p persons objects (Refused fault) = fault_of p (CertParts.Infeasible persons objects) ≡ Some fault

-- what a check of an assignment came to is right
abbrev pub Checks : Problem → List ℕ → List ℤ → ℤ → Result Checked Failed → Type 0
Checks p places prices cost (Ok Valid) = IsLeastAt p places prices cost
Checks p places prices cost (Ok (Invalid fault)) = AreClaimSizes p places prices × IsClaimFault p places prices cost fault
Checks p places prices cost (Err Sizes) = AreClaimSizes p places prices → ⊥
Checks p places prices cost (Err (Fault fault)) = AreClaimSizes p places prices × (problem_fault p ≡ Some fault) × (IsProblem p → ⊥)
Checks p places prices cost (Err (Start fault)) = ⊥
Checks p places prices cost (Err NoMemory) = AreClaimSizes p places prices

-- and what one of a Hall set came to
abbrev pub ChecksHall : Problem → List ℕ → List ℕ → Result Checked Failed → Type 0
ChecksHall p persons objects (Ok Valid) = IsProblem p × IsHallSet p persons objects
ChecksHall p persons objects (Ok (Invalid fault)) = IsHallFault p persons objects fault
ChecksHall p persons objects (Err Sizes) = ⊥
ChecksHall p persons objects (Err (Fault fault)) = (problem_fault p ≡ Some fault) × (IsProblem p → ⊥)
ChecksHall p persons objects (Err (Start fault)) = ⊥
ChecksHall p persons objects (Err NoMemory) = ⊤

-- what the checker says, where it finds this fault or none
abbrev pub Told : Option CertRefused → Result Checked Failed → Type 0
Told found (Ok Valid) = found ≡ None
Told found (Ok (Invalid (Misplaced person))) = ⊥
Told found (Ok (Invalid OutOfRange)) = ⊥
Told found (Ok (Invalid (Refused fault))) = found ≡ Some fault
Told found (Err Sizes) = ⊥
Told found (Err (Fault fault)) = ⊥
Told found (Err (Start fault)) = ⊥
Told found (Err NoMemory) = ⊤
