-- What is found as the entries of a table are gone through.
use Rattle.std.specs.Prelude.{◌≡◌, ℕ, ◌+◌, length, nat_le, if◌then◌else◌, List, ◌∷◌, ◌++◌, ℤ, neg_ℤ, Option, Some, None}
use Rattle.auc_graph.specs.declared.arc.Arc.{Arc}
use Rattle.auc_graph.specs.declared.limits.TheConstants.{MOST_ARCS, MOST_COST}
use Rattle.auc_graph.specs.declared.list_faults.ListFault.{ListFault}
use Rattle.auc_graph.specs.declared.list_faults.ListFault.TheVariants.{TooManyArcs, Cost}
use Rattle.auc_graph.specs.InMemory.{fault_at, first_fault}
use Rattle.auc_graph.specs.Reading.{is_between}
use Rattle.auc_dense.specs.Table.{at_entry}

-- the fault of an entry, of which there is an arc at this place
abbrev pub entry_fault : ℕ → ℕ → ℤ → Option ListFault
entry_fault place entry cost =
    if nat_le MOST_ARCS place then Some TooManyArcs else
    (if is_between (neg_ℤ MOST_COST) MOST_COST cost then None else Some (Cost entry))

-- Of these arcs, the first of which has this place, this one is the first at fault.
pub record IsFirstFault (persons objects place : ℕ) (arcs : List Arc) (fault : ListFault) : Type 0 where
  pub before : List Arc
  pub arc : Arc
  pub behind : List Arc
  pub parts : arcs ≡ before ++ arc ∷ behind
  pub faultless : first_fault persons objects place before ≡ None
  pub found : ListFault
  pub found_is : fault_at persons objects (place + length before) arc ≡ Some found
  pub told : fault ≡ at_entry objects arc found
