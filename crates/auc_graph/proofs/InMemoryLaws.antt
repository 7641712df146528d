-- A list of arcs has no fault exactly where it makes a problem.
use Rattle.std.proofs.Common.{◌≡◌, ℕ, suc, ◌+◌, ◌<◌, ◌≤◌, Bool, true, false, cond, T, List, [], ◌∷◌, length, Option, Some, None, refl, sym, subst, arith}
use Rattle.std.specs.Prelude.{neg_ℤ, int_le, All, nat_le, ◌&&◌}
use Rattle.std.specs.Option.{option_or}
use Rattle.std.specs.Int.Signed.{le_z_yes}
use Rattle.std.proofs.lemmas.Bool.{and_parts}
use Rattle.std.proofs.lemmas.Bool.Decides.{nat_tests}
use Rattle.std.proofs.lemmas.List.Elements.{All-nil, All-cons, All-head, All-tail}
use Rattle.auc_graph.specs.declared.arc.Arc.{Arc}
use Rattle.auc_graph.specs.declared.list_faults.ListFault.{ListFault}
use Rattle.auc_graph.specs.declared.limits.TheConstants.{MOST_ARCS, MOST_COST}
use Rattle.auc_graph.specs.Problem.{IsWithin}
use Rattle.auc_graph.specs.InMemory.{fault_at, first_fault}

pub true_from : (b : Bool) → T b → b ≡ true
true_from true t = refl
true_from false t = absurd t

-- no test finds a fault: that of the number of arcs, of the person, of the object, and of the cost
record HasNoFault (m p o c : Bool) : Type 0 where
  few : m ≡ false
  person : p ≡ false
  object : o ≡ false
  cost : c ≡ true

by_tests : (m p o c : Bool) (w x y z : ListFault) → cond m (Some w) (cond p (Some x) (cond o (Some y) (cond c None (Some z)))) ≡ None → HasNoFault m p o c
by_tests true p o c w x y z e = absurd cc
by_tests false true o c w x y z e = absurd cc
by_tests false false true c w x y z e = absurd cc
by_tests false false false true w x y z e = record { few = refl; person = refl; object = refl; cost = refl }
by_tests false false false false w x y z e = absurd cc

by_parts : (a b : Option ListFault) → option_or a b ≡ None → (a ≡ None) × (b ≡ None)
by_parts None b e = (refl, e)
by_parts (Some x) b e = absurd cc

pub from_no : (n m : ℕ) → nat_le n m ≡ false → m < n
from_no n m e = grind (arith, nat_tests)

no_from : (n m : ℕ) → m < n → nat_le n m ≡ false
no_from n m e = grind (arith, nat_tests)

tests_of : (n m place : ℕ) (a : Arc) → fault_at n m place a ≡ None → HasNoFault (nat_le MOST_ARCS place) (nat_le n a.person) (nat_le m a.object) (int_le (neg_ℤ MOST_COST) a.cost && int_le a.cost MOST_COST)
tests_of n m place a e = by_tests (nat_le MOST_ARCS place) (nat_le n a.person) (nat_le m a.object) (int_le (neg_ℤ MOST_COST) a.cost && int_le a.cost MOST_COST) ListFault.TooManyArcs (ListFault.Person place) (ListFault.Object place) (ListFault.Cost place) e

arc_sound : (n m place : ℕ) (a : Arc) → fault_at n m place a ≡ None → IsWithin n m a
arc_sound n m place a e =
    let t = tests_of n m place a e in
    let c = and_parts (int_le (neg_ℤ MOST_COST) a.cost) (int_le a.cost MOST_COST) t.cost in
    record {
      person = from_no n a.person t.person;
      object = from_no m a.object t.object;
      low = le_z_yes (subst (λ (b : Bool). T b) (sym c.0) tt);
      high = le_z_yes (subst (λ (b : Bool). T b) (sym c.1) tt);
    }

arc_complete : (n m place : ℕ) (a : Arc) → place < MOST_ARCS → IsWithin n m a → fault_at n m place a ≡ None
arc_complete n m place a before w =
    let r = no_from MOST_ARCS place before in
    let p = no_from n a.person w.person in
    let o = no_from m a.object w.object in
    let l = true_from (int_le (neg_ℤ MOST_COST) a.cost) w.low.le in
    let h = true_from (int_le a.cost MOST_COST) w.high.le in
    rw (r, p, o, l, h) refl

pub sound : (n m place : ℕ) (arcs : List Arc) → first_fault n m place arcs ≡ None → All (IsWithin n m) arcs
sound n m place [] e = All-nil (IsWithin n m)
sound n m place (a ∷ arcs) e =
    let p = by_parts (fault_at n m place a) (first_fault n m (suc place) arcs) e in
    All-cons (IsWithin n m) a arcs (arc_sound n m place a p.0) (sound n m (suc place) arcs p.1)

-- no arc is one too many
pub room : (n m place : ℕ) (arcs : List Arc) → place ≤ MOST_ARCS → first_fault n m place arcs ≡ None → place + length arcs ≤ MOST_ARCS
room n m place [] le e = omega (arith, le)
room n m place (a ∷ arcs) le e =
    let p = by_parts (fault_at n m place a) (first_fault n m (suc place) arcs) e in
    let before : place < MOST_ARCS = from_no MOST_ARCS place (tests_of n m place a p.0).few in
    let more : suc place + length arcs ≤ MOST_ARCS = room n m (suc place) arcs (omega (arith, before)) p.1 in
    omega (arith, more)

pub complete : (n m place : ℕ) (arcs : List Arc) → place + length arcs ≤ MOST_ARCS → All (IsWithin n m) arcs → first_fault n m place arcs ≡ None
complete n m place [] few h = refl
complete n m place (a ∷ arcs) few h =
    let before : place < MOST_ARCS = omega (arith, few) in
    rw (arc_complete n m place a before (All-head (IsWithin n m) a arcs h)) (complete n m (suc place) arcs (omega (arith, few)) (All-tail (IsWithin n m) a arcs h))
