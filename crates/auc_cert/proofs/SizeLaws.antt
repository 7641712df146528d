-- The sizes and names that a text of each form has.
use Rattle.std.proofs.Common.{◌≡◌, ℕ, ◌+◌, ◌≤◌, ◌<◌, List, length, arith}
use Rattle.auc_graph.specs.declared.limits.TheConstants.{MOST_OBJECTS, MOST_PERSONS}
use Rattle.auc_graph.specs.Rising.{Rises}
use Rattle.auc_claim.specs.declared.version.Version.TheVariants.{First, Second}
use Rattle.auc_claim.specs.Spelled.{least_behind}
use Rattle.auc_cert.specs.declared.form.Form.{Form}
use Rattle.auc_cert.specs.declared.form.Form.TheVariants.{Usual, Large}
use Rattle.auc_cert.specs.Form.{AreNamedIn, least_last, least_named, objects_in, persons_in}
use Rattle.auc_cert.specs.SecondLine.{AreSizes, AreCounts}
use Rattle.auc_claim.proofs.RisingLaws.{rises_room}
use Rattle.auc_claim.proofs.VersionLaws.{most_is_few, most_is_some, most_above}

-- ---- the limits of a form

pub persons_few : (form : Form) → persons_in form ≤ MOST_PERSONS
persons_few (Usual version) = omega arith
persons_few Large = omega arith

pub objects_few : (form : Form) → objects_in form ≤ MOST_OBJECTS
objects_few (Usual version) = let few : objects_in (Usual version) ≤ 20000 = most_is_few version in omega (arith, few)
objects_few Large = omega arith

pub objects_some : (form : Form) → 0 < objects_in form
objects_some (Usual version) = most_is_some version
objects_some Large = omega arith

-- as many objects as are named have numbers
pub objects_above : (form : Form) (l : ℕ) → l ≤ persons_in form → l ≤ objects_in form
objects_above (Usual version) l le = most_above version l le
objects_above Large l le = omega (arith, le)

pub last_is_in : (form : Form) → least_last form < objects_in form
last_is_in (Usual First) = omega arith
last_is_in (Usual Second) = omega arith
last_is_in Large = omega arith

-- ---- sizes

-- the limits of the numbers of persons and objects of a claim
pub record AreCounted (form : Form) (persons objects : ℕ) : Type 0 where
  pub some : 1 ≤ persons
  pub most : persons ≤ persons_in form
  pub enough : persons ≤ objects
  pub few : objects ≤ objects_in form

pub are_counted : (form : Form) (n m : ℕ) → AreSizes form n m → AreCounted form n m
are_counted (Usual First) n m is = let same : m ≡ n = is.beside in let most : n ≤ 10000 = is.count.most in record { some = is.count.some; most = most; enough = omega arith; few = omega arith }
are_counted (Usual Second) n m is = let lt : n < m = is.beside.0 in record { some = is.count.some; most = is.count.most; enough = omega arith; few = is.beside.1 }
are_counted Large n m is = record { some = is.count.some; most = is.count.most; enough = is.beside.0; few = is.beside.1 }

pub persons_fit : (form : Form) (n m : ℕ) → AreSizes form n m → n ≤ MOST_PERSONS
persons_fit form n m is = omega (arith, is.count.most, persons_few form)

pub objects_fit : (form : Form) (n m : ℕ) → AreSizes form n m → m ≤ MOST_OBJECTS
objects_fit form n m is = let few = (are_counted form n m is).few in omega (arith, few, objects_few form)

-- ---- names

pub counts_of : (form : Form) (persons objects : List ℕ) → AreNamedIn form persons objects → AreCounts form (length persons) (length objects)
counts_of form persons objects is = record {
  some = is.within.some;
  most = (let room : 0 + length persons ≤ persons_in form = rises_room 0 (persons_in form) persons (omega arith) is.within.persons_rise in omega arith);
  some_objects = is.some;
  few = is.within.few;
}

pub named_from : (form : Form) (persons objects : List ℕ) (m l : ℕ) → AreCounts form m l → Rises 0 (persons_in form) persons → Rises 0 (objects_in form) objects → length persons ≡ m → length objects ≡ l → (0 < length objects → least_last form < least_behind 0 objects) → AreNamedIn form persons objects
named_from form persons objects m l h p q many all last = record {
  within = record {
    some = (let some : 1 ≤ m = h.some in omega arith);
    few = (let few : l ≤ persons_in form = h.few in omega arith);
    persons_rise = p;
    objects_rise = q;
  };
  some = (let some : least_named form ≤ l = h.some_objects in omega arith);
  last = last;
}
