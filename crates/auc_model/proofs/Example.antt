-- One person, one object, one arc between them, and one shard of each: the premises of the theorems can be met.
use Rattle.std.proofs.Common.{ℕ, pos, zero, suc, ◌<◌, ◌≡◌, refl, arith, false, [], ◌∷◌, None, All, length}
use Rattle.std.proofs.lemmas.Bool.Decides.{nat_tests}
use Rattle.std.proofs.lemmas.Int.{ints}
use Rattle.auc_graph.specs.declared.rows.RowArc.{RowArc}
use Rattle.auc_letters.specs.declared.state.PersonState.{PersonState}
use Rattle.auc_mail.specs.Mail.{empty_mail}
use Rattle.auc_model.specs.Put.{put}
use Rattle.auc_model.specs.Start.{Lawful, Starts, UsualNodes, free_in, occurs}
use Rattle.auc_model.specs.World.{Phase, World}

abbrev pub one_arc : RowArc
one_arc = record { cost = pos 3; object = 0; arc = 0 }

abbrev pub small : Phase
small = record { persons = 1; objects = 1; shards = 1; spread = pos 0; eps = pos 1; row = put (λ i. []) 0 (one_arc ∷ []) }

abbrev pub beginning : World
beginning = record {
  price = λ j. pos 0;
  holder = λ j. None;
  state = λ i. PersonState.Free;
  copy = λ s j. pos 0;
  idle = put (λ s. []) 0 (0 ∷ []);
  bids_left = λ s. 5;
  has_stopped = λ s. false;
  person_out = λ s. [];
  object_out = λ q. [];
  objects_mail = empty_mail 1 3 1 9;
  persons_mail = empty_mail 1 3 4 9;
  hub_mail = empty_mail 1 3 3 9;
  count = 0;
  end = None;
}

idle_is : (s i : ℕ) → occurs i (beginning.idle s) ≡ free_in small PersonState.Free s i
idle_is zero zero = refl
idle_is zero (suc i) = grind (arith, nat_tests)
idle_is (suc s) i = grind (arith, nat_tests)

in_range : (i : ℕ) → All (λ a. a.object < 1) (small.row i)
in_range zero zero d l = omega arith
in_range zero (suc k) d l = absurd (omega arith)
in_range (suc i) k d l = absurd (let e : length (small.row (suc i)) ≡ 0 = grind (arith, nat_tests) in omega (arith, e))

pub lawful : Lawful small
lawful = record { some_shards = omega arith; eps_above = omega (arith, ints); spread_above = omega (arith, ints); arcs_in_range = in_range }

pub starts : Starts small beginning
starts = record {
  price_range = (λ j. record { low = omega (arith, ints); high = omega (arith, ints) });
  copies_above = (λ s j. omega (arith, ints));
  copies_low = (λ s j. omega (arith, ints));
  nobody_holds = (λ j. refl);
  all_free = (λ i. refl);
  idle_is = idle_is;
  none_stopped = (λ s. refl);
  no_person_out = (λ s. refl);
  no_object_out = (λ q. refl);
  objects_mail = refl;
  persons_mail = refl;
  hub_mail = refl;
  none_counted = refl;
  no_end = refl;
}

pub usual : UsualNodes small beginning
usual = record { objects = refl; persons = refl; hub = refl }
