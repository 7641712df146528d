-- Persons of a table who together know too few objects are a Hall set of its problem, and the checker sees it.
use Rattle.std.proofs.Common.{◌≡◌, ℕ, ◌+◌, ◌*◌, ◌≤◌, List, length, get_or, take, None, refl, sym, ◌∙◌, Contains}
use Rattle.std.specs.Prelude.{ℤ, pos}
use Rattle.auc_graph.specs.declared.arc.Arc.{Arc}
use Rattle.auc_graph.specs.Problem.{IsProblem}
use Rattle.auc_graph.specs.Reading.{problem}
use Rattle.auc_graph.proofs.RisingLaws.{rising_differ}
use Rattle.auc_hall.specs.OfProblem.{AreKnown, IsHallSetOf}
use Rattle.auc_claim.specs.declared.cert.CertParts.{CertParts}
use Rattle.auc_claim.specs.Claim.{fault_of}
use Rattle.auc_claim.specs.InRange.{IsInRange}
use Rattle.auc_claim.proofs.ClaimLaws.{hall_sets_faultless}
use Rattle.auc_claim.proofs.HallLaws.{hall_set_in_range}
use Rattle.auc_call.specs.Shown.{IsHallAt}
use Rattle.auc_dense.specs.Shortage.{ShowShortage}
use Rattle.auc_dense.specs.Table.{IsTable, table_arcs}
use Rattle.auc_dense.proofs.EntryLaws.{entries_are, entry_there, row_at}
use Rattle.auc_dense.proofs.TableLaws.{arc_for}

module _ (persons objects : ℕ) (costs : List ℤ) (stride : ℕ) (gap : ℤ) (listed known : List ℕ) (table : IsTable persons objects stride (length costs)) (show : ShowShortage persons objects costs stride gap listed known) where
  -- no arc of one of these persons leads to another object
  stays : (a : Arc) → Contains (table_arcs objects costs stride gap persons) a → Contains listed a.person → Contains known a.object
  stays a there his =
      let entry = (entries_are persons objects costs stride gap a table).0 there in
      let cost = entry.cost ∙ sym (row_at objects costs stride a.person a.object entry.object) in
      show.all a.person a.object his entry.object (λ gone. entry.own (cost ∙ gone))

  -- and to each of these objects one does
  leads : AreKnown (problem persons objects (table_arcs objects costs stride gap persons)) listed known
  leads j c =
      let by = show.only j c in
      let inside = show.known_below j c in
      let own = λ (gone : get_or costs (by.0 * stride + j) (pos 0) ≡ gap). by.2 (row_at objects costs stride by.0 j inside ∙ gone) in (
        arc_for by.0 j (get_or costs (by.0 * stride + j) (pos 0)),
        entry_there persons objects costs stride gap by.0 j table.within (show.listed_below by.0 by.1) inside own,
        by.1,
        refl,
      )

  pub shortage_is_hall : IsHallSetOf (problem persons objects (table_arcs objects costs stride gap persons)) listed known
  shortage_is_hall = record {
    set = record { within = show.listed_below; different = rising_differ listed show.listed_rise; all = stays; fewer = show.fewer };
    known = leads;
    persons_rise = show.listed_rise;
    objects_rise = show.known_rise;
  }

  pub shortage_in_range : IsProblem (problem persons objects (table_arcs objects costs stride gap persons)) → IsInRange (CertParts.Infeasible listed known)
  shortage_in_range is = hall_set_in_range (problem persons objects (table_arcs objects costs stride gap persons)) listed known is shortage_is_hall.set show.listed_rise show.known_rise show.known_below

  pub shortage_faultless : fault_of (problem persons objects (table_arcs objects costs stride gap persons)) (CertParts.Infeasible listed known) ≡ None
  shortage_faultless = hall_sets_faultless (problem persons objects (table_arcs objects costs stride gap persons)) listed known shortage_is_hall.set show.known_below

  -- where they stand at the front of the caller's memory
  pub shortage_at : (choice set : List ℕ) → IsProblem (problem persons objects (table_arcs objects costs stride gap persons)) → length listed ≤ length choice → length known ≤ length set
      → take (length listed) choice ≡ listed → take (length known) set ≡ known → IsHallAt (problem persons objects (table_arcs objects costs stride gap persons)) choice set (length listed) (length known)
  shortage_at choice set is listed_in known_in front back = record {
    problem = is;
    persons_in = listed_in;
    objects_in = known_in;
    hall = rw (front, back) shortage_is_hall;
    in_range = rw (front, back) (shortage_in_range is);
    shown = rw (front, back) shortage_faultless;
  }
