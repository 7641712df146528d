-- Picks that are best at some prices are a least assignment of a table, and the checker sees it by these prices,
-- scaled.
use Rattle.std.proofs.Common.{◌≡◌, ◌≢◌, ℕ, ◌+◌, ◌*◌, ◌<◌, inl, inr, Bool, true, false, List, [], ◌∷◌, length, map, get_or, Option, Some, refl, sym, ap, subst, ◌∙◌, arith, Contains}
use Rattle.std.specs.Prelude.{ℤ, pos, ◌+ℤ◌, ◌*ℤ◌, ◌≤ℤ◌, All, nat_eq, slice_get}
use Rattle.std.specs.List.{IsDistinct, range_with_len}
use Rattle.std.specs.Ordering.{int_eq}
use Rattle.std.specs.Cmp.{signed_Decides}
use Rattle.std.proofs.lemmas.Bool.{cases_Bool, cases_lt, ne_eqb}
use Rattle.std.proofs.lemmas.Int.{ints}
use Rattle.std.proofs.lemmas.List.{get_or-map, get_or_default, get_or_past, length-map}
use Rattle.std.proofs.lemmas.List.Elements.{All-get_or, All-head, All-tail}
use Rattle.std.proofs.lemmas.Map.Keys.{IsDistinct-from_apart}
use Rattle.std.proofs.lemmas.Option.{slice_get-get_or, get_or_from_slice_get}
use Rattle.std.proofs.Math.IntN.{*ℤ-zero}
use Rattle.auc_graph.specs.declared.arc.Arc.{Arc}
use Rattle.auc_graph.specs.Assignment.{IsAssignment, object_of, person_of, total_cost}
use Rattle.auc_graph.specs.Dual.{IsNoPriceLeft, IsSlackRight, arc_value, price_at}
use Rattle.auc_graph.specs.Price.{IsPrice}
use Rattle.auc_graph.specs.Problem.{IsProblem}
use Rattle.auc_graph.specs.Reading.{problem}
use Rattle.auc_graph.proofs.Scale.{scale-add, scale-mono}
use Rattle.auc_claim.specs.declared.lists.Pick.{Pick}
use Rattle.auc_claim.specs.declared.cert.CertParts.{CertParts}
use Rattle.auc_claim.specs.Claim.{arc_of, chosen, pick_of}
use Rattle.auc_claim.proofs.ClaimLaws.{faultless_is_allowed, objects_are, persons_are, length_chosen}
use Rattle.auc_claim.proofs.Converse.{assignment_in_range, back, slack_right_faultless}
use Rattle.auc_call.specs.Memory.{AreAt, no_arc}
use Rattle.auc_call.specs.Shown.{IsLeastAt}
use Rattle.auc_call.proofs.PlaceLaws.{chosen_at}
use Rattle.auc_dense.specs.Naming.{ByObjects, objects_at}
use Rattle.auc_dense.specs.Table.{IsTable, row_of, table_arcs}
use Rattle.auc_dense.specs.Tried.{AreApart, AreBest, AreOthersFree, ArePicks, IsPlainPrice, ShowLeast, no_pick, pick_at, scaled}
use Rattle.auc_dense.proofs.EntryLaws.{entries_are, entry_there, row_at, row_len}
use Rattle.auc_dense.proofs.TableLaws.{arc_for}
use Rattle.auc_dense.proofs.TriedLaws.{best_are_picks}

-- ---- places of arcs that a list has

pub places_of : (arcs choice : List Arc) → All (Contains arcs) choice → List ℕ
places_of arcs [] known = []
places_of arcs (a ∷ choice) known = (All-head (Contains arcs) a choice known).0 ∷ places_of arcs choice (All-tail (Contains arcs) a choice known)

stands : (arcs : List Arc) (a : Arc) (known : Contains arcs a) → slice_get arcs known.0 ≡ Some a
stands arcs a known = slice_get-get_or arcs known.0 a known.1 ∙ ap (λ (b : Arc). Some b) known.2

places_at : (arcs choice : List Arc) (known : All (Contains arcs) choice) → AreAt arcs (places_of arcs choice known) choice
unfolding places_of
places_at arcs [] known = refl
places_at arcs (a ∷ choice) known =
    let first = stands arcs a (All-head (Contains arcs) a choice known) in
    let others = places_at arcs choice (All-tail (Contains arcs) a choice known) in
    ap (λ (o : Option Arc). o ∷ map (slice_get arcs) (places_of arcs choice (All-tail (Contains arcs) a choice known))) first ∙ ap (λ (os : List (Option Arc)). Some a ∷ os) others

objects_there : (arcs choice : List Arc) (known : All (Contains arcs) choice) → map object_of choice ≡ objects_at arcs (places_of arcs choice known)
unfolding places_of
objects_there arcs [] known = refl
objects_there arcs (a ∷ choice) known =
    let first : get_or arcs (All-head (Contains arcs) a choice known).0 no_arc ≡ a = get_or_from_slice_get arcs (All-head (Contains arcs) a choice known).0 a no_arc (stands arcs a (All-head (Contains arcs) a choice known)) in
    let others = objects_there arcs choice (All-tail (Contains arcs) a choice known) in
    ap (λ (b : Arc). b.object ∷ map object_of choice) (sym first) ∙ ap (λ (js : List ℕ). (get_or arcs (All-head (Contains arcs) a choice known).0 no_arc).object ∷ js) others

-- ---- prices

pub scaled_price : (s : ℕ) (prices : List ℤ) (j : ℕ) → j < length prices → price_at (map (scaled (pos s)) prices) j ≡ pos s *ℤ get_or prices j (pos 0)
scaled_price s prices j lt = get_or-map (scaled (pos s)) prices j (pos 0) (pos 0) lt

-- what an arc is worth at the scaled prices
pub scaled_worth : (s : ℕ) (prices : List ℤ) (a : Arc) → a.object < length prices → arc_value s (map (scaled (pos s)) prices) a ≡ pos s *ℤ (a.cost +ℤ get_or prices a.object (pos 0))
scaled_worth s prices a lt = ap (λ (z : ℤ). pos s *ℤ a.cost +ℤ z) (scaled_price s prices a.object lt) ∙ sym (scale-add s a.cost (get_or prices a.object (pos 0)))

both_not : (b : Bool) → b ≡ true → b ≡ false → ⊥
both_not b t f = absurd (let e = sym t ∙ f in cc)

-- ---- picks

module _ (persons objects : ℕ) (costs : List ℤ) (stride : ℕ) (gap : ℤ) (picks : List Pick) (table : IsTable persons objects stride (length costs)) (own : ArePicks objects costs stride gap persons picks) where
  person_below : (k : ℕ) → k < length (chosen 0 picks) → k < persons
  person_below k lt = let many = own.many in omega (arith, lt, length_chosen 0 picks, many)

  chosen_is : (k : ℕ) (d : Arc) → k < length (chosen 0 picks) → get_or (chosen 0 picks) k d ≡ arc_of k (pick_at picks k)
  chosen_is k d lt =
      let below : k < length picks = omega (arith, lt, length_chosen 0 picks) in
      let front : 0 + k ≡ k = omega arith in
      chosen_at 0 k picks d below ∙ ap (λ (m : ℕ). arc_of m (pick_at picks k)) front

  width : (k : ℕ) → k < persons → length (row_of objects costs stride k) ≡ objects
  width k lt = row_len objects costs stride k (table.within k lt)

  inside : (k : ℕ) → k < persons → (pick_at picks k).object < objects
  inside k lt = let here = (own.each k lt).inside in omega (arith, here, width k lt)

  -- each pick is an entry's arc
  entry_cost : (k : ℕ) → k < persons → (pick_at picks k).cost ≡ get_or costs (k * stride + (pick_at picks k).object) (pos 0)
  entry_cost k lt = (own.each k lt).cost ∙ row_at objects costs stride k (pick_at picks k).object (inside k lt)

  there : (k : ℕ) → k < persons → Contains (table_arcs objects costs stride gap persons) (arc_of k (pick_at picks k))
  there k lt =
      let no_gap : get_or costs (k * stride + (pick_at picks k).object) (pos 0) ≢ gap = λ gone. (own.each k lt).own (entry_cost k lt ∙ gone) in
      subst (λ (z : ℤ). Contains (table_arcs objects costs stride gap persons) (arc_for k (pick_at picks k).object z)) (sym (entry_cost k lt)) (entry_there persons objects costs stride gap k (pick_at picks k).object table.within lt (inside k lt) no_gap)

  pub known : All (Contains (table_arcs objects costs stride gap persons)) (chosen 0 picks)
  known k d lt = subst (λ (a : Arc). Contains (table_arcs objects costs stride gap persons) a) (sym (chosen_is k d lt)) (there k (person_below k lt))

  pub all_inside : All (λ pick. pick.object < objects) picks
  all_inside k d lt =
      let below : k < persons = let many = own.many in omega (arith, lt, many) in
      subst (λ (pick : Pick). pick.object < objects) (get_or_default picks k no_pick d lt) (inside k below)

  pub persons_in_order : map person_of (chosen 0 picks) ≡ range_with_len 0 persons
  persons_in_order = persons_are 0 picks ∙ ap (range_with_len 0) own.many

  pub assigned : AreApart picks → IsAssignment (problem persons objects (table_arcs objects costs stride gap persons)) (chosen 0 picks)
  assigned apart =
      let single : IsDistinct nat_eq (map (λ c. c.object) picks) = IsDistinct-from_apart nat_eq (map (λ c. c.object) picks) (λ i j d lt below.
      let in_j : j < length picks = omega (arith, below, length-map picks (λ (c : Pick). c.object)) in
      let in_i : i < length picks = omega (arith, lt, in_j) in
      let one : get_or (map (λ (c : Pick). c.object) picks) i d ≡ (pick_at picks i).object = get_or-map (λ (c : Pick). c.object) picks i no_pick d in_i in
      let other : get_or (map (λ (c : Pick). c.object) picks) j d ≡ (pick_at picks j).object = get_or-map (λ (c : Pick). c.object) picks j no_pick d in_j in
      ne_eqb (get_or (map (λ (c : Pick). c.object) picks) i d) (get_or (map (λ (c : Pick). c.object) picks) j d) (λ e. apart i j lt in_j (sym one ∙ e ∙ other))) in
      record { persons = persons_in_order; arcs = known; objects = rw (objects_are 0 picks) single }

  pub are_objects : map (λ c. c.object) picks ≡ objects_at (table_arcs objects costs stride gap persons) (places_of (table_arcs objects costs stride gap persons) (chosen 0 picks) known)
  are_objects = sym (objects_are 0 picks) ∙ objects_there (table_arcs objects costs stride gap persons) (chosen 0 picks) known

  pub are_at : AreAt (table_arcs objects costs stride gap persons) (places_of (table_arcs objects costs stride gap persons) (chosen 0 picks) known) (chosen 0 picks)
  are_at = places_at (table_arcs objects costs stride gap persons) (chosen 0 picks) known

-- ---- the best picks

module _ (persons objects : ℕ) (costs : List ℤ) (stride : ℕ) (gap : ℤ) (picks : List Pick) (prices : List ℤ) (table : IsTable persons objects stride (length costs)) (priced : length prices ≡ objects) (best : AreBest objects costs stride gap prices persons picks) where
  own : ArePicks objects costs stride gap persons picks
  own = best_are_picks objects costs stride gap prices persons picks best

  -- no arc of the same person is better
  slack_at : (k : ℕ) → k < persons → IsSlackRight (pos 0) (persons + 1) (map (scaled (pos (persons + 1))) prices) (table_arcs objects costs stride gap persons) (arc_of k (pick_at picks k))
  slack_at k lt j d below same =
      let listed : Contains (table_arcs objects costs stride gap persons) (get_or (table_arcs objects costs stride gap persons) j d) = (j, below, get_or_default (table_arcs objects costs stride gap persons) j (get_or (table_arcs objects costs stride gap persons) j d) d below) in
      let entry = (entries_are persons objects costs stride gap (get_or (table_arcs objects costs stride gap persons) j d) table).0 listed in
      let object = entry.object in
      let cost : (get_or (table_arcs objects costs stride gap persons) j d).cost ≡ get_or (row_of objects costs stride k) (get_or (table_arcs objects costs stride gap persons) j d).object (pos 0) =
      entry.cost ∙ ap (λ (i : ℕ). get_or costs (i * stride + (get_or (table_arcs objects costs stride gap persons) j d).object) (pos 0)) same ∙ sym (row_at objects costs stride k (get_or (table_arcs objects costs stride gap persons) j d).object object) in
      let least = (best.each k lt).best (get_or (table_arcs objects costs stride gap persons) j d).object (omega (arith, object, width persons objects costs stride gap picks table own k lt)) (λ gone. entry.own (cost ∙ gone)) in
      let mine_is = (best.each k lt).entry.cost in
      let less : ((pick_at picks k).cost +ℤ get_or prices (pick_at picks k).object (pos 0)) ≤ℤ ((get_or (table_arcs objects costs stride gap persons) j d).cost +ℤ get_or prices (get_or (table_arcs objects costs stride gap persons) j d).object (pos 0)) = omega (arith, ints, least, mine_is, cost) in
      let mine = scaled_worth (persons + 1) prices (arc_of k (pick_at picks k)) (omega (arith, inside persons objects costs stride gap picks table own k lt, priced)) in
      let others = scaled_worth (persons + 1) prices (get_or (table_arcs objects costs stride gap persons) j d) (omega (arith, object, priced)) in
      let more = scale-mono (persons + 1) ((pick_at picks k).cost +ℤ get_or prices (pick_at picks k).object (pos 0)) ((get_or (table_arcs objects costs stride gap persons) j d).cost +ℤ get_or prices (get_or (table_arcs objects costs stride gap persons) j d).object (pos 0)) less in
      omega (arith, ints, mine, others, more)

  pub slack : All (IsSlackRight (pos 0) (persons + 1) (map (scaled (pos (persons + 1))) prices) (table_arcs objects costs stride gap persons)) (chosen 0 picks)
  slack k d lt = subst (λ (a : Arc). IsSlackRight (pos 0) (persons + 1) (map (scaled (pos (persons + 1))) prices) (table_arcs objects costs stride gap persons) a) (sym (chosen_is persons objects costs stride gap picks table own k d lt)) (slack_at k (person_below persons objects costs stride gap picks table own k lt))

  pub slack_by_one : All (IsSlackRight (pos 1) (persons + 1) (map (scaled (pos (persons + 1))) prices) (table_arcs objects costs stride gap persons)) (chosen 0 picks)
  slack_by_one k d lt j e below same = let le = slack k d lt j e below same in omega (arith, ints, le)

-- ---- prices of a table

module _ (persons objects : ℕ) (picks : List Pick) (prices : List ℤ) (len : length prices ≡ objects) (plain : All (IsPlainPrice (pos (persons + 1))) prices) where
  -- what nobody picks has no price
  picked : (k : ℕ) → k < length picks → Contains (map object_of (chosen 0 picks)) (pick_at picks k).object
  picked k lt = subst (λ (js : List ℕ). Contains js (pick_at picks k).object) (sym (objects_are 0 picks)) (k, (let many = length-map picks (λ (c : Pick). c.object) in omega (arith, lt, many)), get_or-map (λ (c : Pick). c.object) picks k no_pick (pick_at picks k).object lt)

  no_plain : AreOthersFree picks prices → (j : ℕ) → j < length prices → (Contains (map object_of (chosen 0 picks)) j → ⊥) → get_or prices j (pos 0) ≡ pos 0
  no_plain free j lt left = elim (cases_Bool (int_eq (get_or prices j (pos 0)) (pos 0))) [
    | inl none ↦ (signed_Decides (get_or prices j (pos 0)) (pos 0)).0 none
    | inr some ↦
        (let by = free j lt (λ e. both_not (int_eq (get_or prices j (pos 0)) (pos 0)) ((signed_Decides (get_or prices j (pos 0)) (pos 0)).1 e) some) in
        absurd (left (subst (λ (i : ℕ). Contains (map object_of (chosen 0 picks)) i) by.2 (picked by.0 by.1))))
  ]

  pub left_free : AreOthersFree picks prices → IsNoPriceLeft (map (scaled (pos (persons + 1))) prices) (chosen 0 picks)
  left_free free j left = elim (cases_lt j (length prices)) [
    | inl lt ↦ scaled_price (persons + 1) prices j lt ∙ ap (λ (z : ℤ). pos (persons + 1) *ℤ z) (no_plain free j lt left) ∙ *ℤ-zero (pos (persons + 1))
    | inr past ↦ get_or_past (map (scaled (pos (persons + 1))) prices) j (pos 0) (let many = length-map prices (scaled (pos (persons + 1))) in omega (arith, past, many))
  ]

  pub priced : length (map (scaled (pos (persons + 1))) prices) ≡ objects
  priced = length-map prices (scaled (pos (persons + 1))) ∙ len

  pub fair : All IsPrice (map (scaled (pos (persons + 1))) prices)
  fair k d lt =
      let below : k < length prices = omega (arith, lt, length-map prices (scaled (pos (persons + 1)))) in
      let here = All-get_or (IsPlainPrice (pos (persons + 1))) prices k (pos 0) below plain in
      subst IsPrice (sym (get_or-map (scaled (pos (persons + 1))) prices k (pos 0) d below)) here.fair

-- ---- a least assignment

module _ (persons objects : ℕ) (costs : List ℤ) (stride : ℕ) (gap : ℤ) (picks : List Pick) (prices : List ℤ) (is : IsProblem (problem persons objects (table_arcs objects costs stride gap persons))) (table : IsTable persons objects stride (length costs)) (show : ShowLeast persons objects costs stride gap picks prices) where
  own_least : ArePicks objects costs stride gap persons picks
  own_least = best_are_picks objects costs stride gap prices persons picks show.best

  pub shown_least : (cost : ℤ) → cost ≡ total_cost (chosen 0 picks) → ByObjects (table_arcs objects costs stride gap persons) (map (λ c. c.object) picks) (λ places. IsLeastAt (problem persons objects (table_arcs objects costs stride gap persons)) places (map (scaled (pos (persons + 1))) prices) cost)
  shown_least cost cost_is =
      let many = priced persons objects picks prices show.priced show.fair in
      let given = assigned persons objects costs stride gap picks table own_least show.single in
      let in_range = assignment_in_range (problem persons objects (table_arcs objects costs stride gap persons)) (chosen 0 picks) (map (scaled (pos (persons + 1))) prices) is given many (fair persons objects picks prices show.priced show.fair) in
      let shown = slack_right_faultless (problem persons objects (table_arcs objects costs stride gap persons)) (chosen 0 picks) given (map (scaled (pos (persons + 1))) prices) many (total_cost (chosen 0 picks)) refl (slack_by_one persons objects costs stride gap picks prices table show.priced show.best) (left_free persons objects picks prices show.priced show.fair show.free) in
      let allowed = faultless_is_allowed (problem persons objects (table_arcs objects costs stride gap persons)) (CertParts.Optimal (total_cost (chosen 0 picks)) (map pick_of (chosen 0 picks)) (map (scaled (pos (persons + 1))) prices)) is in_range shown in
      let same = back (problem persons objects (table_arcs objects costs stride gap persons)) (chosen 0 picks) given (map (scaled (pos (persons + 1))) prices) many (total_cost (chosen 0 picks)) refl in
      let at = are_at persons objects costs stride gap picks table own_least in
      subst (λ (z : ℤ). ByObjects (table_arcs objects costs stride gap persons) (map (λ c. c.object) picks) (λ places. IsLeastAt (problem persons objects (table_arcs objects costs stride gap persons)) places (map (scaled (pos (persons + 1))) prices) z)) (sym cost_is) (record {
        places = places_of (table_arcs objects costs stride gap persons) (chosen 0 picks) (known persons objects costs stride gap picks table own_least);
        objects_are = are_objects persons objects costs stride gap picks table own_least;
        holds = record {
          problem = is;
          picks = map pick_of (chosen 0 picks);
          at = subst (λ (choice : List Arc). AreAt (table_arcs objects costs stride gap persons) (places_of (table_arcs objects costs stride gap persons) (chosen 0 picks) (known persons objects costs stride gap picks table own_least)) choice) (sym same) at;
          least = allowed.0;
          cost_is = allowed.1;
          in_range = in_range;
          shown = shown;
        };
      })
