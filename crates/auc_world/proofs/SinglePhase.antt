-- A phase that is played by itself: each step of its rounds is one of the machine's, it begins as a new world does, and
-- what it comes to is what the world does.
use Rattle.std.proofs.Common.{ℕ, ◌*◌, ◌<◌, ◌≤◌, ◌≡◌, ◌≢◌, ◌^◌, Bool, true, false, List, [], ◌∷◌, ◌++◌, Option, Some, None, drop, get_or, length, lit<, lit≤, refl, sym, subst, ap, ◌∙◌, arith}
use Rattle.std.specs.Prelude.{ℤ, pos, ◌≤ℤ◌, ◌<ℤ◌, All}
use Rattle.std.proofs.lemmas.List.{length-append}
use Rattle.std.proofs.lemmas.List.Elements.{All-from_get_or}
use Rattle.auc_graph.specs.Bid.{IsBid}
use Rattle.auc_graph.specs.Table.{Table}
use Rattle.auc_letters.specs.declared.letter.Bid.{Bid}
use Rattle.auc_letters.specs.declared.letter.Why.{Why}
use Rattle.auc_letters.specs.declared.state.Held.{Held}
use Rattle.auc_letters.specs.Award.{Sale, is_accepted}
use Rattle.auc_graph.specs.Price.{IsPrice}
use Rattle.auc_model.specs.Start.{Lawful}
use Rattle.auc_model.specs.World.{Phase, phase_of, scale}
use Rattle.auc_model.proofs.Tables.{table_lawful}
use Rattle.auc_persons.specs.Bid.{IsBidOf}
use Rattle.auc_persons.specs.Persons.{NeverFall}
use Rattle.auc_persons.specs.Scan.{copy_in}
use Rattle.auc_persons.proofs.Rise.{rises_set}
use Rattle.auc_world.specs.declared.single_shard.notice.Notice.{Notice}
use Rattle.auc_world.specs.SingleState.{SingleState, nobody, sale_at, notices_of}
use Rattle.auc_world.specs.SinglePhase.{Given, IsGiven, IsGoing, IsHalfway, IsStopped, StopEnds, answered, left_of, noted, without_first, without_notice}
use Rattle.auc_machine.specs.Parts.{world_of}
use Rattle.auc_world.proofs.SingleStops.{never_still, stops_at_ceiling, stops_for_bids}
use Rattle.auc_world.proofs.SingleLaws.{TellsRight, copy_fits, hears, idle_is, price_fits, rests, sells, tells_right, notices_fit}

-- ---- the number of notices of an answer

notices_some : (b : Bool) (holder : Option Held) (person object : ℕ) (price amount : ℤ) (sale : Sale) (eps : ℤ) (bid : Bid) → sale.holder ≡ holder → is_accepted eps sale bid ≡ b → (1 ≤ length (notices_of eps sale bid)) × (length (notices_of eps sale bid) ≤ 2)
notices_some true None person object price amount sale eps bid h e = rw (e, h) (lit≤ tt, lit≤ tt)
notices_some true (Some held) person object price amount sale eps bid h e = rw (e, h) (lit≤ tt, lit≤ tt)
notices_some false holder person object price amount sale eps bid h e = rw e (lit≤ tt, lit≤ tt)

pub notices_one_or_two : (eps : ℤ) (sale : Sale) (bid : Bid) → (1 ≤ length (notices_of eps sale bid)) × (length (notices_of eps sale bid) ≤ 2)
notices_one_or_two eps sale bid = notices_some (is_accepted eps sale bid) sale.holder bid.person bid.object sale.price bid.amount sale eps bid refl refl

pub answer_less : (eps : ℤ) (s : SingleState) (bid : Bid) → 0 < s.bids → left_of (answered eps (without_first s) bid) ≤ left_of s
answer_less eps s bid left =
    let few = (notices_one_or_two eps (sale_at s bid.object) bid).1 in
    let both = length-append s.notices (notices_of eps (sale_at s bid.object) bid) in
    omega (arith, few, both, left)

pub answer_waits : (eps : ℤ) (s : SingleState) (bid : Bid) → (answered eps s bid).notices ≢ []
answer_waits eps s bid e =
    let some = (notices_one_or_two eps (sale_at s bid.object) bid).0 in
    let both = length-append s.notices (notices_of eps (sale_at s bid.object) bid) in
    let none : length (s.notices ++ notices_of eps (sale_at s bid.object) bid) ≡ 0 = ap (λ (ts : List Notice). length ts) e in
    omega (arith, some, both, none)

pub note_less : (s : SingleState) (t : Notice) → s.notices ≡ t ∷ drop 1 s.notices → left_of (noted (without_notice s) t) < left_of s
note_less s t first =
    let one : length s.notices ≡ length (t ∷ drop 1 s.notices) = ap (λ (ts : List Notice). length ts) first in
    omega (arith, one)

-- ---- the steps

module _ (x : Given) (is : IsGiven x) where
  abbrev pub g : Phase
  g = phase_of x.table 1 x.eps

  pub law : Lawful g
  law = table_lawful x.table 1 x.eps is.table (lit< tt) is.eps

  small : length x.table.rows < nobody
  small = let few = is.table.most in omega (arith, few)

  module _ (s : SingleState) where
    pub person_known : IsGoing x s → (i : ℕ) → s.idle ≡ i ∷ drop 1 s.idle → i < length x.table.rows
    person_known h i first = idle_is g refl small (world_of h.parts) x.limits.bids x.limits.posts is.single_shard.enough s i h.going first

    pub copies_fit : IsGoing x s → All IsPrice s.copies
    copies_fit h = All-from_get_or IsPrice s.copies (pos 0) (λ i l. copy_fits g refl small (world_of h.parts) x.limits.bids x.limits.posts is.single_shard.enough s h.going i)

    pub price_fit : IsGoing x s → (j : ℕ) → IsPrice (get_or s.prices j (pos 0))
    price_fit h j = price_fits g refl small (world_of h.parts) x.limits.bids x.limits.posts is.single_shard.enough s h.going j

    pub still_unsold : IsGoing x s → s.count < s.persons → s.count < length x.table.rows
    still_unsold h more = let all = h.persons in omega (arith, all, more)

    pub rested : IsGoing x s → s.count < s.persons → s.idle ≡ [] → IsHalfway x s
    rested h more none = record {
      given = is;
      parts = h.parts;
      made = h.made;
      half = rests g refl small (world_of h.parts) x.limits.bids x.limits.posts is.single_shard.enough s h.going (still_unsold h more) none;
      persons = h.persons;
    }

    pub traded : IsGoing x s → s.count < s.persons → (i : ℕ) → s.idle ≡ i ∷ drop 1 s.idle → (bid : Bid) → 0 < s.bids → IsBidOf x.table x.eps s.copies i bid → bid.amount ≤ℤ pos (2 ^ 61) → IsHalfway x (answered x.eps (without_first s) bid)
    traded h more i first bid left by high =
        let who : bid.person ≡ i = ap (λ (b : Bid). b.person) by.2 in
        let what : by.0.object ≡ bid.object = ap (λ (b : Bid). b.object) (sym by.2) in
        let where_it_stands : by.0.arc ≡ bid.arc = ap (λ (b : Bid). b.arc) (sym by.2) in
        let first' : s.idle ≡ bid.person ∷ drop 1 s.idle = rw who first in
        let bids : IsBid (scale g) g.spread g.eps (copy_in s.copies) (g.row bid.person) by.0 bid.amount = rw who by.1 in
        let some : s.bids ≢ 0 = λ e. omega (arith, left, e) in
        record {
          given = is;
          parts = h.parts;
          made = h.made;
          half = sells g refl small (world_of h.parts) x.limits.bids x.limits.posts is.single_shard.enough s bid by.0 h.going (still_unsold h more) first' some what where_it_stands bids high;
          persons = h.persons;
        }

    pub notices_have_room : IsHalfway x s → length s.notices ≤ 4 * s.persons
    notices_have_room h = let all = h.persons in let fits = notices_fit g refl small (world_of h.parts) x.limits.bids x.limits.posts is.single_shard.enough s h.half in omega (arith, all, fits)

    pub tells : IsHalfway x s → (t : Notice) → s.notices ≡ t ∷ drop 1 s.notices → TellsRight g s t
    tells h t first = tells_right g refl small (world_of h.parts) x.limits.bids x.limits.posts is.single_shard.enough s t h.half first

    pub noticed : IsHalfway x s → (t : Notice) → s.notices ≡ t ∷ drop 1 s.notices → IsGoing x (noted (without_notice s) t)
    noticed h t first = record {
      given = is;
      parts = h.parts;
      made = h.made;
      going = hears g refl small (world_of h.parts) x.limits.bids x.limits.posts is.single_shard.enough s t h.half first;
      persons = h.persons;
    }

    pub object_known : IsHalfway x s → (t : Notice) → s.notices ≡ t ∷ drop 1 s.notices → t.object < length s.copies
    object_known h t first = let right = (tells h t first).object in let all = h.half.shows.copies_are in omega (arith, right, all)

    pub idle_has_room : IsHalfway x s → (t : Notice) → s.notices ≡ t ∷ drop 1 s.notices → length (noted (without_notice s) t).idle ≤ s.persons
    idle_has_room h t first = let room = (tells h t first).room in let all = h.persons in omega (arith, room, all)

    pub copies_rise : IsHalfway x s → (t : Notice) → s.notices ≡ t ∷ drop 1 s.notices → NeverFall s.copies (noted (without_notice s) t).copies
    copies_rise h t first = rises_set s.copies t.object t.price (object_known h t first) (tells h t first).rises

-- no person is free, so none leaves
pub none_leaves : (s : SingleState) → s.idle ≡ [] → without_first s ≡ s
none_leaves s none = ap (λ (is : List ℕ). record s { idle = is }) (rw none refl)

module _ (x : Given) (s : SingleState) (h : IsGoing x s) (moved : SingleState) (table : Table) (eps : ℤ) (copies : List ℤ) (leaves : moved ≡ without_first s) (same_table : table ≡ x.table) (same_eps : eps ≡ x.eps) (same_copies : copies ≡ moved.copies) where
  -- a bid that was found by the parts of what is given
  pub traded_by : s.count < s.persons → (i : ℕ) → s.idle ≡ i ∷ drop 1 s.idle → (bid : Bid) → 0 < moved.bids → IsBidOf table eps copies i bid → bid.amount ≤ℤ pos (2 ^ 61) → IsHalfway x (answered eps moved bid)
  traded_by more i first bid left by high =
      let left' : 0 < s.bids = subst (λ (n : SingleState). 0 < n.bids) leaves left in
      let at_copies : IsBidOf table eps s.copies i bid = subst (λ (cs : List ℤ). IsBidOf table eps cs i bid) (same_copies ∙ ap (λ (n : SingleState). n.copies) leaves) by in
      let at_eps : IsBidOf table x.eps s.copies i bid = subst (λ (e : ℤ). IsBidOf table e s.copies i bid) same_eps at_copies in
      let by' : IsBidOf x.table x.eps s.copies i bid = subst (λ (t : Table). IsBidOf t x.eps s.copies i bid) same_table at_eps in
      subst (λ (n : SingleState). IsHalfway x (answered eps n bid)) (sym leaves) (subst (λ (e : ℤ). IsHalfway x (answered e (without_first s) bid)) (sym same_eps) (traded x h.given s h more i first bid left' by' high))

  pub trade_less : (bid : Bid) → 0 < moved.bids → left_of (answered eps moved bid) ≤ left_of s
  trade_less bid left = subst (λ (n : SingleState). left_of (answered eps n bid) ≤ left_of s) (sym leaves) (answer_less eps s bid (subst (λ (n : SingleState). 0 < n.bids) leaves left))

-- ---- a limit stops the phase, and it never stalls

module _ (x : Given) (s : SingleState) (h : IsGoing x s) (more : s.count < s.persons) where
  abbrev goes : Phase
  goes = phase_of x.table 1 x.eps

  unsold : s.count < goes.persons
  unsold = still_unsold x h.given s h more

  -- what is kept after it has these prices and holders too
  stopped_by : (moved : SingleState) (why : Why) → moved ≡ without_first s → StopEnds goes (world_of h.parts) s why → IsStopped x moved why
  stopped_by moved why leaves ends = subst (λ (n : SingleState). IsStopped x n why) (sym leaves) (record {
    given = h.given;
    parts = h.parts;
    made = h.made;
    ends = record { rounds = ends.rounds; world = ends.world; led = ends.led; reached = ends.reached; end = ends.end; price = ends.price; holder = ends.holder };
    prices_are = h.going.shows.prices_are;
    holders_are = h.going.shows.holders_are;
  })

  pub out_of_bids : (moved : SingleState) → moved ≡ without_first s → (i : ℕ) → s.idle ≡ i ∷ drop 1 s.idle → moved.bids ≡ 0 → IsStopped x moved Why.Bids
  out_of_bids moved leaves i first none = stopped_by moved Why.Bids leaves (stops_for_bids goes refl (world_of h.parts) x.limits.bids x.limits.posts h.given.single_shard.enough s h.going unsold i first (ap (λ (n : SingleState). n.bids) (sym leaves) ∙ none))

  pub at_ceiling : (moved : SingleState) (table : Table) (eps : ℤ) (copies : List ℤ) → moved ≡ without_first s → table ≡ x.table → eps ≡ x.eps → copies ≡ moved.copies → (i : ℕ) → s.idle ≡ i ∷ drop 1 s.idle → 0 < moved.bids
      → (bid : Bid) → IsBidOf table eps copies i bid → pos (2 ^ 61) <ℤ bid.amount → IsStopped x moved Why.Ceiling
  at_ceiling moved table eps copies leaves same_table same_eps same_copies i first left bid by high =
      let some : s.bids ≢ 0 = λ e. (let l : 0 < s.bids = subst (λ (n : SingleState). 0 < n.bids) leaves left in omega (arith, l, e)) in
      let at_copies : IsBidOf table eps s.copies i bid = subst (λ (cs : List ℤ). IsBidOf table eps cs i bid) (same_copies ∙ ap (λ (n : SingleState). n.copies) leaves) by in
      let at_eps : IsBidOf table x.eps s.copies i bid = subst (λ (e : ℤ). IsBidOf table e s.copies i bid) same_eps at_copies in
      let by' : IsBidOf x.table x.eps s.copies i bid = subst (λ (t : Table). IsBidOf t x.eps s.copies i bid) same_table at_eps in
      stopped_by moved Why.Ceiling leaves (stops_at_ceiling goes refl (world_of h.parts) x.limits.bids x.limits.posts h.given.single_shard.enough s h.going unsold i first some by'.0 bid.amount by'.1 high)

  pub waits_still : (moved : SingleState) → moved ≡ without_first s → s.idle ≡ [] → moved.notices ≢ []
  waits_still moved leaves none silent = never_still goes refl (world_of h.parts) x.limits.bids x.limits.posts h.given.single_shard.enough s h.going unsold none (ap (λ (n : SingleState). n.notices) (sym leaves) ∙ silent)
