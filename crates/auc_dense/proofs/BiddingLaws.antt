-- The bids of a phase over a table are bids over the rows of its problem, at scaled costs and with an eps of 1 in costs
-- of the table.
use Rattle.std.proofs.Common.{◌≡◌, ◌≢◌, inl, inr, ℕ, ◌+◌, ◌<◌, ◌≤◌, List, length, map, get_or, replicate, set, refl, sym, ap, subst, ◌∙◌, arith, Contains}
use Rattle.std.specs.Prelude.{ℤ, pos, ◌+ℤ◌, ◌*ℤ◌, ◌≤ℤ◌, ◌⊎◌, All}
use Rattle.std.proofs.lemmas.Bool.{cases_eq, cases_lt}
use Rattle.std.proofs.lemmas.Int.{ints}
use Rattle.std.proofs.lemmas.List.{get_or_past, get_or-set_same, get_or-set_other, length-map, length-replicate, length-set, map-set}
use Rattle.std.proofs.lemmas.List.Elements.{All-contains, All-replicate, All-set, Contains-get_or}
use Rattle.std.proofs.Math.IntN.{*ℤ-zero}
use Rattle.auc_graph.specs.declared.arc.Arc.{Arc}
use Rattle.auc_graph.specs.Assignment.{total}
use Rattle.auc_graph.specs.Dual.{price_at}
use Rattle.auc_graph.specs.Price.{IsPrice}
use Rattle.auc_graph.specs.Problem.{IsProblem, IsWithin}
use Rattle.auc_graph.specs.Reading.{problem}
use Rattle.auc_graph.proofs.Scale.{scale-add, scale-mono, scale-one}
use Rattle.auc_claim.specs.declared.cert.CertParts.{CertParts}
use Rattle.auc_claim.specs.declared.lists.Pick.{Pick}
use Rattle.auc_claim.specs.declared.reason.Reason.{Reason}
use Rattle.auc_letters.specs.declared.limits.TheConstants.{NOBODY}
use Rattle.auc_rows.specs.declared.arc.ShortArc.{ShortArc}
use Rattle.auc_rows.specs.Rows.{FlatTable, flat_row_of, scale_in, short_row}
use Rattle.auc_market.specs.Bid.{IsOffer as IsMarketOffer}
use Rattle.auc_market.specs.Bids.{AreMade, IsBidMade, State, state}
use Rattle.auc_market.specs.Bids.AreMade.{bids, opens}
use Rattle.auc_market.specs.Endings.{HaveRunOut}
use Rattle.auc_market.specs.Eps.{IsEpsOf}
use Rattle.auc_market.specs.Market.{holder_at, no_own, own_at}
use Rattle.auc_market.specs.Scan.{short_value}
use Rattle.auc_market.proofs.BidsLaws.{made_raises}
use Rattle.auc_market.proofs.MarketLaws.{replicate_default, total_low}
use Rattle.auc_market.proofs.Opening.{all_same, stands_opened, start_none}
use Rattle.auc_answers.specs.declared.answer.Answer.{Answer}
use Rattle.auc_direct.specs.Endings.{IsLimitedFirst}
use Rattle.auc_dense.specs.declared.bidding.Offer.{Offer}
use Rattle.auc_dense.specs.declared.bidding.Phase.{Phase}
use Rattle.auc_dense.specs.Bidding.{AreCosts, AreTwoCosts, HaveBid, IsBid, IsOffer, IsOther, IsOwn, IsPhase}
use Rattle.auc_dense.specs.Table.{IsTable, row_of, table_arcs}
use Rattle.auc_dense.specs.Tried.{IsPlainPrice, scaled, worth_at}
use Rattle.auc_dense.proofs.EntryLaws.{entries_are, entry_there, row_at, row_len}
use Rattle.auc_dense.proofs.FlatLaws.{arc_of_row, flat, flat_is, flat_row, flat_scale, has_spread, HasSpread, in_short_row, its, its_of, many_rows, same_rows}
use Rattle.auc_dense.proofs.ShownLaws.{scaled_price, scaled_worth}
use Rattle.auc_dense.proofs.TableLaws.{arc_for}

-- the phase between two bids: so many bids have led to it, over the rows with any spread
pub record IsUnderWay (persons objects : ℕ) (costs : List ℤ) (stride : ℕ) (gap : ℤ) (made : ℕ) (phase : Phase) : Type 0 where
  pub shape : IsPhase persons objects phase
  pub owns : List ShortArc
  pub displaced : (own_at owns phase.displaced).object ≡ NOBODY
  pub fresh : (i : ℕ) → phase.begun ≤ i → (own_at owns i).object ≡ NOBODY
  pub run : (spread : ℤ) → pos 0 ≤ℤ spread
      → AreMade (flat persons objects (table_arcs objects costs stride gap persons) spread) (pos (persons + 1))
      (state (replicate objects (pos 0)) (replicate objects NOBODY) (replicate persons no_own)) made
      (state (map (scaled (pos (persons + 1))) phase.prices.items) phase.holders.items owns)

module _ (persons objects : ℕ) (costs : List ℤ) (stride : ℕ) (gap : ℤ) (is : IsProblem (problem persons objects (table_arcs objects costs stride gap persons))) (table : IsTable persons objects stride (length costs)) where
  -- ---- entries and arcs

  -- an entry of a row has its arc
  own_there : (person place : ℕ) → person < persons → IsOwn gap (row_of objects costs stride person) (length (row_of objects costs stride person)) place
      → Contains (table_arcs objects costs stride gap persons) (arc_for person place (get_or (row_of objects costs stride person) place (pos 0)))
  own_there person place known own =
      let width = row_len objects costs stride person (table.within person known) in
      let before = own.before in
      let inside : place < objects = omega (arith, before, width) in
      let at = row_at objects costs stride person place inside in
      subst (λ (z : ℤ). Contains (table_arcs objects costs stride gap persons) (arc_for person place z)) (sym at)
      (entry_there persons objects costs stride gap person place table.within known inside (λ gone. own.own (at ∙ gone)))

  -- so the entries are costs
  pub are_costs : (person : ℕ) → person < persons → AreCosts gap (row_of objects costs stride person)
  are_costs person known place own =
      let within = All-contains (IsWithin persons objects) (table_arcs objects costs stride gap persons) (arc_for person place (get_or (row_of objects costs stride person) place (pos 0))) is.within (own_there person place known own) in
      record { low = within.low; high = within.high }

  -- and an arc of a row is that of an entry
  own_of_row : (person : ℕ) (b : ShortArc) → person < persons → Contains (short_row person (table_arcs objects costs stride gap persons)) b
      → IsOwn gap (row_of objects costs stride person) (length (row_of objects costs stride person)) b.object × (b.cost ≡ get_or (row_of objects costs stride person) b.object (pos 0))
  own_of_row person b known listed =
      let entry = (entries_are persons objects costs stride gap (arc_for person b.object b.cost) table).0 (arc_of_row person (table_arcs objects costs stride gap persons) b listed) in
      let width = row_len objects costs stride person (table.within person known) in
      let inside = entry.object in
      let cost : b.cost ≡ get_or (row_of objects costs stride person) b.object (pos 0) = entry.cost ∙ sym (row_at objects costs stride person b.object inside) in
      (record { before = omega (arith, inside, width); own = λ gone. entry.own (cost ∙ gone) }, cost)

  -- ---- one bid

  module _ (spread : ℤ) (low : pos 0 ≤ℤ spread) (person : ℕ) (known : person < persons) (prices : List ℤ) (priced : length prices ≡ objects) (offer : Offer) (h : IsOffer gap (row_of objects costs stride person) prices offer) (price : ℤ)
      (price_is : price ≡ ((get_or prices offer.object (pos 0) +ℤ offer.margin) +ℤ pos 1)) where
    abbrev entries : List ℤ
    entries = row_of objects costs stride person

    abbrev row : List ShortArc
    row = short_row person (table_arcs objects costs stride gap persons)

    abbrev arc : ShortArc
    arc = record { object = offer.object; cost = get_or (row_of objects costs stride person) offer.object (pos 0) }

    width : length (row_of objects costs stride person) ≡ objects
    width = row_len objects costs stride person (table.within person known)

    pub object_in : offer.object < objects
    object_in = let l = h.own.before in let w = width in omega (arith, l, w)

    -- what an arc of an entry is worth at the scaled prices
    value : (place : ℕ) → place < objects → short_value (pos (persons + 1)) (map (scaled (pos (persons + 1))) prices) (record { object = place; cost = get_or (row_of objects costs stride person) place (pos 0) })
        ≡ pos (persons + 1) *ℤ worth_at (row_of objects costs stride person) prices place
    value place lt = scaled_worth (persons + 1) prices (arc_for person place (get_or (row_of objects costs stride person) place (pos 0))) (omega (arith, lt, priced))

    same_short : (b : ShortArc) (place : ℕ) (cost : ℤ) → b.object ≡ place → b.cost ≡ cost → b ≡ record { object = place; cost = cost }
    same_short b place cost o c = ap (λ (j : ℕ). record { object = j; cost = b.cost }) o ∙ ap (λ (z : ℤ). record { object = place; cost = z }) c

    no_better : (b : ShortArc) → Contains row b → (b ≡ arc) ⊎ ((short_value (pos (persons + 1)) (map (scaled (pos (persons + 1))) prices) arc +ℤ (pos (persons + 1) *ℤ offer.margin)) ≤ℤ short_value (pos (persons + 1)) (map (scaled (pos (persons + 1))) prices) b)
    no_better b listed =
        let own = own_of_row person b known listed in
        let at : b ≡ record { object = b.object; cost = get_or (row_of objects costs stride person) b.object (pos 0) } = same_short b b.object (get_or (row_of objects costs stride person) b.object (pos 0)) refl own.1 in
        elim (cases_eq b.object offer.object) [
          | inl same ↦ inl (at ∙ ap (λ (j : ℕ). record { object = j; cost = get_or (row_of objects costs stride person) j (pos 0) }) same)
          | inr other ↦
              inr (
              let less = h.others b.object own.0 other in
              let inside = own.0.before in
              let w = width in
              let mine = value offer.object object_in in
              let his = value b.object (omega (arith, inside, w)) in
              let same = ap (short_value (pos (persons + 1)) (map (scaled (pos (persons + 1))) prices)) at in
              let more = scale-mono (persons + 1) (worth_at (row_of objects costs stride person) prices offer.object +ℤ offer.margin) (worth_at (row_of objects costs stride person) prices b.object) less in
              let sum = scale-add (persons + 1) (worth_at (row_of objects costs stride person) prices offer.object) offer.margin in
              omega (arith, ints, mine, his, same, more, sum)
              )
        ]

    alone : (offer.margin ≡ pos 0) ⊎ ((other : ℕ) × IsOwn gap (row_of objects costs stride person) (length (row_of objects costs stride person)) other × (other ≢ offer.object)) → All (λ b. b ≡ arc) row → (pos (persons + 1) *ℤ offer.margin) ≤ℤ (pos (persons + 1) *ℤ spread)
    alone (inl none) all = scale-mono (persons + 1) offer.margin spread (omega (arith, ints, none, low))
    alone (inr other) all =
        let there = in_short_row person (table_arcs objects costs stride gap persons) (arc_for person other.0 (get_or (row_of objects costs stride person) other.0 (pos 0))) (own_there person other.0 known other.1) refl in
        let same = All-contains (λ b. b ≡ arc) row (record { object = other.0; cost = get_or (row_of objects costs stride person) other.0 (pos 0) }) all there in
        absurd (other.2 (ap (λ (b : ShortArc). b.object) same))

    amount_is : (pos (persons + 1) *ℤ price) ≡ ((price_at (map (scaled (pos (persons + 1))) prices) offer.object +ℤ (pos (persons + 1) *ℤ offer.margin)) +ℤ pos (persons + 1))
    amount_is =
        let before = scaled_price (persons + 1) prices offer.object (let o = object_in in omega (arith, o, priced)) in
        let first = scale-add (persons + 1) (get_or prices offer.object (pos 0) +ℤ offer.margin) (pos 1) in
        let second = scale-add (persons + 1) (get_or prices offer.object (pos 0)) offer.margin in
        let one = scale-one (persons + 1) in
        let whole = ap (λ (z : ℤ). pos (persons + 1) *ℤ z) price_is in
        omega (arith, ints, before, first, second, one, whole)

    scaled_offer : IsMarketOffer (pos (persons + 1)) spread (pos (persons + 1)) (map (scaled (pos (persons + 1))) prices) row arc (pos (persons + 1) *ℤ price)
    scaled_offer = record {
      listed = in_short_row person (table_arcs objects costs stride gap persons) (arc_for person offer.object (get_or (row_of objects costs stride person) offer.object (pos 0))) (own_there person offer.object known h.own) refl;
      margin = pos (persons + 1) *ℤ offer.margin;
      low = let l = scale-mono (persons + 1) (pos 0) offer.margin h.low in let z = *ℤ-zero (pos (persons + 1)) in omega (arith, ints, l, z);
      others = λ k d lt. no_better (get_or row k d) (Contains-get_or row k d lt);
      only = alone h.only;
      is = amount_is;
    }

    pub market_offer : IsMarketOffer (scale_in (flat persons objects (table_arcs objects costs stride gap persons) spread)) spread (pos (persons + 1)) (map (scaled (pos (persons + 1))) prices)
        (flat_row_of (flat persons objects (table_arcs objects costs stride gap persons) spread) person) arc (pos (persons + 1) *ℤ price)
    market_offer =
        subst (λ (xs : List ShortArc). IsMarketOffer (scale_in (flat persons objects (table_arcs objects costs stride gap persons) spread)) spread (pos (persons + 1)) (map (scaled (pos (persons + 1))) prices) xs arc (pos (persons + 1) *ℤ price))
        (sym (flat_row persons objects (table_arcs objects costs stride gap persons) spread person known))
        (subst (λ (scale : ℤ). IsMarketOffer scale spread (pos (persons + 1)) (map (scaled (pos (persons + 1))) prices) row arc (pos (persons + 1) *ℤ price)) (sym (flat_scale persons objects (table_arcs objects costs stride gap persons) spread)) scaled_offer)

  -- ---- one bid more

  module _ (made : ℕ) (old new : Phase) (h : IsUnderWay persons objects costs stride gap made old) (b : IsBid persons objects costs stride gap old new) where
    abbrev bidder : ℕ
    bidder = b.turn.person

    abbrev its_arc : ShortArc
    its_arc = record { object = b.offer.object; cost = get_or (row_of objects costs stride b.turn.person) b.offer.object (pos 0) }

    abbrev gone : ℕ
    gone = holder_at old.holders.items b.offer.object

    abbrev had : List ShortArc
    had = set h.owns b.turn.person (record { object = b.offer.object; cost = get_or (row_of objects costs stride b.turn.person) b.offer.object (pos 0) })

    abbrev left : List ShortArc
    left = set had gone no_own

    bidder_known : b.turn.person < persons
    bidder_known = let l = b.next.has_begun in let w = b.next.within in omega (arith, l, w)

    bidder_free : (own_at h.owns b.turn.person).object ≡ NOBODY
    bidder_free = elim b.next.free [
      | inl again ↦ ap (λ (i : ℕ). (own_at h.owns i).object) again.0 ∙ h.displaced
      | inr first ↦ h.fresh b.turn.person (let e = first.0 in omega (arith, e))
    ]

    own_gone : own_at left gone ≡ no_own
    own_gone = elim (cases_lt gone (length had)) [
      | inl lt ↦ get_or-set_same had gone no_own no_own lt
      | inr past ↦ get_or_past left gone no_own (let e = length-set had gone no_own in omega (arith, past, e))
    ]

    begun_on : old.begun ≤ b.turn.begun
    begun_on = elim b.next.free [ inl again ↦ (let e = again.1 in omega (arith, e)) | inr first ↦ (let e = first.1 in omega (arith, e)) ]

    new_fresh : (i : ℕ) → new.begun ≤ i → (own_at left i).object ≡ NOBODY
    new_fresh i le =
        let same = b.awarded.begun in
        let on = begun_on in
        let l = b.next.has_begun in
        elim (cases_eq i gone) [
          | inl it ↦ ap (λ (k : ℕ). (own_at left k).object) it ∙ ap (λ (s : ShortArc). s.object) own_gone
          | inr other ↦
              (let ne : i ≢ b.turn.person = omega (arith, same, l, le) in
              ap (λ (s : ShortArc). s.object) (get_or-set_other had gone i no_own no_own other ∙ get_or-set_other h.owns b.turn.person i its_arc no_own ne) ∙ h.fresh i (omega (arith, same, on, le)))
        ]

    new_shape : IsPhase persons objects new
    new_shape = record {
      within = let e = b.awarded.begun in let w = b.next.within in omega (arith, e, w);
      priced = ap length b.awarded.prices ∙ length-set old.prices.items b.offer.object b.price ∙ h.shape.priced;
      held = ap length b.awarded.holders ∙ length-set old.holders.items b.offer.object b.turn.person ∙ h.shape.held;
      plain = subst (All (IsPlainPrice (pos (persons + 1)))) (sym b.awarded.prices) (All-set (IsPlainPrice (pos (persons + 1))) old.prices.items b.offer.object b.price b.plain h.shape.plain);
    }

    bid_made : (spread : ℤ) → pos 0 ≤ℤ spread → IsBidMade (flat persons objects (table_arcs objects costs stride gap persons) spread) (pos (persons + 1)) (state (map (scaled (pos (persons + 1))) old.prices.items) old.holders.items h.owns)
        (state (map (scaled (pos (persons + 1))) new.prices.items) new.holders.items left)
    bid_made spread low = record {
      person = b.turn.person;
      known = let m = many_rows persons objects (table_arcs objects costs stride gap persons) spread in let k = bidder_known in omega (arith, m, k);
      free = bidder_free;
      arc = its_arc;
      amount = pos (persons + 1) *ℤ b.price;
      offer = market_offer spread low b.turn.person bidder_known old.prices.items h.shape.priced b.offer b.best b.price b.price_is;
      prices = ap (map (scaled (pos (persons + 1)))) b.awarded.prices ∙ map-set (scaled (pos (persons + 1))) old.prices.items b.offer.object b.price;
      holders = b.awarded.holders;
      owns = refl;
    }

    pub one_more_bid : IsUnderWay persons objects costs stride gap (made + 1) new
    one_more_bid = record {
      shape = new_shape;
      owns = left;
      displaced = ap (λ (k : ℕ). (own_at left k).object) b.awarded.displaced ∙ ap (λ (s : ShortArc). s.object) own_gone;
      fresh = new_fresh;
      run = λ spread low. bids made (made + 1) (state (map (scaled (pos (persons + 1))) old.prices.items) old.holders.items h.owns) (state (map (scaled (pos (persons + 1))) new.prices.items) new.holders.items left) (h.run spread low) (bid_made spread low) refl;
    }

  -- ---- no bid

  zero_price : IsPrice (pos 0)
  zero_price = record { low = omega (arith, ints); high = omega (arith, ints) }

  zero_plain : IsPlainPrice (pos (persons + 1)) (pos 0)
  zero_plain = record { own = zero_price; fair = subst IsPrice (sym (*ℤ-zero (pos (persons + 1)))) zero_price }

  zeros_scaled : map (scaled (pos (persons + 1))) (replicate objects (pos 0)) ≡ replicate objects (pos 0)
  zeros_scaled =
      let many = length-replicate objects (pos 0) in
      all_same (pos 0) (map (scaled (pos (persons + 1))) (replicate objects (pos 0))) (replicate objects (pos 0)) objects (length-map (replicate objects (pos 0)) (scaled (pos (persons + 1))))
      (let m = length-map (replicate objects (pos 0)) (scaled (pos (persons + 1))) in omega (arith, m, many))
      (λ k lt. scaled_price (persons + 1) (replicate objects (pos 0)) k (omega (arith, lt, many)) ∙ ap (λ (z : ℤ). pos (persons + 1) *ℤ z) (replicate_default objects k (pos 0)) ∙ *ℤ-zero (pos (persons + 1)))
      ∙ ap (λ (n : ℕ). replicate n (pos 0)) many

  pub no_bid : (phase : Phase) → phase.prices.items ≡ replicate objects (pos 0) → phase.holders.items ≡ replicate objects NOBODY → phase.displaced ≡ NOBODY → phase.begun ≡ 0 → IsUnderWay persons objects costs stride gap 0 phase
  no_bid phase zeros nobody none begun = record {
    shape = record {
      within = omega (arith, begun);
      priced = ap length zeros ∙ length-replicate objects (pos 0);
      held = ap length nobody ∙ length-replicate objects NOBODY;
      plain = subst (All (IsPlainPrice (pos (persons + 1)))) (sym zeros) (All-replicate (IsPlainPrice (pos (persons + 1))) objects (pos 0) zero_plain);
    };
    owns = replicate persons no_own;
    displaced = ap (λ (s : ShortArc). s.object) (replicate_default persons phase.displaced no_own);
    fresh = λ i le. ap (λ (s : ShortArc). s.object) (replicate_default persons i no_own);
    run = λ spread low. opens 0 (state (map (scaled (pos (persons + 1))) phase.prices.items) phase.holders.items (replicate persons no_own)) refl
        (ap (λ (zs : List ℤ). state zs phase.holders.items (replicate persons no_own)) (ap (map (scaled (pos (persons + 1)))) zeros ∙ zeros_scaled)
        ∙ ap (λ (hs : List ℕ). state (replicate objects (pos 0)) hs (replicate persons no_own)) nobody);
  }

  -- ---- all bids

  other_there : (cost other : ℤ) → (o : IsOther persons objects costs stride gap cost other) → Contains (table_arcs objects costs stride gap persons) (arc_for o.person o.there.place (get_or (row_of objects costs stride o.person) o.there.place (pos 0)))
  other_there cost other o = own_there o.person o.there.place o.known (record { before = o.there.inside; own = λ gone. o.there.own (o.there.is ∙ gone) })

  the_spread : AreTwoCosts persons objects costs stride gap → HasSpread (table_arcs objects costs stride gap persons)
  the_spread two =
      let a = two.first in
      let b = two.second in
      has_spread persons objects (table_arcs objects costs stride gap persons) (arc_for a.person a.there.place (get_or (row_of objects costs stride a.person) a.there.place (pos 0))) (arc_for b.person b.there.place (get_or (row_of objects costs stride b.person) b.there.place (pos 0)))
      is (other_there gap two.one a) (other_there two.one two.other b) (λ same. b.there.differs (b.there.is ∙ sym same ∙ sym a.there.is))

  module _ (count : ℕ) (phase : Phase) (two : AreTwoCosts persons objects costs stride gap) (h : IsUnderWay persons objects costs stride gap count phase) where
    abbrev arcs : List Arc
    arcs = table_arcs objects costs stride gap persons

    s : HasSpread (table_arcs objects costs stride gap persons)
    s = the_spread two

    abbrev rows : FlatTable
    rows = flat persons objects (table_arcs objects costs stride gap persons) s.spread

    abbrev opening : State
    opening = state (replicate objects (pos 0)) (replicate objects NOBODY) (replicate persons no_own)

    at_least_none : pos 0 ≤ℤ s.spread
    at_least_none = let l = s.low in omega (arith, ints, l)

    eps_is : IsEpsOf rows (pos (persons + 1))
    eps_is = record {
      low = omega (arith, ints);
      high = inr (
          let l = scale-mono (persons + 1) (pos 1) s.spread s.low in
          let one = scale-one (persons + 1) in
          let e = ap (λ (z : ℤ). z *ℤ s.spread) (flat_scale persons objects arcs s.spread) in
          omega (arith, ints, l, one, e)
          );
    }

    run_out : HaveRunOut rows count opening (map (scaled (pos (persons + 1))) phase.prices.items)
    run_out = record {
      eps = pos (persons + 1);
      is_eps = eps_is;
      stands = stands_opened rows (pos 1) (pos (persons + 1)) (replicate objects (pos 0)) (replicate objects NOBODY) (replicate persons no_own) objects persons (start_none rows (pos 1) objects (replicate objects (pos 0)) refl refl (inr refl)) refl
          (sym (many_rows persons objects arcs s.spread)) refl refl;
      last = state (map (scaled (pos (persons + 1))) phase.prices.items) phase.holders.items h.owns;
      run = h.run s.spread at_least_none;
      prices_are = refl;
    }

    raised : (total (replicate objects (pos 0)) +ℤ pos count) ≤ℤ total (map (scaled (pos (persons + 1))) phase.prices.items)
    raised = (made_raises rows (pos (persons + 1)) opening (state (map (scaled (pos (persons + 1))) phase.prices.items) phase.holders.items h.owns) count (flat_is persons objects arcs s.spread is at_least_none s.high) (omega (arith, ints)) (length-replicate objects (pos 0)) (h.run s.spread at_least_none)).1

    limited_by : (picks : List Pick) (lower cost : ℤ) → IsLimitedFirst (problem persons objects (table_arcs objects costs stride gap persons)) count (Answer.Bracket (CertParts.Bracket Reason.Bids lower cost picks (map (scaled (pos (persons + 1))) phase.prices.items)))
    limited_by picks lower cost = record {
      limited = (
        its persons objects arcs s.spread,
        rows,
        opening,
        its_of persons objects arcs s.spread s.is,
        same_rows persons objects arcs s.spread,
        total_low (replicate objects (pos 0)) (All-replicate IsPrice objects (pos 0) zero_price),
        record { first = opening; ready = inl refl; risen = omega (arith, ints); limit = (run_out, raised) },
      );
      ceiling = λ e. absurd (let wrong : Reason.Bids ≡ Reason.Ceiling = e in cc);
    }

    pub have_bid : HaveBid persons objects costs stride gap count phase.prices.items
    have_bid = record { priced = h.shape.priced; plain = h.shape.plain; limited = limited_by }
