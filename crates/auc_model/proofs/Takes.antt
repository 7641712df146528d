-- What the letters that are taken leave of the invariants.
use Rattle.std.proofs.Common.{ℕ, ℤ, pos, ◌≤ℤ◌, ◌+◌, ◌%◌, ◌<◌, ◌≡◌, refl, arith, true, false, List, [], ◌∷◌, ◌++◌, Option, Some, None, filter_map, inl, inr, ap, sym, ◌∙◌}
use Rattle.std.proofs.lemmas.Bool.{cases_eq}
use Rattle.std.proofs.lemmas.Int.{ints}
use Rattle.auc_letters.specs.Award.{least_amount}
use Rattle.auc_graph.specs.Price.{IsPrice}
use Rattle.auc_letters.specs.Routing.{to_person}
use Rattle.auc_letters.specs.declared.letter.Letter.{Letter}
use Rattle.auc_letters.specs.declared.out.Out.{Out}
use Rattle.auc_letters.specs.declared.out.To.{To}
use Rattle.auc_letters.specs.declared.state.Held.{Held}
use Rattle.auc_letters.specs.declared.state.PersonState.{PersonState}
use Rattle.auc_mail.specs.Mail.{Mail}
use Rattle.auc_model.specs.Counts.{Counts}
use Rattle.auc_model.specs.SlackBids.{AllLetters, SlackAt, SlackHolders, SlackLetter}
use Rattle.auc_model.specs.Hearing.{FitsLetter}
use Rattle.auc_model.specs.Hub.{counted}
use Rattle.auc_model.specs.Invariants.{Inv}
use Rattle.auc_model.specs.Letters.{told_answer, told_price}
use Rattle.auc_model.specs.Places.{Allows, Answer, Award, InPlace, Outbid, Refused, heard}
use Rattle.auc_model.specs.Posting.{is_price}
use Rattle.auc_model.specs.Prices.{NeverFalls}
use Rattle.auc_model.specs.Put.{put, put2}
use Rattle.auc_model.specs.Selling.{FitsBid}
use Rattle.auc_letters.specs.Persons.{is_free}
use Rattle.auc_model.specs.Start.{Lawful}
use Rattle.auc_model.specs.Channels.{AllRouted, PriceToPersons, Routed, ToObject, ToPerson, Channels, answer_to, bid_by, places, prices, send, set_channel}
use Rattle.auc_model.specs.World.{Phase, World, senders}
use Rattle.auc_model.proofs.CountSteps.{Plus, counts_first, counts_hear, counts_pass, counts_price_gone, counts_refuse, plus_gone, plus_sent}
use Rattle.auc_model.proofs.Idle.{freed, idle_hear}
use Rattle.auc_model.proofs.PlaceSteps.{place_award, place_dropped, place_hear, place_kept, place_pass_on, place_refuse, place_sent, place_taken}
use Rattle.auc_model.proofs.Places.{no_stray, put_at, put_off}
use Rattle.auc_model.proofs.PriceSteps.{learns_no_less, price_is_told, price_kept, price_learned, price_lost, price_raised, price_sent, price_taken}
use Rattle.auc_model.proofs.Routes.{routed_dropped, routed_first, routed_middle, routed_popped, routed_sent}
use Rattle.auc_model.proofs.SameAnswers.{from_some, same_answer}
use Rattle.auc_model.proofs.Slack.{all_gone, all_sent, each_map, slack_rises}
use Rattle.auc_model.proofs.Pairs.{answers_head}
use Rattle.auc_model.proofs.Views.{cases_both, put2_at, put2_off, send_two}

-- what the channel says of an answer
answer_route : (g : Phase) (s x : ℕ) (l : Letter) (a : Answer) (i j : ℕ) (p : ℤ) → told_answer l ≡ Some (a, i, j, p) → Routed g (To.Person s) x l → ToPerson g s x i j p
answer_route g s x (Letter.Award k m q) a i j p e r = let t = same_answer Award a k m i j q p e in rw (← t.person, ← t.object, ← t.price) r
answer_route g s x (Letter.Refused k m q) a i j p e r = let t = same_answer Refused a k m i j q p e in rw (← t.person, ← t.object, ← t.price) r
answer_route g s x (Letter.Outbid k m q) a i j p e r = let t = same_answer Outbid a k m i j q p e in rw (← t.person, ← t.object, ← t.price) r
answer_route g s x (Letter.Price k q) a i j p e r = absurd cc
answer_route g s x (Letter.Bid k b m q) a i j p e r = absurd cc
answer_route g s x (Letter.First k) a i j p e r = absurd cc
answer_route g s x (Letter.Stop y) a i j p e r = absurd cc

answer_price : (l : Letter) (a : Answer) (i j : ℕ) (p : ℤ) → told_answer l ≡ Some (a, i, j, p) → told_price l ≡ Some (j, p)
answer_price (Letter.Award k m q) a i j p e = let t = same_answer Award a k m i j q p e in rw (t.object, t.price)
answer_price (Letter.Refused k m q) a i j p e = let t = same_answer Refused a k m i j q p e in rw (t.object, t.price)
answer_price (Letter.Outbid k m q) a i j p e = let t = same_answer Outbid a k m i j q p e in rw (t.object, t.price)
answer_price (Letter.Price k q) a i j p e = absurd cc
answer_price (Letter.Bid k b m q) a i j p e = absurd cc
answer_price (Letter.First k) a i j p e = absurd cc
answer_price (Letter.Stop y) a i j p e = absurd cc

answer_no_bid : (l : Letter) (a : Answer) (i j : ℕ) (p : ℤ) → told_answer l ≡ Some (a, i, j, p) → (k m : ℕ) → bid_by k m l ≡ None
answer_no_bid (Letter.Award k m q) a i j p e x y = refl
answer_no_bid (Letter.Refused k m q) a i j p e x y = refl
answer_no_bid (Letter.Outbid k m q) a i j p e x y = refl
answer_no_bid (Letter.Price k q) a i j p e x y = refl
answer_no_bid (Letter.Bid k b m q) a i j p e x y = absurd cc
answer_no_bid (Letter.First k) a i j p e x y = refl
answer_no_bid (Letter.Stop z) a i j p e x y = refl

fits_busy : (t : PersonState) (a : Answer) (j : ℕ) → Allows t a j → is_free t ≡ false
fits_busy t Award j f = rw f
fits_busy t Refused j f = rw f
fits_busy t Outbid j f = rw f

copy_put : (f : ℕ → ℕ → ℤ) (s j : ℕ) (p : ℤ) → pos 0 ≤ℤ p → ((t k : ℕ) → pos 0 ≤ℤ f t k) → (t k : ℕ) → pos 0 ≤ℤ put2 f s j p t k
copy_put f s j p h all t k = elim (cases_both t s k j) [ inl e ↦ rw (put2_at f s j p t k e.0 e.1) h | inr n ↦ rw (put2_off f s j p t k n) (all t k) ]

price_put : (f : ℕ → ℤ) (j : ℕ) (p : ℤ) → IsPrice p → ((k : ℕ) → IsPrice (f k)) → (k : ℕ) → IsPrice (put f j p k)
price_put f j p h all k = elim (cases_eq k j) [ inl e ↦ rw (put_at f j p k e) h | inr n ↦ rw (put_off f j p k n) (all k) ]

module _ (g : Phase) (w : World) (c : Channels) (law : Lawful g) (inv : Inv g w c) where
  -- PersonTake(s), an answer
  module _ (s x : ℕ) (l : Letter) (ls : List Letter) (m : Mail Letter) (a : Answer) (i j : ℕ) (p : ℤ) (first : c (To.Person s) x ≡ l ∷ ls) (is : told_answer l ≡ Some (a, i, j, p)) where
    route : ToPerson g s x i j p
    route = answer_route g s x l a i j p is (routed_first g c inv.routed (To.Person s) x l ls first)

    first_here : c (To.Person (i % g.shards)) (g.shards + j % g.shards) ≡ l ∷ ls
    first_here = rw (route.shard, ← route.channel) first

    pub answer_fits : Allows (w.state i) a j
    answer_fits = no_stray (places g w c) i j a (filter_map (answer_to i j) ls) (answers_head g c l ls a i j p is first_here) inv.in_place

    pub answer_no_less : w.copy s j ≤ℤ p
    answer_no_less = learns_no_less g w w c l ls s j p (answer_price l a i j p is) (rw (← route.channel) first) inv.never_falls

    abbrev pub hearing : World
    hearing = record w { persons_mail = m; state = put w.state i (heard a j); idle = put w.idle s (freed a i (w.idle s)); copy = put2 w.copy s j p }

    placed : InPlace (places g hearing (set_channel c (To.Person (i % g.shards)) (g.shards + j % g.shards) ls))
    placed = place_hear g w hearing c l ls a i j p is first_here (answer_no_bid l a i j p is) refl refl inv.in_place

    pub inv_hears : Inv g hearing (set_channel c (To.Person s) x ls)
    inv_hears =
        record {
          routed = routed_popped g c inv.routed (To.Person s) x l ls first;
          never_falls = rw route.channel (price_learned g w hearing c l ls s j p (answer_price l a i j p is) (rw (← route.channel) first) refl refl inv.never_falls);
          in_place = rw (← route.shard, route.channel) placed;
          price_range = inv.price_range;
          copy_range = copy_put w.copy s j p route.price.low inv.copy_range;
          idle_is = idle_hear g w.state w.idle inv.idle_is s i j a (fits_busy (w.state i) a j answer_fits) route.shard route.person;
          holder_range = inv.holder_range;
          slack_letters = all_gone (SlackLetter g w.price) c inv.slack_letters (To.Person s) x [] l ls first;
          slack_holders = inv.slack_holders;
          counts = counts_hear g w hearing c (set_channel c (To.Person s) x ls) inv.counts refl refl l a i j p is route.person answer_fits refl (plus_gone g c (To.Person s) x [] l ls first (let r = route in omega (arith, law.some_shards, r.channel)) (let r = route in omega (arith, law.some_shards, r.shard)));
          sound = inv.sound;
        }

  -- PersonTake(s), a price
  module _ (s x : ℕ) (ls : List Letter) (m : Mail Letter) (j : ℕ) (p : ℤ) (first : c (To.Person s) x ≡ Letter.Price j p ∷ ls) where
    price_route : PriceToPersons g s x j p
    price_route = routed_first g c inv.routed (To.Person s) x (Letter.Price j p) ls first

    pub price_no_less : w.copy s j ≤ℤ p
    price_no_less = learns_no_less g w w c (Letter.Price j p) ls s j p refl (rw (← price_route.channel) first) inv.never_falls

    abbrev pub learning : World
    learning = record w { persons_mail = m; copy = put2 w.copy s j p }

    pub inv_learns : Inv g learning (set_channel c (To.Person s) x ls)
    inv_learns =
        record {
          routed = routed_popped g c inv.routed (To.Person s) x (Letter.Price j p) ls first;
          never_falls = rw price_route.channel (price_learned g w learning c (Letter.Price j p) ls s j p refl (rw (← price_route.channel) first) refl refl inv.never_falls);
          in_place = place_kept g w learning (set_channel c (To.Person s) x ls) refl refl (place_taken g w w c (To.Person s) x (Letter.Price j p) ls first (λ i k. (refl, refl)) inv.in_place);
          price_range = inv.price_range;
          copy_range = copy_put w.copy s j p price_route.price.low inv.copy_range;
          idle_is = inv.idle_is;
          holder_range = inv.holder_range;
          slack_letters = all_gone (SlackLetter g w.price) c inv.slack_letters (To.Person s) x [] (Letter.Price j p) ls first;
          slack_holders = inv.slack_holders;
          counts = counts_price_gone g w learning c (set_channel c (To.Person s) x ls) inv.counts refl refl refl j p (plus_gone g c (To.Person s) x [] (Letter.Price j p) ls first (let r = price_route in omega (arith, law.some_shards, r.channel)) price_route.shard);
          sound = inv.sound;
        }

  -- ObjectTake(q)
  module _ (q x : ℕ) (ls : List Letter) (m : Mail Letter) (i a j : ℕ) (amount : ℤ) (first : c (To.Object q) x ≡ Letter.Bid i a j amount ∷ ls) where
    bid_route : ToObject g q x i j amount
    bid_route = routed_first g c inv.routed (To.Object q) x (Letter.Bid i a j amount) ls first

    bid_here : c (To.Object (j % g.shards)) (i % g.shards) ≡ Letter.Bid i a j amount ∷ ls
    bid_here = rw (bid_route.shard, bid_route.channel) first

    pub bid_fits : FitsBid g q (Letter.Bid i a j amount)
    bid_fits = record { object = bid_route.object; shard = bid_route.shard; price = bid_route.price }

    abbrev taken : Channels
    taken = set_channel c (To.Object q) x ls

    routed_taken : AllRouted g taken
    routed_taken = routed_popped g c inv.routed (To.Object q) x (Letter.Bid i a j amount) ls first

    never_taken : (v : World) → NeverFalls (prices g v c) → NeverFalls (prices g v taken)
    never_taken v n = price_taken g v v c (To.Object q) x (Letter.Bid i a j amount) ls first (λ k. refl) n

    its_channel : g.shards + q ≡ g.shards + j % g.shards
    its_channel = ap (λ (n : ℕ). g.shards + n) (sym bid_route.shard)

    its_sender : g.shards + q < senders g
    its_sender = let r = bid_route in omega (arith, law.some_shards, r.shard)

    bid_gone : Plus g (Letter.Bid i a j amount) taken c
    bid_gone = plus_gone g c (To.Object q) x [] (Letter.Bid i a j amount) ls first (let r = bid_route in omega (arith, law.some_shards, r.channel)) (let r = bid_route in omega (arith, law.some_shards, r.shard))

    slack_taken : AllLetters (SlackLetter g w.price) taken
    slack_taken = all_gone (SlackLetter g w.price) c inv.slack_letters (To.Object q) x [] (Letter.Bid i a j amount) ls first

    bid_slack : SlackAt g w.price i a j amount
    bid_slack = (rw first at (inv.slack_letters (To.Object q) x)).0

    -- declined
    abbrev pub declining : World
    declining = record w { objects_mail = m; object_out = put w.object_out q (to_person g.shards i (Letter.Refused i j (w.price j)) ∷ []) }

    refused_place : InPlace (places g declining (send (set_channel c (To.Object (j % g.shards)) (i % g.shards) ls) (g.shards + j % g.shards) (to_person g.shards i (Letter.Refused i j (w.price j)) ∷ [])))
    refused_place = place_refuse g w declining c i a j amount ls bid_here (w.price j) 0 refl refl inv.in_place

    pub inv_declines : Inv g declining (send taken (g.shards + q) (to_person g.shards i (Letter.Refused i j (w.price j)) ∷ []))
    inv_declines =
        record {
          routed = routed_sent g taken routed_taken (to_person g.shards i (Letter.Refused i j (w.price j))) (g.shards + q) (record { person = bid_route.person; shard = refl; object = bid_route.object; channel = its_channel; price = inv.price_range j });
          never_falls = rw its_channel (price_is_told g declining declining taken (to_person g.shards i (Letter.Refused i j (w.price j))) (i % g.shards) j refl refl (never_taken declining (price_kept g w declining c refl refl inv.never_falls)));
          in_place = rw (← bid_route.shard, ← bid_route.channel) refused_place;
          price_range = inv.price_range;
          copy_range = inv.copy_range;
          idle_is = inv.idle_is;
          holder_range = inv.holder_range;
          slack_letters = all_sent (SlackLetter g w.price) taken slack_taken (to_person g.shards i (Letter.Refused i j (w.price j))) (g.shards + q) tt;
          slack_holders = inv.slack_holders;
          counts = counts_refuse g w declining c (send taken (g.shards + q) (to_person g.shards i (Letter.Refused i j (w.price j)) ∷ [])) inv.counts refl refl refl taken i a j i j amount (w.price j) bid_gone (plus_sent g taken (g.shards + q) (to_person g.shards i (Letter.Refused i j (w.price j))) its_sender (omega (arith, law.some_shards)));
          sound = inv.sound;
        }

    -- accepted
    module _ (enough : least_amount (w.price j) g.eps ≤ℤ amount) where
      rises : w.price j ≤ℤ amount
      rises = let eps = law.eps_above in omega (arith, ints)

      abbrev pub award_out : Out
      award_out = to_person g.shards i (Letter.Award i j amount)

      abbrev accepting : List Out → World
      accepting outs = record w { objects_mail = m; price = put w.price j amount; holder = put w.holder j (Some (record { person = i; arc = a })); object_out = put w.object_out q outs }

      new_price : put w.price j amount j ≡ amount
      new_price = put_at w.price j amount j refl

      raised : (outs : List Out) → NeverFalls (prices g (accepting outs) taken)
      raised outs = never_taken (accepting outs) (price_raised g w (accepting outs) c j amount rises refl refl inv.never_falls)

      award_told : (outs : List Out) (d : Channels) → NeverFalls (prices g (accepting outs) d) → NeverFalls (prices g (accepting outs) (send d (g.shards + q) (award_out ∷ [])))
      award_told outs d n = rw its_channel (price_is_told g (accepting outs) (accepting outs) d award_out (i % g.shards) j refl (ap (λ (p : ℤ). Some (j, p)) (sym new_price)) n)

      holders : (k : ℕ) (h : Held) → put w.holder j (Some (record { person = i; arc = a })) k ≡ Some h → h.person < g.persons
      holders k h e = elim (cases_eq k j) [ inl f ↦ at k h f e | inr f ↦ inv.holder_range k h (sym (put_off w.holder j (Some (record { person = i; arc = a })) k f) ∙ e) ]
        where
          at : (k : ℕ) (h : Held) → k ≡ j → put w.holder j (Some (record { person = i; arc = a })) k ≡ Some h → h.person < g.persons
          at k h f e =
              let same = sym (put_at w.holder j (Some (record { person = i; arc = a })) k f) ∙ e in
              let who : i ≡ h.person = ap (λ (o : Option Held). (from_some (record { person = i; arc = a }) o).person) same in
              rw who at bid_route.person

      prices_rise : (k : ℕ) → w.price k ≤ℤ put w.price j amount k
      prices_rise k = elim (cases_eq k j) [ inl e ↦ rw (put_at w.price j amount k e, e) rises | inr n ↦ (rw (put_off w.price j amount k n) (omega (arith, ints))) ]

      letter_rises : (l : Letter) → SlackLetter g w.price l → SlackLetter g (put w.price j amount) l
      letter_rises (Letter.Bid x y z p) f = slack_rises g w.price (put w.price j amount) x y z p prices_rise f
      letter_rises (Letter.Award x y z) f = tt
      letter_rises (Letter.Refused x y z) f = tt
      letter_rises (Letter.Outbid x y z) f = tt
      letter_rises (Letter.Price y z) f = tt
      letter_rises (Letter.First y) f = tt
      letter_rises (Letter.Stop y) f = tt

      slack_risen : AllLetters (SlackLetter g (put w.price j amount)) taken
      slack_risen t y = each_map (SlackLetter g w.price) (SlackLetter g (put w.price j amount)) letter_rises (taken t y) (slack_taken t y)

      slack_after : (outs : List Out) → SlackHolders g (accepting outs)
      slack_after outs k h e =
          elim (cases_eq k j) [
            | inl f ↦ at k h f e
            | inr n ↦ rw (put_off w.price j amount k n) (slack_rises g w.price (put w.price j amount) h.person h.arc k (w.price k) prices_rise (inv.slack_holders k h (sym (put_off w.holder j (Some (record { person = i; arc = a })) k n) ∙ e)))
          ]
        where
          at : (k : ℕ) (h : Held) → k ≡ j → put w.holder j (Some (record { person = i; arc = a })) k ≡ Some h → SlackAt g (put w.price j amount) h.person h.arc k (put w.price j amount k)
          at k h f e =
              let same = sym (put_at w.holder j (Some (record { person = i; arc = a })) k f) ∙ e in
              let who : h ≡ record { person = i; arc = a } = sym (ap (from_some {X = Held} (record { person = i; arc = a })) same) in
              rw (put_at w.price j amount k f, who, f) (slack_rises g w.price (put w.price j amount) i a j amount prices_rise bid_slack)

      inv_accepts : (outs : List Out) (d : Channels) → AllRouted g d → NeverFalls (prices g (accepting outs) d) → InPlace (places g (accepting outs) d) → Counts g (accepting outs) d → AllLetters (SlackLetter g (put w.price j amount)) d → Inv g (accepting outs) d
      inv_accepts outs d r n p counted f =
          record {
            routed = r;
            never_falls = n;
            in_place = p;
            price_range = price_put w.price j amount bid_route.price inv.price_range;
            copy_range = inv.copy_range;
            idle_is = inv.idle_is;
            holder_range = holders;
            slack_letters = f;
            slack_holders = slack_after outs;
            counts = counted;
            sound = inv.sound;
          }

      award_routed : Routed g (To.Person (i % g.shards)) (g.shards + q) (Letter.Award i j amount)
      award_routed = record { person = bid_route.person; shard = refl; object = bid_route.object; channel = its_channel; price = bid_route.price }

      -- the object had no holder
      abbrev first_out : Out
      first_out = record { to = To.Hub; letter = Letter.First j; reserve = 0 }

      pub inv_first : w.holder j ≡ None → Inv g (accepting (award_out ∷ first_out ∷ [])) (send taken (g.shards + q) (award_out ∷ first_out ∷ []))
      inv_first none =
          let v : World = accepting (award_out ∷ first_out ∷ []) in
          let d : Channels = send taken (g.shards + q) (award_out ∷ []) in
          rw (send_two taken (g.shards + q) award_out first_out)
          (inv_accepts (award_out ∷ first_out ∷ []) (send d (g.shards + q) (first_out ∷ []))
          (routed_sent g d (routed_sent g taken routed_taken award_out (g.shards + q) award_routed) first_out (g.shards + q) (bid_route.object, its_channel))
          (price_sent g v v d first_out (g.shards + q) (λ k. refl) (award_told (award_out ∷ first_out ∷ []) taken (raised (award_out ∷ first_out ∷ []))))
          (place_sent g v v d first_out (g.shards + q) (λ k l. (refl, refl)) (rw (← bid_route.shard, ← bid_route.channel) (placed_first none)))
          (counts_first g w v c (send d (g.shards + q) (first_out ∷ [])) inv.counts refl refl i a j amount (record { person = i; arc = a }) bid_route.object refl taken d bid_gone i j j amount none
          (plus_sent g taken (g.shards + q) award_out its_sender (omega (arith, law.some_shards))) (plus_sent g d (g.shards + q) first_out its_sender tt))
          (all_sent (SlackLetter g (put w.price j amount)) d (all_sent (SlackLetter g (put w.price j amount)) taken slack_risen award_out (g.shards + q) tt) first_out (g.shards + q) tt))
        where
          placed_first : w.holder j ≡ None → InPlace (places g (accepting (award_out ∷ first_out ∷ [])) (send (set_channel c (To.Object (j % g.shards)) (i % g.shards) ls) (g.shards + j % g.shards) (award_out ∷ [])))
          placed_first none = place_award g w (accepting (award_out ∷ first_out ∷ [])) c i a j amount ls bid_here amount 0 a none refl refl inv.in_place

      -- it passes from the earlier holder
      module _ (old : Held) (held : w.holder j ≡ Some old) where
        abbrev outbid_out : Out
        outbid_out = to_person g.shards old.person (Letter.Outbid old.person j amount)

        outbid_told : (outs : List Out) → NeverFalls (prices g (accepting outs) (send taken (g.shards + q) (outbid_out ∷ [])))
        outbid_told outs = rw its_channel (price_is_told g (accepting outs) (accepting outs) taken outbid_out (old.person % g.shards) j refl (ap (λ (p : ℤ). Some (j, p)) (sym new_price)) (raised outs))

        placed_pass : InPlace (places g (accepting (outbid_out ∷ award_out ∷ [])) (send (send (set_channel c (To.Object (j % g.shards)) (i % g.shards) ls) (g.shards + j % g.shards) (outbid_out ∷ [])) (g.shards + j % g.shards) (award_out ∷ [])))
        placed_pass = place_pass_on g w (accepting (outbid_out ∷ award_out ∷ [])) c i a j amount ls bid_here amount 0 0 a old held refl refl inv.in_place

        pub inv_passes : Inv g (accepting (outbid_out ∷ award_out ∷ [])) (send taken (g.shards + q) (outbid_out ∷ award_out ∷ []))
        inv_passes =
            let v : World = accepting (outbid_out ∷ award_out ∷ []) in
            let d : Channels = send taken (g.shards + q) (outbid_out ∷ []) in
            rw (send_two taken (g.shards + q) outbid_out award_out)
            (inv_accepts (outbid_out ∷ award_out ∷ []) (send d (g.shards + q) (award_out ∷ []))
            (routed_sent g d (routed_sent g taken routed_taken outbid_out (g.shards + q) (record { person = inv.holder_range j old held; shard = refl; object = bid_route.object; channel = its_channel; price = bid_route.price })) award_out (g.shards + q) award_routed)
            (award_told (outbid_out ∷ award_out ∷ []) d (outbid_told (outbid_out ∷ award_out ∷ [])))
            (rw (← bid_route.shard, ← bid_route.channel) placed_pass)
            (counts_pass g w v c (send d (g.shards + q) (award_out ∷ [])) inv.counts refl refl i a j amount (record { person = i; arc = a }) bid_route.object refl taken d bid_gone old old.person j i j amount amount held
            (plus_sent g taken (g.shards + q) outbid_out its_sender (omega (arith, law.some_shards))) (plus_sent g d (g.shards + q) award_out its_sender (omega (arith, law.some_shards))))
            (all_sent (SlackLetter g (put w.price j amount)) d (all_sent (SlackLetter g (put w.price j amount)) taken slack_risen outbid_out (g.shards + q) tt) award_out (g.shards + q) tt))

  -- a price is dropped
  pub inv_drops : (t : To) (x : ℕ) (hs : List Letter) (l : Letter) (ls : List Letter) → c t x ≡ hs ++ l ∷ ls → is_price l ≡ true → Inv g w (set_channel c t x (hs ++ ls))
  inv_drops t x hs l ls e k =
      record {
        routed = routed_dropped g c inv.routed t x hs l ls e;
        never_falls = dropped_price l t k e;
        in_place = dropped_place l k e;
        price_range = inv.price_range;
        copy_range = inv.copy_range;
        idle_is = inv.idle_is;
        holder_range = inv.holder_range;
        slack_letters = all_gone (SlackLetter g w.price) c inv.slack_letters t x hs l ls e;
        slack_holders = inv.slack_holders;
        counts = dropped_count l t k e;
        sound = inv.sound;
      }
    where
      dropped_place : (l : Letter) → is_price l ≡ true → c t x ≡ hs ++ l ∷ ls → InPlace (places g w (set_channel c t x (hs ++ ls)))
      dropped_place (Letter.Price j p) k e = place_dropped g w w c t x hs (Letter.Price j p) ls e (λ i j. (refl, refl)) inv.in_place
      dropped_place (Letter.Award i j p) k e = absurd cc
      dropped_place (Letter.Refused i j p) k e = absurd cc
      dropped_place (Letter.Outbid i j p) k e = absurd cc
      dropped_place (Letter.Bid i a j p) k e = absurd cc
      dropped_place (Letter.First j) k e = absurd cc
      dropped_place (Letter.Stop y) k e = absurd cc

      dropped_count : (l : Letter) (t : To) → is_price l ≡ true → c t x ≡ hs ++ l ∷ ls → Counts g w (set_channel c t x (hs ++ ls))
      dropped_count (Letter.Price j p) (To.Person s) k e =
          let r = routed_middle g c inv.routed (To.Person s) x hs (Letter.Price j p) ls e in
          counts_price_gone g w w c (set_channel c (To.Person s) x (hs ++ ls)) inv.counts refl refl refl j p (plus_gone g c (To.Person s) x hs (Letter.Price j p) ls e (omega (arith, law.some_shards, r.channel)) r.shard)
      dropped_count (Letter.Price j p) (To.Object s) k e = absurd (routed_middle g c inv.routed (To.Object s) x hs (Letter.Price j p) ls e)
      dropped_count (Letter.Price j p) To.Hub k e = absurd (routed_middle g c inv.routed To.Hub x hs (Letter.Price j p) ls e)
      dropped_count (Letter.Award i j p) t k e = absurd cc
      dropped_count (Letter.Refused i j p) t k e = absurd cc
      dropped_count (Letter.Outbid i j p) t k e = absurd cc
      dropped_count (Letter.Bid i a j p) t k e = absurd cc
      dropped_count (Letter.First j) t k e = absurd cc
      dropped_count (Letter.Stop y) t k e = absurd cc

      dropped_price : (l : Letter) (t : To) → is_price l ≡ true → c t x ≡ hs ++ l ∷ ls → NeverFalls (prices g w (set_channel c t x (hs ++ ls)))
      dropped_price (Letter.Price j p) (To.Person s) k e =
          let r = routed_middle g c inv.routed (To.Person s) x hs (Letter.Price j p) ls e in
          rw r.channel (price_lost g w w c hs (Letter.Price j p) ls s j p refl (rw (← r.channel) e) inv.never_falls)
      dropped_price (Letter.Price j p) (To.Object s) k e = absurd (routed_middle g c inv.routed (To.Object s) x hs (Letter.Price j p) ls e)
      dropped_price (Letter.Price j p) To.Hub k e = absurd (routed_middle g c inv.routed To.Hub x hs (Letter.Price j p) ls e)
      dropped_price (Letter.Award i j p) t k e = absurd cc
      dropped_price (Letter.Refused i j p) t k e = absurd cc
      dropped_price (Letter.Outbid i j p) t k e = absurd cc
      dropped_price (Letter.Bid i a j p) t k e = absurd cc
      dropped_price (Letter.First j) t k e = absurd cc
      dropped_price (Letter.Stop y) t k e = absurd cc

  -- the first letter for a person shard is one that fits, and its price is no less than the copy
  pub letter_fits : (s x : ℕ) (l : Letter) (ls : List Letter) → c (To.Person s) x ≡ l ∷ ls → FitsLetter g w s l
  letter_fits s x (Letter.Award i j p) ls e = let r = routed_first g c inv.routed (To.Person s) x (Letter.Award i j p) ls e in record { person = r.person; shard = r.shard; object = r.object; price = r.price; state = answer_fits s x (Letter.Award i j p) ls w.persons_mail Award i j p e refl }
  letter_fits s x (Letter.Refused i j p) ls e = let r = routed_first g c inv.routed (To.Person s) x (Letter.Refused i j p) ls e in record { person = r.person; shard = r.shard; object = r.object; price = r.price; state = answer_fits s x (Letter.Refused i j p) ls w.persons_mail Refused i j p e refl }
  letter_fits s x (Letter.Outbid i j p) ls e = let r = routed_first g c inv.routed (To.Person s) x (Letter.Outbid i j p) ls e in record { person = r.person; shard = r.shard; object = r.object; price = r.price; state = answer_fits s x (Letter.Outbid i j p) ls w.persons_mail Outbid i j p e refl }
  letter_fits s x (Letter.Price j p) ls e = let r = routed_first g c inv.routed (To.Person s) x (Letter.Price j p) ls e in (r.object, r.price)
  letter_fits s x (Letter.Bid i a j p) ls e = routed_first g c inv.routed (To.Person s) x (Letter.Bid i a j p) ls e
  letter_fits s x (Letter.First j) ls e = routed_first g c inv.routed (To.Person s) x (Letter.First j) ls e
  letter_fits s x (Letter.Stop y) ls e = routed_first g c inv.routed (To.Person s) x (Letter.Stop y) ls e

  same_price : (i j : ℕ) (p q : ℤ) → (let x : Option (ℕ × ℤ) = Some (i, p) in let y : Option (ℕ × ℤ) = Some (j, q) in x ≡ y) → i ≡ j
  same_price i j p q e = ap (λ (z : ℕ × ℤ). z.0) (ap (from_some {X = ℕ × ℤ} (i, p)) e)

  price_channel : (s x : ℕ) (l : Letter) (j : ℕ) (p : ℤ) → told_price l ≡ Some (j, p) → Routed g (To.Person s) x l → x ≡ g.shards + j % g.shards
  price_channel s x (Letter.Award i k q) j p e r = rw (← same_price k j q p e) r.channel
  price_channel s x (Letter.Refused i k q) j p e r = rw (← same_price k j q p e) r.channel
  price_channel s x (Letter.Outbid i k q) j p e r = rw (← same_price k j q p e) r.channel
  price_channel s x (Letter.Price k q) j p e r = rw (← same_price k j q p e) r.channel
  price_channel s x (Letter.Bid i a k q) j p e r = absurd r
  price_channel s x (Letter.First k) j p e r = absurd r
  price_channel s x (Letter.Stop y) j p e r = absurd r

  pub letter_no_less : (s x : ℕ) (l : Letter) (ls : List Letter) (j : ℕ) (p : ℤ) → c (To.Person s) x ≡ l ∷ ls → told_price l ≡ Some (j, p) → w.copy s j ≤ℤ p
  letter_no_less s x l ls j p e is =
      learns_no_less g w w c l ls s j p is (rw (← price_channel s x l j p is (routed_first g c inv.routed (To.Person s) x l ls e)) e) inv.never_falls

  -- the first letter for an object shard is a bid that fits
  pub bid_letter_fits : (q x : ℕ) (l : Letter) (ls : List Letter) → c (To.Object q) x ≡ l ∷ ls → FitsBid g q l
  bid_letter_fits q x (Letter.Bid i a j p) ls e = let r = routed_first g c inv.routed (To.Object q) x (Letter.Bid i a j p) ls e in record { object = r.object; shard = r.shard; price = r.price }
  bid_letter_fits q x (Letter.Award i j p) ls e = routed_first g c inv.routed (To.Object q) x (Letter.Award i j p) ls e
  bid_letter_fits q x (Letter.Refused i j p) ls e = routed_first g c inv.routed (To.Object q) x (Letter.Refused i j p) ls e
  bid_letter_fits q x (Letter.Outbid i j p) ls e = routed_first g c inv.routed (To.Object q) x (Letter.Outbid i j p) ls e
  bid_letter_fits q x (Letter.Price j p) ls e = routed_first g c inv.routed (To.Object q) x (Letter.Price j p) ls e
  bid_letter_fits q x (Letter.First j) ls e = routed_first g c inv.routed (To.Object q) x (Letter.First j) ls e
  bid_letter_fits q x (Letter.Stop y) ls e = routed_first g c inv.routed (To.Object q) x (Letter.Stop y) ls e
