-- The invariants after a bid, a Stop and a price that is sent.
use Rattle.std.proofs.Common.{ℕ, ℤ, pos, ◌≤ℤ◌, ◌*ℤ◌, negsuc, ◌+◌, ◌%◌, ◌<◌, ◌≡◌, refl, arith, List, [], ◌∷◌, inl, inr, ap, sym}
use Rattle.std.proofs.lemmas.Int.{ints}
use Rattle.auc_graph.specs.Bid.{IsBid, value}
use Rattle.auc_graph.specs.declared.rows.RowArc.{RowArc}
use Rattle.auc_letters.specs.Routing.{price_told, to_hub}
use Rattle.auc_letters.specs.declared.letter.Letter.{Letter}
use Rattle.auc_letters.specs.declared.letter.Why.{Why}
use Rattle.auc_graph.specs.declared.limits.TheConstants.{MOST_PRICE}
use Rattle.auc_letters.specs.declared.out.Out.{Out}
use Rattle.auc_letters.specs.declared.out.To.{To}
use Rattle.auc_letters.specs.Award.{bid_of, bid_out}
use Rattle.auc_model.specs.Bidding.{Bids, Stops, after_bid, after_stop}
use Rattle.auc_model.specs.SlackBids.{SlackLetter}
use Rattle.auc_model.specs.Invariants.{Inv}
use Rattle.auc_model.specs.Put.{put}
use Rattle.auc_model.specs.Start.{Lawful, occurs}
use Rattle.auc_model.specs.Channels.{Lost, Routed, Channels, prices, send, channels}
use Rattle.auc_model.specs.World.{Phase, World, scale}
use Rattle.auc_model.proofs.CountSteps.{counts_bid, counts_price, counts_stop, plus_sent}
use Rattle.auc_model.proofs.Idle.{IsIdle, bid_facts, idle_bid}
use Rattle.auc_model.proofs.PlaceSteps.{place_bid, place_kept, place_sent}
use Rattle.auc_model.proofs.PriceSteps.{price_is_told, price_kept, price_sent}
use Rattle.auc_model.proofs.Prices.{copy_low}
use Rattle.auc_model.proofs.Routes.{routed_sent}
use Rattle.auc_model.proofs.Slack.{all_sent, slack_bid}
use Rattle.auc_model.proofs.Channels.{same_channels}

-- the channels of two worlds with the same mails and outboxes
pub channels_other : (g : Phase) (w v : World) (lost : Lost) → v.objects_mail ≡ w.objects_mail → v.persons_mail ≡ w.persons_mail → v.hub_mail ≡ w.hub_mail
    → v.person_out ≡ w.person_out → v.object_out ≡ w.object_out → channels g v lost ≡ channels g w lost
channels_other g w v lost e1 e2 e3 e4 e5 = same_channels (channels g v lost) (channels g w lost) at
  where
    at : (t : To) (x : ℕ) → channels g v lost t x ≡ channels g w lost t x
    at (To.Person s) x = rw (e2, e4, e5)
    at (To.Object s) x = rw (e1, e4, e5)
    at To.Hub x = rw (e3, e4, e5)

-- the scaled spread is not negative
scaled_above : (g : Phase) → Lawful g → pos 0 ≤ℤ (scale g *ℤ g.spread)
scaled_above g law = by (g.persons + 1) g.spread law.spread_above
  where
    by : (n : ℕ) (z : ℤ) → pos 0 ≤ℤ z → pos 0 ≤ℤ (pos n *ℤ z)
    by n (pos k) h = omega (arith, ints)
    by n (negsuc k) h = absurd (omega (arith, ints))

-- the amount of a bid is no less than the copy
amount_above : (g : Phase) (q : ℕ → ℤ) (row : List RowArc) (a : RowArc) (amount : ℤ) → Lawful g → pos 0 ≤ℤ q a.object → IsBid (scale g) g.spread g.eps q row a amount → pos 0 ≤ℤ amount
amount_above g q row a amount law low best =
    elim best.amount_is [
      | inl p ↦ (let n = p.1.listed in let least : value (scale g) q a ≤ℤ value (scale g) q p.0 = rw n.2 at (best.best.least n.0 p.0 n.1) in let e = p.2 in let eps = law.eps_above in omega (arith, ints))
      | inr p ↦ (let e = p.1 in let eps = law.eps_above in let spread = scaled_above g law in omega (arith, ints))
    ]

module _ (g : Phase) (w : World) (c : Channels) (law : Lawful g) (inv : Inv g w c) where
  -- Bid(s), a bid
  module _ (s i : ℕ) (rest : List ℕ) (a : RowArc) (amount : ℤ) (first : w.idle s ≡ i ∷ rest) (best : Bids g w s i a amount) (low : amount ≤ℤ MOST_PRICE) where
    abbrev pub bidding : World
    bidding = after_bid g w s i rest a amount

    abbrev pub sent : Out
    sent = bid_out g.shards (bid_of i a.arc a.object amount)

    bidder : IsIdle g (w.state i) s i (occurs i rest)
    bidder = bid_facts g w.state w.idle inv.idle_is s i a.object rest first

    here : s < g.shards
    here = let h = bidder.shard in omega (arith, law.some_shards, h)

    pub inv_bids : Inv g bidding (send c s (sent ∷ []))
    inv_bids =
        record {
          routed = routed_sent g c inv.routed sent s (record { person = bidder.known; channel = bidder.shard; object = rw best.best.listed.2 at (law.arcs_in_range i best.best.listed.0 a best.best.listed.1); shard = refl; price = record { low = amount_above g (w.copy s) (g.row i) a amount law (inv.copy_range s a.object) best; high = low } });
          never_falls = price_kept g w bidding (send c s (sent ∷ [])) refl refl (price_sent g w w c sent s (λ j. refl) inv.never_falls);
          in_place = rw (← bidder.shard) (place_bid g w bidding c i a.arc a.object amount 0 bidder.free refl refl inv.in_place);
          price_range = inv.price_range;
          copy_range = inv.copy_range;
          idle_is = idle_bid g w.state w.idle inv.idle_is s i a.object rest first;
          holder_range = inv.holder_range;
          counts = counts_bid g w bidding c (send c s (sent ∷ [])) inv.counts refl refl i a.arc a.object amount bidder.known bidder.free refl (plus_sent g c s sent (let h = here in omega arith) (omega (arith, law.some_shards)));
          slack_letters = all_sent (SlackLetter g w.price) c inv.slack_letters sent s (slack_bid g (w.copy s) w.price i a amount law (λ k. copy_low (prices g w c) s k inv.never_falls) best);
          slack_holders = inv.slack_holders;
          sound = inv.sound;
        }

  -- Bid(s), a stop
  module _ (s i : ℕ) (rest : List ℕ) (y : Why) (why : Stops g w s i y) (here : s < g.shards) (first : w.idle s ≡ i ∷ rest) where
    abbrev pub stopping : World
    stopping = after_stop w s y

    abbrev pub stop_out : Out
    stop_out = to_hub (Letter.Stop y)

    routed_stop : (y : Why) → Stops g w s i y → Routed g To.Hub s (Letter.Stop y)
    routed_stop Why.Bids h = here
    routed_stop Why.Stuck h = (here, record { person = i; known = (bid_facts g w.state w.idle inv.idle_is s i 0 rest first).known; no_arc = h.1 })
    routed_stop Why.Ceiling h = here
    routed_stop Why.Posts h = h
    routed_stop Why.Trail h = h
    routed_stop Why.Mail h = h
    routed_stop Why.Fell h = h
    routed_stop Why.Stray h = h

    pub inv_stops : Inv g stopping (send c s (stop_out ∷ []))
    inv_stops =
        record {
          routed = routed_sent g c inv.routed stop_out s (routed_stop y why);
          never_falls = price_kept g w stopping (send c s (stop_out ∷ [])) refl refl (price_sent g w w c stop_out s (λ j. refl) inv.never_falls);
          in_place = place_kept g w stopping (send c s (stop_out ∷ [])) refl refl (place_sent g w w c stop_out s (λ j k. (refl, refl)) inv.in_place);
          price_range = inv.price_range;
          copy_range = inv.copy_range;
          idle_is = inv.idle_is;
          holder_range = inv.holder_range;
          counts = counts_stop g w stopping c (send c s (stop_out ∷ [])) inv.counts refl refl refl y (plus_sent g c s stop_out (omega (arith, here)) tt);
          slack_letters = all_sent (SlackLetter g w.price) c inv.slack_letters stop_out s (tt);
          slack_holders = inv.slack_holders;
          sound = inv.sound;
        }

  -- Tell(q, j, s)
  module _ (q j s : ℕ) (known : j < g.objects) (its : j % g.shards ≡ q) (there : s < g.shards) where
    abbrev pub tell_out : Out
    tell_out = price_told g.persons s j (w.price j)

    abbrev pub telling : World
    telling = record w { object_out = put w.object_out q (tell_out ∷ []) }

    pub inv_tells : Inv g telling (send c (g.shards + q) (tell_out ∷ []))
    inv_tells =
        record {
          routed = routed_sent g c inv.routed tell_out (g.shards + q) (record { object = known; channel = ap (λ (n : ℕ). g.shards + n) (sym its); price = inv.price_range j; shard = there });
          never_falls = rw (← its) (price_kept g w (record w { object_out = put w.object_out (j % g.shards) (tell_out ∷ []) }) (send c (g.shards + j % g.shards) (tell_out ∷ [])) refl refl (price_is_told g w w c tell_out s j refl refl inv.never_falls));
          in_place = place_kept g w telling (send c (g.shards + q) (tell_out ∷ [])) refl refl (place_sent g w w c tell_out (g.shards + q) (λ j k. (refl, refl)) inv.in_place);
          price_range = inv.price_range;
          copy_range = inv.copy_range;
          idle_is = inv.idle_is;
          holder_range = inv.holder_range;
          counts = counts_price g w telling c (send c (g.shards + q) (tell_out ∷ [])) inv.counts refl refl refl j (w.price j) (plus_sent g c (g.shards + q) tell_out (omega (arith, law.some_shards, its)) there);
          slack_letters = all_sent (SlackLetter g w.price) c inv.slack_letters tell_out (g.shards + q) (tt);
          slack_holders = inv.slack_holders;
          sound = inv.sound;
        }
