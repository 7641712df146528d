-- Turns by which a shard of the persons bids.
use Rattle.std.proofs.Common.{ℕ, ◌<◌, ◌≡◌, ◌≢◌, [], ◌∷◌, true, List, drop, length, set, refl, ap, sym, subst, ◌∙◌, inr, arith}
use Rattle.std.specs.Prelude.{All}
use Rattle.std.proofs.lemmas.List.{set-get_or}
use Rattle.std.proofs.lemmas.List.Elements.{All-cons, All-get_or, All-nil}
use Rattle.auc_letters.specs.declared.letter.Letter.{Letter}
use Rattle.auc_letters.specs.declared.letter.Why.{Why}
use Rattle.auc_letters.specs.declared.out.Out.{Out}
use Rattle.auc_letters.specs.Award.{bid_of, bid_out}
use Rattle.auc_letters.specs.Routing.{to_hub, to_object}
use Rattle.auc_persons.specs.declared.bidding.Bidding.{Bidding}
use Rattle.auc_persons.specs.Persons.{NextBid, Owns, Persons, after_bid, first_idle, Stops as Stopped}
use Rattle.auc_model.specs.Bidding.{BidTurn, MayBid, Stops, barred, bids, stops}
use Rattle.auc_model.specs.Mails.{PersonShard, with_outbox}
use Rattle.auc_model.specs.World.{World}
use Rattle.auc_model.specs.declared.turn.TurnReply.{TurnReply}
use Rattle.auc_model.proofs.Tables.{first_and_rest}
use Rattle.auc_phases.specs.Shards.{IsPersonShard, no_persons}
use Rattle.auc_phases.specs.Boxes.{Reaches}
use Rattle.auc_machine.specs.Parts.{AreParts, MayAskForBid, Parts, persons_at, phase, world_of}
use Rattle.auc_machine.proofs.WorldOf.{outbox_seen, seen_bid, seen_stop}

-- the shard is as it was, and so are all parts
pub same_persons : (p : Parts) (s : ℕ) (n : Persons) → n ≡ persons_at p s → set p.persons s n ≡ p.persons
same_persons p s n e = ap (λ (x : Persons). set p.persons s x) e ∙ set-get_or p.persons s no_persons

stops_same : (p : Parts) (s i : ℕ) (why : Why) → Stopped p.table p.eps (persons_at p s) i why → Stops (phase p) (world_of p) s i why
stops_same p s i Why.Bids h = h
stops_same p s i Why.Stuck h = h
stops_same p s i Why.Ceiling (left, (arc, amount, bid, above)) = record { left = left; arc = arc; amount = amount; bid = bid; above = above }
stops_same p s i Why.Posts h = h
stops_same p s i Why.Trail h = h
stops_same p s i Why.Mail h = h
stops_same p s i Why.Fell h = h
stops_same p s i Why.Stray h = h

module _ (p : Parts) (s : ℕ) (are : AreParts p) (may : MayAskForBid p s) where
  there : s < length p.persons
  there = let k = may.known in omega (arith, are.persons_are)

  is : IsPersonShard p.table p.shards s (persons_at p s)
  is = are.each_persons s may.known

  may_bid : (persons_at p s).idle ≢ [] → MayBid (phase p) (world_of p) s (first_idle (persons_at p s)) (drop 1 (persons_at p s).idle)
  may_bid some = record { known = may.known; empty = outbox_seen p (PersonShard s) may.known ∙ may.empty; going = may.going; first = first_and_rest (persons_at p s).idle 0 some }

  owns_first : (persons_at p s).idle ≢ [] → Owns (persons_at p s) (first_idle (persons_at p s))
  owns_first some = All-get_or (Owns (persons_at p s)) (persons_at p s).idle 0 0 (not_empty (persons_at p s).idle some) is.idle_own
    where
      not_empty : (xs : List ℕ) → xs ≢ [] → 0 < length xs
      not_empty [] n = absurd (n refl)
      not_empty (x ∷ xs) n = omega arith

  pub asks_idle : (n : Parts) → NextBid p.table p.eps (persons_at p s) Bidding.Idle (persons_at n s) → n ≡ record p { persons = set p.persons s (persons_at n s) } → BidTurn (phase p) (world_of p) s TurnReply.Nothing (world_of n)
  asks_idle n h e = barred (inr (inr (inr h.0))) refl (ap world_of (e ∙ ap (λ (xs : List Persons). record p { persons = xs }) (same_persons p s (persons_at n s) h.1)))

  pub asks_stop : (n m : Parts) (why : Why) (v : World) → NextBid p.table p.eps (persons_at p s) (Bidding.Stop why) (persons_at n s) → n ≡ record p { persons = set p.persons s (persons_at n s) } → m ≡ record n { stopped = set n.stopped s true }
      → v ≡ with_outbox (world_of m) (PersonShard s) (to_hub (Letter.Stop why) ∷ []) → BidTurn (phase p) (world_of p) s TurnReply.Moved v
  asks_stop n m why v h e1 e2 put =
      let same : n ≡ p = e1 ∙ ap (λ (xs : List Persons). record p { persons = xs }) (same_persons p s (persons_at n s) h.2) in
      let after : m ≡ record p { stopped = set p.stopped s true } = e2 ∙ ap (λ (z : Parts). record z { stopped = set z.stopped s true }) same in
      let k = may.known in
      stops (first_idle (persons_at p s)) (drop 1 (persons_at p s).idle) why (may_bid h.0) (stops_same p s (first_idle (persons_at p s)) why h.1) refl
      (put ∙ ap (λ (w : World). with_outbox w (PersonShard s) (to_hub (Letter.Stop why) ∷ [])) (ap world_of after ∙ seen_stop p s (omega (arith, are.stopped_are))))

  pub asks_bid : (n : Parts) (out : Out) (v : World) → NextBid p.table p.eps (persons_at p s) (Bidding.Out out) (persons_at n s) → n ≡ record p { persons = set p.persons s (persons_at n s) }
      → v ≡ with_outbox (world_of n) (PersonShard s) (out ∷ []) → BidTurn (phase p) (world_of p) s TurnReply.Moved v
  asks_bid n out v h e put =
      let x = persons_at p s in
      let i = first_idle x in
      let arc = h.2.0 in
      let amount = h.2.1 in
      let letter : out ≡ bid_out p.shards (bid_of i arc.arc arc.object amount) = h.2.4 ∙ ap (λ (n : ℕ). to_object n arc.object (Letter.Bid i arc.arc arc.object amount)) is.object_shards in
      let after : n ≡ record p { persons = set p.persons s (after_bid x i arc.object) } = e ∙ ap (λ (y : Persons). record p { persons = set p.persons s y }) h.2.5 in
      bids i (drop 1 x.idle) arc amount (may_bid h.0) h.1 h.2.2 h.2.3 refl
      (put ∙ (ap (λ (o : Out). with_outbox (world_of n) (PersonShard s) (o ∷ [])) letter ∙ ap (λ (w : World). with_outbox w (PersonShard s) (bid_out p.shards (bid_of i arc.arc arc.object amount) ∷ [])) (ap world_of after ∙ seen_bid p s there is i arc.object (owns_first h.0))))

  pub bid_known : (n : Parts) (out : Out) → NextBid p.table p.eps (persons_at p s) (Bidding.Out out) (persons_at n s) → n ≡ record p { persons = set p.persons s (persons_at n s) } → (s < n.shards) × All (Reaches n.shards) (out ∷ [])
  bid_known n out h e =
      let some = are.some in
      let shards : n.shards ≡ p.shards = ap (λ (z : Parts). z.shards) e in
      let letter : out ≡ to_object p.shards h.2.0.object (Letter.Bid (first_idle (persons_at p s)) h.2.0.arc h.2.0.object h.2.1) = h.2.4 ∙ ap (λ (n : ℕ). to_object n h.2.0.object (Letter.Bid (first_idle (persons_at p s)) h.2.0.arc h.2.0.object h.2.1)) is.object_shards in
      let reach : Reaches n.shards out = rw (shards, letter) (omega arith) in
      (rw shards may.known, All-cons (Reaches n.shards) out [] reach (All-nil (Reaches n.shards)))

  pub stop_known : (n m : Parts) → n ≡ record p { persons = set p.persons s (persons_at n s) } → m ≡ record n { stopped = set n.stopped s true } → s < m.shards
  stop_known n m e1 e2 = subst (λ (k : ℕ). s < k) (sym (ap (λ (z : Parts). z.shards) e2 ∙ ap (λ (z : Parts). z.shards) e1)) may.known
