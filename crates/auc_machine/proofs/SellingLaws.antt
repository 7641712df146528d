-- Turns by which an object shard takes a bid or sends a price.
use Rattle.std.proofs.Common.{ℕ, ◌%◌, ◌<◌, ◌≡◌, List, [], ◌∷◌, length, get_or, set, refl, ap, sym, ◌∙◌, subst, arith}
use Rattle.std.specs.Prelude.{All, ℤ}
use Rattle.auc_letters.specs.declared.letter.Letter.{Letter}
use Rattle.auc_letters.specs.declared.letter.Why.{Why}
use Rattle.auc_letters.specs.declared.out.Out.{Out}
use Rattle.auc_letters.specs.declared.letter.Bid.{Bid}
use Rattle.auc_letters.specs.Award.{Sale, answers, award, bid_letter, bid_of}
use Rattle.auc_letters.specs.Routing.{price_told}
use Rattle.auc_mail.specs.Mail.{Mail}
use Rattle.auc_objects.specs.Objects.{IsBidIn, Objects, after_bid, price_of, sale_of}
use Rattle.auc_model.specs.Mails.{ObjectShard, with_outbox}
use Rattle.auc_model.specs.Selling.{FitsBid, ObjectTakeTurn, TellTurn, answers_bid, strays, tells, sale_of as known_of}
use Rattle.auc_model.specs.Put.{put}
use Rattle.auc_model.specs.World.{World}
use Rattle.auc_model.specs.declared.turn.End.{End}
use Rattle.auc_model.specs.declared.turn.TurnReply.{TurnReply}
use Rattle.auc_phases.specs.Hub.{ending}
use Rattle.auc_phases.specs.Shards.{IsObjectShard, no_objects}
use Rattle.auc_phases.specs.Boxes.{Reaches}
use Rattle.auc_machine.specs.Mails.{Letters, TakesOne}
use Rattle.auc_machine.specs.Parts.{AreParts, MayAnswer, OwnsObject, Parts, objects_at, phase, world_of}
use Rattle.auc_machine.proofs.WorldOf.{letters_of, seen_sold, with_letters, with_mails}

-- a letter that is no bid on the shard's objects doesn't fit
module _ (p : Parts) (q : ℕ) (are : AreParts p) (known : q < p.shards) where
  shard_is : IsObjectShard p.table p.shards q (objects_at p q)
  shard_is = are.each_objects q known

  pub unfit : (l : Letter) → ((bid : Bid) → IsBidIn (objects_at p q) l bid → ⊥) → FitsBid (phase p) q l → ⊥
  unfit (Letter.Bid i a j amount) none f =
      none (bid_of i a j amount)
      (record {
        letter_is = refl;
        owns = record { known = subst (λ (n : ℕ). j < n) (sym shard_is.objects) f.object; own = subst (λ (n : ℕ). j % n ≡ (objects_at p q).shard) (sym shard_is.of) (f.shard ∙ sym shard_is.number) };
        amount = f.price;
      })
  unfit (Letter.Award i j r) none f = f
  unfit (Letter.Refused i j r) none f = f
  unfit (Letter.Outbid i j r) none f = f
  unfit (Letter.Price j r) none f = f
  unfit (Letter.First j) none f = f
  unfit (Letter.Stop y) none f = f

module _ (p : Parts) (q : ℕ) (are : AreParts p) (may : MayAnswer p q) where
  there : q < length p.objects
  there = let k = may.known in omega (arith, are.objects_are)

  is : IsObjectShard p.table p.shards q (objects_at p q)
  is = are.each_objects q may.known

  price_here : (j : ℕ) → j % p.shards ≡ q → (world_of p).price j ≡ price_of (objects_at p q) j
  price_here j own = ap (λ (n : ℕ). price_of (get_or p.objects n no_objects) j) own

  pub price_told_out : (j s : ℕ) (v : World) (out : Out) → s < p.shards → OwnsObject p q j → out ≡ price_told (length p.table.rows) s j (price_of (objects_at p q) j)
      → v ≡ with_outbox (world_of p) (ObjectShard q) (out ∷ []) → TellTurn (phase p) (world_of p) q j s TurnReply.Moved v
  price_told_out j s v out to owns letter e =
      let same : out ≡ price_told (length p.table.rows) s j ((world_of p).price j) = letter ∙ ap (λ (z : ℤ). price_told (length p.table.rows) s j z) (sym (price_here j owns.own)) in
      tells may.known to owns.known owns.own may.empty refl
      (e ∙ ap (λ (o : Out). with_outbox (world_of p) (ObjectShard q) (o ∷ [])) same)

  module _ (after : Letters) (l : Letter) (takes : TakesOne p.mails.objects q l after.mails.objects) (rest : after ≡ record (letters_of p) { mails = record p.mails { objects = after.mails.objects } }) where
    abbrev m : Mail Letter
    m = after.mails.objects

    abbrev t : Parts
    t = with_letters p after

    e1 : t ≡ record p { mails = record p.mails { objects = m } }
    e1 = with_mails p after (record p.mails { objects = m }) rest

    pub stray_dealt : (v : Parts) → (FitsBid (phase t) q l → ⊥) → v ≡ record t { hub = ending t.hub (End.Stopped Why.Stray) } → ObjectTakeTurn (phase p) (world_of p) q TurnReply.Moved (world_of v)
    stray_dealt v unfit e2 =
        strays takes.sender takes.number l m may.known may.empty takes.takes (subst (λ (z : Parts). FitsBid (phase z) q l → ⊥) e1 unfit) refl
        (ap world_of (e2 ∙ ap (λ (z : Parts). record z { hub = ending z.hub (End.Stopped Why.Stray) }) e1))

    module _ (u : Parts) (letters : List Out) (bid : Bid) (fits : IsBidIn (objects_at t q) l bid) (awarded : objects_at u q ≡ after_bid (objects_at t q) t.eps bid) (answered : letters ≡ answers t.shards t.eps (sale_of (objects_at t q) bid.object) bid)
        (e2 : u ≡ record t { objects = set t.objects q (objects_at u q) }) where
      offer : IsBidIn (objects_at p q) l bid
      offer = subst (λ (z : Parts). IsBidIn (objects_at z q) l bid) e1 fits

      own : bid.object % p.shards ≡ q
      own = subst (λ (n : ℕ). bid.object % n ≡ q) is.of (offer.owns.own ∙ is.number)

      -- what was known of the object, in its shard and in the world
      abbrev sale : Sale
      sale = sale_of (objects_at p q) bid.object

      sale_is : sale ≡ known_of (world_of p) bid.object
      sale_is = ap (λ (n : ℕ). sale_of (get_or p.objects n no_objects) bid.object) (sym own)

      abbrev now_known : Sale → World
      now_known new = record (world_of p) { objects_mail = m; price = put (world_of p).price bid.object new.price; holder = put (world_of p).holder bid.object new.holder }

      seen_after : world_of u ≡ now_known (award p.eps sale bid)
      seen_after =
          let x : Objects = after_bid (objects_at p q) p.eps bid in
          let known = offer.owns.known in
          let same : u ≡ record p { mails = record p.mails { objects = m }; objects = set p.objects q x } = e2 ∙ (ap (λ (y : Objects). record t { objects = set t.objects q y }) awarded ∙ ap (λ (z : Parts). record z { objects = set z.objects q (after_bid (objects_at z q) z.eps bid) }) e1) in
          ap world_of same ∙ seen_sold (record p { mails = record p.mails { objects = m } }) q bid.object (award p.eps sale bid) there own known (omega (arith, is.objects, is.holders, known))

      letters_are : letters ≡ answers p.shards p.eps sale bid
      letters_are = answered ∙ ap (λ (z : Parts). answers z.shards z.eps (sale_of (objects_at z q) bid.object) bid) e1

      pub bid_dealt : (v : World) → v ≡ with_outbox (world_of u) (ObjectShard q) letters → ObjectTakeTurn (phase p) (world_of p) q TurnReply.Moved v
      bid_dealt v put =
          let takes_bid : TakesOne p.mails.objects q (bid_letter bid) m = subst (λ (x : Letter). TakesOne p.mails.objects q x m) offer.letter_is takes in
          answers_bid takes_bid.sender takes_bid.number bid m may.known may.empty takes_bid.takes (record { object = subst (λ (n : ℕ). bid.object < n) is.objects offer.owns.known; shard = own; price = offer.amount }) refl
          (put
          ∙ (ap (λ (os : List Out). with_outbox (world_of u) (ObjectShard q) os) letters_are
          ∙ (ap (λ (w : World). with_outbox w (ObjectShard q) (answers p.shards p.eps sale bid)) seen_after ∙ ap (λ (s : Sale). with_outbox (now_known (award p.eps s bid)) (ObjectShard q) (answers p.shards p.eps s bid)) sale_is)))

      pub bid_known : All (Reaches t.shards) letters → (q < u.shards) × All (Reaches u.shards) letters
      bid_known reach =
          let same : u ≡ record p { mails = record p.mails { objects = m }; objects = set p.objects q (objects_at u q) } = e2 ∙ ap (λ (z : Parts). record z { objects = set z.objects q (objects_at u q) }) e1 in (
            subst (λ (n : ℕ). q < n) (sym (ap (λ (z : Parts). z.shards) same)) may.known,
            subst (λ (n : ℕ). All (Reaches n) letters) (sym (ap (λ (z : Parts). z.shards) e2)) reach,
          )
