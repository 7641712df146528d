-- The bids and the letters of a person worker, one after another.
use Rattle.std.proofs.Common.{◌≡◌, ◌≢◌, ℕ, ◌+◌, ◌-◌, ◌≤◌, ◌<◌, List, [], ◌∷◌, ◌++◌, length, refl, ap, sym, ◌∙◌, subst, inl, inr, arith, append_assoc}
use Rattle.std.specs.Prelude.{ℤ, Ok, Err}
use Rattle.std.proofs.lemmas.List.{append-nil}
use Rattle.auc_graph.specs.Table.{Table}
use Rattle.auc_letters.specs.declared.letter.Letter.{Letter}
use Rattle.auc_letters.specs.declared.letter.Why.{Why}
use Rattle.auc_letters.specs.declared.out.Out.{Out}
use Rattle.auc_persons.specs.declared.bidding.Bidding.{Bidding}
use Rattle.auc_persons.specs.declared.bidding.PersonFault.{PersonFault}
use Rattle.auc_persons.specs.Persons.{NextBid, OnLetter, Persons, Stops, first_idle}
use Rattle.auc_mail.specs.declared.call.Call.{Call}
use Rattle.auc_mail.specs.declared.call.Taken.{Taken}
use Rattle.auc_book.specs.Replies.{take_reply}
use Rattle.auc_book.specs.Seat.{Account, SeatCalls}
use Rattle.auc_phases.specs.Reasons.{reason_for}
use Rattle.auc_threads.specs.declared.calls.Step.{Step}
use Rattle.auc_threads.specs.Calling.{lines_made}
use Rattle.auc_threads.specs.Taking.{AfterTake, AfterTakes, Answer, Takes, letter_of}
use Rattle.auc_threads.specs.Posting.{Posts, PostsAt, calls_sent, first_step}
use Rattle.auc_threads.specs.Buying.{Act, AfterActs, AfterAsks, Asks, Buys, Hear, Listens, ListensTo, Make, Plays, asker, heard_in, made_in}
use Rattle.auc_threads.specs.Worker.{Rooms, Worker, box, round, taker, with_hub}
use Rattle.auc_threads.proofs.TakingLaws.{after_one, after_then, took_as, took_nil, took_take, took_then}
use Rattle.auc_threads.proofs.PostingLaws.{at_none, at_then, posts_long, sent_full, sent_long}
use Rattle.auc_threads.proofs.StepLaws.{posts_bids}

pub plays_then : (t : Table) (eps : ℤ) (s m n : Persons) (xs ys : List Act) → Plays t eps s xs m → Plays t eps m ys n → Plays t eps s (xs ++ ys) n
plays_then t eps s m n [] ys f g = subst (λ (z : Persons). Plays t eps z ys n) f g
plays_then t eps s m n (Hear x ∷ xs) ys f g = record { next = f.next; by = f.by; on = plays_then t eps f.next m n xs ys f.on g }
plays_then t eps s m n (Make o ∷ xs) ys f g = record { next = f.next; by = f.by; on = plays_then t eps f.next m n xs ys f.on g }

heard_append : (xs ys : List Act) → heard_in (xs ++ ys) ≡ heard_in xs ++ heard_in ys
heard_append [] ys = refl
heard_append (Hear x ∷ xs) ys = ap (λ w. x ∷ w) (heard_append xs ys)
heard_append (Make o ∷ xs) ys = heard_append xs ys

made_append : (xs ys : List Act) → made_in (xs ++ ys) ≡ made_in xs ++ made_in ys
made_append [] ys = refl
made_append (Hear x ∷ xs) ys = made_append xs ys
made_append (Make o ∷ xs) ys = ap (λ w. o ∷ w) (made_append xs ys)

pub fault_same : (s n : Persons) (x : Letter) (f : PersonFault) → OnLetter s x (Err f) n → n ≡ s
fault_same s n (Letter.Award i j p) PersonFault.Stray h = h.1
fault_same s n (Letter.Award i j p) PersonFault.Fell h = h.2
fault_same s n (Letter.Refused i j p) PersonFault.Stray h = h.1
fault_same s n (Letter.Refused i j p) PersonFault.Fell h = h.2
fault_same s n (Letter.Outbid i j p) PersonFault.Stray h = h.1
fault_same s n (Letter.Outbid i j p) PersonFault.Fell h = h.2
fault_same s n (Letter.Price j p) PersonFault.Stray h = h.1
fault_same s n (Letter.Price j p) PersonFault.Fell h = h.2
fault_same s n (Letter.Bid i a j p) f h = h.1
fault_same s n (Letter.First j) f h = h.1
fault_same s n (Letter.Stop y) f h = h.1

-- ---- bids that are left

heard_bids : (s n : Persons) (x : Letter) → OnLetter s x (Ok tt) n → n.bids ≡ s.bids
heard_bids s n (Letter.Award i j p) h = ap (λ (z : Persons). z.bids) h.2
heard_bids s n (Letter.Refused i j p) h = ap (λ (z : Persons). z.bids) h.2
heard_bids s n (Letter.Outbid i j p) h = ap (λ (z : Persons). z.bids) h.2
heard_bids s n (Letter.Price j p) h = ap (λ (z : Persons). z.bids) h.2
heard_bids s n (Letter.Bid i a j p) h = absurd (let e = h.0 in cc)
heard_bids s n (Letter.First j) h = absurd (let e = h.0 in cc)
heard_bids s n (Letter.Stop y) h = absurd (let e = h.0 in cc)

plays_bids : (t : Table) (eps : ℤ) (s n : Persons) (acts : List Act) → Plays t eps s acts n → n.bids + length (made_in acts) ≡ s.bids
plays_bids t eps s n [] f = omega (arith, ap (λ (z : Persons). z.bids) f)
plays_bids t eps s n (Hear x ∷ acts) f = omega (arith, plays_bids t eps f.next n acts f.on, heard_bids s f.next x f.by)
plays_bids t eps s n (Make o ∷ acts) f =
    let some = f.by.1 in
    let used : f.next.bids ≡ s.bids - 1 = ap (λ (z : Persons). z.bids) f.by.2.5 in
    omega (arith, plays_bids t eps f.next n acts f.on, some, used)

-- where the worker had made no call of that mail, its seat there counts no more bids than it made
pub bids_made : (t : Table) (eps : ℤ) (r : Rooms) (at : ℕ) (old new : Worker Persons) (step : Step) → (f : Buys (round t eps) r at old new step) → old.seats.objects.count ≡ 0 → new.seats.objects.count ≤ length (made_in f.acts)
bids_made t eps r at old new step f none =
    omega (arith, none, f.posts.makes.counted, sent_long old.seats.objects.worker f.posts.posts, posts_long (made_in f.acts) f.posts.posts f.posts_step f.posts.posted)

-- and so no more than are allowed
pub bids_few : (t : Table) (eps : ℤ) (r : Rooms) (at : ℕ) (old new : Worker Persons) (step : Step) → Buys (round t eps) r at old new step → old.seats.objects.count ≡ 0 → new.seats.objects.count ≤ old.shard.bids
bids_few t eps r at old new step f none =
    omega (arith, bids_made t eps r at old new step f none, plays_bids t eps old.shard new.shard f.acts f.plays)

bids_stop : (x y : Step) → Step.Stop Why.Bids ≡ first_step x y → (x ≢ Step.Stop Why.Bids) → (x ≡ Step.On) × (y ≡ Step.Stop Why.Bids)
bids_stop Step.On y e ne = (refl, sym e)
bids_stop Step.Over y e ne = absurd cc
bids_stop (Step.Stop why) y e ne = absurd (ne (sym e))

none_left : (t : Table) (eps : ℤ) (n : Persons) (fault : List Letter) → AfterActs t eps n fault (Step.Stop Why.Bids) → n.bids ≡ 0
none_left t eps n fault h =
    elim h [
      | inl cant ↦ cant.1.1
      | inr other ↦
          elim other [
            | inl trail ↦ absurd (let e = trail.1 in cc)
            | inr heard ↦ absurd (no_fault heard.found heard.why_is)
          ]
    ]
  where
    no_fault : (f : PersonFault) → Why.Bids ≡ reason_for f → ⊥
    no_fault PersonFault.Stray e = cc
    no_fault PersonFault.Fell e = cc

-- and exactly the limit where the limit ended the worker
pub bids_spent : (t : Table) (eps : ℤ) (r : Rooms) (at : ℕ) (old new : Worker Persons) (step : Step) → Buys (round t eps) r at old new step → old.seats.objects.count ≡ 0 → step ≡ Step.Stop Why.Bids → new.seats.objects.count ≡ old.shard.bids
bids_spent t eps r at old new step f none stop =
    let both = bids_stop f.posts_step f.acts_step (sym stop ∙ f.is) (posts_bids (made_in f.acts) f.posts.posts f.posts_step f.posts.posted) in
    let posted : Posts (made_in f.acts) f.posts.posts Step.On = subst (λ (x : Step). Posts (made_in f.acts) f.posts.posts x) both.0 f.posts.posted in
    let left : new.shard.bids ≡ 0 = none_left t eps new.shard f.fault (subst (λ (x : Step). AfterActs t eps new.shard f.fault x) both.1 f.after) in
    omega (arith, none, f.posts.makes.counted, sent_full old.seats.objects.worker (made_in f.acts) f.posts.posts posted, plays_bids t eps old.shard new.shard f.acts f.plays, left)

-- where there is room for lines, each call has its line
pub bids_noted : (t : Table) (eps : ℤ) (r : Rooms) (at : ℕ) (old new : Worker Persons) (step : Step) → Buys (round t eps) r at old new step → 0 < r.objects → old.seats.objects.count ≡ 0 → old.seats.objects.lines ≡ []
    → length new.seats.objects.lines ≡ new.seats.objects.count
bids_noted t eps r at old new step f some fresh none =
    let a = old.seats.objects in
    let sent = lines_made a.worker (calls_sent a.worker f.posts.posts) in
    let lines : new.seats.objects.lines ≡ sent = f.posts.makes.told some ∙ ap (λ w. w ++ sent) none in
    omega (arith, ap length lines, f.posts.makes.counted, fresh)

-- ---- asking

-- the worker asks for more bids, and gets none
pub asks_end : (t : Table) (eps : ℤ) (s m n : Persons) (old bids : List Out) (step : Step) → Asks (round t eps) (asker s old) (asker m bids) Step.On → n ≡ m → AfterAsks t eps n step → Asks (round t eps) (asker s old) (asker n bids) step
asks_end t eps s m n old bids step f e after = record { acts = f.acts; plays = subst (λ (z : Persons). Plays t eps s f.acts z) (sym e) f.plays; heard = f.heard; made = f.made; after = after }

pub asks_more : (t : Table) (eps : ℤ) (s m n : Persons) (old bids new : List Out) (o : Out) → Asks (round t eps) (asker s old) (asker m bids) Step.On → NextBid t eps m (Bidding.Out o) n → new ≡ bids ++ o ∷ [] → Asks (round t eps) (asker s old) (asker n new) Step.On
asks_more t eps s m n old bids new o f next pushed =
    let one : Plays t eps m (Make o ∷ []) n = record { next = n; by = next; on = refl } in
    record {
      acts = f.acts ++ Make o ∷ [];
      plays = plays_then t eps s m n f.acts (Make o ∷ []) f.plays one;
      heard = heard_append f.acts (Make o ∷ []) ∙ (append-nil (heard_in f.acts) ∙ f.heard);
      made = pushed ∙ (ap (λ w. w ++ o ∷ []) f.made ∙ (append_assoc old (made_in f.acts) (o ∷ []) ∙ ap (λ w. old ++ w) (sym (made_append f.acts (Make o ∷ [])))));
      after = tt;
    }

-- ---- listening

pub listens_ok : (t : Table) (eps : ℤ) (s n : Persons) (x : Letter) (u : Unit {0}) → OnLetter s x (Ok u) n → ListensTo (round t eps) s (x ∷ []) n Step.On
listens_ok t eps s n x u on = record { acts = Hear x ∷ []; fault = []; plays = record { next = n; by = on; on = refl }; made = refl; letters_are = refl; after = refl }

pub listens_fault : (t : Table) (eps : ℤ) (s n : Persons) (x : Letter) (f : PersonFault) (why : Why) → OnLetter s x (Err f) n → n ≡ s → why ≡ reason_for f → ListensTo (round t eps) s (x ∷ []) n (Step.Stop why)
listens_fault t eps s n x f why on e is = record {
  acts = [];
  fault = x ∷ [];
  plays = e;
  made = refl;
  letters_are = refl;
  after = inr (inr (record { letter = x; found = f; fault_is = refl; why_is = is; heard = subst (λ (z : Persons). OnLetter z x (Err f) n) (sym e) on }));
}

pub listens_then : (t : Table) (eps : ℤ) (s m n : Persons) (xs ys : List Letter) (step : Step) → ListensTo (round t eps) s xs m Step.On → ListensTo (round t eps) m ys n step → ListensTo (round t eps) s (xs ++ ys) n step
listens_then t eps s m n xs ys step f g =
    let first : xs ≡ heard_in f.acts = f.letters_are ∙ (ap (λ w. heard_in f.acts ++ w) f.after ∙ append-nil (heard_in f.acts)) in
    record {
      acts = f.acts ++ g.acts;
      fault = g.fault;
      plays = plays_then t eps s m n f.acts g.acts f.plays g.plays;
      made = made_append f.acts g.acts ∙ (ap (λ w. w ++ made_in g.acts) f.made ∙ g.made);
      letters_are =
          ap (λ w. w ++ ys) first
          ∙ (ap (λ w. heard_in f.acts ++ w) g.letters_are ∙ (sym (append_assoc (heard_in f.acts) (heard_in g.acts) g.fault) ∙ ap (λ w. w ++ g.fault) (sym (heard_append f.acts g.acts))));
      after = g.after;
    }

pub listens_none : (t : Table) (eps : ℤ) (room at : ℕ) (s : Persons) (a : Account Letter) → Listens (round t eps) (box room at) (taker s a) (taker s a) Step.On
listens_none t eps room at s a = record { letters = []; took = took_nil room at a; listens = record { acts = []; fault = []; plays = refl; made = refl; letters_are = refl; after = refl }; taken = ((λ e. cc), (λ e. cc)) }

pub listens_more : (t : Table) (eps : ℤ) (room at : ℕ) (s m n : Persons) (a b c : Account Letter) (r : Answer) (step : Step)
    → Listens (round t eps) (box room at) (taker s a) (taker m b) Step.On → SeatCalls room b (Call.Take at) (take_reply r) c → ListensTo (round t eps) m (letter_of r) n step → AfterTake r step → Listens (round t eps) (box room at) (taker s a) (taker n c) step
listens_more t eps room at s m n a b c r step f call g after = record {
  letters = f.letters ++ letter_of r;
  took = took_then room at a b c f.letters (letter_of r) f.took (took_take room at b c r call);
  listens = listens_then t eps s m n f.letters (letter_of r) step f.listens g;
  taken = after_then f.took.answers (r ∷ []) step f.taken (after_one r step after);
}

pub listens_empty : (t : Table) (eps : ℤ) (room at : ℕ) (s m : Persons) (a b c : Account Letter) (r : Answer)
    → Listens (round t eps) (box room at) (taker s a) (taker m b) Step.On → SeatCalls room b (Call.Take at) (take_reply r) c → r ≡ Ok Taken.Empty → Listens (round t eps) (box room at) (taker s a) (taker m c) Step.On
listens_empty t eps room at s m a b c r f call e =
    let none : ListensTo (round t eps) m [] m Step.On = record { acts = []; fault = []; plays = refl; made = refl; letters_are = refl; after = refl } in
    listens_more t eps room at s m m a b c r Step.On f call (subst (λ (q : Answer). ListensTo (round t eps) m (letter_of q) m Step.On) (sym e) none) (subst (λ (q : Answer). AfterTake q Step.On) (sym e) refl)

-- ---- bidding and hearing

pub buys_none : (t : Table) (eps : ℤ) (r : Rooms) (at : ℕ) (w : Worker Persons) → Buys (round t eps) r at w w Step.On
buys_none t eps r at w = record { acts = []; fault = []; posts_step = Step.On; acts_step = Step.On; plays = refl; posts = at_none r.objects w.seats.objects; took = took_nil r.persons at w.seats.persons; after = refl; taken = ((λ e. cc), (λ e. cc)); is = refl }

asked_after : (t : Table) (eps : ℤ) (n : Persons) (step : Step) → AfterAsks t eps n step → AfterActs t eps n [] step
asked_after t eps n Step.On h = refl
asked_after t eps n Step.Over h = absurd h
asked_after t eps n (Step.Stop why) h = inl (refl, h)

-- no take was made, and none has ended it
none_taken : (t : Table) (eps : ℤ) (n : Persons) (step : Step) → AfterAsks t eps n step → AfterTakes [] step
none_taken t eps n Step.On h = ((λ e. cc), (λ e. cc))
none_taken t eps n Step.Over h = absurd h
none_taken t eps n (Step.Stop why) h = ((λ e. cc), (λ e. stops why (why_same e) h.1))
  where
    why_same : Step.Stop why ≡ Step.Stop Why.Trail → why ≡ Why.Trail
    why_same e = cc

    stops : (y : Why) → y ≡ Why.Trail → Stops t eps n (first_idle n) y → ⊥
    stops y e s = subst (λ (z : Why). Stops t eps n (first_idle n) z) e s

-- bids were made and posted, and no letter was taken after them
module _ (t : Table) (eps : ℤ) (r : Rooms) (at : ℕ) (x : Worker Persons) (m : Persons) (b : Account Letter) (old bids sliced : List Out) (asked posted : Step) (f : Asks (round t eps) (asker x.shard old) (asker m bids) asked) (none : old ≡ []) (same : sliced ≡ bids) (g : PostsAt r.objects x.seats.objects sliced b posted) where
  made_posts : PostsAt r.objects x.seats.objects (made_in f.acts) b posted
  made_posts = subst (λ w. PostsAt r.objects x.seats.objects w b posted) (same ∙ (f.made ∙ ap (λ w. w ++ made_in f.acts) none)) g

  abbrev none_heard : Takes r.persons at x.seats.persons (heard_in f.acts ++ []) x.seats.persons
  none_heard = took_as r.persons at x.seats.persons x.seats.persons [] (heard_in f.acts ++ []) (ap (λ w. w ++ []) (sym f.heard)) (took_nil r.persons at x.seats.persons)

  -- the worker after them
  abbrev left_by : Persons → Account Letter → Worker Persons
  left_by n q = record { shard = n; seats = record { objects = b; persons = q; hub = x.seats.hub } }

  pub buys_asked : (step : Step) → step ≡ first_step posted asked → Buys (round t eps) r at x (left_by m x.seats.persons) step
  buys_asked step is = record { acts = f.acts; fault = []; posts_step = posted; acts_step = asked; plays = f.plays; posts = made_posts; took = none_heard; after = asked_after t eps m asked f.after; taken = none_taken t eps m asked f.after; is = is }

  -- or letters were
  pub buys_heard : (n : Persons) (q : Account Letter) (step : Step) → posted ≡ Step.On → Listens (round t eps) (box r.persons at) (taker m x.seats.persons) (taker n q) step → Buys (round t eps) r at x (left_by n q) step
  buys_heard n q step on l =
      let acts : List Act = f.acts ++ l.listens.acts in
      let made : made_in acts ≡ made_in f.acts = made_append f.acts l.listens.acts ∙ (ap (λ w. made_in f.acts ++ w) l.listens.made ∙ append-nil (made_in f.acts)) in
      let heard : heard_in acts ≡ heard_in l.listens.acts = heard_append f.acts l.listens.acts ∙ ap (λ w. w ++ heard_in l.listens.acts) f.heard in
      record {
        acts = acts;
        fault = l.listens.fault;
        posts_step = posted;
        acts_step = step;
        plays = plays_then t eps x.shard m n f.acts l.listens.acts f.plays l.listens.plays;
        posts = subst (λ w. PostsAt r.objects x.seats.objects w b posted) (sym made) made_posts;
        took = took_as r.persons at x.seats.persons q _ _ (l.listens.letters_are ∙ ap (λ w. w ++ l.listens.fault) (sym heard)) l.took;
        after = l.listens.after;
        taken = l.taken;
        is = ap (λ (z : Step). first_step z step) (sym on);
      }

-- the hub's mail is no part of it
pub buys_apart : (t : Table) (eps : ℤ) (r : Rooms) (at : ℕ) (x y : Worker Persons) (h : Account Letter) (step : Step) → Buys (round t eps) r at x y step → Buys (round t eps) r at x (with_hub y h) step
buys_apart t eps r at x y h step f = record { acts = f.acts; fault = f.fault; posts_step = f.posts_step; acts_step = f.acts_step; plays = f.plays; posts = f.posts; took = f.took; after = f.after; taken = f.taken; is = f.is }

on_both : (x y : Step) → Step.On ≡ first_step x y → (x ≡ Step.On) × (y ≡ Step.On)
on_both Step.On y e = (refl, sym e)
on_both Step.Over y e = absurd cc
on_both (Step.Stop why) y e = absurd cc

pub buys_then : (t : Table) (eps : ℤ) (r : Rooms) (at : ℕ) (x y z : Worker Persons) (step : Step) → Buys (round t eps) r at x y Step.On → Buys (round t eps) r at y z step → Buys (round t eps) r at x z step
buys_then t eps r at x y z step f g =
    let ro = r.objects in
    let rp = r.persons in
    let a = x.seats.objects in
    let b = y.seats.objects in
    let p = x.seats.persons in
    let q = y.seats.persons in
    let on = on_both f.posts_step f.acts_step f.is in
    let none : f.fault ≡ [] = subst (λ (s : Step). AfterActs t eps y.shard f.fault s) on.1 f.after in
    let posts : PostsAt ro a (made_in f.acts) b Step.On = subst (λ (s : Step). PostsAt ro a (made_in f.acts) b s) on.0 f.posts in
    let first : Takes rp at p (heard_in f.acts) q = took_as rp at p q _ _ (ap (λ w. heard_in f.acts ++ w) none ∙ append-nil (heard_in f.acts)) f.took in
    record {
      acts = f.acts ++ g.acts;
      fault = g.fault;
      posts_step = g.posts_step;
      acts_step = g.acts_step;
      plays = plays_then t eps x.shard y.shard z.shard f.acts g.acts f.plays g.plays;
      posts = subst (λ w. PostsAt ro a w z.seats.objects g.posts_step) (sym (made_append f.acts g.acts)) (at_then ro a b z.seats.objects (made_in f.acts) (made_in g.acts) g.posts_step posts g.posts);
      took =
          took_as rp at p z.seats.persons _ _ (sym (append_assoc (heard_in f.acts) (heard_in g.acts) g.fault) ∙ ap (λ w. w ++ g.fault) (sym (heard_append f.acts g.acts)))
          (took_then rp at p q z.seats.persons (heard_in f.acts) (heard_in g.acts ++ g.fault) first g.took);
      after = g.after;
      taken = after_then f.took.answers g.took.answers g.acts_step (subst (λ (s : Step). AfterTakes f.took.answers s) on.1 f.taken) g.taken;
      is = g.is;
    }
