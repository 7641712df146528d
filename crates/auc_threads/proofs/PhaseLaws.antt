-- The outcome of a phase, from the results of its workers.
use Rattle.std.proofs.Common.{◌≡◌, ◌≢◌, ℕ, zero, suc, ◌+◌, ◌*◌, ◌%◌, ◌<◌, ◌≤◌, List, [], ◌∷◌, ◌++◌, Some, None, length, map, get_or, Bool, refl, ap, sym, ◌∙◌, subst, arith, append_assoc, All, inl, inr}
use Rattle.std.specs.Prelude.{ℤ, pos, Option, IfSome, IsTrue, ◌↔◌}
use Rattle.std.proofs.lemmas.Bool.{cases_lt}
use Rattle.std.proofs.lemmas.List.Elements.{All-cons, All-head, All-nil, All-tail}
use Rattle.auc_threads.specs.Hearing.{Falls, SomebodyStuck}
use Rattle.std.proofs.lemmas.List.{length-map}
use Rattle.auc_threads.specs.Counting.{Closes, Counts, firsts_in}
use Rattle.auc_threads.specs.Worked.{AreWorked, IsHub, IsWhyOfOne, audited, end_by, first_some}
use Rattle.auc_threads.proofs.BuyingLaws.{bids_few, bids_made, bids_spent}
use Rattle.auc_threads.proofs.StepLaws.{why_stop}
use Rattle.auc_threads.proofs.WorkedLaws.{AreTrue, buyer_told, first_whose, is_noted, seller_told, stopped_for, value_at}
use Rattle.auc_letters.specs.declared.letter.Letter.{Letter}
use Rattle.auc_letters.specs.declared.letter.Why.{Why}
use Rattle.auc_letters.specs.declared.state.Held.{Held}
use Rattle.auc_objects.specs.Objects.{Objects, Owns, holder_of, price_of, sale_of}
use Rattle.auc_book.specs.declared.line.TrailLine.{TrailLine}
use Rattle.auc_book.specs.Seat.{Account, new_account}
use Rattle.auc_book.specs.Settling.{Agrees, IsSettled, IsTrueOf, IsTurnedByFull}
use Rattle.auc_book.specs.Trail.{IsOwn, lines_of}
use Rattle.auc_threads.proofs.SenderLaws.{persons_post}
use Rattle.auc_phases.specs.declared.limits.Limits.{Limits}
use Rattle.auc_answers.proofs.Replicated.{replicate_default}
use Rattle.auc_threads.specs.Placed.{Placed}
use Rattle.auc_threads.specs.Gathering.{Gathers, IsOwnShard}
use Rattle.auc_threads.specs.Phase.{AreCounted, HasPlayed, IsToldBy, IsTrail, price_in, taken_by, unsold}
use Rattle.auc_threads.specs.Naming.{AreNamed, IsNamed, Numbers, hub_nodes, objects_nodes, persons_nodes, workers_of}
use Rattle.auc_threads.specs.declared.phase.PhaseEnd.{PhaseEnd}
use Rattle.auc_threads.specs.declared.object_worker.ObjectWork.{ObjectWork}
use Rattle.auc_threads.specs.declared.person_worker.PersonWork.{PersonWork}
use Rattle.auc_threads.specs.declared.running.Works.{Works}
use Rattle.auc_threads.specs.declared.settling.Trails.{Trails}
use Rattle.auc_model.specs.declared.turn.End.{End}
use Rattle.auc_letters.specs.Award.{Sale, award_all, bids_on}
use Rattle.auc_threads.specs.Starts.{AreWorks, HaveBought, HaveSold, IsObjectResult, IsPersonResult}
use Rattle.auc_threads.specs.Worker.{Accounts, Rooms, Setting, accounts_of, bought_of, new_seller, rooms, sold_of}
use Rattle.auc_threads.specs.Taking.{letters_in, letters_taken}
use Rattle.auc_threads.proofs.TakingLaws.{lines_tell, took_told}
use Rattle.auc_threads.proofs.CountingLaws.{closed_told}
use Rattle.auc_threads.proofs.PlacedLaws.{placed_at, placed_some, placed_weaker}
use Rattle.auc_book.proofs.Seats.{All-front, All-back}

-- the shard at a place owns the objects of that remainder
pub owns_at : {X : Type 0} (f : X → Objects) (shards objects : ℕ) (xs : List X) (q j : ℕ) (x : X) → Placed (λ k w. IsOwnShard shards objects k (f w)) 0 xs → q < length xs → q ≡ j % shards
    → x ≡ get_or xs q x → j < objects → Owns (f x) j
owns_at f shards objects xs q j x all known e is low =
    let at = placed_at (λ k w. IsOwnShard shards objects k (f w)) 0 xs q x all known in
    let here : IsOwnShard shards objects (0 + q) (f x) = subst (λ y. IsOwnShard shards objects (0 + q) (f y)) (sym is) at in
    record { known = omega (arith, here.prices); own = ap (λ (n : ℕ). j % n) here.of ∙ (sym e ∙ sym (here.number ∙ omega arith)) }

-- one more is put with the others
pub collect_more : {X Y : Type 0} (f : X → Y) (xs ys : List Y) (x : X) (old rest : List X) (whole : List Y) → ys ≡ xs ++ f x ∷ [] → old ≡ x ∷ rest → xs ++ map f old ≡ whole → ys ++ map f rest ≡ whole
collect_more f xs ys x old rest whole e step all =
    ap (λ w. w ++ map f rest) e ∙ (append_assoc xs (f x ∷ []) (map f rest) ∙ (ap (λ w. xs ++ map f w) (sym step) ∙ all))

pub placed_all : {X : Type 0} (P : ℕ → X → Type 0) (Q : X → Type 0) (xs : List X) → ((k : ℕ) (x : X) → P k x → Q x) → Placed P 0 xs → All Q xs
placed_all P Q xs f all k d l = f (0 + k) (get_or xs k d) (placed_at P 0 xs k d all l)

-- the results of the threads
module _ {O P H : Type 0} (g : Setting) (r : Rooms) (xs : List (ObjectWork O P H)) (results : HaveSold g r xs) where
  abbrev Sold : ℕ → ObjectWork O P H → Type 0
  Sold k x = IsObjectResult g r k (sold_of x) x.why

  pub own_of : (objects : ℕ) → length g.prices ≡ objects → Placed (λ k x. IsOwnShard g.limits.shards objects k x.shard) 0 xs
  own_of objects e =
      placed_weaker Sold (λ k x. IsOwnShard g.limits.shards objects k x.shard)
      (λ k x is. record { number = is.sells.shape.shard; of = is.sells.shape.of; prices = is.sells.shape.objects ∙ e }) 0 xs results

  pub no_guards : All (λ x. (x.why ≢ Some Why.Stuck) × (x.why ≢ Some Why.Fell)) xs
  no_guards = placed_all Sold (λ x. (x.why ≢ Some Why.Stuck) × (x.why ≢ Some Why.Fell)) xs (λ k x is. is.no_guard) results

  pub no_bids : All (λ x. x.why ≢ Some Why.Bids) xs
  no_bids = placed_all Sold (λ x. x.why ≢ Some Why.Bids) xs (λ k x is. is.no_bids) results

  -- each object's price and holder, by the trail
  pub sold_told : (trail : List (TrailLine Letter)) (j : ℕ) (price : ℤ) (holder : Option Held) → 0 < r.objects → All (λ x. Agrees trail x.seats.objects) xs → length xs ≡ g.limits.shards → 0 < g.limits.shards → j < length g.prices
      → ((d : ObjectWork O P H) → Gathers (get_or xs (j % g.limits.shards) d).shard j price holder)
      → record { price = price; holder = holder } ≡ award_all g.eps (unsold g.prices j) (bids_on j (taken_by (g.limits.shards + j % g.limits.shards) trail))
  sold_told trail j price holder room agree many some low got =
      let q = j % g.limits.shards in
      let known : q < length xs = omega (arith, many, some) in
      let at = placed_some Sold 0 xs q results known in
      let x = at.element in
      let is : Sold q x = subst (λ (m : ℕ). Sold m x) (omega arith) at.holds in
      let here : Gathers x.shard j price holder = subst (λ (w : ObjectWork O P H). Gathers w.shard j price holder) (at.there x) (got x) in
      let begun = (new_seller g q).shard in
      let owns : Owns begun j = record { known = low; own = refl } in
      let start : sale_of begun j ≡ unsold g.prices j = ap (λ (o : Option Held). record { price = price_in g.prices j; holder = o }) (replicate_default (length g.prices) j None) in
      let told : letters_in x.seats.objects.lines ≡ is.sells.letters = took_told r.objects _ _ x.seats.objects is.sells.letters is.sells.took room in
      let lines : lines_of (g.limits.shards + q) trail ≡ x.seats.objects.lines =
      ap (λ (m : ℕ). lines_of m trail) (sym is.seats.objects_seat) ∙ subst (λ (w : ObjectWork O P H). Agrees trail w.seats.objects) (at.there x) (agree q x known) in
      ap (λ (z : ℤ). record { price = z; holder = holder }) here.price_is
      ∙ (ap (λ (o : Option Held). record { price = price_of x.shard j; holder = o }) here.holder_is
      ∙ (is.sells.sold j owns
      ∙ (ap (λ (s : Sale). award_all g.eps s (bids_on j is.sells.letters)) start ∙ ap (λ ls. award_all g.eps (unsold g.prices j) (bids_on j ls)) (sym told ∙ ap letters_in (sym lines)))))

-- the persons' results
module _ {O P H : Type 0} (g : Setting) (r : Rooms) (xs : List (PersonWork O P H)) (results : HaveBought g r xs) where
  abbrev Bought : ℕ → PersonWork O P H → Type 0
  Bought k x = IsPersonResult g r k (bought_of x) x.why

  pub stuck_told : IsWhyOfOne (λ w. w.why) xs Why.Stuck → SomebodyStuck g.table
  stuck_told s =
      let at = placed_some Bought 0 xs s.place results s.known in
      at.holds.work.stuck (ap (λ (x : PersonWork O P H). x.why) (sym (at.there at.element)) ∙ s.its at.element)

  pub fell_told : (trail : List (TrailLine Letter)) → 0 < r.persons → All (λ x. Agrees trail x.seats.persons) xs → length xs ≡ g.limits.shards
      → IsWhyOfOne (λ w. w.why) xs Why.Fell
      → (k : ℕ) × (k < g.limits.shards) × Falls (price_in g.prices) (taken_by k trail)
  fell_told trail room agree many s =
      let at = placed_some Bought 0 xs s.place results s.known in
      let x = at.element in
      let is : Bought s.place x = subst (λ (m : ℕ). Bought m x) (omega arith) at.holds in
      let hears = is.work.hears in
      let told : letters_in x.seats.persons.lines ≡ hears.letters = took_told r.persons _ _ x.seats.persons hears.letters hears.took room in
      let lines : lines_of s.place trail ≡ x.seats.persons.lines =
      ap (λ (m : ℕ). lines_of m trail) (sym is.seats.persons_seat) ∙ subst (λ (w : PersonWork O P H). Agrees trail w.seats.persons) (at.there x) (agree s.place x s.known) in
      let falls : Falls (price_in g.prices) hears.letters = hears.hears.falls (ap (λ (w : PersonWork O P H). w.why) (sym (at.there x)) ∙ s.its x) in
      (s.place, omega (arith, s.known, many), subst (λ ls. Falls (price_in g.prices) ls) (sym told ∙ ap letters_in (sym lines)) falls)

  -- the bids that they posted, by their seats at the objects' mail
  pub counted_told : (bids : List ℕ) (whys : List (Option Why)) (last : Option Why) (is_all : Bool) (end : Option End) → bids ≡ map (λ x. x.seats.objects.count) xs → length xs ≡ g.limits.shards
      → end ≡ end_by is_all (first_some ((map (λ x. x.why) xs ++ whys) ++ last ∷ [])) → first_some whys ≢ Some Why.Bids → last ≢ Some Why.Bids → AreCounted g.limits bids end
  counted_told bids whys last is_all end is many ends others here = record {
    many = ap length is ∙ (length-map xs count ∙ many);
    few = subst (λ ns. All (λ n. n ≤ g.limits.bids) ns) (sym is) few;
    spent = λ e. (
        let s = first_whose (λ x. x.why) xs whys last Why.Bids (stopped_for is_all _ end Why.Bids ends e) others here in
        let known = s.known in
        let at = placed_some Bought 0 xs s.place results known in
        let x = at.element in
        let work = at.holds.work in
        let stop = why_stop work.step x.why Why.Bids work.why_is (ap (λ (w : PersonWork O P H). w.why) (sym (at.there x)) ∙ s.its x) in
        let all : count x ≡ g.limits.bids = bids_spent _ _ _ _ _ _ _ work.buys refl stop in
        (s.place, omega (arith, known, many), ap (λ ns. get_or ns s.place 0) is ∙ (sym (value_at count 0 xs s.place x known at.there) ∙ all)));
  }
    where
      count : PersonWork O P H → ℕ
      count x = x.seats.objects.count

      few : All (λ n. n ≤ g.limits.bids) (map (λ x. x.seats.objects.count) xs)
      few k d low =
          let known : k < length xs = omega (arith, low, length-map xs (λ x. x.seats.objects.count)) in
          let at = placed_some Bought 0 xs k results known in
          let x = at.element in
          let one : x.seats.objects.count ≤ g.limits.bids = bids_few _ _ _ _ _ _ _ at.holds.work.buys refl in
          subst (λ (n : ℕ). n ≤ g.limits.bids) (value_at (λ x. x.seats.objects.count) d xs k x known at.there) one

  -- the work of each of them
  pub played_told : (bids : List ℕ) → bids ≡ map (λ x. x.seats.objects.count) xs → length xs ≡ g.limits.shards → (k : ℕ) → k < g.limits.shards
      → HasPlayed g.table g.limits g.eps g.prices k (get_or bids k 0)
  played_told bids is many k low =
      let known : k < length xs = omega (arith, low, many) in
      let at = placed_some Bought 0 xs k results known in
      let x = at.element in
      let work = (subst (λ (m : ℕ). Bought m x) (omega arith) at.holds).work in
      let count : x.seats.objects.count ≡ get_or bids k 0 = value_at (λ x. x.seats.objects.count) 0 xs k x known at.there ∙ ap (λ ns. get_or ns k 0) (sym is) in
      let made = bids_made _ _ _ _ _ _ _ work.buys refl in
      record { acts = work.buys.acts; left = x.shard; plays = work.buys.plays; posted = omega (arith, count, made); rise = work.hears.hears.rise }

-- the hub's
pub all_told : (room persons w : ℕ) (is_all : Bool) (why : Option Why) (b : Account Letter) (trail : List (TrailLine Letter)) → 0 < room → Counts room persons (new_account w) is_all why b → Agrees trail b
    → IsTrue is_all ↔ (firsts_in (taken_by w trail) ≡ persons)
all_told room persons w is_all why b trail some c agrees =
    let answers = c.heard ++ c.last ∷ [] in
    let worker : b.worker ≡ w = c.closes.makes.worker ∙ c.takes.worker in
    let took : letters_in c.before.lines ≡ letters_taken answers = ap letters_in (c.takes.told some) ∙ lines_tell w 0 answers in
    let told : letters_in (lines_of w trail) ≡ letters_taken answers = ap (λ (m : ℕ). letters_in (lines_of m trail)) (sym worker) ∙ (ap letters_in agrees ∙ (closed_told room 1 c.before b c.closes some ∙ took)) in
    ((λ e. ap firsts_in told ∙ c.all.0 e), (λ e. c.all.1 (sym (ap firsts_in told) ∙ e)))

-- of all seats together: those of the persons, of the objects, of the hub
mapped : {X Y : Type 0} (P : Y → Type 0) (f : X → Y) (xs : List X) → All P (map f xs) → All (λ x. P (f x)) xs
mapped P f [] all = All-nil (λ x. P (f x))
mapped P f (x ∷ xs) all = All-cons (λ z. P (f z)) x xs (All-head P (f x) (map f xs) all) (mapped P f xs (All-tail P (f x) (map f xs) all))

pub all_first : {X Y Z : Type 0} (P : Y → Type 0) (f : X → Y) (g : Z → Y) (xs : List X) (zs : List Z) (y : Y) (all : List Y) → all ≡ (map f xs ++ map g zs) ++ y ∷ [] → All P all → All (λ x. P (f x)) xs
all_first P f g xs zs y all e p = mapped P f xs (All-front P (map f xs) (map g zs) (All-front P (map f xs ++ map g zs) (y ∷ []) (subst (λ ws. All P ws) e p)))

pub all_second : {X Y Z : Type 0} (P : Y → Type 0) (f : X → Y) (g : Z → Y) (xs : List X) (zs : List Z) (y : Y) (all : List Y) → all ≡ (map f xs ++ map g zs) ++ y ∷ [] → All P all → All (λ z. P (g z)) zs
all_second P f g xs zs y all e p = mapped P g zs (All-back P (map f xs) (map g zs) (All-front P (map f xs ++ map g zs) (y ∷ []) (subst (λ ws. All P ws) e p)))

pub all_last : {X Y Z : Type 0} (P : Y → Type 0) (f : X → Y) (g : Z → Y) (xs : List X) (zs : List Z) (y : Y) (all : List Y) → all ≡ (map f xs ++ map g zs) ++ y ∷ [] → All P all → P y
all_last P f g xs zs y all e p = All-head P y [] (All-back P (map f xs ++ map g zs) (y ∷ []) (subst (λ ws. All P ws) e p))

any_default : {X : Type 0} (xs : List X) (i : ℕ) (x d : X) → i < length xs → x ≡ get_or xs i x → get_or xs i d ≡ x
any_default [] i x d l e = absurd (omega (arith, l))
any_default (y ∷ xs) zero x d l e = sym e
any_default (y ∷ xs) (suc i) x d l e = any_default xs i x d (omega (arith, l)) e

pushed_here : {Y : Type 0} (ys : List Y) (y d : Y) (n : ℕ) → length ys ≡ n → get_or (ys ++ y ∷ []) n d ≡ y
pushed_here [] y d zero e = refl
pushed_here [] y d (suc n) e = absurd (omega (arith, e))
pushed_here (z ∷ ys) y d zero e = absurd (omega (arith, e))
pushed_here (z ∷ ys) y d (suc n) e = pushed_here ys y d n (omega (arith, e))

pushed_before : {Y : Type 0} (ys : List Y) (y d : Y) (j : ℕ) → j < length ys → get_or (ys ++ y ∷ []) j d ≡ get_or ys j d
pushed_before [] y d j l = absurd (omega (arith, l))
pushed_before (z ∷ ys) y d zero l = refl
pushed_before (z ∷ ys) y d (suc j) l = pushed_before ys y d j (omega (arith, l))

-- one more object
pub gathers_more : {X : Type 0} (f : X → Objects) (shards n : ℕ) (xs : List X) (ps qs : List ℤ) (hs gs : List (Option Held)) (p : ℤ) (h : Option Held) (x : X)
    → qs ≡ ps ++ p ∷ [] → gs ≡ hs ++ h ∷ [] → length ps ≡ n → length hs ≡ n → n % shards < length xs → x ≡ get_or xs (n % shards) x → p ≡ price_of (f x) n → h ≡ holder_of (f x) n
    → ((j : ℕ) (d : X) → j < n → Gathers (f (get_or xs (j % shards) d)) j (get_or ps j (pos 0)) (get_or hs j None))
    → (j : ℕ) (d : X) → j < n + 1 → Gathers (f (get_or xs (j % shards) d)) j (get_or qs j (pos 0)) (get_or gs j None)
gathers_more f shards n xs ps qs hs gs p h x ep eh lp lh known is price holder each j d low =
    elim (cases_lt j n) [
      | inl l ↦ (
          let old = each j d l in
          let same_p : get_or qs j (pos 0) ≡ get_or ps j (pos 0) = ap (λ ws. get_or ws j (pos 0)) ep ∙ pushed_before ps p (pos 0) j (omega (arith, l, lp)) in
          let same_h : get_or gs j None ≡ get_or hs j None = ap (λ ws. get_or ws j None) eh ∙ pushed_before hs h None j (omega (arith, l, lh)) in
          record { price_is = same_p ∙ old.price_is; holder_is = same_h ∙ old.holder_is })
      | inr ge ↦ (
          let e : n ≡ j = omega (arith, ge, low) in
          let here : get_or xs (n % shards) d ≡ x = any_default xs (n % shards) x d known is in
          let at_p : get_or qs n (pos 0) ≡ p = ap (λ ws. get_or ws n (pos 0)) ep ∙ pushed_here ps p (pos 0) n lp in
          let at_h : get_or gs n None ≡ h = ap (λ ws. get_or ws n None) eh ∙ pushed_here hs h None n lh in
          let now : Gathers (f x) n (get_or qs n (pos 0)) (get_or gs n None) = record { price_is = at_p ∙ price; holder_is = at_h ∙ holder } in
          subst (λ (m : ℕ). Gathers (f (get_or xs (m % shards) d)) m (get_or qs m (pos 0)) (get_or gs m None)) e
          (subst (λ w. Gathers (f w) n (get_or qs n (pos 0)) (get_or gs n None)) (sym here) now))
    ]

-- the trail of a mail that settled is one of it
trail_of : (n : Numbers) (boxes nodes : ℕ) (limits : Limits) (s : List (Account Letter)) (ls : List (TrailLine Letter)) → IsNamed n boxes nodes limits → IsSettled n.boxes n.workers n.nodes n.most n.room s ls → IsTrail boxes (workers_of limits.shards) nodes limits.posts ls
trail_of n boxes nodes limits s ls named set =
    subst (λ (x : ℕ). IsTrail boxes (workers_of limits.shards) nodes x ls) named.most_is
    (subst (λ (x : ℕ). IsTrail boxes (workers_of limits.shards) x n.most ls) named.nodes_are
    (subst (λ (x : ℕ). IsTrail boxes x n.nodes n.most ls) named.workers_are (subst (λ (x : ℕ). IsTrail x n.workers n.nodes n.most ls) named.boxes_are (record { run = (set.last, set.run); own = set.own }))))

-- the seats of all workers at one mail, in order
abbrev pub seats_at : {O P H : Type 0} → (Accounts → Account Letter) → Works O P H → List (Account Letter)
seats_at a w = (map (λ x. a (accounts_of x.seats)) w.persons.items ++ map (λ x. a (accounts_of x.seats)) w.objects.items) ++ a (accounts_of w.hub.seats) ∷ []

-- What the trails prove of all results.
module _ {O P H : Type 0} (g : Setting) (o p h : Numbers) (w : Works O P H) (are : AreWorks g (rooms o.room p.room h.room) w) (named : AreNamed g.limits (length g.table.rows) o p h)
    (some : 0 < g.limits.shards) (each : length g.prices ≡ g.table.objects) (persons_many : length w.persons.items ≡ g.limits.shards) (objects_many : length w.objects.items ≡ g.limits.shards)
    (e : PhaseEnd)
    (gathers : (j : ℕ) (d : ObjectWork O P H) → j < g.table.objects → Gathers (get_or w.objects.items (j % g.limits.shards) d).shard j (price_in e.gathered.prices.items j) (get_or e.gathered.holders.items j None))
    (ends : (e.end ≡ Some End.All) ↔ IsTrue w.hub.is_all)
    (falls : e.end ≡ Some (End.Stopped Why.Fell) → IsWhyOfOne (λ w. w.why) w.persons.items Why.Fell)
    (so sp sh : List (Account Letter)) (eo : so ≡ seats_at (λ a. a.objects) w) (ep : sp ≡ seats_at (λ a. a.persons) w) (eh : sh ≡ seats_at (λ a. a.hub) w)
    (end_is : e.end ≡ end_by w.hub.is_all (first_some ((map (λ x. x.why) w.persons.items ++ map (λ x. x.why) w.objects.items) ++ w.hub.why ∷ [])))
    (counted : e.bids.items ≡ map (λ x. x.seats.objects.count) w.persons.items) (trails : Trails)
    (at_objects : IsSettled o.boxes o.workers o.nodes o.most o.room so trails.objects) (at_persons : IsSettled p.boxes p.workers p.nodes p.most p.room sp trails.persons) (at_hub : IsSettled h.boxes h.workers h.nodes h.most h.room sh trails.hub) where
  abbrev audit : ℕ
  audit = g.limits.audit

  rooms_are : rooms o.room p.room h.room ≡ audited g.limits
  rooms_are =
      ap (λ (n : ℕ). rooms n p.room h.room) named.objects.room_is ∙ (ap (λ (n : ℕ). rooms audit n h.room) named.persons_mail.room_is ∙ ap (λ (n : ℕ). rooms audit audit n) named.hub.room_is)

  truth : (room : ℕ) (s t : List (Account Letter)) (trail : List (TrailLine Letter)) → room ≡ audit → s ≡ t → All (Agrees trail) s → All (IsTurnedByFull room trail) s → All (IsTrueOf audit trail) t
  truth room s t trail is same agree full = subst (λ ws. All (IsTrueOf audit trail) ws) same (λ k d low. (agree k d low, λ room_left. omega (arith, is, full k d low room_left)))

  true_objects : All (IsTrueOf audit trails.objects) (seats_at (λ a. a.objects) w)
  true_objects = truth o.room so _ trails.objects named.objects.room_is eo at_objects.agree at_objects.full

  true_persons : All (IsTrueOf audit trails.persons) (seats_at (λ a. a.persons) w)
  true_persons = truth p.room sp _ trails.persons named.persons_mail.room_is ep at_persons.agree at_persons.full

  true_hub : All (IsTrueOf audit trails.hub) (seats_at (λ a. a.hub) w)
  true_hub = truth h.room sh _ trails.hub named.hub.room_is eh at_hub.agree at_hub.full

  buyers_true : AreTrue audit trails (λ x. accounts_of x.seats) w.persons.items
  buyers_true = record {
    objects = all_first (IsTrueOf audit trails.objects) (λ x. x.seats.objects) (λ x. x.seats.objects) w.persons.items w.objects.items _ _ refl true_objects;
    persons = all_first (IsTrueOf audit trails.persons) (λ x. x.seats.persons) (λ x. x.seats.persons) w.persons.items w.objects.items _ _ refl true_persons;
    hub = all_first (IsTrueOf audit trails.hub) (λ x. x.seats.hub) (λ x. x.seats.hub) w.persons.items w.objects.items _ _ refl true_hub;
  }

  sellers_true : AreTrue audit trails (λ x. accounts_of x.seats) w.objects.items
  sellers_true = record {
    objects = all_second (IsTrueOf audit trails.objects) (λ x. x.seats.objects) (λ x. x.seats.objects) w.persons.items w.objects.items _ _ refl true_objects;
    persons = all_second (IsTrueOf audit trails.persons) (λ x. x.seats.persons) (λ x. x.seats.persons) w.persons.items w.objects.items _ _ refl true_persons;
    hub = all_second (IsTrueOf audit trails.hub) (λ x. x.seats.hub) (λ x. x.seats.hub) w.persons.items w.objects.items _ _ refl true_hub;
  }

  hub_is : IsHub g trails w.hub.is_all w.hub.why
  hub_is =
      let seat : Account Letter = new_account (2 * g.limits.shards) in
      let seats = w.hub.seats in
      record {
        left = accounts_of seats;
        counts = subst (λ (n : ℕ). Counts n (length g.table.rows) seat w.hub.is_all w.hub.why seats.hub) named.hub.room_is are.counts;
        objects_closed = subst (λ (n : ℕ). Closes n g.limits.shards seat seats.objects) named.objects.room_is are.hub_objects;
        persons_closed = subst (λ (n : ℕ). Closes n g.limits.shards seat seats.persons) named.persons_mail.room_is are.hub_persons;
        noted = record {
          at_objects = is_noted _ _ trails.objects seats.objects are.hub_objects.makes.worker (all_last (IsTrueOf audit trails.objects) (λ x. x.seats.objects) (λ x. x.seats.objects) w.persons.items w.objects.items _ _ refl true_objects);
          at_persons = is_noted _ _ trails.persons seats.persons are.hub_persons.makes.worker (all_last (IsTrueOf audit trails.persons) (λ x. x.seats.persons) (λ x. x.seats.persons) w.persons.items w.objects.items _ _ refl true_persons);
          at_hub = is_noted _ _ trails.hub seats.hub (are.counts.closes.makes.worker ∙ are.counts.takes.worker) (all_last (IsTrueOf audit trails.hub) (λ x. x.seats.hub) (λ x. x.seats.hub) w.persons.items w.objects.items _ _ refl true_hub);
        };
      }

  worked : AreWorked g trails e.bids.items e.end
  worked = record {
    person_reasons = map (λ x. x.why) w.persons.items;
    object_reasons = map (λ x. x.why) w.objects.items;
    hub_reason = w.hub.why;
    is_all = w.hub.is_all;
    buyers = buyer_told g (rooms o.room p.room h.room) rooms_are trails w.persons.items are.persons at_objects.kept buyers_true persons_many e.bids.items counted;
    sellers = seller_told g (rooms o.room p.room h.room) rooms_are trails w.objects.items are.objects sellers_true objects_many;
    hub = hub_is;
    person_many = length-map w.persons.items (λ x. x.why) ∙ persons_many;
    object_many = length-map w.objects.items (λ x. x.why) ∙ objects_many;
    end_is = end_is;
  }

  pub told_phase : IsToldBy g.table g.limits g.eps g.prices e trails
  told_phase =
      let r = rooms o.room p.room h.room in
      let persons = length g.table.rows in
      let agree_h : Agrees trails.hub w.hub.seats.hub = all_last (Agrees trails.hub) (λ x. x.seats.hub) (λ x. x.seats.hub) w.persons.items w.objects.items _ sh eh at_hub.agree in
      let hub_told = all_told h.room persons (2 * g.limits.shards) w.hub.is_all w.hub.why w.hub.seats.hub trails.hub at_hub.kept are.counts agree_h in
      let kept : 0 < audit = subst (λ (x : ℕ). 0 < x) named.objects.room_is at_objects.kept in
      let own = subst (λ (n : ℕ). All (λ l. (l.worker < n) × IsOwn l.worker l.call) trails.objects) named.objects.workers_are at_objects.own in
      record {
        kept = kept;
        objects_trail = trail_of o g.limits.shards (objects_nodes g.limits persons) g.limits so trails.objects named.objects at_objects;
        persons_trail = trail_of p g.limits.shards (persons_nodes g.limits persons) g.limits sp trails.persons named.persons_mail at_persons;
        hub_trail = trail_of h 1 (hub_nodes g.limits persons) g.limits sh trails.hub named.hub at_hub;
        bids_of_persons = persons_post g trails e.bids.items e.end kept worked own;
        sold = λ j low.
            sold_told g r w.objects.items are.objects trails.objects j (price_in e.gathered.prices.items j) (get_or e.gathered.holders.items j None) at_objects.kept
            (all_second (Agrees trails.objects) (λ x. x.seats.objects) (λ x. x.seats.objects) w.persons.items w.objects.items _ so eo at_objects.agree) objects_many some (omega (arith, low, each)) (λ d. gathers j d low);
        all = ((λ x. hub_told.0 (ends.0 x)), (λ x. ends.1 (hub_told.1 x)));
        fell = λ x.
            fell_told g r w.persons.items are.persons trails.persons at_persons.kept
            (all_first (Agrees trails.persons) (λ x. x.seats.persons) (λ x. x.seats.persons) w.persons.items w.objects.items _ sp ep at_persons.agree) persons_many (falls x);
        worked = worked;
      }

pub told_map : {T : Type 0} (o : Option T) (P Q R S : T → Type 0) → IfSome o P → IfSome o Q → IfSome o R → ((t : T) → P t → Q t → R t → S t) → IfSome o S
told_map (Some t) P Q R S p q r f = f t p q r
told_map None P Q R S p q r f = tt

-- ---- the end as it is reported

pub told_some : (told end : Option End) (x : End) → IfSome told (λ e. end ≡ Some e) → told ≡ Some x → end ≡ Some x
told_some (Some e) end x h is = h ∙ is
told_some None end x h is = absurd cc

pub told_all : (told end : Option End) (all : Type 0) → IfSome told (λ e. end ≡ Some e) → (end ≢ Some (End.Stopped Why.Trail) → told ≡ end) → (end ≡ Some End.All) ↔ all → (told ≡ Some End.All) ↔ all
told_all told end all h others is = (
  (λ e. is.0 (told_some told end End.All h e)),
  (λ a. let e = is.1 a in others (λ f. (let g = sym e ∙ f in cc)) ∙ e),
)

pub told_counted : (limits : Limits) (bids : List ℕ) (told end : Option End) → IfSome told (λ e. end ≡ Some e) → AreCounted limits bids end → AreCounted limits bids told
told_counted limits bids told end h c = record { many = c.many; few = c.few; spent = λ e. c.spent (told_some told end (End.Stopped Why.Bids) h e) }
