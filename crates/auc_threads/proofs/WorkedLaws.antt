-- The first reason of all workers, and what the trails prove of each worker.
use Rattle.std.proofs.Common.{◌≡◌, ◌≢◌, ◌⊎◌, ℕ, zero, suc, ◌+◌, ◌<◌, ◌≤◌, Bool, true, false, List, [], ◌∷◌, ◌++◌, map, take, length, get_or, Some, None, refl, ap, sym, ◌∙◌, subst, inl, inr, arith, All}
use Rattle.std.specs.Prelude.{Option}
use Rattle.std.proofs.lemmas.List.{get_or-map}
use Rattle.std.proofs.lemmas.List.Elements.{All-head, All-tail}
use Rattle.auc_letters.specs.declared.letter.Letter.{Letter}
use Rattle.auc_letters.specs.declared.letter.Why.{Why}
use Rattle.auc_book.specs.Seat.{Account}
use Rattle.auc_book.specs.declared.line.TrailLine.{TrailLine}
use Rattle.auc_book.specs.Settling.{IsTrueOf}
use Rattle.auc_model.specs.declared.turn.End.{End}
use Rattle.auc_threads.specs.declared.object_worker.ObjectWork.{ObjectWork}
use Rattle.auc_threads.specs.declared.person_worker.PersonWork.{PersonWork}
use Rattle.auc_threads.specs.declared.settling.Trails.{Trails}
use Rattle.auc_threads.specs.Starts.{HaveBought, HaveSold, IsObjectResult, IsObjectWork, IsPersonResult, IsPersonWork}
use Rattle.auc_threads.specs.Worked.{AreNoted, IsBuyer, IsSeller, IsNoted, IsWhyOfOne, audited, end_by, first_some}
use Rattle.auc_threads.specs.Worker.{Accounts, AreSeatsOf, Rooms, Setting, accounts_of, bought_of, new_buyer, new_seller, round, sold_of}
use Rattle.auc_threads.proofs.BuyingLaws.{bids_few, bids_noted, bids_spent}
use Rattle.auc_threads.proofs.PlacedLaws.{placed_some}
use Rattle.auc_threads.proofs.StepLaws.{why_stop}

-- ---- the first reason

head_none : (o : Option Why) (whys : List (Option Why)) → first_some (o ∷ whys) ≡ None → (o ≡ None) × (first_some whys ≡ None)
head_none None whys h = (refl, h)
head_none (Some y) whys h = absurd cc

pub first_found : {X : Type 0} (f : X → Option Why) (xs : List X) (i : ℕ) (x : X) (why : Why) → i < length xs → first_some (map f (take i xs)) ≡ None → x ≡ get_or xs i x → f x ≡ Some why → first_some (map f xs) ≡ Some why
first_found f [] i x why l none is e = absurd (omega (arith, l))
first_found f (y ∷ xs) zero x why l none is e = ap (λ o. first_some (o ∷ map f xs)) (ap f (sym is) ∙ e)
first_found f (y ∷ xs) (suc i) x why l none is e =
    let both = head_none (f y) (map f (take i xs)) none in
    ap (λ o. first_some (o ∷ map f xs)) both.0 ∙ first_found f xs i x why (omega (arith, l)) both.1 is e

pub first_more : {X : Type 0} (f : X → Option Why) (xs : List X) (i : ℕ) (x : X) → i < length xs → first_some (map f (take i xs)) ≡ None → x ≡ get_or xs i x → f x ≡ None → first_some (map f (take (i + 1) xs)) ≡ None
first_more f [] i x l none is e = absurd (omega (arith, l))
first_more f (y ∷ xs) zero x l none is e = ap (λ o. first_some (o ∷ [])) (ap f (sym is) ∙ e)
first_more f (y ∷ xs) (suc i) x l none is e =
    let both = head_none (f y) (map f (take i xs)) none in
    let e' : suc i + 1 ≡ suc (i + 1) = omega arith in
    ap (λ (n : ℕ). first_some (map f (take n (y ∷ xs)))) e' ∙ (ap (λ o. first_some (o ∷ map f (take (i + 1) xs))) both.0 ∙ first_more f xs i x (omega (arith, l)) both.1 is e)

pub first_here : (xs ys : List (Option Why)) (why : Why) → first_some xs ≡ Some why → first_some (xs ++ ys) ≡ Some why
first_here [] ys why e = absurd cc
first_here (None ∷ xs) ys why e = first_here xs ys why e
first_here (Some w ∷ xs) ys why e = e

pub first_later : (xs ys : List (Option Why)) → first_some xs ≡ None → first_some (xs ++ ys) ≡ first_some ys
first_later [] ys e = refl
first_later (None ∷ xs) ys e = first_later xs ys e
first_later (Some w ∷ xs) ys e = absurd cc

pub first_one : (why : Option Why) → first_some (why ∷ []) ≡ why
first_one None = refl
first_one (Some w) = refl

-- a reason that no worker after the persons has
never : (o : Option Why) (whys : List (Option Why)) (why : Why) → o ≢ Some why → first_some whys ≢ Some why → first_some (o ∷ whys) ≢ Some why
never None whys why here later e = later e
never (Some w) whys why here later e = here e

pub first_never : {X : Type 0} (f : X → Option Why) (xs : List X) (why : Why) → All (λ x. f x ≢ Some why) xs → first_some (map f xs) ≢ Some why
first_never f [] why all e = cc
first_never f (x ∷ xs) why all e = never (f x) (map f xs) why (All-head (λ z. f z ≢ Some why) x xs all) (first_never f xs why (All-tail (λ z. f z ≢ Some why) x xs all)) e

first_back : (ys : List (Option Why)) (last : Option Why) (why : Why) → first_some ys ≢ Some why → last ≢ Some why → first_some (ys ++ last ∷ []) ≢ Some why
first_back [] last why others here e = never last [] why here others e
first_back (None ∷ ys) last why others here e = first_back ys last why others here e
first_back (Some w ∷ ys) last why others here e = others e

here_or_later : (o : Option Why) (whys : List (Option Why)) (why : Why) → first_some (o ∷ whys) ≡ Some why → (o ≡ Some why) ⊎ (first_some whys ≡ Some why)
here_or_later None whys why e = inr e
here_or_later (Some w) whys why e = inl e

-- is one of theirs
pub first_whose : {X : Type 0} (f : X → Option Why) (xs : List X) (ys : List (Option Why)) (last : Option Why) (why : Why) → first_some ((map f xs ++ ys) ++ last ∷ []) ≡ Some why → first_some ys ≢ Some why → last ≢ Some why
    → IsWhyOfOne f xs why
first_whose f [] ys last why e others here = absurd (first_back ys last why others here e)
first_whose f (x ∷ xs) ys last why e others here =
    elim (here_or_later (f x) ((map f xs ++ ys) ++ last ∷ []) why e) [
      | inl is ↦ record { place = 0; known = omega arith; its = λ d. is }
      | inr later ↦ (
          let at = first_whose f xs ys last why later others here in
          let low = at.known in
          record { place = suc at.place; known = omega (arith, low); its = at.its })
    ]

pub stopped_for : (is_all : Bool) (first : Option Why) (end : Option End) (why : Why) → end ≡ end_by is_all first → end ≡ Some (End.Stopped why) → first ≡ Some why
stopped_for true first end why is e = absurd (let f = sym is ∙ e in cc)
stopped_for false None end why is e = absurd (let f = sym is ∙ e in cc)
stopped_for false (Some w) end why is e = let f = sym is ∙ e in cc

-- ---- what the trails prove

pub value_at : {X Y : Type 0} (y : X → Y) (none : Y) (xs : List X) (k : ℕ) (x : X) → k < length xs → ((d : X) → get_or xs k d ≡ x) → y x ≡ get_or (map y xs) k none
value_at y none xs k x known at = sym (get_or-map y xs k x none known ∙ ap y (at x))

-- the seat of a worker, as the trail has it
pub is_noted : (room w : ℕ) (trail : List (TrailLine Letter)) (a : Account Letter) → a.worker ≡ w → IsTrueOf room trail a → IsNoted room w trail a
is_noted room w trail a worker truth = record { worker = worker; lines = truth.0; full = truth.1 }

-- the account of a seat of each of them
seat_at : {X : Type 0} (a : X → Account Letter) (room : ℕ) (trail : List (TrailLine Letter)) (xs : List X) (k : ℕ) (x : X) (w : ℕ) → All (λ y. IsTrueOf room trail (a y)) xs → k < length xs → ((d : X) → get_or xs k d ≡ x)
    → (a x).worker ≡ w → IsNoted room w trail (a x)
seat_at a room trail xs k x w all known at worker = is_noted room w trail (a x) worker (subst (λ y. IsTrueOf room trail (a y)) (at x) (all k x known))

-- the lines of the seats of all of them are noted
pub record AreTrue {X : Type 0} (room : ℕ) (trails : Trails) (a : X → Accounts) (xs : List X) : Type 0 where
  pub objects : All (λ x. IsTrueOf room trails.objects (a x).objects) xs
  pub persons : All (λ x. IsTrueOf room trails.persons (a x).persons) xs
  pub hub : All (λ x. IsTrueOf room trails.hub (a x).hub) xs

noted_at : {X : Type 0} (a : X → Accounts) (room : ℕ) (trails : Trails) (xs : List X) (k : ℕ) (x : X) (w : ℕ) → AreTrue room trails a xs → k < length xs → ((d : X) → get_or xs k d ≡ x) → AreSeatsOf w (a x) → AreNoted room w trails (a x)
noted_at a room trails xs k x w are known at seats = record {
  at_objects = seat_at (λ y. (a y).objects) room trails.objects xs k x w are.objects known at seats.objects_seat;
  at_persons = seat_at (λ y. (a y).persons) room trails.persons xs k x w are.persons known at seats.persons_seat;
  at_hub = seat_at (λ y. (a y).hub) room trails.hub xs k x w are.hub known at seats.hub_seat;
}

module _ {O P H : Type 0} (g : Setting) (r : Rooms) (e : r ≡ audited g.limits) (trails : Trails) where
  module _ (xs : List (ObjectWork O P H)) (results : HaveSold g r xs) (true : AreTrue g.limits.audit trails (λ x. accounts_of x.seats) xs) (many : length xs ≡ g.limits.shards) where
    pub seller_told : (k : ℕ) → k < g.limits.shards → IsSeller g trails k (get_or (map (λ x. x.why) xs) k None)
    seller_told k low =
        let known : k < length xs = omega (arith, low, many) in
        let at = placed_some (λ k x. IsObjectResult g r k (sold_of x) x.why) 0 xs k results known in
        let x = at.element in
        let w = sold_of x in
        let got : IsObjectResult g r k w x.why = subst (λ (m : ℕ). IsObjectResult g r m w x.why) (omega arith) at.holds in
        record {
          left = w;
          work =
              subst (λ (o : Option Why). IsObjectWork g.eps (audited g.limits) (new_seller g k) w o) (value_at (λ y. y.why) None xs k x known at.there)
              (subst (λ (q : Rooms). IsObjectWork g.eps q (new_seller g k) w x.why) e got.work);
          noted = noted_at (λ y. accounts_of y.seats) g.limits.audit trails xs k x (g.limits.shards + k) true known at.there got.seats;
        }

  module _ (xs : List (PersonWork O P H)) (results : HaveBought g r xs) (some : 0 < r.objects) (true : AreTrue g.limits.audit trails (λ x. accounts_of x.seats) xs) (many : length xs ≡ g.limits.shards)
      (bids : List ℕ) (counted : bids ≡ map (λ x. x.seats.objects.count) xs) where
    pub buyer_told : (k : ℕ) → k < g.limits.shards → IsBuyer g trails (get_or bids k 0) k (get_or (map (λ x. x.why) xs) k None)
    buyer_told k low =
        let known : k < length xs = omega (arith, low, many) in
        let at = placed_some (λ k x. IsPersonResult g r k (bought_of x) x.why) 0 xs k results known in
        let x = at.element in
        let w = bought_of x in
        let got : IsPersonResult g r k w x.why = subst (λ (m : ℕ). IsPersonResult g r m w x.why) (omega arith) at.holds in
        let begun = new_buyer g k in
        let is = value_at (λ y. y.why) None xs k x known at.there in
        let few : w.seats.objects.count ≤ g.limits.bids = bids_few g.table g.eps r k begun w got.work.step got.work.buys refl in
        let adds : length w.seats.objects.lines ≡ w.seats.objects.count = bids_noted g.table g.eps r k begun w got.work.step got.work.buys some refl refl in
        record {
          left = w;
          work = subst (λ (o : Option Why). IsPersonWork (round g.table g.eps) (audited g.limits) begun w o) is (subst (λ (q : Rooms). IsPersonWork (round g.table g.eps) q begun w x.why) e got.work);
          noted = noted_at (λ y. accounts_of y.seats) g.limits.audit trails xs k x k true known at.there got.seats;
          counted = adds ∙ (value_at (λ y. y.seats.objects.count) 0 xs k x known at.there ∙ ap (λ ns. get_or ns k 0) (sym counted));
          few = omega (arith, adds, few);
          spent = λ stopped. adds ∙ bids_spent g.table g.eps r k begun w got.work.step got.work.buys refl (why_stop got.work.step x.why Why.Bids got.work.why_is (is ∙ stopped));
        }
