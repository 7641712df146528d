-- A shard stays one of its phase after a bid, a letter or an answer, and its letters go to boxes that exist.
use Rattle.std.proofs.Common.{ℕ, ◌%◌, ◌<◌, ◌≡◌, Bool, true, false, cond, List, [], ◌∷◌, ap, sym, subst, ◌∙◌, arith}
use Rattle.std.specs.Prelude.{ℤ, Option, Some, None, All, Result, Ok, Err}
use Rattle.auc_graph.specs.Table.{Table}
use Rattle.auc_letters.specs.declared.letter.Letter.{Letter}
use Rattle.auc_letters.specs.declared.out.Out.{Out}
use Rattle.auc_letters.specs.declared.state.Held.{Held}
use Rattle.auc_letters.specs.declared.letter.Bid.{Bid}
use Rattle.auc_letters.specs.Award.{Sale, answers, awards, is_accepted, refusal}
use Rattle.auc_letters.specs.Routing.{to_person, to_hub}
use Rattle.auc_objects.specs.Objects.{Objects, SameShape as SameObjects}
use Rattle.std.proofs.lemmas.List.Elements.{All-weaker, All-drop, All-push}
use Rattle.auc_letters.specs.declared.state.PersonState.{PersonState}
use Rattle.auc_persons.specs.declared.bidding.Bidding.{Bidding}
use Rattle.auc_persons.specs.declared.bidding.PersonFault.{PersonFault}
use Rattle.auc_persons.specs.Persons.{Persons, SameShape as SamePersons, Owns as OwnsPerson, NextBid, OnLetter, Answered, free_after}
use Rattle.auc_phases.specs.Boxes.{Reaches}
use Rattle.auc_phases.specs.Shards.{IsObjectShard, IsPersonShard}

-- what a shard's own persons are stays
own_same : (x y : Persons) → SamePersons x y → (i : ℕ) → OwnsPerson x i → OwnsPerson y i
own_same x y same i own = record { known = subst (λ n. i < n) (sym same.persons) own.known; own = ap (λ n. i % n) same.of ∙ (own.own ∙ sym same.shard) }

own_shape : (x y : Persons) → SamePersons x y → (xs : List ℕ) → All (OwnsPerson x) xs → All (OwnsPerson y) xs
own_shape x y same xs own = All-weaker (OwnsPerson x) (OwnsPerson y) (own_same x y same) xs own

own_idle : (y : Persons) (xs : List ℕ) → y.idle ≡ xs → All (OwnsPerson y) xs → All (OwnsPerson y) y.idle
own_idle y xs e own = subst (λ zs. All (OwnsPerson y) zs) (sym e) own

-- the free persons of a shard stay its own, after a bid or a letter
unchanged_own : (x y : Persons) → y ≡ x → All (OwnsPerson x) x.idle → All (OwnsPerson y) y.idle
unchanged_own x y e own = subst (λ (z : Persons). All (OwnsPerson z) z.idle) (sym e) own

pub next_bid_own : (t : Table) (eps : ℤ) (x y : Persons) (r : Bidding) → NextBid t eps x r y → SamePersons x y → All (OwnsPerson x) x.idle → All (OwnsPerson y) y.idle
next_bid_own t eps x y Bidding.Idle h same own = unchanged_own x y h.1 own
next_bid_own t eps x y (Bidding.Stop why) h same own = unchanged_own x y h.2 own
next_bid_own t eps x y (Bidding.Out o) h same own = own_idle y _ (ap (λ (z : Persons). z.idle) h.2.5) (All-drop (OwnsPerson y) 1 x.idle (own_shape x y same x.idle own))

freed_own : (x y : Persons) (i j : ℕ) (p : ℤ) (wanted : PersonState) (r : Result (Unit {0}) PersonFault) → Answered x i j p wanted (free_after x i j p) r y → SamePersons x y → All (OwnsPerson x) x.idle → All (OwnsPerson y) y.idle
freed_own x y i j p wanted (Ok u) h same own =
    own_idle y _ (ap (λ (z : Persons). z.idle) h.2) (All-push (OwnsPerson y) x.idle i (own_shape x y same x.idle own) (own_same x y same i (record { known = h.0.0; own = h.0.1 })))
freed_own x y i j p wanted (Err PersonFault.Stray) h same own = unchanged_own x y h.1 own
freed_own x y i j p wanted (Err PersonFault.Fell) h same own = unchanged_own x y h.2 own

pub hears_own : (x y : Persons) (l : Letter) (r : Result (Unit {0}) PersonFault) → OnLetter x l r y → SamePersons x y → All (OwnsPerson x) x.idle → All (OwnsPerson y) y.idle
hears_own x y (Letter.Award i j p) (Ok u) h same own = own_idle y _ (ap (λ (z : Persons). z.idle) h.2) (own_shape x y same x.idle own)
hears_own x y (Letter.Award i j p) (Err PersonFault.Stray) h same own = unchanged_own x y h.1 own
hears_own x y (Letter.Award i j p) (Err PersonFault.Fell) h same own = unchanged_own x y h.2 own
hears_own x y (Letter.Refused i j p) r h same own = freed_own x y i j p (PersonState.Waits j) r h same own
hears_own x y (Letter.Outbid i j p) r h same own = freed_own x y i j p (PersonState.Holds j) r h same own
hears_own x y (Letter.Price j p) (Ok u) h same own = own_idle y _ (ap (λ (z : Persons). z.idle) h.2) (own_shape x y same x.idle own)
hears_own x y (Letter.Price j p) (Err PersonFault.Stray) h same own = unchanged_own x y h.1 own
hears_own x y (Letter.Price j p) (Err PersonFault.Fell) h same own = unchanged_own x y h.2 own
hears_own x y (Letter.Bid i a j p) r h same own = unchanged_own x y h.1 own
hears_own x y (Letter.First j) r h same own = unchanged_own x y h.1 own
hears_own x y (Letter.Stop y') r h same own = unchanged_own x y h.1 own

pub persons_shape : (t : Table) (n s : ℕ) (x y : Persons) → SamePersons x y → All (OwnsPerson y) y.idle → IsPersonShard t n s x → IsPersonShard t n s y
persons_shape t n s x y same own is = record {
  number = same.shard ∙ is.number;
  of = same.of ∙ is.of;
  object_shards = same.object_shards ∙ is.object_shards;
  fits = record { persons = is.fits.persons ∙ sym same.persons; objects = is.fits.objects ∙ sym same.objects };
  idle_own = own;
}

pub objects_shape : (t : Table) (n q : ℕ) (x y : Objects) → SameObjects x y → IsObjectShard t n q x → IsObjectShard t n q y
objects_shape t n q x y same is = record {
  number = same.shard ∙ is.number;
  of = same.of ∙ is.of;
  person_shards = same.person_shards ∙ is.person_shards;
  persons = same.persons ∙ is.persons;
  objects = same.objects ∙ is.objects;
  holders = same.holders ∙ is.holders;
}

one_reach : (n : ℕ) (o : Out) → Reaches n o → All (Reaches n) (o ∷ [])
one_reach n o r = All-push (Reaches n) [] o (λ k d l. absurd (omega arith)) r

two_reach : (n : ℕ) (o u : Out) → Reaches n o → Reaches n u → All (Reaches n) (o ∷ u ∷ [])
two_reach n o u r t = All-push (Reaches n) (o ∷ []) u (one_reach n o r) t

awards_reach : (n : ℕ) (before : Option Held) (i j : ℕ) (p : ℤ) → 0 < n → All (Reaches n) (awards n before i j p)
awards_reach n None i j p some = two_reach n (to_person n i (Letter.Award i j p)) (to_hub (Letter.First j)) (omega arith) (omega arith)
awards_reach n (Some held) i j p some = two_reach n (to_person n held.person (Letter.Outbid held.person j p)) (to_person n i (Letter.Award i j p)) (omega arith) (omega arith)

refusal_reaches : (n i j : ℕ) (p : ℤ) → 0 < n → All (Reaches n) (refusal n i j p)
refusal_reaches n i j p some = one_reach n (to_person n i (Letter.Refused i j p)) (omega arith)

pub answers_reach : (n : ℕ) (eps : ℤ) (sale : Sale) (bid : Bid) → 0 < n → All (Reaches n) (answers n eps sale bid)
answers_reach n eps sale bid some = by (is_accepted eps sale bid)
  where
    by : (b : Bool) → All (Reaches n) (cond b (awards n sale.holder bid.person bid.object bid.amount) (refusal n bid.person bid.object sale.price))
    by true = awards_reach n sale.holder bid.person bid.object bid.amount some
    by false = refusal_reaches n bid.person bid.object sale.price some
