-- The world that parts make, where a shard or an outbox is another.
use Rattle.std.proofs.Common.{ℕ, ◌+◌, ◌-◌, ◌*◌, ◌%◌, ◌<◌, ◌≤◌, ◌≡◌, List, [], true, false, drop, length, get_or, set, refl, ap, sym, inl, inr, ◌∙◌, subst, arith}
use Rattle.std.specs.Prelude.{ℤ, pos, None, nat_lt, if◌then◌else◌}
use Rattle.std.proofs.lemmas.Bool.{cases_eq, cases_lt, lt-ltb}
use Rattle.std.proofs.lemmas.Bool.Decides.{nat_tests}
use Rattle.std.proofs.lemmas.List.{get_or-set_same, get_or-set_other}
use Rattle.auc_letters.specs.declared.out.Out.{Out}
use Rattle.auc_letters.specs.Award.{Sale}
use Rattle.auc_letters.specs.declared.state.PersonState.{PersonState}
use Rattle.auc_objects.specs.Objects.{price_of, holder_of, with_sale}
use Rattle.auc_persons.specs.Persons.{Persons, Owns, after_bid, copy_of, free_after, held_after, state_of}
use Rattle.auc_model.specs.Mails.{ObjectShard, PersonShard, Shard, number, outbox, sender, with_outbox}
use Rattle.auc_model.specs.Put.{put, put2}
use Rattle.auc_model.proofs.Places.{put_at, put_off}
use Rattle.auc_model.specs.Hearing as hearing
use Rattle.auc_model.proofs.Dealt.{shards_set, shards_same, both_set, both_same, numbers_set, numbers_same}
use Rattle.auc_phases.specs.Shards.{IsPersonShard, no_objects, no_persons}
use Rattle.auc_machine.specs.Mails.{Letters, Mails}
use Rattle.auc_machine.specs.Parts.{Parts, objects_at, outbox_at, persons_at, phase, world_of}

-- the letters of a world
abbrev pub letters_of : Parts → Letters
letters_of p = record { outboxes = p.outboxes; mails = p.mails }

-- other letters in their place
abbrev pub with_letters : Parts → Letters → Parts
with_letters p l = record p { outboxes = l.outboxes; mails = l.mails }

-- the mails alone are others
pub with_mails : (p : Parts) (l : Letters) (s : Mails) → l ≡ record (letters_of p) { mails = s } → with_letters p l ≡ record p { mails = s }
with_mails p l s e = ap (λ (k : Letters). with_letters p k) e

-- a test of the order
inside : {X : Type 0} (k n : ℕ) (x y : X) → k < n → (if nat_lt k n then x else y) ≡ x
inside k n x y l = (let yes : nat_lt k n ≡ true = lt-ltb k n l in rw yes refl)

outside : {X : Type 0} (k n : ℕ) (x y : X) → n ≤ k → (if nat_lt k n then x else y) ≡ y
outside k n x y l = (let no : nat_lt k n ≡ false = grind (arith, nat_tests) in rw no refl)

-- the outbox of a shard of either kind
pub outbox_seen : (p : Parts) (h : Shard) → number h < p.shards → outbox (world_of p) h ≡ outbox_at p (sender (phase p) h)
outbox_seen p (PersonShard s) known = inside s p.shards (outbox_at p s) [] known
outbox_seen p (ObjectShard q) known = refl

module _ (p : Parts) (os : List Out) where
  -- of a shard of the persons
  module _ (s : ℕ) (known : s < p.shards) (there : s < length p.outboxes) where
    person_own : (k : ℕ) → (if nat_lt k p.shards then get_or (set p.outboxes s os) k [] else []) ≡ put (world_of p).person_out s os k
    person_own k =
        elim (cases_eq k s) [
          | inl e ↦ inside k p.shards (get_or (set p.outboxes s os) k []) [] (omega (arith, e, known)) ∙ (ap (λ (n : ℕ). get_or (set p.outboxes s os) n []) e ∙ (get_or-set_same p.outboxes s os [] there ∙ sym (put_at (world_of p).person_out s os k e)))
          | inr n ↦ ap (λ (xs : List Out). if nat_lt k p.shards then xs else []) (get_or-set_other p.outboxes s k os [] n) ∙ sym (put_off (world_of p).person_out s os k n)
        ]

    person_other : (q : ℕ) → get_or (set p.outboxes s os) (p.shards + q) [] ≡ get_or p.outboxes (p.shards + q) []
    person_other q = get_or-set_other p.outboxes s (p.shards + q) os [] (λ e. omega (arith, e, known))

  -- of a shard of the objects
  module _ (q : ℕ) (there : p.shards + q < length p.outboxes) where
    object_own : (k : ℕ) → get_or (set p.outboxes (p.shards + q) os) (p.shards + k) [] ≡ put (world_of p).object_out q os k
    object_own k =
        elim (cases_eq k q) [
          | inl e ↦ ap (λ (n : ℕ). get_or (set p.outboxes (p.shards + q) os) (p.shards + n) []) e ∙ (get_or-set_same p.outboxes (p.shards + q) os [] there ∙ sym (put_at (world_of p).object_out q os k e))
          | inr n ↦ get_or-set_other p.outboxes (p.shards + q) (p.shards + k) os [] (λ e. n (omega (arith, e))) ∙ sym (put_off (world_of p).object_out q os k n)
        ]

    object_other : (k : ℕ) → (if nat_lt k p.shards then get_or (set p.outboxes (p.shards + q) os) k [] else []) ≡ (if nat_lt k p.shards then get_or p.outboxes k [] else [])
    object_other k =
        elim (cases_lt k p.shards) [
          | inl l ↦ ap (λ (xs : List Out). if nat_lt k p.shards then xs else []) (get_or-set_other p.outboxes (p.shards + q) k os [] (λ e. omega (arith, e, l)))
          | inr n ↦ outside k p.shards (get_or (set p.outboxes (p.shards + q) os) k []) [] n ∙ sym (outside k p.shards (get_or p.outboxes k []) [] n)
        ]

  -- the outbox of a shard is set
  pub seen_outbox : (h : Shard) → number h < p.shards → length p.outboxes ≡ 2 * p.shards → world_of (record p { outboxes = set p.outboxes (sender (phase p) h) os }) ≡ with_outbox (world_of p) h os
  seen_outbox (PersonShard s) known len =
      let there : s < length p.outboxes = omega (arith, known, len) in
      λ c. record (world_of p) { person_out = λ k. person_own s known there k c; object_out = λ q. person_other s known there q c }
  seen_outbox (ObjectShard q) known len =
      let there : p.shards + q < length p.outboxes = omega (arith, known, len) in
      λ c. record (world_of p) { person_out = λ k. object_other q there k c; object_out = λ k. object_own q there k c }

-- a Stop is noted
pub seen_stop : (p : Parts) (s : ℕ) → s < length p.stopped → world_of (record p { stopped = set p.stopped s true }) ≡ record (world_of p) { has_stopped = put (world_of p).has_stopped s true }
seen_stop p s there = λ c. record (world_of p) { has_stopped = shards_set p.stopped false s true there (λ b. b) c }

-- a shard of the persons
module _ (p : Parts) (s : ℕ) (there : s < length p.persons) (is : IsPersonShard p.table p.shards s (persons_at p s)) where
  pub own_number : (i : ℕ) → Owns (persons_at p s) i → i % p.shards ≡ s
  own_number i own = subst (λ n. i % n ≡ s) is.of (own.own ∙ is.number)

  pub seen_bid : (i j : ℕ) → Owns (persons_at p s) i
      → world_of (record p { persons = set p.persons s (after_bid (persons_at p s) i j) })
      ≡ record (world_of p) { state = put (world_of p).state i (PersonState.Waits j); idle = put (world_of p).idle s (drop 1 (persons_at p s).idle); bids_left = put (world_of p).bids_left s ((persons_at p s).bids - 1) }
  seen_bid i j own = λ c. record (world_of p) {
    state = numbers_set p.persons no_persons s (after_bid (persons_at p s) i j) there p.shards state_of i (PersonState.Waits j) (own_number i own) (get_or-set_same (persons_at p s).states i (PersonState.Waits j) PersonState.Free own.known) (λ k ne. get_or-set_other (persons_at p s).states i k (PersonState.Waits j) PersonState.Free ne) c;
    copy = both_same p.persons no_persons s (after_bid (persons_at p s) i j) there copy_of (λ k. refl) c;
    idle = shards_set p.persons no_persons s (after_bid (persons_at p s) i j) there (λ x. x.idle) c;
    bids_left = shards_set p.persons no_persons s (after_bid (persons_at p s) i j) there (λ x. x.bids) c;
  }

  pub seen_held : (i j : ℕ) (q : ℤ) → Owns (persons_at p s) i → j < length (persons_at p s).copies
      → world_of (record p { persons = set p.persons s (held_after (persons_at p s) i j q) }) ≡ hearing.held_after (world_of p) s i j q
  seen_held i j q own known = λ c. record (world_of p) {
    state = numbers_set p.persons no_persons s (held_after (persons_at p s) i j q) there p.shards state_of i (PersonState.Holds j) (own_number i own) (get_or-set_same (persons_at p s).states i (PersonState.Holds j) PersonState.Free own.known) (λ k ne. get_or-set_other (persons_at p s).states i k (PersonState.Holds j) PersonState.Free ne) c;
    copy = both_set p.persons no_persons s (held_after (persons_at p s) i j q) there copy_of j q (get_or-set_same (persons_at p s).copies j q (pos 0) known) (λ k ne. get_or-set_other (persons_at p s).copies j k q (pos 0) ne) c;
    idle = shards_same p.persons no_persons s (held_after (persons_at p s) i j q) there (λ x. x.idle) refl c;
    bids_left = shards_same p.persons no_persons s (held_after (persons_at p s) i j q) there (λ x. x.bids) refl c;
  }

  pub seen_freed : (i j : ℕ) (q : ℤ) → Owns (persons_at p s) i → j < length (persons_at p s).copies
      → world_of (record p { persons = set p.persons s (free_after (persons_at p s) i j q) }) ≡ hearing.free_after (world_of p) s i j q
  seen_freed i j q own known = λ c. record (world_of p) {
    state = numbers_set p.persons no_persons s (free_after (persons_at p s) i j q) there p.shards state_of i PersonState.Free (own_number i own) (get_or-set_same (persons_at p s).states i PersonState.Free PersonState.Free own.known) (λ k ne. get_or-set_other (persons_at p s).states i k PersonState.Free PersonState.Free ne) c;
    copy = both_set p.persons no_persons s (free_after (persons_at p s) i j q) there copy_of j q (get_or-set_same (persons_at p s).copies j q (pos 0) known) (λ k ne. get_or-set_other (persons_at p s).copies j k q (pos 0) ne) c;
    idle = shards_set p.persons no_persons s (free_after (persons_at p s) i j q) there (λ x. x.idle) c;
    bids_left = shards_same p.persons no_persons s (free_after (persons_at p s) i j q) there (λ x. x.bids) refl c;
  }

  pub seen_price : (j : ℕ) (q : ℤ) → j < length (persons_at p s).copies
      → world_of (record p { persons = set p.persons s (record (persons_at p s) { copies = set (persons_at p s).copies j q }) }) ≡ record (world_of p) { copy = put2 (world_of p).copy s j q }
  seen_price j q known =
      let new : Persons = record (persons_at p s) { copies = set (persons_at p s).copies j q } in
      λ c. record (world_of p) {
        state = numbers_same p.persons no_persons s new there p.shards state_of (λ k. refl) c;
        copy = both_set p.persons no_persons s new there copy_of j q (get_or-set_same (persons_at p s).copies j q (pos 0) known) (λ k ne. get_or-set_other (persons_at p s).copies j k q (pos 0) ne) c;
        idle = shards_same p.persons no_persons s new there (λ x. x.idle) refl c;
        bids_left = shards_same p.persons no_persons s new there (λ x. x.bids) refl c;
      }

-- a shard of the objects: what is known of one of its objects is set
pub seen_sold : (p : Parts) (q j : ℕ) (sale : Sale) → q < length p.objects → j % p.shards ≡ q → j < length (objects_at p q).prices → j < length (objects_at p q).holders
    → world_of (record p { objects = set p.objects q (with_sale (objects_at p q) j sale) }) ≡ record (world_of p) { price = put (world_of p).price j sale.price; holder = put (world_of p).holder j sale.holder }
seen_sold p q j sale there own known holders = λ c. record (world_of p) {
  price = numbers_set p.objects no_objects q (with_sale (objects_at p q) j sale) there p.shards price_of j sale.price own (get_or-set_same (objects_at p q).prices j sale.price (pos 0) known) (λ k ne. get_or-set_other (objects_at p q).prices j k sale.price (pos 0) ne) c;
  holder = numbers_set p.objects no_objects q (with_sale (objects_at p q) j sale) there p.shards holder_of j sale.holder own (get_or-set_same (objects_at p q).holders j sale.holder None holders) (λ k ne. get_or-set_other (objects_at p q).holders j k sale.holder None ne) c;
}
