-- A new world is one that a phase begins with.
use Rattle.std.proofs.Common.{ℕ, ◌+◌, ◌*◌, ◌%◌, ◌<◌, ◌≤◌, ◌≡◌, Bool, true, false, List, [], length, get_or, refl, ap, sym, ◌∙◌, subst, inl, inr, arith}
use Rattle.std.specs.Prelude.{ℤ, pos, All, None, nat_lt, if◌then◌else◌}
use Rattle.std.proofs.lemmas.Bool.{cases_lt, ne_eqb}
use Rattle.std.proofs.lemmas.Int.{ints}
use Rattle.std.proofs.lemmas.List.{get_or_past, length-replicate}
use Rattle.std.proofs.lemmas.List.Elements.{All-get_or}
use Rattle.auc_graph.specs.Table.{IsTable, Table}
use Rattle.auc_letters.specs.declared.letter.Letter.{Letter}
use Rattle.auc_letters.specs.declared.out.Out.{Out}
use Rattle.auc_letters.specs.declared.state.PersonState.{PersonState}
use Rattle.auc_graph.specs.Price.{IsPrice}
use Rattle.auc_letters.specs.Price.{IsEps}
use Rattle.auc_mail.specs.Mail.{Mail, empty_mail}
use Rattle.auc_objects.specs.Objects.{Objects, holder_of, price_of}
use Rattle.auc_persons.specs.Persons.{Persons, copy_of, state_of}
use Rattle.auc_model.specs.Start.{Lawful, Starts, UsualNodes, free_in, occurs}
use Rattle.auc_model.specs.World.{phase_of}
use Rattle.auc_model.proofs.Tables.{occurs_persons, table_lawful}
use Rattle.auc_phases.specs.declared.limits.Limits.{Limits}
use Rattle.auc_phases.specs.Limits.{AreLimits, nodes_or}
use Rattle.auc_phases.specs.Begins.{ArePrices}
use Rattle.auc_phases.specs.Shards.{IsObjectShard, IsPersonShard, no_objects, no_persons}
use Rattle.auc_phases.specs.Boxes.{Reaches}
use Rattle.auc_answers.proofs.Replicated.{replicate_default}
use Rattle.auc_phases.proofs.NewShards.{new_persons_are}
use Rattle.auc_machine.specs.Making.{IsMade}
use Rattle.auc_machine.specs.Parts.{AreParts, IsMail, Parts, phase, world_of}

empty_at : (xs : List (List Out)) → All (λ x. x ≡ []) xs → (x : ℕ) → get_or xs x [] ≡ []
empty_at xs all x = elim (cases_lt x (length xs)) [ inl l ↦ all x [] l | inr n ↦ get_or_past xs x [] n ]

-- the outbox is empty in both cases
empty_or : (b : Bool) (os : List Out) → os ≡ [] → (if b then os else []) ≡ []
empty_or true os e = e
empty_or false os e = refl

reach_none : (n : ℕ) (xs : List Out) → xs ≡ [] → All (Reaches n) xs
reach_none n xs e = rw e (λ k d l. absurd (omega arith))

price_at : (prices : List ℤ) → All IsPrice prices → (j : ℕ) → IsPrice (get_or prices j (pos 0))
price_at prices all j =
    elim (cases_lt j (length prices)) [
      | inl l ↦ All-get_or IsPrice prices j (pos 0) l all
      | inr n ↦ rw (get_or_past prices j (pos 0) n) (record { low = omega (arith, ints); high = omega (arith, ints) })
    ]

new_mail_is : (n : ℕ) (m : Mail Letter) (boxes nodes most : ℕ) → m ≡ empty_mail boxes (2 * n + 1) nodes most → IsMail n m boxes
new_mail_is n m boxes nodes most e = record {
  boxes_are = ap (λ (x : Mail Letter). length x.accepting) e ∙ length-replicate boxes true;
  senders_are = ap (λ (x : Mail Letter). x.senders) e;
}

new_mail_new : (m : Mail Letter) (boxes count nodes most : ℕ) → m ≡ empty_mail boxes count nodes most → m ≡ empty_mail boxes count m.nodes m.most
new_mail_new m boxes count nodes most e = subst (λ (x : Mail Letter). x ≡ empty_mail boxes count x.nodes x.most) (sym e) refl

module _ (t : Table) (limits : Limits) (prices : List ℤ) (eps : ℤ) (p : Parts) (made : IsMade t limits prices eps p) (table : IsTable t) (ok : AreLimits limits) (are : ArePrices t prices) (eps_is : IsEps eps) where
  at_shard : (s : ℕ) → s < p.shards → s < limits.shards
  at_shard s l = rw made.shards at l

  persons_here : (s : ℕ) → s < limits.shards → IsPersonShard p.table p.shards s (get_or p.persons s no_persons)
  persons_here s l = rw (made.table, made.shards, made.each_persons s l) (new_persons_are t limits.shards limits.bids prices s are.each)

  objects_here : (q : ℕ) → q < limits.shards → IsObjectShard p.table p.shards q (get_or p.objects q no_objects)
  objects_here q l = rw (made.table, made.shards, made.each_objects q l) (record { number = refl; of = refl; person_shards = refl; persons = refl; objects = are.each; holders = length-replicate (length prices) None ∙ are.each })

  pub made_are : AreParts p
  made_are = record {
    some = rw made.shards ok.some;
    few = rw made.shards ok.few;
    eps_is = rw made.eps_is eps_is;
    table_is = rw made.table table;
    persons_are = made.persons_are ∙ sym made.shards;
    objects_are = made.objects_are ∙ sym made.shards;
    outboxes_are = made.outboxes_are ∙ ap (λ (n : ℕ). 2 * n) (sym made.shards);
    stopped_are = ap (λ bs. length bs) made.stopped_are ∙ (length-replicate limits.shards false ∙ sym made.shards);
    each_persons = λ s l. persons_here s (at_shard s l);
    each_objects = λ q l. objects_here q (at_shard q l);
    each_outbox = λ x l. reach_none p.shards _ (empty_at p.outboxes made.each_outbox x);
    mails_are = record {
      objects = rw made.shards (new_mail_is limits.shards p.mails.objects limits.shards _ _ made.objects_mail);
      persons = rw made.shards (new_mail_is limits.shards p.mails.persons limits.shards _ _ made.persons_mail);
      hub = rw made.shards (new_mail_is limits.shards p.mails.hub 1 _ _ made.hub_mail);
    };
  }

  own_shard : (i : ℕ) → i % p.shards < limits.shards
  own_shard i = let some = ok.some in rw made.shards (omega arith)

  -- the price of each object, and each copy of it
  pub price_is : (j : ℕ) → (world_of p).price j ≡ get_or prices j (pos 0)
  price_is j = ap (λ (x : Objects). price_of x j) (made.each_objects (j % p.shards) (own_shard j))

  pub copy_is : (s j : ℕ) → s < limits.shards → (world_of p).copy s j ≡ get_or prices j (pos 0)
  copy_is s j l = ap (λ (x : Persons). copy_of x j) (made.each_persons s l)

  copy_past : (s j : ℕ) → limits.shards ≤ s → (world_of p).copy s j ≡ pos 0
  copy_past s j l = ap (λ (x : Persons). copy_of x j) (get_or_past p.persons s no_persons (rw made.persons_are l))

  idle_here : (s i : ℕ) → occurs i ((world_of p).idle s) ≡ free_in (phase p) PersonState.Free s i
  idle_here s i =
      elim (cases_lt s limits.shards) [
        | inl l ↦ rw (ap (λ (x : Persons). x.idle) (made.each_persons s l), made.table, made.shards) (occurs_persons (phase_of t limits.shards eps) s i)
        | inr n ↦ (
            let other : i % p.shards ≡ s → ⊥ = (let h = own_shard i in λ e. omega arith) in
            rw (ap (λ (x : Persons). x.idle) (get_or_past p.persons s no_persons (rw made.persons_are n))) (rw (ne_eqb (i % p.shards) s other) refl)
            )
      ]

  pub made_starts : Starts (phase p) (world_of p)
  made_starts = record {
    price_range = λ j. rw (price_is j) (price_at prices are.within j);
    copies_above = λ s j. elim (cases_lt s limits.shards) [ inl l ↦ rw (copy_is s j l) (price_at prices are.within j).low | inr n ↦ rw (copy_past s j n) (omega (arith, ints)) ];
    copies_low = λ s j. elim (cases_lt s limits.shards) [ inl l ↦ rw (copy_is s j l, price_is j) (omega (arith, ints)) | inr n ↦ rw (copy_past s j n, price_is j) (price_at prices are.within j).low ];
    nobody_holds = λ j. ap (λ (x : Objects). holder_of x j) (made.each_objects (j % p.shards) (own_shard j)) ∙ replicate_default (length prices) j None;
    all_free = λ i. ap (λ (x : Persons). state_of x i) (made.each_persons (i % p.shards) (own_shard i)) ∙ replicate_default (length t.rows) i PersonState.Free;
    idle_is = idle_here;
    none_stopped = λ s. rw made.stopped_are (replicate_default limits.shards s false);
    no_person_out = λ s. empty_or (nat_lt s p.shards) _ (empty_at p.outboxes made.each_outbox s);
    no_object_out = λ q. empty_at p.outboxes made.each_outbox (p.shards + q);
    objects_mail = rw made.shards (new_mail_new p.mails.objects limits.shards (2 * limits.shards + 1) _ _ made.objects_mail);
    persons_mail = rw made.shards (new_mail_new p.mails.persons limits.shards (2 * limits.shards + 1) _ _ made.persons_mail);
    hub_mail = rw made.shards (new_mail_new p.mails.hub 1 (2 * limits.shards + 1) _ _ made.hub_mail);
    none_counted = made.count;
    no_end = made.end;
  }

  pub made_usual : limits.nodes ≡ 0 → UsualNodes (phase p) (world_of p)
  made_usual none = record {
    objects = rw made.table (ap (λ (x : Mail Letter). x.nodes) made.objects_mail ∙ ap (λ n. nodes_or n (length t.rows)) none);
    persons = rw made.table (ap (λ (x : Mail Letter). x.nodes) made.persons_mail ∙ ap (λ n. nodes_or n (4 * length t.rows)) none);
    hub = rw (made.table, made.shards) (ap (λ (x : Mail Letter). x.nodes) made.hub_mail ∙ ap (λ n. nodes_or n (length t.rows + 2 * limits.shards)) none);
  }

  pub made_phase : phase p ≡ phase_of t limits.shards eps
  made_phase = rw (made.table, made.shards, made.eps_is) refl

  pub made_lawful : Lawful (phase p)
  made_lawful = rw made_phase (table_lawful t limits.shards eps table ok.some eps_is)
