-- A new shard of the persons is one of its phase.
use Rattle.std.proofs.Common.{ℕ, ◌%◌, ◌<◌, ◌≡◌, true, List, length, get_or, replicate, refl, sym, inl, inr, arith}
use Rattle.std.specs.Prelude.{ℤ, All, ◌==◌}
use Rattle.std.proofs.lemmas.Bool.{cases_lt}
use Rattle.std.proofs.lemmas.Bool.Decides.{nat_tests}
use Rattle.std.proofs.lemmas.List.{get_or-replicate, get_or_past, length-replicate}
use Rattle.std.specs.List.{range_with_len}
use Rattle.std.proofs.lemmas.List.FromFn.{get_or-range_with_len, length-range_with_len}
use Rattle.std.proofs.lemmas.List.Elements.{All-weaker, All-filter, filter_passes}
use Rattle.auc_graph.specs.Table.{Table}
use Rattle.auc_letters.specs.declared.state.PersonState.{PersonState}
use Rattle.auc_letters.specs.Persons.{persons_of}
use Rattle.auc_persons.specs.Persons.{Owns}
use Rattle.auc_phases.specs.Shards.{IsPersonShard, new_persons}

-- the persons of a shard are its own
below : (n : ℕ) → All (λ i. i < n) (range_with_len 0 n)
below n k d l =
    let few : k < n = rw length-range_with_len at l in
    rw (get_or-range_with_len 0 n k d few) (omega arith)

own_are : (shard of persons : ℕ) → All (λ i. (i < persons) × (i % of ≡ shard)) (persons_of shard of persons)
own_are shard of persons k d l =
    let inside = All-filter (λ i. (i % of) == shard) (λ i. i < persons) (range_with_len 0 persons) (below persons) k d l in
    let passes = filter_passes (λ i. (i % of) == shard) (range_with_len 0 persons) k d l in
    (inside, eqb-true (get_or (persons_of shard of persons) k d % of) shard passes)
  where
    eqb-true : (a b : ℕ) → (a == b) ≡ true → a ≡ b
    eqb-true a b e = grind (arith, nat_tests)

pub new_persons_are : (t : Table) (shards bids : ℕ) (prices : List ℤ) (s : ℕ) → length prices ≡ t.objects → IsPersonShard t shards s (new_persons shards (length t.rows) bids prices s)
new_persons_are t shards bids prices s each = record {
  number = refl;
  of = refl;
  object_shards = refl;
  fits = record { persons = sym (length-replicate (length t.rows) PersonState.Free); objects = sym each };
  idle_own = All-weaker (λ i. (i < length t.rows) × (i % shards ≡ s)) (Owns (new_persons shards (length t.rows) bids prices s)) (λ i h. record { known = rw length-replicate h.0; own = h.1 }) (persons_of s shards (length t.rows)) (own_are s shards (length t.rows));
}
