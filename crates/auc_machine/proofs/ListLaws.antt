-- Candidate lists stay correct in a turn, and from a phase to the next.
use Rattle.std.proofs.Common.{ℕ, ℤ, ◌<◌, ◌≡◌, ◌⊎◌, inl, inr, List, [], length, get_or, set, subst, ap, ◌∙◌, arith, get_or-set_same, get_or-set_other}
use Rattle.std.specs.Prelude.{Option}
use Rattle.std.proofs.lemmas.Bool.{cases_eq}
use Rattle.std.proofs.lemmas.List.{length-set}
use Rattle.std.proofs.lemmas.List.Elements.{All-from_get_or, All-get_or, All-weaker}
use Rattle.auc_graph.specs.Table.{Table, row_of}
use Rattle.auc_letters.specs.declared.state.Held.{Held}
use Rattle.auc_model.specs.Schedule.{Reached}
use Rattle.auc_model.specs.World.{Phase, phase_of}
use Rattle.auc_model.proofs.Theorems.{of_every_schedule}
use Rattle.auc_persons.specs.Candidates.{KeepsListed, Kept, Listed}
use Rattle.auc_persons.specs.Persons.{Persons, NeverFall}
use Rattle.auc_persons.proofs.Shortlists.{kept_rises}
use Rattle.auc_phases.specs.declared.limits.Limits.{Limits}
use Rattle.auc_phases.specs.Shards.{no_persons}
use Rattle.auc_machine.specs.Gathering.{IsGathered}
use Rattle.auc_machine.specs.Lists.{AreKept, MayKeep}
use Rattle.auc_machine.specs.Making.{IsMade}
use Rattle.auc_machine.specs.Parts.{AreParts, Parts, phase, world_of}

pub kept_made : (t : Table) (limits : Limits) (prices : List ℤ) (eps : ℤ) (p : Parts) (lists : List (List Listed)) → IsMade t limits prices eps p → MayKeep t limits.shards prices lists → AreKept p.table p.persons lists
kept_made t limits prices eps p lists made may = record {
  many = let m = may.many in omega (arith, m, made.persons_are);
  each = λ s lt. (
      let known : s < limits.shards = (let m = may.many in omega (arith, m, lt)) in
      rw (made.table, made.each_persons s known) (All-get_or (Kept t prices) lists s [] lt may.each));
}

-- the copies of one shard rise
set_by : (t : Table) (persons : List Persons) (lists : List (List Listed)) (s k : ℕ) (new : Persons) → s < length persons → NeverFall (get_or persons s no_persons).copies new.copies → Kept t (get_or persons k no_persons).copies (get_or lists k []) → (k ≡ s) ⊎ (k ≡ s → ⊥)
    → Kept t (get_or (set persons s new) k no_persons).copies (get_or lists k [])
set_by t persons lists s k new lt rise kept (inl e) =
    let here : get_or (set persons s new) k no_persons ≡ new = ap (λ i. get_or (set persons s new) i no_persons) e ∙ get_or-set_same persons s new no_persons lt in
    let old : Kept t (get_or persons s no_persons).copies (get_or lists k []) = subst (λ (i : ℕ). Kept t (get_or persons i no_persons).copies (get_or lists k [])) e kept in
    rw here (kept_rises t (get_or persons s no_persons).copies new.copies (get_or lists k []) rise old)
set_by t persons lists s k new lt rise kept (inr ne) = rw (get_or-set_other persons s k new no_persons ne) kept

pub kept_set : (t : Table) (persons : List Persons) (lists : List (List Listed)) (s : ℕ) (x new : Persons) → s < length persons → x ≡ get_or persons s no_persons → NeverFall x.copies new.copies → AreKept t persons lists → AreKept t (set persons s new) lists
kept_set t persons lists s x new lt is rise are = record {
  many = let m = are.many in omega (arith, m, length-set persons s new);
  each = λ k l. set_by t persons lists s k new lt (subst (λ (y : Persons). NeverFall y.copies new.copies) is rise) (are.each k l) (cases_eq k s);
}

-- one shard and its lists change together
both_by : (t : Table) (persons : List Persons) (lists : List (List Listed)) (s k : ℕ) (new : Persons) (list : List Listed) → s < length persons → s < length lists → Kept t new.copies list → Kept t (get_or persons k no_persons).copies (get_or lists k []) → (k ≡ s) ⊎ (k ≡ s → ⊥)
    → Kept t (get_or (set persons s new) k no_persons).copies (get_or (set lists s list) k [])
both_by t persons lists s k new list lt in_lists now kept (inl e) =
    let here : get_or (set persons s new) k no_persons ≡ new = ap (λ i. get_or (set persons s new) i no_persons) e ∙ get_or-set_same persons s new no_persons lt in
    let there : get_or (set lists s list) k [] ≡ list = ap (λ i. get_or (set lists s list) i []) e ∙ get_or-set_same lists s list [] in_lists in
    rw (here, there) now
both_by t persons lists s k new list lt in_lists now kept (inr ne) = rw (get_or-set_other persons s k new no_persons ne, get_or-set_other lists s k list [] ne) kept

pub kept_both : (t : Table) (persons : List Persons) (lists : List (List Listed)) (s : ℕ) (new : Persons) (list : List Listed) → s < length persons → s < length lists → Kept t new.copies list → AreKept t persons lists → AreKept t (set persons s new) (set lists s list)
kept_both t persons lists s new list lt in_lists now are = record {
  many = let m = are.many in omega (arith, m, length-set persons s new, length-set lists s list);
  each = λ k l. both_by t persons lists s k new list lt in_lists now (are.each k (omega (arith, l, length-set lists s list))) (cases_eq k s);
}

-- the lists of one shard at its copies
pub kept_at : (t : Table) (persons : List Persons) (lists : List (List Listed)) (s : ℕ) (x : Persons) (list : List Listed) → s < length lists → x ≡ get_or persons s no_persons → list ≡ get_or lists s [] → AreKept t persons lists → Kept t x.copies list
kept_at t persons lists s x list lt is is_list are = rw (is, is_list) (are.each s lt)

-- no copy is above the price that the phase has left
pub kept_left : (g : Phase) (p : Parts) (shards : ℕ) (holders : List (Option Held)) (prices : List ℤ) (lists : List (List Listed)) → Reached g (world_of p) → length p.persons ≡ shards → IsGathered p holders prices → AreKept p.table p.persons lists → MayKeep p.table shards prices lists
kept_left g p shards holders prices lists reached many gathered are = record {
  many = let m = are.many in omega (arith, m, many);
  each = All-from_get_or (Kept p.table prices) lists [] (λ s lt.
      kept_rises p.table (get_or p.persons s no_persons).copies prices (get_or lists s [])
      (λ j. (let low = (of_every_schedule g (world_of p) reached).copies_low s j in let is = gathered.price_is j in rw is low))
      (are.each s lt));
}

-- only the rows of a table count, so the lists of a world are those of any table that it is a phase of
keeps_rows : (t u : Table) (q : List ℤ) (l : Listed) → length t.rows ≡ length u.rows → row_of t l.person ≡ row_of u l.person → KeepsListed t q l → KeepsListed u q l
keeps_rows t u q l many row k = rw (← many, ← row) k

kept_rows : (t u : Table) (q : List ℤ) (lists : List Listed) → length t.rows ≡ length u.rows → ((i : ℕ) → row_of t i ≡ row_of u i) → Kept t q lists → Kept u q lists
kept_rows t u q lists many rows kept = All-weaker (KeepsListed t q) (KeepsListed u q) (λ l k. keeps_rows t u q l many (rows l.person) k) lists kept

pub left_for : (t : Table) (shards : ℕ) (eps : ℤ) (v : Parts) (holders : List (Option Held)) (prices : List ℤ) (lists : List (List Listed)) → AreParts v → phase v ≡ phase_of t shards eps → Reached (phase_of t shards eps) (world_of v) → IsGathered v holders prices
    → AreKept v.table v.persons lists → MayKeep t shards prices lists
left_for t shards eps v holders prices lists parts same reached gathered are =
    let many : v.shards ≡ shards = ap (λ (g : Phase). g.shards) same in
    let persons : length v.table.rows ≡ length t.rows = ap (λ (g : Phase). g.persons) same in
    let left = kept_left (phase_of t shards eps) v shards holders prices lists reached (parts.persons_are ∙ many) gathered are in
    record {
      many = left.many;
      each = All-weaker (Kept v.table prices) (Kept t prices) (λ list kept. kept_rows v.table t prices list persons (λ i. ap (λ (g : Phase). g.row i) same) kept) lists left.each;
    }
