-- The holders and the prices, listed one object at a time.
use Rattle.std.proofs.Common.{ℕ, ℤ, pos, ◌+◌, ◌%◌, ◌<◌, ◌≤◌, ◌≡◌, List, [], ◌∷◌, ◌++◌, Option, None, length, get_or, ap, sym, ◌∙◌, inl, inr, arith}
use Rattle.std.proofs.lemmas.Bool.{cases_lt}
use Rattle.std.proofs.lemmas.List.{get_or_append_left, get_or_past, get_or_push, length-append}
use Rattle.auc_letters.specs.declared.state.Held.{Held}
use Rattle.auc_phases.specs.Shards.{no_objects}
use Rattle.auc_machine.specs.Gathering.{AreSales}
use Rattle.auc_machine.specs.Parts.{AreParts, Parts, world_of}

pub one_more : {X : Type 0} (xs ys : List X) (d a : X) (n : ℕ) (f : ℕ → X) → ys ≡ xs ++ a ∷ [] → length xs ≡ n → a ≡ f n → ((j : ℕ) → j < n → get_or xs j d ≡ f j) → (j : ℕ) → j < n + 1 → get_or ys j d ≡ f j
one_more xs ys d a n f is len here before j l =
    elim (cases_lt j n) [
      | inl below ↦ rw is (get_or_append_left xs (a ∷ []) d j (omega (arith, below, len)) ∙ before j below)
      | inr above ↦ (let at : n ≡ j = omega (arith, above, l) in rw is (get_or_push xs a d j (len ∙ at) ∙ here ∙ ap f at))
    ]

pub one_longer : {X : Type 0} (xs ys : List X) (a : X) (n : ℕ) → ys ≡ xs ++ a ∷ [] → length xs ≡ n → length ys ≡ n + 1
one_longer xs ys a n is len = rw is (omega (arith, length-append xs (a ∷ []), len))

-- beyond the last object there is no holder, and the price is 0
module _ (p : Parts) (are : AreParts p) where
  own : (j : ℕ) → j % p.shards < p.shards
  own j = let some = are.some in omega arith

  past_holder : (j : ℕ) → p.table.objects ≤ j → None ≡ (world_of p).holder j
  past_holder j l =
      let shard = are.each_objects (j % p.shards) (own j) in
      sym (get_or_past (get_or p.objects (j % p.shards) no_objects).holders j None (omega (arith, l, shard.holders)))

  past_price : (j : ℕ) → p.table.objects ≤ j → pos 0 ≡ (world_of p).price j
  past_price j l =
      let shard = are.each_objects (j % p.shards) (own j) in
      sym (get_or_past (get_or p.objects (j % p.shards) no_objects).prices j (pos 0) (omega (arith, l, shard.objects)))

  pub all_gathered : (holders : List (Option Held)) (prices : List ℤ) (n : ℕ) → n ≡ p.table.objects → length holders ≡ n → length prices ≡ n → ((j : ℕ) → j < n → get_or holders j None ≡ (world_of p).holder j) → ((j : ℕ) → j < n → get_or prices j (pos 0) ≡ (world_of p).price j)
      → AreSales p.table.objects (world_of p) holders prices
  all_gathered holders prices n all h q each fair = record {
    holders_are = h ∙ all;
    prices_are = q ∙ all;
    holder_is = λ j. elim (cases_lt j n) [ inl l ↦ each j l | inr past ↦ get_or_past holders j None (omega (arith, past, h)) ∙ past_holder j (omega (arith, past, all)) ];
    price_is = λ j. elim (cases_lt j n) [ inl l ↦ fair j l | inr past ↦ get_or_past prices j (pos 0) (omega (arith, past, q)) ∙ past_price j (omega (arith, past, all)) ];
  }
