-- The start of a run from start prices.
use Rattle.std.proofs.Common.{ℕ, ℤ, pos, ◌+◌, ◌<◌, ◌≡◌, ◌≢◌, arith, Contains, List, length, get_or, replicate, set, inl, inr, ap, sym, subst, ◌∙◌}
use Rattle.std.specs.Prelude.{All, ◌⊎◌, ◌≤ℤ◌}
use Rattle.std.proofs.lemmas.Bool.{cases_eq}
use Rattle.std.proofs.lemmas.Int.{ints}
use Rattle.std.proofs.lemmas.List.{get_or-set_same, get_or-set_other, length-set, set-get_or}
use Rattle.std.proofs.lemmas.List.Elements.{All-contains, All-get_or, All-set}
use Rattle.auc_graph.specs.Dual.{price_at}
use Rattle.auc_graph.specs.Price.{IsPrice}
use Rattle.auc_rows.specs.declared.arc.ShortArc.{ShortArc}
use Rattle.auc_rows.specs.Rows.{FlatTable, IsFlatTable, IsShort, flat_row_of}
use Rattle.auc_market.proofs.MarketLaws.{replicate_default}
use Rattle.auc_letters.specs.declared.limits.TheConstants.{NOBODY}
use Rattle.auc_market.specs.Endings.{IsStart}
use Rattle.auc_market.specs.Market.{AreSpare, IsSlack, Stands, holder_at, no_own, own_at}
use Rattle.auc_market.specs.Starts.{AreKept, ArePricesOf, AreSeated, any_eps}
use Rattle.auc_market.proofs.Bounds.{value_in}
use Rattle.auc_market.proofs.MarketLaws as market
use Rattle.auc_market.proofs.Opening.{stands_opened}

-- ---- any arc is within any eps

pub any_slack : (r : FlatTable) (prices : List ℤ) (i : ℕ) (s : ShortArc) → IsFlatTable r → All IsPrice prices → length prices ≡ r.objects → Contains (flat_row_of r i) s → IsSlack r any_eps prices i s
any_slack r prices i s sound within many listed = record {
  listed = listed;
  least = λ k d lt. (
      let a = value_in r prices s sound within many (All-contains (IsShort r.objects) (flat_row_of r i) s (sound.each i) listed) in
      let b = value_in r prices (get_or (flat_row_of r i) k d) sound within many (sound.each i k d lt) in
      let h = a.high in
      let l = b.low in
      omega (arith, ints, h, l)
      );
}

-- ---- prices that stay, or are 0

pub kept_all : (prices new : List ℤ) → new ≡ prices → AreKept prices new
kept_all prices new e j = inl (ap (λ (ps : List ℤ). price_at ps j) e)

pub kept_none : (prices new : List ℤ) (n : ℕ) → new ≡ replicate n (pos 0) → AreKept prices new
kept_none prices new n e j = inr (ap (λ (ps : List ℤ). price_at ps j) e ∙ replicate_default n j (pos 0))

pub kept_on : (a b c : List ℤ) → AreKept a b → AreKept b c → AreKept a c
kept_on a b c first second j = by (first j) (second j)
  where
    by : (price_at b j ≡ price_at a j) ⊎ (price_at b j ≡ pos 0) → (price_at c j ≡ price_at b j) ⊎ (price_at c j ≡ pos 0) → (price_at c j ≡ price_at a j) ⊎ (price_at c j ≡ pos 0)
    by f (inr z) = inr z
    by (inl e) (inl f) = inl (f ∙ e)
    by (inr z) (inl f) = inr (f ∙ z)

-- ---- before any person keeps an object

pub seated_none : (r : FlatTable) (start prices : List ℤ) (holders : List ℕ) (owns : List ShortArc) (n m : ℕ) → IsStart r (pos 1) prices → AreKept start prices → (r.objects ≡ length r.rows → prices ≡ start) → n ≡ r.objects → m ≡ length r.rows → holders ≡ replicate n NOBODY → owns ≡ replicate m no_own → AreSeated r start prices holders owns
seated_none r start prices holders owns n m is kept same objects persons nobody none = record {
  stands = stands_opened r (pos 1) any_eps prices holders owns n m is objects persons nobody none;
  kept = kept;
  same = same;
}

pub nothing_owned : (owns : List ShortArc) (m : ℕ) → owns ≡ replicate m no_own → (i : ℕ) → (own_at owns i).object ≡ NOBODY
nothing_owned owns m e i = ap (λ (os : List ShortArc). (own_at os i).object) e ∙ ap (λ (s : ShortArc). s.object) (replicate_default m i no_own)

-- ---- a person takes an object at its start price

module _ (r : FlatTable) (start prices : List ℤ) (holders : List ℕ) (owns : List ShortArc) (i : ℕ) (s : ShortArc) (sound : IsFlatTable r) (priced : ArePricesOf r start) (seated : AreSeated r start prices holders owns) (known : i < length r.rows) (none : (own_at owns i).object ≡ NOBODY) (listed : Contains (flat_row_of r i) s) where
  abbrev amount : ℤ
  amount = price_at start s.object

  abbrev new : List ℤ
  new = set prices s.object amount

  abbrev sold : List ℕ
  sold = set holders s.object i

  abbrev left : List ShortArc
  left = set (set owns i s) (holder_at holders s.object) no_own

  pub object_in : s.object < r.objects
  object_in = (All-contains (IsShort r.objects) (flat_row_of r i) s (sound.each i) listed).object

  price : IsPrice amount
  price = All-get_or IsPrice start s.object (pos 0) (let o = object_in in let e = priced.each in omega (arith, o, e)) priced.within

  up : price_at prices s.object ≤ℤ amount
  up = by (seated.kept s.object)
    where
      by : (price_at prices s.object ≡ amount) ⊎ (price_at prices s.object ≡ pos 0) → price_at prices s.object ≤ℤ amount
      by (inl e) = omega (arith, ints, e)
      by (inr z) = let l = price.low in omega (arith, ints, z, l)

  fits : IsSlack r any_eps new i s
  fits = any_slack r new i s sound (All-set IsPrice prices s.object amount price seated.stands.within) (length-set prices s.object amount ∙ seated.stands.prices_are) listed

  kept_after : AreKept start new
  kept_after k =
      elim (cases_eq k s.object) [
        | inl e ↦ inl (ap (price_at new) e ∙ market.price_here r any_eps prices holders owns i s amount sound seated.stands known none up fits ∙ ap (price_at start) (sym e))
        | inr ne ↦ by k (seated.kept k) (market.price_off r any_eps prices holders owns i s amount sound seated.stands known none up fits k ne)
      ]
    where
      by : (k : ℕ) → (price_at prices k ≡ price_at start k) ⊎ (price_at prices k ≡ pos 0) → price_at new k ≡ price_at prices k → (price_at new k ≡ price_at start k) ⊎ (price_at new k ≡ pos 0)
      by k (inl e) f = inl (f ∙ e)
      by k (inr z) f = inr (f ∙ z)

  same_after : r.objects ≡ length r.rows → new ≡ start
  same_after square = let e = seated.same square in ap (λ (ps : List ℤ). set ps s.object amount) e ∙ set-get_or start s.object (pos 0)

  pub seated_after : AreSeated r start new sold left
  seated_after = record {
    stands = market.stands_after r any_eps prices holders owns i s amount sound seated.stands known none up fits price.high;
    kept = kept_after;
    same = same_after;
  }

  -- no other person gets an object
  pub none_after : (k : ℕ) → k ≢ i → (own_at owns k).object ≡ NOBODY → (own_at left k).object ≡ NOBODY
  none_after k ne e =
      elim (cases_eq k (holder_at holders s.object)) [
        | inl d ↦ (ap (λ (m : ℕ). (own_at left m).object) d ∙ market.gone r any_eps prices holders owns i s amount sound seated.stands known none up fits)
        | inr nd ↦ (ap (λ (x : ShortArc). x.object) (market.own_off r any_eps prices holders owns i s amount sound seated.stands known none up fits k ne nd) ∙ e)
      ]

-- ---- a person gives up an object

module _ (r : FlatTable) (prices : List ℤ) (holders : List ℕ) (owns : List ShortArc) (i : ℕ) (sound : IsFlatTable r) (stands : Stands r any_eps prices holders owns) (some : (own_at owns i).object ≢ NOBODY) where
  abbrev j : ℕ
  j = (own_at owns i).object

  abbrev lower : List ℤ
  lower = set prices (own_at owns i).object (pos 0)

  abbrev free : List ℕ
  free = set holders (own_at owns i).object NOBODY

  abbrev rest : List ShortArc
  rest = set owns i no_own

  pub left_below : j < r.objects
  left_below = market.own_below r any_eps prices holders owns sound stands i some

  rest_here : own_at rest i ≡ no_own
  rest_here = get_or-set_same owns i no_own no_own (let l = market.owner_below r any_eps prices holders owns sound stands i some in let e = stands.owns_are in omega (arith, l, e))

  rest_off : (k : ℕ) → k ≢ i → own_at rest k ≡ own_at owns k
  rest_off k ne = get_or-set_other owns i k no_own no_own ne

  free_here : holder_at free j ≡ NOBODY
  free_here = get_or-set_same holders j NOBODY NOBODY (let l = left_below in let e = stands.holders_are in omega (arith, l, e))

  free_off : (k : ℕ) → k ≢ j → holder_at free k ≡ holder_at holders k
  free_off k ne = get_or-set_other holders j k NOBODY NOBODY ne

  lower_here : price_at lower j ≡ pos 0
  lower_here = get_or-set_same prices j (pos 0) (pos 0) (let l = left_below in let e = stands.prices_are in omega (arith, l, e))

  lower_off : (k : ℕ) → k ≢ j → price_at lower k ≡ price_at prices k
  lower_off k ne = get_or-set_other prices j k (pos 0) (pos 0) ne

  pub kept_left : AreKept prices lower
  kept_left k = elim (cases_eq k j) [ inl e ↦ inr (ap (price_at lower) e ∙ lower_here) | inr ne ↦ inl (lower_off k ne) ]

  -- a person with an object afterwards had it before, and isn't the one that gave its object up
  had : (k : ℕ) → (own_at rest k).object ≢ NOBODY → (k ≢ i) × (own_at rest k ≡ own_at owns k) × ((own_at owns k).object ≢ NOBODY)
  had k has =
      let ne : k ≢ i = λ e. has (ap (λ (m : ℕ). (own_at rest m).object) e ∙ ap (λ (s : ShortArc). s.object) rest_here) in
      let same = rest_off k ne in
      (ne, same, λ z. has (ap (λ (s : ShortArc). s.object) same ∙ z))

  held_left : (k : ℕ) → holder_at free k ≢ NOBODY → (own_at rest (holder_at free k)).object ≡ k
  held_left k held =
      let ne : k ≢ j = λ e. held (ap (holder_at free) e ∙ free_here) in
      let same = free_off k ne in
      let was : holder_at holders k ≢ NOBODY = λ z. held (same ∙ z) in
      let has = stands.held k was in
      let other : holder_at holders k ≢ i = λ z. ne (sym has ∙ ap (λ (m : ℕ). (own_at owns m).object) z) in
      ap (λ (m : ℕ). (own_at rest m).object) same ∙ ap (λ (s : ShortArc). s.object) (rest_off (holder_at holders k) other) ∙ has

  holds_left : (k : ℕ) → (own_at rest k).object ≢ NOBODY → holder_at free (own_at rest k).object ≡ k
  holds_left k has =
      let h = had k has in
      let apart : (own_at owns k).object ≢ j = λ e. h.0 (sym (stands.holds k h.2) ∙ ap (holder_at holders) e ∙ stands.holds i some) in
      ap (λ (s : ShortArc). holder_at free s.object) h.1 ∙ free_off (own_at owns k).object apart ∙ stands.holds k h.2

  within_left : All IsPrice lower
  within_left = All-set IsPrice prices j (pos 0) (record { low = omega (arith, ints); high = omega (arith, ints) }) stands.within

  many_left : length lower ≡ r.objects
  many_left = length-set prices j (pos 0) ∙ stands.prices_are

  spare_left : AreSpare r prices holders → AreSpare r lower free
  spare_left (inl square) = inl square
  spare_left (inr unheld) = inr (λ k nobody. elim (cases_eq k j) [
    | inl e ↦ (ap (price_at lower) e ∙ lower_here)
    | inr ne ↦ (lower_off k ne ∙ unheld k (sym (free_off k ne) ∙ nobody))
  ])

  pub stands_left : Stands r any_eps lower free rest
  stands_left = record {
    prices_are = many_left;
    holders_are = length-set holders j NOBODY ∙ stands.holders_are;
    owns_are = length-set owns i no_own ∙ stands.owns_are;
    within = within_left;
    spare = spare_left stands.spare;
    held = held_left;
    holds = holds_left;
    slack = λ k has. (let h = had k has in any_slack r lower k (own_at rest k) sound within_left many_left (subst (Contains (flat_row_of r k)) (sym h.1) (stands.slack k h.2).listed));
  }

-- ---- where each person with an object satisfies epsilon-complementary slackness

pub stands_within : (r : FlatTable) (eps : ℤ) (prices : List ℤ) (holders : List ℕ) (owns : List ShortArc) → IsFlatTable r → Stands r any_eps prices holders owns → ((i : ℕ) → i < length r.rows → (own_at owns i).object ≢ NOBODY → IsSlack r eps prices i (own_at owns i)) → Stands r eps prices holders owns
stands_within r eps prices holders owns sound stands all = record {
  prices_are = stands.prices_are;
  holders_are = stands.holders_are;
  owns_are = stands.owns_are;
  within = stands.within;
  spare = stands.spare;
  held = stands.held;
  holds = stands.holds;
  slack = λ i some. all i (market.owner_below r any_eps prices holders owns sound stands i some) some;
}

-- one person more
pub within_next : (r : FlatTable) (eps : ℤ) (prices : List ℤ) (owns : List ShortArc) (n : ℕ) → ((i : ℕ) → i < n → (own_at owns i).object ≢ NOBODY → IsSlack r eps prices i (own_at owns i)) → ((own_at owns n).object ≢ NOBODY → IsSlack r eps prices n (own_at owns n)) → (i : ℕ) → i < n + 1 → (own_at owns i).object ≢ NOBODY → IsSlack r eps prices i (own_at owns i)
within_next r eps prices owns n below here i lt =
    elim (cases_eq i n) [
      | inl e ↦ subst (λ (m : ℕ). (own_at owns m).object ≢ NOBODY → IsSlack r eps prices m (own_at owns m)) (sym e) here
      | inr ne ↦ below i (grind (arith, lt, ne))
    ]
