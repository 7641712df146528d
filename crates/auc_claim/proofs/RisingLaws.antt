-- Rising lists of numbers: how they grow, that they can be completed, and what a longer one has next.
use Rattle.std.proofs.Common.{◌≡◌, ℕ, zero, suc, ◌+◌, ◌<◌, ◌≤◌, List, [], ◌∷◌, ◌++◌, length, take, drop, get_or, refl, sym, ap, subst, ◌∙◌, arith, All}
use Rattle.std.proofs.lemmas.List.{take-append-drop, drop_more}
use Rattle.std.proofs.lemmas.List.Elements.{All-nil, All-cons, All-head, All-tail}
use Rattle.std.proofs.lemmas.List.Kept.{AllPairs-cons}
use Rattle.auc_graph.specs.Rising.{IsRising, Rises}
use Rattle.auc_claim.specs.Spelled.{least_behind}

pub rises_append : (least end : ℕ) (xs ys : List ℕ) → Rises least end xs → Rises (least_behind least xs) end ys → Rises least end (xs ++ ys)
rises_append least end [] ys p q = q
rises_append least end (x ∷ xs) ys p q = record { low = p.low; high = p.high; behind = rises_append (x + 1) end xs ys p.behind q }

pub rises_behind : (least end : ℕ) (xs ys : List ℕ) → Rises least end (xs ++ ys) → Rises (least_behind least xs) end ys
rises_behind least end [] ys p = p
rises_behind least end (x ∷ xs) ys p = rises_behind (x + 1) end xs ys p.behind

pub rises_room : (least end : ℕ) (xs : List ℕ) → least ≤ end → Rises least end xs → least + length xs ≤ end
rises_room least end [] le p = omega arith
rises_room least end (x ∷ xs) le p =
    let above : least ≤ x = p.low in
    let below : x < end = p.high in
    let room : x + 1 + length xs ≤ end = rises_room (x + 1) end xs (omega arith) p.behind in
    omega arith

-- what a rising list has after its front: a number that leaves room for the others
pub next_rises : (least end : ℕ) (xs : List ℕ) (k : ℕ) (ys : List ℕ) → Rises least end (xs ++ k ∷ ys) → (least_behind least xs ≤ k) × (k + suc (length ys) ≤ end)
next_rises least end xs k ys p =
    let q = rises_behind least end xs (k ∷ ys) p in
    let below : k < end = q.high in
    let room : k + 1 + length ys ≤ end = rises_room (k + 1) end ys (omega arith) q.behind in
    (q.low, omega arith)

abbrev pub counted : ℕ → ℕ → List ℕ
counted least zero = []
counted least (suc m) = least ∷ counted (least + 1) m

pub counted_rises : (least end m : ℕ) → least + m ≤ end → Rises least end (counted least m)
counted_rises least end zero le = tt
counted_rises least end (suc m) le = record { low = omega arith; high = omega arith; behind = counted_rises (least + 1) end m (omega arith) }

pub length_counted : (least m : ℕ) → length (counted least m) ≡ m
length_counted least zero = refl
length_counted least (suc m) = ap suc (length_counted (least + 1) m)

pub behind_push : (least : ℕ) (xs : List ℕ) (k : ℕ) → least_behind least (xs ++ k ∷ []) ≡ k + 1
behind_push least [] k = refl
behind_push least (x ∷ xs) k = behind_push (x + 1) xs k

pub rises_push : (end : ℕ) (xs : List ℕ) (k : ℕ) → Rises 0 end xs → least_behind 0 xs ≤ k → k < end → Rises 0 end (xs ++ k ∷ [])
rises_push end xs k p above below = rises_append 0 end xs (k ∷ []) p (record { low = above; high = below; behind = tt })

pub are_indices : (least end : ℕ) (xs : List ℕ) → Rises least end xs → All (λ k. k < end) xs
are_indices least end [] p = All-nil (λ k. k < end)
are_indices least end (x ∷ xs) p = All-cons (λ k. k < end) x xs p.high (are_indices (x + 1) end xs p.behind)

are_above : (low least end : ℕ) (xs : List ℕ) → low < least → Rises least end xs → All (λ k. low < k) xs
are_above low least end [] lt p = All-nil (λ k. low < k)
are_above low least end (x ∷ xs) lt p =
    let above : least ≤ x = p.low in
    All-cons (λ k. low < k) x xs (omega arith) (are_above low (x + 1) end xs (omega arith) p.behind)

pub is_rising : (least end : ℕ) (xs : List ℕ) → Rises least end xs → IsRising xs
is_rising least end [] p = λ i j d lt within. absurd (omega arith)
is_rising least end (x ∷ xs) p = AllPairs-cons (λ a b. a < b) x xs (are_above x (x + 1) end xs (omega arith) p.behind) (is_rising (x + 1) end xs p.behind)

pub rises_from : (least end : ℕ) (xs : List ℕ) → All (λ k. least ≤ k) xs → All (λ k. k < end) xs → IsRising xs → Rises least end xs
rises_from least end [] above below h = tt
rises_from least end (x ∷ xs) above below h = record {
  low = All-head (λ k. least ≤ k) x xs above;
  high = All-head (λ k. k < end) x xs below;
  behind = rises_from (x + 1) end xs
      (λ i d lt. let higher : x < get_or xs i d = h 0 (suc i) d (omega arith) (omega arith) in omega arith)
      (All-tail (λ k. k < end) x xs below) (λ i j d lt within. h (suc i) (suc j) d (omega arith) (omega arith));
}

-- a number that the list has at a place is one that it may have there
pub rises_at : (end : ℕ) (xs : List ℕ) (i d : ℕ) → i < length xs → Rises 0 end xs → (least_behind 0 (take i xs) ≤ get_or xs i d) × (get_or xs i d < end)
rises_at end xs i d lt p =
    let split : xs ≡ take i xs ++ (get_or xs i d ∷ drop (i + 1) xs) = sym (take-append-drop i xs) ∙ ap (λ (ys : List ℕ). take i xs ++ ys) (drop_more xs i d lt) in
    let q = rises_behind 0 end (take i xs) (get_or xs i d ∷ drop (i + 1) xs) (subst (Rises 0 end) split p) in
    (q.low, q.high)

-- ---- how far a list goes

pub rises_from_lower : (low least end : ℕ) (xs : List ℕ) → low ≤ least → Rises least end xs → Rises low end xs
rises_from_lower low least end [] le p = tt
rises_from_lower low least end (x ∷ xs) le p = let above : least ≤ x = p.low in record { low = omega arith; high = p.high; behind = p.behind }

pub rises_below_higher : (least end high : ℕ) (xs : List ℕ) → end ≤ high → Rises least end xs → Rises least high xs
rises_below_higher least end high [] le p = tt
rises_below_higher least end high (x ∷ xs) le p = let below : x < end = p.high in record { low = p.low; high = omega arith; behind = rises_below_higher (x + 1) end high xs le p.behind }

pub behind_above : (least end : ℕ) (xs : List ℕ) → Rises least end xs → least ≤ least_behind least xs
behind_above least end [] p = omega arith
behind_above least end (x ∷ xs) p = let above : least ≤ x = p.low in let rest = behind_above (x + 1) end xs p.behind in omega (arith, above, rest)

-- it is below all that its last one is below
pub rises_below_last : (least end high : ℕ) (xs : List ℕ) → Rises least end xs → least_behind least xs ≤ high → Rises least high xs
rises_below_last least end high [] p le = tt
rises_below_last least end high (x ∷ xs) p le = let rest = behind_above (x + 1) end xs p.behind in record { low = p.low; high = omega (arith, rest, le); behind = rises_below_last (x + 1) end high xs p.behind le }

pub behind_below : (least end : ℕ) (xs : List ℕ) → least ≤ end → Rises least end xs → least_behind least xs ≤ end
behind_below least end [] le p = le
behind_below least end (x ∷ xs) le p = let below : x < end = p.high in behind_below (x + 1) end xs (omega arith) p.behind

behind_append : (least : ℕ) (xs ys : List ℕ) → least_behind least (xs ++ ys) ≡ least_behind (least_behind least xs) ys
behind_append least [] ys = refl
behind_append least (x ∷ xs) ys = behind_append (x + 1) xs ys

behind_counted : (least a m : ℕ) → least_behind least (counted a (suc m)) ≡ a + suc m
behind_counted least a zero = omega arith
behind_counted least a (suc m) = omega (arith, behind_counted (a + 1) (a + 1) m)

-- the last numbers below an end, of which there are m
pub behind_top : (xs : List ℕ) (a m end : ℕ) → 0 < m → a + m ≡ end → least_behind 0 (xs ++ counted a m) ≡ end
behind_top xs a zero end some is = absurd (omega arith)
behind_top xs a (suc m) end some is = behind_append 0 xs (counted a (suc m)) ∙ behind_counted (least_behind 0 xs) a m ∙ is

pub behind_some : (least end : ℕ) (xs : List ℕ) → 0 < length xs → Rises least end xs → least < least_behind least xs
behind_some least end [] some p = absurd (omega arith)
behind_some least end (x ∷ xs) some p = let above : least ≤ x = p.low in let rest = behind_above (x + 1) end xs p.behind in omega (arith, above, rest)

pub behind_last : (least : ℕ) (xs : List ℕ) (n d : ℕ) → length xs ≡ suc n → least_behind least xs ≡ get_or xs n d + 1
behind_last least [] n d len = absurd (omega arith)
behind_last least (x ∷ []) zero d len = refl
behind_last least (x ∷ y ∷ xs) zero d len = absurd (omega arith)
behind_last least (x ∷ []) (suc n) d len = absurd (omega arith)
behind_last least (x ∷ y ∷ xs) (suc n) d len = behind_last (x + 1) (y ∷ xs) n d (omega arith)
