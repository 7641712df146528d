-- The lanes of a pool.
use Rattle.std.proofs.Common.{◌≡◌, ℕ, ◌-◌, ◌<◌, List, [], ◌∷◌, length, get_or, map, refl, ap, sym, ◌∙◌, arith}
use Rattle.std.specs.List.{range_with_len, sum_by}
use Rattle.std.proofs.lemmas.List.FromFn.{fill_by_all}
use Rattle.std.proofs.lemmas.List.Sums.{sum_by-cons}
use Rattle.auc_mail.specs.Mail.{Lane, blank_lane}
use Rattle.auc_mail.specs.Pool.{lane_at, lanes_of}
use Rattle.auc_mail.proofs.Tables.{get_or-table}

pub same_counts : {T : Type 0} {a b : ℕ} {xs ys : List T} → a ≡ b → xs ≡ ys
    → ◌≡◌ {A = Lane T} (record { taken = a - length xs; waiting = xs }) (record { taken = b - length ys; waiting = ys })
same_counts e f = cc

-- the lane with this number
pub at_lanes : {T : Type 0} (posted : List ℕ) (lists : List (List T)) (k : ℕ) → k < length posted → get_or (lanes_of posted lists) k blank_lane ≡ lane_at posted lists k
at_lanes posted lists k h = get_or-table (lane_at posted lists) (length posted) k blank_lane h

-- two sums of the same numbers
sum_maps : {A B C : Type 0} (h : B → ℕ) (g : C → ℕ) (f : A → B) (f' : A → C) → ((x : A) → h (f x) ≡ g (f' x)) → (xs : List A) → sum_by h (map f xs) ≡ sum_by g (map f' xs)
sum_maps h g f f' same [] = refl
sum_maps h g f f' same (x ∷ xs) = omega (arith, sum_by-cons h (f x) (map f xs), sum_by-cons g (f' x) (map f' xs), same x, sum_maps h g f f' same xs)

-- the number of letters that wait in all lanes
pub sum_lanes : {T : Type 0} (posted : List ℕ) (lists : List (List T)) → length lists ≡ length posted
    → sum_by (λ (l : Lane T). length l.waiting) (lanes_of posted lists) ≡ sum_by (λ (xs : List T). length xs) lists
sum_lanes {T} posted lists size =
    let list : ℕ → List T = λ k. get_or lists k [] in
    sum_maps (λ (l : Lane T). length l.waiting) (λ (xs : List T). length xs) (lane_at posted lists) list (λ k. refl) (range_with_len 0 (length posted))
    ∙ ap (sum_by (λ (xs : List T). length xs)) (sym (fill_by_all list lists (length posted) [] size (λ k lt. refl)))
