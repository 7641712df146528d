-- The parts of a new pool.
use Rattle.std.proofs.Common.{◌≡◌, ℕ, zero, suc, ◌<◌, ◌≤◌, List, [], ◌∷◌, length, get_or, map, replicate, refl, ap, subst, sym, arith}
use Rattle.std.specs.List.{sum_by}
use Rattle.std.proofs.lemmas.List.{length-replicate, get_or-replicate}
use Rattle.std.proofs.lemmas.List.Sums.{sum_by-cons}
use Rattle.auc_nodes.specs.Limits.{ListsFit, NodesFit}
use Rattle.auc_nodes.specs.Links.{end_of, no_ends, links_of, nodes_from, times, EndsWith}
use Rattle.auc_nodes.specs.Lists.{empty_lists}
use Rattle.auc_nodes.specs.Pool.{chains, contents, lists_of, with_fresh, IsKept, IsLinked}
use Rattle.auc_nodes.specs.declared.links.Node.{Node}
use Rattle.auc_nodes.specs.declared.links.Ends.{Ends}
use Rattle.auc_nodes.proofs.Contents.{same_pool}

-- lists without nodes
empty_sum : (h : List ℕ → ℕ) (links : List ℕ) (n : ℕ) → h [] ≡ 0 → sum_by h (chains links (replicate n no_ends)) ≡ 0
empty_sum h links zero none = refl
empty_sum h links (suc n) none =
    omega (arith, sum_by-cons h [] (chains links (replicate n no_ends)), empty_sum h links n none, none)

empty_contents : {T : Type 0} (blank : T) (items : List T) (links : List ℕ) (n : ℕ)
    → map (contents blank items) (chains links (replicate n no_ends)) ≡ replicate n []
empty_contents blank items links zero = refl
empty_contents {T} blank items links (suc n) = ap (λ (xs : List (List T)). [] ∷ xs) (empty_contents blank items links n)

last_is : (lists k : ℕ) → 0 < k → k < length (no_ends ∷ replicate lists no_ends)
    → EndsWith (nodes_from [] (end_of (no_ends ∷ replicate lists no_ends) k)) (end_of (no_ends ∷ replicate lists no_ends) k).last
last_is lists zero pos lt = absurd (omega (arith, pos))
last_is lists (suc k) pos lt =
    let none : get_or (replicate lists no_ends) k no_ends ≡ no_ends = get_or-replicate lists k no_ends no_ends (omega (arith, lt, length-replicate lists no_ends)) in
    subst (λ (e : Ends). EndsWith (nodes_from [] e) e.last) (sym none) tt

new_linked : (lists : ℕ) → ListsFit lists → IsLinked [] (no_ends ∷ replicate lists no_ends)
new_linked lists lists_fit = record {
  has_free = omega arith;
  last = last_is lists;
  once = λ i lt. absurd (omega (arith, lt));
  none = λ i le. empty_sum (times i) [] (suc lists) refl;
  counted = empty_sum (λ (c : List ℕ). length c) [] (suc lists) refl;
  nodes_fit = omega arith;
  lists_fit = λ k e. omega (arith, e, lists_fit, length-replicate lists no_ends);
}

-- what `make` has made
module _ {T : Type 0} (blank : T) (lists n : ℕ) (nodes : List (Node T)) (ends : List Ends) (nodes_are : nodes ≡ []) (ends_are : ends ≡ replicate lists no_ends) where
  pub make_keeps : ListsFit lists → NodesFit n → (room : ℕ) → n ≤ room → IsKept (links_of nodes) (no_ends ∷ ends) n room
  make_keeps lf nf room le = rw (nodes_are, ends_are) (record {
    linked = new_linked lists lf;
    reserved = omega (arith, le);
    all_fit = omega (arith, nf);
  })

  pub make_makes : with_fresh n (lists_of blank nodes (no_ends ∷ ends)) ≡ empty_lists lists n
  make_makes =
      subst (λ (ns : List (Node T)). with_fresh n (lists_of blank ns (no_ends ∷ ends)) ≡ empty_lists lists n) (sym nodes_are)
      (subst (λ (es : List Ends). with_fresh n (lists_of blank [] (no_ends ∷ es)) ≡ empty_lists lists n) (sym ends_are)
      (same_pool (omega arith) (empty_contents blank [] [] lists)))
