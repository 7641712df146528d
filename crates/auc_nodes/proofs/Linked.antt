-- The lists that the links of a pool stand for.
use Rattle.std.proofs.Common.{◌≡◌, ◌≢◌, ℕ, zero, suc, ◌+◌, ◌-◌, ◌<◌, ◌≤◌, List, [], ◌∷◌, length, get_or, refl, ap, subst, ⊎_elim, arith}
use Rattle.std.proofs.lemmas.List.{length-map, get_or-map}
use Rattle.std.proofs.lemmas.List.Sums.{get_or-le-sum_by}
use Rattle.std.proofs.lemmas.Bool.{cases_lt}
use Rattle.auc_nodes.specs.Links.{end_of, no_ends, chain, nodes_from, single, times, EndsWith}
use Rattle.auc_nodes.specs.Pool.{chains, times_in, IsLinked}
use Rattle.auc_nodes.specs.declared.links.Ends.{Ends}
use Rattle.auc_nodes.proofs.Chains.{length-chain, times-cons, times_first, ends_tail}
use Rattle.auc_nodes.proofs.Tables.{two_le_sum}

-- a list that has a node begins with its first one
pub chain_front : (links : List ℕ) (at n : ℕ) → 0 < n → chain links at n ≡ at ∷ chain links (get_or links at 0) (n - 1)
chain_front links at zero some = absurd (omega (arith, some))
chain_front links at (suc n) some =
    let less : n ≡ suc n - 1 = omega arith in
    ap (λ (m : ℕ). at ∷ chain links (get_or links at 0) m) less

-- the rest of a list
abbrev pub rest_of : List ℕ → Ends → Ends
rest_of links e = record { first = get_or links e.first 0; last = e.last; len = e.len - 1 }

module _ {links : List ℕ} {ends : List Ends} (linked : IsLinked links ends) where
  abbrev pub nodes_at : ℕ → List ℕ
  nodes_at k = nodes_from links (end_of ends k)

  pub chains_at : (k : ℕ) (d : List ℕ) → k < length ends → get_or (chains links ends) k d ≡ nodes_from links (end_of ends k)
  chains_at k d lt = get_or-map (nodes_from links) ends k no_ends d lt

  size : length (chains links ends) ≡ length ends
  size = length-map ends (nodes_from links)

  at_most_once : (i : ℕ) → times_in i (chains links ends) ≤ 1
  at_most_once i = ⊎_elim (λ (lt : i < length links). omega (arith, linked.once i lt)) (λ (le : length links ≤ i). omega (arith, linked.none i le)) (cases_lt i (length links))

  -- no node is in two lists, or twice in one
  pub apart : (a b i : ℕ) → a ≢ b → a < length ends → b < length ends
      → times i (nodes_from links (end_of ends a)) + times i (nodes_from links (end_of ends b)) ≤ 1
  apart a b i ne la lb =
      omega (
        arith,
        two_le_sum (times i) (chains links ends) a b [] refl ne (omega (arith, size)) (omega (arith, size)),
        ap (times i) (chains_at a [] la),
        ap (times i) (chains_at b [] lb),
        at_most_once i,
      )

  pub alone : (k i : ℕ) → k < length ends → times i (nodes_from links (end_of ends k)) ≤ 1
  alone k i lt =
      omega (arith, get_or-le-sum_by (times i) (chains links ends) k [] (omega (arith, size)), ap (times i) (chains_at k [] lt), at_most_once i)

  -- a node of a list is one of the nodes
  pub within : (k i : ℕ) → k < length ends → 0 < times i (nodes_from links (end_of ends k)) → i < length links
  within k i lt some =
      ⊎_elim (λ (below : i < length links). below)
      (λ (past : length links ≤ i).
      absurd (omega (
        arith,
        get_or-le-sum_by (times i) (chains links ends) k [] (omega (arith, size)),
        ap (times i) (chains_at k [] lt),
        linked.none i past,
        some,
      )))
      (cases_lt i (length links))

  pub len_is : (k : ℕ) → length (nodes_from links (end_of ends k)) ≡ (end_of ends k).len
  len_is k = length-chain links (end_of ends k).first (end_of ends k).len

  pub two_lens : (a b : ℕ) → a ≢ b → a < length ends → b < length ends → (end_of ends a).len + (end_of ends b).len ≤ length links
  two_lens a b ne la lb =
      omega (
        arith,
        two_le_sum (λ (c : List ℕ). length c) (chains links ends) a b [] refl ne (omega (arith, size)) (omega (arith, size)),
        ap (λ (c : List ℕ). length c) (chains_at a [] la),
        ap (λ (c : List ℕ). length c) (chains_at b [] lb),
        len_is a,
        len_is b,
        linked.counted,
      )

  -- the list k has a node
  module _ (k : ℕ) (lt : k < length ends) (some : 0 < (end_of ends k).len) where
    pub front_is : nodes_from links (end_of ends k) ≡ (end_of ends k).first ∷ nodes_from links (rest_of links (end_of ends k))
    front_is = chain_front links (end_of ends k).first (end_of ends k).len some

    pub first_within : (end_of ends k).first < length links
    first_within =
        let f = (end_of ends k).first in
        within k f lt (omega (arith, ap (times f) front_is, times_first f (nodes_from links (rest_of links (end_of ends k)))))

    pub rest_last : 0 < k → EndsWith (nodes_from links (rest_of links (end_of ends k))) (end_of ends k).last
    rest_last pos = ends_tail (end_of ends k).first (nodes_from links (rest_of links (end_of ends k))) (end_of ends k).last
        (subst (λ (c : List ℕ). EndsWith c (end_of ends k).last) front_is (linked.last k pos lt))

    -- the first node, and the nodes after it
    pub front_times : (i : ℕ) → times i (nodes_from links (end_of ends k)) ≡ times i (nodes_from links (single (end_of ends k).first)) + times i (nodes_from links (rest_of links (end_of ends k)))
    front_times i =
        let f = (end_of ends k).first in
        let rest = nodes_from links (rest_of links (end_of ends k)) in
        omega (arith, ap (times i) front_is, times-cons i f rest, times-cons i f [])
