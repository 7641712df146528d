-- Two lists of nodes after one link has changed.
use Rattle.std.proofs.Common.{◌≡◌, ◌≢◌, ℕ, zero, suc, ◌+◌, ◌<◌, ◌≤◌, ◌==◌, Bool, true, false, if◌then◌else◌, List, [], ◌++◌, length, get_or, set, refl, ap, sym, ◌∙◌, subst, arith, length-set}
use Rattle.std.proofs.lemmas.List.{append-nil, get_or-set_same, get_or-set_other}
use Rattle.auc_nodes.specs.Links.{behind, chain, nodes_from, single, times, EndsWith, CanJoin, IsJoined}
use Rattle.auc_nodes.specs.declared.links.Ends.{Ends}
use Rattle.auc_nodes.proofs.Chains.{test_same, test_other, times_one, last_in, ends_append, chain_same, chain_join}

-- a list with no node
pub no_chain : (links : List ℕ) (at n : ℕ) → n ≡ 0 → chain links at n ≡ []
no_chain links at n e = ap (chain links at) e

module _ {links : List ℕ} {front back : Ends} (can : CanJoin links front back) where
  pub join_no_front : front.len ≡ 0 → IsJoined links links front back back
  join_no_front e =
      let none = no_chain links front.first front.len e in
      let both : nodes_from links back ≡ nodes_from links front ++ nodes_from links back = sym (ap (λ (c : List ℕ). c ++ nodes_from links back) none) in
      record {
        size = refl;
        nodes = both;
        others = λ e apart. refl;
      }

  pub join_no_back : back.len ≡ 0 → IsJoined links links front back front
  join_no_back e =
      let none = no_chain links back.first back.len e in
      let both : nodes_from links front ≡ nodes_from links front ++ nodes_from links back =
      sym (ap (λ (c : List ℕ). nodes_from links front ++ c) none ∙ append-nil (nodes_from links front)) in
      record {
        size = refl;
        nodes = both;
        others = λ e apart. refl;
      }

-- both have nodes, the first m + 1 and the second n + 1
joins : (links : List ℕ) (first last m first' last' n : ℕ) → EndsWith (chain links first (suc m)) last
    → ((i : ℕ) → times i (chain links first (suc m)) + times i (chain links first' (suc n)) ≤ 1) → last < length links
    → IsJoined links (set links last first') (record { first = first; last = last; len = suc m }) (record { first = first'; last = last'; len = suc n })
    (record { first = first; last = last'; len = suc m + suc n })
joins links first last m first' last' n e once lt =
    let same : (j : ℕ) → j ≢ last → get_or (set links last first') j 0 ≡ get_or links j 0 = λ j ne. get_or-set_other links last j first' 0 ne in
    let here : get_or (set links last first') last 0 ≡ first' = get_or-set_same links last first' 0 lt in
    let some = last_in first (chain links (get_or links first 0) m) last e in
    let sum : suc m + suc n ≡ suc (m + suc n) = omega arith in
    record {
      size = length-set links last first';
      nodes = ap (chain (set links last first') first) sum
          ∙ chain_join links (set links last first') last first' same here first m (suc n) e (omega (arith, once last)) (omega (arith, once last, some));
      others = λ o apart. chain_same links (set links last first') last same o.first o.len (apart last some);
    }

pub last_within : (links : List ℕ) (first last n : ℕ) → 0 < n → EndsWith (chain links first n) last
    → ((i : ℕ) → 0 < times i (chain links first n) → i < length links) → last < length links
last_within links first last zero some e within = absurd (omega (arith, some))
last_within links first last (suc n) some e within = within last (last_in first (chain links (get_or links first 0) n) last e)

joins_some : (links : List ℕ) (first last m first' last' n : ℕ) → 0 < m → 0 < n → EndsWith (chain links first m) last
    → ((i : ℕ) → times i (chain links first m) + times i (chain links first' n) ≤ 1) → last < length links
    → IsJoined links (set links last first') (record { first = first; last = last; len = m }) (record { first = first'; last = last'; len = n })
    (record { first = first; last = last'; len = m + n })
joins_some links first last zero first' last' n some some' e once lt = absurd (omega (arith, some))
joins_some links first last (suc m) first' last' zero some some' e once lt = absurd (omega (arith, some'))
joins_some links first last (suc m) first' last' (suc n) some some' e once lt = joins links first last m first' last' n e once lt

module _ {links : List ℕ} {front back : Ends} (can : CanJoin links front back) (some : 0 < front.len) (some' : 0 < back.len) where
  pub front_within : front.last < length links
  front_within = last_within links front.first front.last front.len some can.front_last can.within

  pub join_links : IsJoined links (set links front.last back.first) front back (record { first = front.first; last = back.last; len = front.len + back.len })
  join_links = joins_some links front.first front.last front.len back.first back.last back.len some some' can.front_last can.once front_within

-- the last node of both
ends_both : (c : List ℕ) (links : List ℕ) (at n : ℕ) (last : ℕ) → 0 < n → EndsWith (chain links at n) last → EndsWith (c ++ chain links at n) last
ends_both c links at zero last some e = absurd (omega (arith, some))
ends_both c links at (suc n) last some e = ends_append c at (chain links (get_or links at 0) n) last e

module _ {links : List ℕ} {front back : Ends} (can : CanJoin links front back) where
  pub last_both : 0 < back.len → EndsWith (nodes_from links back) back.last → EndsWith (nodes_from links front ++ nodes_from links back) back.last
  last_both some e = ends_both (nodes_from links front) links back.first back.len back.last some e

-- one node that goes in front of a list, which may have none
pub node_in_front : (links : List ℕ) (node : ℕ) (back : Ends) (last : ℕ) → node < length links → times node (nodes_from links back) ≡ 0
    → IsJoined links (set links node back.first) (record { first = node; last = node; len = 1 }) back (record { first = node; last = last; len = back.len + 1 })
node_in_front links node back last lt none =
    let same : (j : ℕ) → j ≢ node → get_or (set links node back.first) j 0 ≡ get_or links j 0 = λ j ne. get_or-set_other links node j back.first 0 ne in
    let here : get_or (set links node back.first) node 0 ≡ back.first = get_or-set_same links node back.first 0 lt in
    let sum : back.len + 1 ≡ suc (0 + back.len) = omega arith in
    let once = times_one node in
    record {
      size = length-set links node back.first;
      nodes = ap (chain (set links node back.first) node) sum
          ∙ chain_join links (set links node back.first) node back.first same here node 0 back.len refl (omega (arith, once)) none;
      others = λ o apart. chain_same links (set links node back.first) node same o.first o.len (apart node (omega (arith, once)));
    }

-- one node that goes after a list
module _ {links : List ℕ} {front : Ends} {node : ℕ} (can : CanJoin links front (single node)) where
  first_is : (b : Bool) → (front.len == 0) ≡ b → (if front.len == 0 then node else front.first) ≡ (if b then node else front.first)
  first_is b e = let pass : Bool → ℕ = λ b. if b then node else front.first in ap pass e

  ends_are : (a n : ℕ) → a ≡ (if front.len == 0 then node else front.first) → n ≡ front.len + 1 → ◌≡◌ {A = Ends} (record { first = a; last = node; len = n }) (behind front node)
  ends_are a n e f = cc

  pub behind_none : front.len ≡ 0 → IsJoined links links front (single node) (behind front node)
  behind_none none = subst (λ (e : Ends). IsJoined links links front (single node) e)
      (ends_are node 1 (sym (first_is true (test_same front.len 0 none))) (omega (arith, none))) (join_no_front can none)

  pub behind_some : 0 < front.len → IsJoined links (set links front.last node) front (single node) (behind front node)
  behind_some some = subst (λ (e : Ends). IsJoined links (set links front.last node) front (single node) e)
      (ends_are front.first (front.len + 1) (sym (first_is false (test_other front.len 0 (λ e. omega (arith, some, e))))) refl) (join_links can some (omega arith))
