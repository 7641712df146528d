-- A pool of which no used node is free, with a node more.
use Rattle.std.proofs.Common.{◌≡◌, ◌≢◌, ℕ, zero, suc, ◌+◌, ◌<◌, ◌≤◌, List, [], ◌∷◌, ◌++◌, length, get_or, set, map, refl, ap, sym, ◌∙◌, subst, ⊎_elim, arith, length-append}
use Rattle.std.specs.List.{sum_by}
use Rattle.std.proofs.Math.Seq.{get_or-append_seam}
use Rattle.std.proofs.lemmas.List.{length-map, map-append, set-get_or}
use Rattle.std.proofs.lemmas.List.Sums.{sum_by-cons}
use Rattle.std.proofs.lemmas.Bool.{cases_eq, cases_lt}
use Rattle.auc_nodes.specs.Limits.{NodesFit}
use Rattle.auc_nodes.specs.Links.{end_of, grown, links_of, items_of, nodes_from, single, times, EndsWith, CanJoin, IsJoined}
use Rattle.auc_nodes.specs.Lists.{Lists, list_of, with_list}
use Rattle.auc_nodes.specs.Pool.{chains, contents, lists_of, times_in, with_fresh, IsLinked}
use Rattle.auc_nodes.specs.declared.links.Node.{Node}
use Rattle.auc_nodes.specs.declared.links.Ends.{Ends}
use Rattle.auc_nodes.proofs.Chains.{chain_same, one_at, one_at_same, one_at_other, times-cons}
use Rattle.auc_nodes.proofs.Contents.{same_pool}
use Rattle.auc_nodes.proofs.Joining.{no_chain}
use Rattle.auc_nodes.proofs.Linked.{within}
use Rattle.auc_nodes.proofs.Parts.{end_read, set_up}
use Rattle.auc_nodes.proofs.Steps.{can_push, push_keeps, push_makes}

-- a list with an element more, elsewhere
grown_other : {X : Type 0} (xs : List X) (x d : X) (j : ℕ) → j ≢ length xs → get_or (xs ++ x ∷ []) j d ≡ get_or xs j d
grown_other [] x d zero ne = absurd (ne refl)
grown_other [] x d (suc j) ne = refl
grown_other (y ∷ xs) x d zero ne = refl
grown_other (y ∷ xs) x d (suc j) ne = grown_other xs x d j (λ e. ne (ap suc e))

-- chains without the node whose link is changed stay
same_chains : (links links' : List ℕ) (w : ℕ) → ((j : ℕ) → j ≢ w → get_or links' j 0 ≡ get_or links j 0)
    → (ends : List Ends) → sum_by (times w) (chains links ends) ≡ 0 → chains links' ends ≡ chains links ends
same_chains links links' w same [] none = refl
same_chains links links' w same (e ∷ ends) none =
    let split = sum_by-cons (times w) (nodes_from links e) (chains links ends) in
    ap (λ (c : List ℕ). c ∷ chains links' ends) (chain_same links links' w same e.first e.len (omega (arith, split, none)))
    ∙ ap (λ (cs : List (List ℕ)). nodes_from links e ∷ cs) (same_chains links links' w same ends (omega (arith, split, none)))

-- and so do their items
module _ {T : Type 0} (blank : T) (items items' : List T) (w : ℕ) (same : (j : ℕ) → j ≢ w → get_or items' j blank ≡ get_or items j blank) where
  same_contents : (c : List ℕ) → times w c ≡ 0 → contents blank items' c ≡ contents blank items c
  same_contents [] none = refl
  same_contents (i ∷ c) none =
      let split = times-cons w i c in
      let other : i ≢ w = λ e. omega (arith, none, split, one_at_same w i e) in
      ap (λ (y : T). y ∷ contents blank items' c) (same i other) ∙ ap (λ (ys : List T). get_or items i blank ∷ ys) (same_contents c (omega (arith, none, split)))

  all_contents : (cs : List (List ℕ)) → sum_by (times w) cs ≡ 0 → map (contents blank items') cs ≡ map (contents blank items) cs
  all_contents [] none = refl
  all_contents (c ∷ cs) none =
      let split = sum_by-cons (times w) c cs in
      ap (λ (xs : List T). xs ∷ map (contents blank items') cs) (same_contents c (omega (arith, split, none)))
      ∙ ap (λ (xss : List (List T)). contents blank items c ∷ xss) (all_contents cs (omega (arith, split, none)))

-- where no node is free, the ends of the free nodes mean nothing
module _ {links : List ℕ} {f : Ends} {ends : List Ends} (linked : IsLinked links (f ∷ ends)) (none : f.len ≡ 0) (g : Ends) (none' : g.len ≡ 0) where
  same_all : chains links (g ∷ ends) ≡ chains links (f ∷ ends)
  same_all = ap (λ (c : List ℕ). c ∷ chains links ends) (no_chain links g.first g.len none' ∙ sym (no_chain links f.first f.len none))

  same_last : (k : ℕ) → 0 < k → k < length (g ∷ ends) → EndsWith (nodes_from links (end_of (g ∷ ends) k)) (end_of (g ∷ ends) k).last
  same_last zero pos lt = absurd (omega (arith, pos))
  same_last (suc k) pos lt = linked.last (suc k) pos lt

  free_as : IsLinked links (g ∷ ends)
  free_as = record {
    has_free = omega arith;
    last = same_last;
    once = λ i lt. ap (times_in i) same_all ∙ linked.once i lt;
    none = λ i le. ap (times_in i) same_all ∙ linked.none i le;
    counted = ap (sum_by (λ (c : List ℕ). length c)) same_all ∙ linked.counted;
    nodes_fit = linked.nodes_fit;
    lists_fit = linked.lists_fit;
  }

module _ {T : Type 0} (blank : T) (nodes : List (Node T)) {f : Ends} {ends : List Ends} (linked : IsLinked (links_of nodes) (f ∷ ends)) (none : f.len ≡ 0)
    (item : T) (fit : NodesFit (length nodes + 1)) where
  abbrev node : Node T
  node = record { item = item; next = 0 }

  links_count : length (links_of nodes) ≡ length nodes
  links_count = length-map nodes (λ (n : Node T). n.next)

  grown_count : length (grown nodes item) ≡ length nodes + 1
  grown_count = length-append nodes (node ∷ [])

  pub grown_links_count : length (links_of (grown nodes item)) ≡ length nodes + 1
  grown_links_count = length-map (grown nodes item) (λ (n : Node T). n.next) ∙ grown_count

  other_link : (j : ℕ) → j ≢ length nodes → get_or (links_of (grown nodes item)) j 0 ≡ get_or (links_of nodes) j 0
  other_link j ne =
      ap (λ (xs : List ℕ). get_or xs j 0) (map-append (λ (n : Node T). n.next) nodes (node ∷ []))
      ∙ grown_other (links_of nodes) 0 0 j (λ e. ne (e ∙ links_count))

  other_item : (j : ℕ) → j ≢ length nodes → get_or (items_of (grown nodes item)) j blank ≡ get_or (items_of nodes) j blank
  other_item j ne =
      ap (λ (xs : List T). get_or xs j blank) (map-append (λ (n : Node T). n.item) nodes (node ∷ []))
      ∙ grown_other (items_of nodes) item blank j (λ e. ne (e ∙ length-map nodes (λ (n : Node T). n.item)))

  absent : sum_by (times (length nodes)) (chains (links_of nodes) ends) ≡ 0
  absent =
      omega (
        arith,
        linked.none (length nodes) (omega (arith, links_count)),
        sum_by-cons (times (length nodes)) (nodes_from (links_of nodes) f) (chains (links_of nodes) ends),
      )

  lists_stay : chains (links_of (grown nodes item)) ends ≡ chains (links_of nodes) ends
  lists_stay = same_chains (links_of nodes) (links_of (grown nodes item)) (length nodes) other_link ends absent

  -- a count over all lists is that of the new node more
  more : (h : List ℕ → ℕ) → h [] ≡ 0
      → sum_by h (chains (links_of (grown nodes item)) (single (length nodes) ∷ ends)) ≡ h (length nodes ∷ []) + sum_by h (chains (links_of nodes) (f ∷ ends))
  more h empty =
      omega (
        arith,
        sum_by-cons h (length nodes ∷ []) (chains (links_of (grown nodes item)) ends),
        ap (sum_by h) lists_stay,
        sum_by-cons h (nodes_from (links_of nodes) f) (chains (links_of nodes) ends),
        ap h (no_chain (links_of nodes) f.first f.len none),
        empty,
      )

  times_more : (i : ℕ) → times_in i (chains (links_of (grown nodes item)) (single (length nodes) ∷ ends)) ≡ one_at i (length nodes) + times_in i (chains (links_of nodes) (f ∷ ends))
  times_more i = omega (arith, more (times i) refl, times-cons i (length nodes) [])

  grown_last : (k : ℕ) → 0 < k → k < length (single (length nodes) ∷ ends)
      → EndsWith (nodes_from (links_of (grown nodes item)) (end_of (single (length nodes) ∷ ends) k)) (end_of (single (length nodes) ∷ ends) k).last
  grown_last zero pos lt = absurd (omega (arith, pos))
  grown_last (suc k) pos lt =
      let e = end_of ends k in
      let times_here = times (length nodes) (nodes_from (links_of nodes) e) in
      let apart : times_here ≡ 0 =
      ⊎_elim (λ (some : 0 < times_here). absurd (omega (arith, within linked (suc k) (length nodes) lt some, links_count))) (λ (le : times_here ≤ 0). omega (arith, le)) (cases_lt 0 times_here) in
      subst (λ (c : List ℕ). EndsWith c e.last)
      (sym (chain_same (links_of nodes) (links_of (grown nodes item)) (length nodes) other_link e.first e.len apart))
      (linked.last (suc k) pos lt)

  grown_linked : IsLinked (links_of (grown nodes item)) (single (length nodes) ∷ ends)
  grown_linked = record {
    has_free = omega arith;
    last = grown_last;
    once = λ i lt.
        ⊎_elim
        (λ (e : length nodes ≡ i). omega (arith, times_more i, one_at_same i (length nodes) e, linked.none i (omega (arith, links_count, e))))
        (λ (ne : length nodes ≢ i). omega (arith, times_more i, one_at_other i (length nodes) ne, linked.once i (omega (arith, links_count, grown_links_count, lt, ne))))
        (cases_eq (length nodes) i);
    none = λ i le.
        let ne : length nodes ≢ i = λ e. omega (arith, e, le, grown_links_count) in
        omega (arith, times_more i, one_at_other i (length nodes) ne, linked.none i (omega (arith, links_count, grown_links_count, le)));
    counted = omega (arith, more (λ (c : List ℕ). length c) refl, linked.counted, links_count, grown_links_count);
    nodes_fit = omega (arith, fit, grown_links_count);
    lists_fit = linked.lists_fit;
  }

  grown_lists : lists_of blank (grown nodes item) (single (length nodes) ∷ ends) ≡ with_fresh 1 (lists_of blank nodes (f ∷ ends))
  grown_lists = same_pool grown_count
      (ap (map (contents blank (items_of (grown nodes item)))) lists_stay
      ∙ all_contents blank (items_of nodes) (items_of (grown nodes item)) (length nodes) other_item (chains (links_of nodes) ends) absent)

  -- the new node goes after the list k
  module _ (k : ℕ) (has : k < length ends) where
    has_up : k + 1 < length (single (length nodes) ∷ ends)
    has_up = omega (arith, has)

    read_node : node ≡ get_or (grown nodes item) (length nodes) node
    read_node = sym (get_or-append_seam nodes node [] node)

    set_node : set (grown nodes item) (length nodes) node ≡ grown nodes item
    set_node = ap (set (grown nodes item) (length nodes)) read_node ∙ set-get_or (grown nodes item) (length nodes) node

    pub can_link : CanJoin (links_of (grown nodes item)) (end_of ends k) (single (length nodes))
    can_link = subst (λ (ns : List (Node T)). CanJoin (links_of ns) (end_of ends k) (single (length nodes))) set_node
        (can_push blank (grown nodes item) grown_linked k has_up (end_of ends k) (end_read (single (length nodes)) ends k has) (single (length nodes)) refl (omega arith)
        node read_node node read_node item)

    module _ (nodes' : List (Node T)) (both : Ends) (items : items_of nodes' ≡ items_of (grown nodes item))
        (joined : IsJoined (links_of (grown nodes item)) (links_of nodes') (end_of ends k) (single (length nodes)) both)
        (last : EndsWith (nodes_from (links_of (grown nodes item)) (single (length nodes))) (length nodes)
        → EndsWith (nodes_from (links_of (grown nodes item)) (end_of ends k) ++ nodes_from (links_of (grown nodes item)) (single (length nodes))) both.last) where
      pub link_keeps : IsLinked (links_of nodes') (f ∷ set ends k both)
      link_keeps =
          free_as (subst (λ (es : List Ends). IsLinked (links_of nodes') es) (set_up _ ends k both)
          (push_keeps blank (grown nodes item) grown_linked k has_up (end_of ends k) (end_read (single (length nodes)) ends k has) (single (length nodes)) refl (omega arith)
          node read_node node read_node item nodes' both (items ∙ sym (ap items_of set_node))
          (subst (λ (ns : List (Node T)). IsJoined (links_of ns) (links_of nodes') (end_of ends k) (single (length nodes)) both) (sym set_node) joined)
          (subst (λ (ns : List (Node T)). EndsWith (nodes_from (links_of ns) (single (length nodes))) (length nodes) → EndsWith (nodes_from (links_of ns) (end_of ends k) ++ nodes_from (links_of ns) (single (length nodes))) both.last) (sym set_node) last)))
          refl f none

      pub link_makes : lists_of blank nodes' (f ∷ set ends k both) ≡ with_list (with_fresh 1 (lists_of blank nodes (f ∷ ends))) k (list_of (lists_of blank nodes (f ∷ ends)) k ++ item ∷ [])
      link_makes =
          let makes = push_makes blank (grown nodes item) grown_linked k has_up (end_of ends k) (end_read (single (length nodes)) ends k has) (single (length nodes)) refl (omega arith)
          node read_node node read_node item nodes' both (items ∙ sym (ap items_of set_node))
          (subst (λ (ns : List (Node T)). IsJoined (links_of ns) (links_of nodes') (end_of ends k) (single (length nodes)) both) (sym set_node) joined)
          (subst (λ (ns : List (Node T)). EndsWith (nodes_from (links_of ns) (single (length nodes))) (length nodes) → EndsWith (nodes_from (links_of ns) (end_of ends k) ++ nodes_from (links_of ns) (single (length nodes))) both.last) (sym set_node) last) in
          subst (λ (l : Lists T). lists_of blank nodes' (f ∷ set ends k both) ≡ with_list l k (list_of l k ++ item ∷ [])) grown_lists
          (subst (λ (es : List Ends). lists_of blank nodes' es ≡ with_list (lists_of blank (grown nodes item) (single (length nodes) ∷ ends)) k (list_of (lists_of blank (grown nodes item) (single (length nodes) ∷ ends)) k ++ item ∷ [])) (set_up _ ends k both) makes)
