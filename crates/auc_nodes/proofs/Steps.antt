-- The parts of a pool after each call.
use Rattle.std.proofs.Common.{◌≡◌, ◌≢◌, ℕ, ◌+◌, ◌-◌, ◌^◌, ◌<◌, List, [], ◌∷◌, ◌++◌, length, get_or, set, map, drop, refl, ap, sym, ◌∙◌, arith}
use Rattle.std.proofs.lemmas.List.{length-map, map-set, map-append, get_or-map, get_or-set_same, get_or_read, set-get_or}
use Rattle.auc_nodes.specs.Links.{end_of, no_ends, links_of, items_of, nodes_from, single, times, EndsWith, CanJoin, IsJoined}
use Rattle.auc_nodes.specs.Lists.{HasList, list_of, with_list}
use Rattle.auc_nodes.specs.Pool.{chains, contents, lists_of, IsLinked}
use Rattle.auc_nodes.specs.declared.links.Node.{Node}
use Rattle.auc_nodes.specs.declared.links.Ends.{Ends}
use Rattle.auc_nodes.proofs.Contents.{same_pool, contents_same, drop_two, drop_two_free, drop_free_two, list_is, lists_count, pool_then}
use Rattle.auc_nodes.proofs.Chains.{times_first}
use Rattle.auc_nodes.proofs.Joining.{no_chain, node_in_front}
use Rattle.auc_nodes.proofs.Linked.{apart, two_lens, len_is, front_is, front_times, first_within, rest_of}
use Rattle.auc_nodes.proofs.Moving.{Moves, moved}
use Rattle.auc_nodes.proofs.Splicing.{can_splice, goes_in_front, goes_behind, first_apart, can_add_first, first_in_front, first_behind}

module _ {T : Type 0} (blank : T) (nodes : List (Node T)) {ends : List Ends} (linked : IsLinked (links_of nodes) ends) where
  pub list_within : (k : ℕ) → HasList (lists_of blank nodes ends) k → k + 1 < length ends
  list_within k has = omega (arith, has, lists_count blank nodes linked)

  -- the ends of the list k, which were read as e
  module _ (k : ℕ) (has : k + 1 < length ends) (e : Ends) (read : e ≡ get_or ends (k + 1) e) where
    e_is : e ≡ end_of ends (k + 1)
    e_is = get_or_read ends (k + 1) e has read no_ends

    -- the list k has no node
    pub none_listed : e.len ≡ 0 → list_of (lists_of blank nodes ends) k ≡ []
    none_listed zero =
        let none : (end_of ends (k + 1)).len ≡ 0 = omega (arith, zero, ap (λ (e : Ends). e.len) e_is) in
        list_is blank nodes linked k has
        ∙ ap (contents blank (items_of nodes)) (no_chain (links_of nodes) (end_of ends (k + 1)).first (end_of ends (k + 1)).len none)

    pub len_listed : e.len ≡ length (list_of (lists_of blank nodes ends) k)
    len_listed =
        let cs = nodes_from (links_of nodes) (end_of ends (k + 1)) in
        omega (
          arith,
          ap (λ (e : Ends). e.len) e_is,
          ap (λ (xs : List T). length xs) (list_is blank nodes linked k has),
          length-map cs (λ i. get_or (items_of nodes) i blank),
          len_is linked (k + 1),
        )

    apart_from_free : k + 1 ≢ 0
    apart_from_free q = omega (arith, q)

    -- the list k has a node, which was read as x
    module _ (some : 0 < e.len) where
      has_node : 0 < (end_of ends (k + 1)).len
      has_node = omega (arith, some, ap (λ (e : Ends). e.len) e_is)

      pub node_within : e.first < length nodes
      node_within =
          omega (arith, ap (λ (e : Ends). e.first) e_is, first_within linked (k + 1) has has_node, length-map nodes (λ (n : Node T). n.next))

      module _ (x : Node T) (read_x : x ≡ get_or nodes e.first x) where
        next_is : x.next ≡ get_or (links_of nodes) e.first 0
        next_is = ap (λ (n : Node T). n.next) read_x ∙ sym (get_or-map (λ (n : Node T). n.next) nodes e.first x 0 node_within)

        item_is : x.item ≡ get_or (items_of nodes) e.first blank
        item_is = ap (λ (n : Node T). n.item) read_x ∙ sym (get_or-map (λ (n : Node T). n.item) nodes e.first x blank node_within)

        pub node_listed : list_of (lists_of blank nodes ends) k ≡ x.item ∷ contents blank (items_of nodes) (nodes_from (links_of nodes) (rest_of (links_of nodes) (end_of ends (k + 1))))
        node_listed =
            let tail = contents blank (items_of nodes) (nodes_from (links_of nodes) (rest_of (links_of nodes) (end_of ends (k + 1)))) in
            list_is blank nodes linked k has
            ∙ (ap (contents blank (items_of nodes)) (front_is linked (k + 1) has has_node)
            ∙ ap (λ (y : T). y ∷ tail) (ap (λ (e : Ends). get_or (items_of nodes) e.first blank) (sym e_is) ∙ sym item_is))

        rest_is : ◌≡◌ {A = Ends} (record { first = x.next; last = (end_of ends (k + 1)).last; len = e.len - 1 }) (rest_of (links_of nodes) (end_of ends (k + 1)))
        rest_is =
            ap (λ (n : ℕ). let r : Ends = record { first = n; last = (end_of ends (k + 1)).last; len = e.len - 1 } in r) next_is
            ∙ ap (λ (o : Ends). let r : Ends = record { first = get_or (links_of nodes) o.first 0; last = (end_of ends (k + 1)).last; len = o.len - 1 } in r) e_is

    -- and the ends of the free nodes
    module _ (free : Ends) (read_free : free ≡ get_or ends 0 free) where
      free_is : free ≡ end_of ends 0
      free_is = get_or_read ends 0 free (omega (arith, has)) read_free no_ends

      pub can_clear : CanJoin (links_of nodes) e free
      can_clear = rw (e_is, free_is) (can_splice linked (k + 1) 0 apart_from_free has (omega (arith, has)) (omega arith))

      module _ (nodes' : List (Node T)) (both : Ends) (items : items_of nodes' ≡ items_of nodes) (joined : IsJoined (links_of nodes) (links_of nodes') e free both) where
        clear_move : Moves (links_of nodes) (links_of nodes') ends (k + 1) 0 no_ends both [] (nodes_from (links_of nodes) (end_of ends (k + 1)) ++ nodes_from (links_of nodes) (end_of ends 0))
        clear_move = goes_in_front linked (k + 1) 0 apart_from_free has (omega (arith, has)) (rw (e_is, free_is) at joined) (λ pos. absurd (omega (arith, pos)))

        pub clear_keeps : IsLinked (links_of nodes') (set (set ends (k + 1) no_ends) 0 both)
        clear_keeps = moved linked clear_move

        pub clear_makes : lists_of blank nodes' (set (set ends (k + 1) no_ends) 0 both) ≡ with_list (lists_of blank nodes ends) k []
        clear_makes =
            let freed = nodes_from (links_of nodes) (end_of ends (k + 1)) ++ nodes_from (links_of nodes) (end_of ends 0) in
            pool_then blank nodes linked nodes' clear_move (λ j na nb lt. ap (λ (xs : List T). contents blank xs (nodes_from (links_of nodes) (end_of ends j))) items)
            ∙ same_pool refl (drop_two_free (map (contents blank (items_of nodes)) (chains (links_of nodes) ends)) k [] (contents blank (items_of nodes') freed))

      -- the first node of k is freed; it was read as x, and then as y
      module _ (some : 0 < e.len) (x : Node T) (read_x : x ≡ get_or nodes e.first x) (y : Node T) (read_y : y ≡ get_or nodes e.first y) where
        pub free_below : free.len + 1 < 2 ^ 32
        free_below =
            omega (
              arith,
              two_lens linked (k + 1) 0 apart_from_free has (omega (arith, has)),
              linked.nodes_fit,
              has_node some,
              ap (λ (o : Ends). o.len) free_is,
            )

        freed_links : links_of (set nodes e.first (record { item = y.item; next = free.first })) ≡ set (links_of nodes) (end_of ends (k + 1)).first (end_of ends 0).first
        freed_links =
            map-set (λ (n : Node T). n.next) nodes e.first (record { item = y.item; next = free.first })
            ∙ (ap (λ (o : Ends). set (links_of nodes) o.first free.first) e_is ∙ ap (λ (o : Ends). set (links_of nodes) (end_of ends (k + 1)).first o.first) free_is)

        freed_items : items_of (set nodes e.first (record { item = y.item; next = free.first })) ≡ items_of nodes
        freed_items =
            map-set (λ (n : Node T). n.item) nodes e.first (record { item = y.item; next = free.first })
            ∙ (sym (map-set (λ (n : Node T). n.item) nodes e.first y) ∙ ap items_of (ap (set nodes e.first) read_y ∙ set-get_or nodes e.first y))

        module _ (last : ℕ) where
          pop_move : Moves (links_of nodes) (links_of (set nodes e.first (record { item = y.item; next = free.first }))) ends (k + 1) 0
              (rest_of (links_of nodes) (end_of ends (k + 1)))
              (record { first = (end_of ends (k + 1)).first; last = last; len = (end_of ends 0).len + 1 })
              (nodes_from (links_of nodes) (rest_of (links_of nodes) (end_of ends (k + 1))))
              (nodes_from (links_of nodes) (single (end_of ends (k + 1)).first) ++ nodes_from (links_of nodes) (end_of ends 0))
          pop_move =
              let node = (end_of ends (k + 1)).first in
              let h0 : 0 < length ends = omega (arith, has) in
              rw freed_links
              (first_in_front linked (k + 1) 0 apart_from_free has h0 (has_node some)
              (node_in_front (links_of nodes) node (end_of ends 0) last (first_within linked (k + 1) has (has_node some))
              (first_apart linked (k + 1) 0 apart_from_free has h0 (has_node some)))
              (λ pos. absurd (omega (arith, pos))))

          freed_is : ◌≡◌ {A = Ends} (record { first = e.first; last = last; len = free.len + 1 }) (record { first = (end_of ends (k + 1)).first; last = last; len = (end_of ends 0).len + 1 })
          freed_is =
              ap (λ (o : Ends). let r : Ends = record { first = o.first; last = last; len = free.len + 1 } in r) e_is
              ∙ ap (λ (o : Ends). let r : Ends = record { first = (end_of ends (k + 1)).first; last = last; len = o.len + 1 } in r) free_is

          pub pop_keeps : IsLinked (links_of (set nodes e.first (record { item = y.item; next = free.first })))
              (set (set ends (k + 1) (record { first = x.next; last = (end_of ends (k + 1)).last; len = e.len - 1 })) 0 (record { first = e.first; last = last; len = free.len + 1 }))
          pop_keeps = rw (rest_is some x read_x, freed_is) (moved linked pop_move)

          pub pop_makes : lists_of blank (set nodes e.first (record { item = y.item; next = free.first }))
              (set (set ends (k + 1) (record { first = x.next; last = (end_of ends (k + 1)).last; len = e.len - 1 })) 0 (record { first = e.first; last = last; len = free.len + 1 }))
              ≡ with_list (lists_of blank nodes ends) k (contents blank (items_of nodes) (nodes_from (links_of nodes) (rest_of (links_of nodes) (end_of ends (k + 1)))))
          pop_makes =
              let nodes' = set nodes e.first (record { item = y.item; next = free.first }) in
              let tail = nodes_from (links_of nodes) (rest_of (links_of nodes) (end_of ends (k + 1))) in
              let freed = nodes_from (links_of nodes) (single (end_of ends (k + 1)).first) ++ nodes_from (links_of nodes) (end_of ends 0) in
              let all = map (contents blank (items_of nodes)) (chains (links_of nodes) ends) in
              rw (rest_is some x read_x, freed_is)
              (pool_then blank nodes linked nodes' pop_move (λ j na nb lt. ap (λ (xs : List T). contents blank xs (nodes_from (links_of nodes) (end_of ends j))) freed_items)
              ∙ same_pool refl
              (drop_two_free all k (contents blank (items_of nodes') tail) (contents blank (items_of nodes') freed)
              ∙ ap (λ (xs : List T). set (drop 1 all) k (contents blank xs tail)) freed_items))

      -- the first free node, which was read as x, goes after k with an item
      module _ (some : 0 < free.len) where
        free_node : 0 < (end_of ends 0).len
        free_node = omega (arith, some, ap (λ (e : Ends). e.len) free_is)

        pub free_within : free.first < length nodes
        free_within =
            omega (arith, ap (λ (e : Ends). e.first) free_is, first_within linked 0 (omega (arith, has)) free_node, length-map nodes (λ (n : Node T). n.next))

        free_apart : 0 ≢ k + 1
        free_apart q = omega (arith, q)

        module _ (x : Node T) (read_x : x ≡ get_or nodes free.first x) (y : Node T) (read_y : y ≡ get_or nodes free.first y) (item : T) where
          same_next : y.next ≡ get_or (links_of nodes) free.first 0
          same_next = ap (λ (n : Node T). n.next) read_y ∙ sym (get_or-map (λ (n : Node T). n.next) nodes free.first y 0 free_within)

          free_next : x.next ≡ get_or (links_of nodes) free.first 0
          free_next = ap (λ (n : Node T). n.next) read_x ∙ sym (get_or-map (λ (n : Node T). n.next) nodes free.first x 0 free_within)

          filled_links : links_of (set nodes free.first (record { item = item; next = y.next })) ≡ links_of nodes
          filled_links =
              map-set (λ (n : Node T). n.next) nodes free.first (record { item = item; next = y.next })
              ∙ (ap (set (links_of nodes) free.first) same_next ∙ set-get_or (links_of nodes) free.first 0)

          pub can_push : CanJoin (links_of (set nodes free.first (record { item = item; next = y.next }))) e (single free.first)
          can_push = rw (filled_links, e_is, free_is) (can_add_first linked 0 (k + 1) free_apart (omega (arith, has)) has free_node (omega arith))

          module _ (nodes' : List (Node T)) (both : Ends) (items' : items_of nodes' ≡ items_of (set nodes free.first (record { item = item; next = y.next })))
              (joined : IsJoined (links_of (set nodes free.first (record { item = item; next = y.next }))) (links_of nodes') e (single free.first) both)
              (last : EndsWith (nodes_from (links_of (set nodes free.first (record { item = item; next = y.next }))) (single free.first)) free.first
              → EndsWith (nodes_from (links_of (set nodes free.first (record { item = item; next = y.next }))) e ++ nodes_from (links_of (set nodes free.first (record { item = item; next = y.next }))) (single free.first)) both.last) where
            push_move : Moves (links_of nodes) (links_of nodes') ends 0 (k + 1) (rest_of (links_of nodes) (end_of ends 0)) both
                (nodes_from (links_of nodes) (rest_of (links_of nodes) (end_of ends 0)))
                (nodes_from (links_of nodes) (end_of ends (k + 1)) ++ nodes_from (links_of nodes) (single (end_of ends 0).first))
            push_move = first_behind linked 0 (k + 1) free_apart (omega (arith, has)) has free_node (rw (filled_links, e_is, free_is) at joined)
                (λ pos. rw (filled_links, e_is, free_is) at (last refl))

            free_rest : ◌≡◌ {A = Ends} (record { first = x.next; last = (end_of ends 0).last; len = free.len - 1 }) (rest_of (links_of nodes) (end_of ends 0))
            free_rest =
                ap (λ (n : ℕ). let r : Ends = record { first = n; last = (end_of ends 0).last; len = free.len - 1 } in r) free_next
                ∙ ap (λ (o : Ends). let r : Ends = record { first = get_or (links_of nodes) o.first 0; last = (end_of ends 0).last; len = o.len - 1 } in r) free_is

            pub push_keeps : IsLinked (links_of nodes') (set (set ends 0 (record { first = x.next; last = (end_of ends 0).last; len = free.len - 1 })) (k + 1) both)
            push_keeps = rw free_rest (moved linked push_move)

            items : items_of nodes' ≡ set (items_of nodes) (end_of ends 0).first item
            items =
                items' ∙ (map-set (λ (n : Node T). n.item) nodes free.first (record { item = item; next = y.next })
                ∙ ap (λ (e : Ends). set (items_of nodes) e.first item) free_is)

            -- the node is in no other list
            elsewhere : (j : ℕ) → j ≢ 0 → j < length ends
                → contents blank (items_of nodes') (nodes_from (links_of nodes) (end_of ends j)) ≡ contents blank (items_of nodes) (nodes_from (links_of nodes) (end_of ends j))
            elsewhere j ne lt =
                let i = (end_of ends 0).first in
                let cs = nodes_from (links_of nodes) (end_of ends j) in
                let h0 : 0 < length ends = omega (arith, has) in
                let once = times_first i [] in
                let none : times i cs ≡ 0 = omega (arith, apart linked 0 j i (λ q. ne (sym q)) h0 lt, front_times linked 0 h0 free_node i, once) in
                ap (λ (xs : List T). contents blank xs cs) items ∙ contents_same blank (items_of nodes) i item cs none

            pub push_makes : lists_of blank nodes' (set (set ends 0 (record { first = x.next; last = (end_of ends 0).last; len = free.len - 1 })) (k + 1) both)
                ≡ with_list (lists_of blank nodes ends) k (list_of (lists_of blank nodes ends) k ++ item ∷ [])
            push_makes =
                let i = (end_of ends 0).first in
                let h0 : 0 < length ends = omega (arith, has) in
                let below : i < length (items_of nodes) = omega (arith, first_within linked 0 h0 free_node, length-map nodes (λ (n : Node T). n.next), length-map nodes (λ (n : Node T). n.item)) in
                let tail = nodes_from (links_of nodes) (rest_of (links_of nodes) (end_of ends 0)) in
                let kept = nodes_from (links_of nodes) (end_of ends (k + 1)) in
                let all = map (contents blank (items_of nodes)) (chains (links_of nodes) ends) in
                let last : get_or (items_of nodes') i blank ≡ item = ap (λ (xs : List T). get_or xs i blank) items ∙ get_or-set_same (items_of nodes) i item blank below in
                let other : k + 1 ≢ 0 = apart_from_free in
                let pushed : contents blank (items_of nodes') (kept ++ i ∷ []) ≡ list_of (lists_of blank nodes ends) k ++ item ∷ [] =
                map-append (λ j. get_or (items_of nodes') j blank) kept (i ∷ [])
                ∙ (ap (λ (xs : List T). xs ++ get_or (items_of nodes') i blank ∷ []) (elsewhere (k + 1) other has ∙ sym (list_is blank nodes linked k has))
                ∙ ap (λ (y : T). list_of (lists_of blank nodes ends) k ++ y ∷ []) last) in
                rw free_rest
                (pool_then blank nodes linked nodes' push_move (λ j na nb lt. elsewhere j na lt)
                ∙ same_pool refl
                (drop_free_two all k (contents blank (items_of nodes') tail) (contents blank (items_of nodes') (kept ++ i ∷ []))
                ∙ ap (set (drop 1 all) k) pushed))

  -- two lists
  module _ (from to : ℕ) (has_from : from + 1 < length ends) (has_to : to + 1 < length ends) (two : from ≢ to)
      (back front : Ends) (read_back : back ≡ get_or ends (from + 1) back) (read_front : front ≡ get_or ends (to + 1) front) where
    back_is : back ≡ end_of ends (from + 1)
    back_is = get_or_read ends (from + 1) back has_from read_back no_ends

    front_end : front ≡ end_of ends (to + 1)
    front_end = get_or_read ends (to + 1) front has_to read_front no_ends

    two_ends : from + 1 ≢ to + 1
    two_ends q = two (omega (arith, q))

    pub can_append : CanJoin (links_of nodes) front back
    can_append = rw (back_is, front_end) (can_splice linked (to + 1) (from + 1) (λ q. two_ends (sym q)) has_to has_from (omega arith))

    module _ (nodes' : List (Node T)) (both : Ends) (items : items_of nodes' ≡ items_of nodes) (joined : IsJoined (links_of nodes) (links_of nodes') front back both)
        (last : EndsWith (nodes_from (links_of nodes) back) back.last → EndsWith (nodes_from (links_of nodes) front ++ nodes_from (links_of nodes) back) both.last) where
      append_move : Moves (links_of nodes) (links_of nodes') ends (from + 1) (to + 1) no_ends both []
          (nodes_from (links_of nodes) (end_of ends (to + 1)) ++ nodes_from (links_of nodes) (end_of ends (from + 1)))
      append_move = goes_behind linked (from + 1) (to + 1) two_ends has_from has_to (rw (back_is, front_end) at joined)
          (λ pos. (rw (back_is, front_end) at last) (linked.last (from + 1) (omega arith) has_from))

      pub append_keeps : IsLinked (links_of nodes') (set (set ends (from + 1) no_ends) (to + 1) both)
      append_keeps = moved linked append_move

      pub append_makes : lists_of blank nodes' (set (set ends (from + 1) no_ends) (to + 1) both)
          ≡ with_list (with_list (lists_of blank nodes ends) from []) to (list_of (lists_of blank nodes ends) to ++ list_of (lists_of blank nodes ends) from)
      append_makes =
          let a = nodes_from (links_of nodes) (end_of ends (to + 1)) in
          let b = nodes_from (links_of nodes) (end_of ends (from + 1)) in
          let all = map (contents blank (items_of nodes)) (chains (links_of nodes) ends) in
          let joined_items : contents blank (items_of nodes') (a ++ b) ≡ list_of (lists_of blank nodes ends) to ++ list_of (lists_of blank nodes ends) from =
          ap (λ (xs : List T). contents blank xs (a ++ b)) items
          ∙ (map-append (λ j. get_or (items_of nodes) j blank) a b
          ∙ (ap (λ (xs : List T). xs ++ contents blank (items_of nodes) b) (sym (list_is blank nodes linked to has_to))
          ∙ ap (λ (xs : List T). list_of (lists_of blank nodes ends) to ++ xs) (sym (list_is blank nodes linked from has_from)))) in
          pool_then blank nodes linked nodes' append_move (λ j na nb lt. ap (λ (xs : List T). contents blank xs (nodes_from (links_of nodes) (end_of ends j))) items)
          ∙ same_pool refl
          (drop_two all from to [] (contents blank (items_of nodes') (a ++ b)) ∙ ap (set (set (drop 1 all) from []) to) joined_items)
