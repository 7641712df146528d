-- Linked lists of nodes: where each begins, and the link of each node to the next.
use Rattle.std.specs.Prelude.{◌≡◌, ℕ, zero, suc, ◌+◌, ◌<◌, ◌≤◌, ◌^◌, ◌==◌, if◌then◌else◌, List, [], ◌∷◌, ◌++◌, length, slice_index_or, map, count_by}
use Rattle.auc_nodes.specs.declared.links.Node.{Node}
use Rattle.auc_nodes.specs.declared.links.Ends.{Ends}

-- the ends of an empty list
abbrev pub no_ends : Ends
no_ends = record { first = 0; last = 0; len = 0 }

abbrev pub end_of : List Ends → ℕ → Ends
end_of ends k = slice_index_or ends k no_ends

abbrev pub links_of : {T : Type 0} → List (Node T) → List ℕ
links_of nodes = map (λ n. n.next) nodes

abbrev pub items_of : {T : Type 0} → List (Node T) → List T
items_of nodes = map (λ n. n.item) nodes

-- n nodes from this one on, along the links
abbrev pub chain : List ℕ → ℕ → ℕ → List ℕ
chain links at zero = []
chain links at (suc n) = at ∷ chain links (slice_index_or links at 0) n

-- the nodes of a list, in order
abbrev pub nodes_from : List ℕ → Ends → List ℕ
nodes_from links e = chain links e.first e.len

-- the ends of a list of one node
abbrev pub single : ℕ → Ends
single node = record { first = node; last = node; len = 1 }

-- the ends of a list after one more node at its end
abbrev pub behind : Ends → ℕ → Ends
behind e node = record { first = if e.len == 0 then node else e.first; last = node; len = e.len + 1 }

-- the nodes, with a new one at the end that has this item and no next node
abbrev pub grown : {T : Type 0} → List (Node T) → T → List (Node T)
grown nodes item = nodes ++ record { item = item; next = 0 } ∷ []

-- the number of times that the node occurs in the list
abbrev pub times : ℕ → List ℕ → ℕ
times i xs = count_by (λ j. j == i) xs

-- the list is empty or ends with this node
abbrev pub EndsWith : List ℕ → ℕ → Type 0
EndsWith [] last = Unit {0}
EndsWith (i ∷ []) last = i ≡ last
EndsWith (i ∷ j ∷ is) last = EndsWith (j ∷ is) last

-- two lists of nodes that can be joined: they have no node in common, and none of them twice
pub record CanJoin (links : List ℕ) (front back : Ends) : Type 0 where
  pub fits : front.len + back.len < 2 ^ 32
  pub front_last : EndsWith (nodes_from links front) front.last
  pub once : (i : ℕ) → times i (nodes_from links front) + times i (nodes_from links back) ≤ 1
  pub within : (i : ℕ) → 0 < times i (nodes_from links front) → i < length links

-- both lists are joined into one, and all other lists stay
pub record IsJoined (links links' : List ℕ) (front back both : Ends) : Type 0 where
  pub size : length links' ≡ length links
  pub nodes : nodes_from links' both ≡ nodes_from links front ++ nodes_from links back
  pub others : (e : Ends) → ((i : ℕ) → 0 < times i (nodes_from links front) → times i (nodes_from links e) ≡ 0)
      → nodes_from links' e ≡ nodes_from links e
