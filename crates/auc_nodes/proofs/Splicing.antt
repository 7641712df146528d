-- The moves of a pool: two lists are joined, or the first node of one goes to another.
use Rattle.std.proofs.Common.{◌≡◌, ◌≢◌, ℕ, ◌+◌, ◌<◌, List, [], ◌++◌, length, refl, ap, ◌∙◌, arith, length-append}
use Rattle.auc_nodes.specs.Links.{end_of, no_ends, nodes_from, single, times, EndsWith, CanJoin, IsJoined}
use Rattle.auc_nodes.specs.Pool.{IsLinked}
use Rattle.auc_nodes.specs.declared.links.Ends.{Ends}
use Rattle.auc_nodes.proofs.Chains.{times_one, times-append}
use Rattle.auc_nodes.proofs.Linked.{apart, alone, within, two_lens, front_is, front_times, rest_last, rest_of}
use Rattle.auc_nodes.proofs.Moving.{Moves}

module _ {links : List ℕ} {ends : List Ends} (linked : IsLinked links ends) (a b : ℕ) (two : a ≢ b) (la : a < length ends) (lb : b < length ends) where
  -- two whole lists
  pub can_splice : 0 < a → CanJoin links (end_of ends a) (end_of ends b)
  can_splice pos = record {
    fits = omega (arith, two_lens linked a b two la lb, linked.nodes_fit);
    front_last = linked.last a pos la;
    once = λ i. apart linked a b i two la lb;
    within = λ i some. within linked a i la some;
  }

  module _ {links' : List ℕ} {both : Ends} where
    -- a has gone in front of b
    pub goes_in_front : IsJoined links links' (end_of ends a) (end_of ends b) both → (0 < b → EndsWith (nodes_from links (end_of ends a) ++ nodes_from links (end_of ends b)) both.last)
        → Moves links links' ends a b no_ends both [] (nodes_from links (end_of ends a) ++ nodes_from links (end_of ends b))
    goes_in_front j last = record {
      a_within = la;
      b_within = lb;
      two = two;
      size = j.size;
      a_nodes = refl;
      b_nodes = j.nodes;
      a_last = λ pos. tt;
      b_last = last;
      same = λ i. omega (arith, times-append i (nodes_from links (end_of ends a)) (nodes_from links (end_of ends b)));
      total = omega (arith, length-append (nodes_from links (end_of ends a)) (nodes_from links (end_of ends b)));
      others = λ e far. j.others e (λ i some. far i (omega (arith, some)));
    }

    -- a has gone after b
    pub goes_behind : IsJoined links links' (end_of ends b) (end_of ends a) both → (0 < b → EndsWith (nodes_from links (end_of ends b) ++ nodes_from links (end_of ends a)) both.last)
        → Moves links links' ends a b no_ends both [] (nodes_from links (end_of ends b) ++ nodes_from links (end_of ends a))
    goes_behind j last = record {
      a_within = la;
      b_within = lb;
      two = two;
      size = j.size;
      a_nodes = refl;
      b_nodes = j.nodes;
      a_last = λ pos. tt;
      b_last = last;
      same = λ i. omega (arith, times-append i (nodes_from links (end_of ends b)) (nodes_from links (end_of ends a)));
      total = omega (arith, length-append (nodes_from links (end_of ends b)) (nodes_from links (end_of ends a)));
      others = λ e far. j.others e (λ i some. far i (omega (arith, some)));
    }

  -- a has a node
  module _ (some : 0 < (end_of ends a).len) where
    rest : List ℕ
    rest = nodes_from links (rest_of links (end_of ends a))

    one : List ℕ
    one = nodes_from links (single (end_of ends a).first)

    -- its first node is in no other list
    pub first_apart : times (end_of ends a).first (nodes_from links (end_of ends b)) ≡ 0
    first_apart =
        let i = (end_of ends a).first in
        omega (arith, times_one i, front_times linked a la some i, apart linked a b i two la lb)

    pub can_add_first : 0 < b → CanJoin links (end_of ends b) (single (end_of ends a).first)
    can_add_first pos = record {
      fits = omega (arith, two_lens linked a b two la lb, linked.nodes_fit);
      front_last = linked.last b pos lb;
      once = λ i. omega (arith, front_times linked a la some i, apart linked a b i two la lb);
      within = λ i s. within linked b i lb s;
    }

    first_total : length (nodes_from links (end_of ends a)) ≡ length (nodes_from links (single (end_of ends a).first)) + length (nodes_from links (rest_of links (end_of ends a)))
    first_total = ap (λ (c : List ℕ). length c) (front_is linked a la some) ∙ omega arith

    module _ {links' : List ℕ} {both : Ends} where
      -- the first node of a has gone in front of b
      pub first_in_front : IsJoined links links' (single (end_of ends a).first) (end_of ends b) both
          → (0 < b → EndsWith (nodes_from links (single (end_of ends a).first) ++ nodes_from links (end_of ends b)) both.last)
          → Moves links links' ends a b (rest_of links (end_of ends a)) both (nodes_from links (rest_of links (end_of ends a)))
          (nodes_from links (single (end_of ends a).first) ++ nodes_from links (end_of ends b))
      first_in_front j last =
          let e = rest_of links (end_of ends a) in
          let single_nodes = nodes_from links (single (end_of ends a).first) in
          record {
            a_within = la;
            b_within = lb;
            two = two;
            size = j.size;
            a_nodes = j.others e (λ i s. omega (arith, s, front_times linked a la some i, alone linked a i la));
            b_nodes = j.nodes;
            a_last = rest_last linked a la some;
            b_last = last;
            same = λ i. omega (arith, times-append i single_nodes (nodes_from links (end_of ends b)), front_times linked a la some i);
            total = omega (arith, length-append single_nodes (nodes_from links (end_of ends b)), first_total);
            others = λ o far. j.others o (λ i s. far i (omega (arith, s, front_times linked a la some i)));
          }

      -- the first node of a has gone after b
      pub first_behind : IsJoined links links' (end_of ends b) (single (end_of ends a).first) both
          → (0 < b → EndsWith (nodes_from links (end_of ends b) ++ nodes_from links (single (end_of ends a).first)) both.last)
          → Moves links links' ends a b (rest_of links (end_of ends a)) both (nodes_from links (rest_of links (end_of ends a)))
          (nodes_from links (end_of ends b) ++ nodes_from links (single (end_of ends a).first))
      first_behind j last =
          let e = rest_of links (end_of ends a) in
          let single_nodes = nodes_from links (single (end_of ends a).first) in
          record {
            a_within = la;
            b_within = lb;
            two = two;
            size = j.size;
            a_nodes = j.others e (λ i s. omega (arith, s, front_times linked a la some i, apart linked a b i two la lb));
            b_nodes = j.nodes;
            a_last = rest_last linked a la some;
            b_last = last;
            same = λ i. omega (arith, times-append i (nodes_from links (end_of ends b)) single_nodes, front_times linked a la some i);
            total = omega (arith, length-append (nodes_from links (end_of ends b)) single_nodes, first_total);
            others = λ o far. j.others o (λ i s. far i (omega (arith, s)));
          }
