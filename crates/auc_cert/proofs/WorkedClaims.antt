-- The spelling of some small certificates, and the verdicts on them, computed by the definitions.
use Rattle.std.proofs.Common.{◌≡◌, ℕ, [], ◌∷◌, Some, None, refl}
use Rattle.std.specs.Prelude.{◌^◌, codes, pos, neg_ℤ, ℤ}
use Rattle.std.specs.Fmt.{digits}
use Rattle.auc_graph.specs.declared.arc.Arc.{Arc}
use Rattle.auc_graph.specs.Problem.{Problem}
use Rattle.auc_claim.specs.declared.lists.Pick.{Pick}
use Rattle.auc_claim.specs.declared.cert.CertParts.{CertParts}
use Rattle.auc_claim.specs.declared.cert.CertParts.TheVariants.{Optimal, Infeasible, Bracket}
use Rattle.auc_claim.specs.declared.reason.Reason.TheVariants.{Bids, Mail}
use Rattle.auc_claim.specs.declared.refused.CertRefused.TheVariants.{WrongSize, NoSuchArc, ObjectTwice, WrongCost, Slack, LeftOver, NotHall, WrongBound}
use Rattle.auc_cert.specs.declared.form.Form.TheVariants.{Large}
use Rattle.auc_cert.specs.Text.{text, text_in}
use Rattle.auc_claim.specs.Claim.{fault_of}

abbrev arc : ℕ → ℕ → ℤ → Arc
arc person object cost = record { person = person; object = object; cost = cost }

abbrev pick : ℕ → ℤ → Pick
pick object cost = record { object = object; cost = cost }

abbrev three_persons : Problem
three_persons = record {
  persons = 3;
  objects = 3;
  arcs = arc 0 0 (pos 4) ∷ arc 0 1 (pos 1) ∷ arc 0 2 (pos 3) ∷ arc 1 0 (pos 2) ∷ arc 1 1 (pos 0) ∷ arc 1 2 (pos 5) ∷ arc 2 0 (pos 3) ∷ arc 2 1 (pos 2) ∷ arc 2 2 (pos 2) ∷ [];
}

abbrev two_persons : Problem
two_persons = record { persons = 2; objects = 2; arcs = arc 0 0 (pos 1) ∷ arc 0 1 (pos 2) ∷ arc 1 0 (pos 1) ∷ arc 1 1 (pos 3) ∷ [] }

-- the least assignment of the three persons, with this price of the second object
abbrev best_at : ℤ → CertParts
best_at price = Optimal (pos 5) (pick 1 (pos 1) ∷ pick 0 (pos 2) ∷ pick 2 (pos 2) ∷ []) (pos 0 ∷ price ∷ pos 0 ∷ [])

spelled : text (best_at (pos 8)) ≡ codes "auction 1\noptimal 3 5\nassign 1 2 1\nassign 2 1 2\nassign 3 3 2\nprice 1 0\nprice 2 8\nprice 3 0\n"
unfolding digits
spelled = refl

spelled_below_zero : text (Optimal (neg_ℤ (pos 7)) (pick 0 (neg_ℤ (pos 7)) ∷ []) (pos 1 ∷ [])) ≡ codes "auction 1\noptimal 1 -7\nassign 1 1 -7\nprice 1 1\n"
unfolding digits
spelled_below_zero = refl

valid : fault_of three_persons (best_at (pos 8)) ≡ None
valid = refl

just_valid : fault_of three_persons (best_at (pos 7)) ≡ None
just_valid = refl

second_person_has_better : fault_of three_persons (best_at (pos 6)) ≡ Some (Slack 1)
second_person_has_better = refl

first_person_has_better : fault_of three_persons (best_at (pos 10)) ≡ Some (Slack 0)
first_person_has_better = refl

not_least : fault_of three_persons (Optimal (pos 6) (pick 0 (pos 4) ∷ pick 1 (pos 0) ∷ pick 2 (pos 2) ∷ []) (pos 0 ∷ pos 8 ∷ pos 0 ∷ [])) ≡ Some (Slack 0)
not_least = refl

wrong_size : fault_of two_persons (Optimal (neg_ℤ (pos 7)) (pick 0 (neg_ℤ (pos 7)) ∷ []) (pos 1 ∷ [])) ≡ Some WrongSize
wrong_size = refl

no_such_arc : fault_of two_persons (Optimal (pos 3) (pick 1 (pos 9) ∷ pick 0 (pos 1) ∷ []) (pos 7 ∷ pos 5 ∷ [])) ≡ Some (NoSuchArc 0)
no_such_arc = refl

object_twice : fault_of two_persons (Optimal (pos 3) (pick 0 (pos 1) ∷ pick 0 (pos 1) ∷ []) (pos 7 ∷ pos 5 ∷ [])) ≡ Some (ObjectTwice 0)
object_twice = refl

wrong_cost : fault_of two_persons (Optimal (pos 4) (pick 1 (pos 2) ∷ pick 0 (pos 1) ∷ []) (pos 7 ∷ pos 5 ∷ [])) ≡ Some WrongCost
wrong_cost = refl

-- two persons with an arc to the first object alone
abbrev one_object : Problem
one_object = record { persons = 2; objects = 2; arcs = arc 0 0 (pos 5) ∷ arc 1 0 (pos 7) ∷ [] }

hall_set_spelled : text (Infeasible (0 ∷ 1 ∷ []) (0 ∷ [])) ≡ codes "auction 1\ninfeasible 2 1\nperson 1\nperson 2\nobject 1\n"
unfolding digits
hall_set_spelled = refl

no_objects_spelled : text (Infeasible (1 ∷ []) []) ≡ codes "auction 1\ninfeasible 1 0\nperson 2\n"
unfolding digits
no_objects_spelled = refl

both_persons : fault_of one_object (Infeasible (0 ∷ 1 ∷ []) (0 ∷ [])) ≡ None
both_persons = refl

an_object_left_out : fault_of one_object (Infeasible (1 ∷ []) []) ≡ Some NotHall
an_object_left_out = refl

as_many_objects : fault_of one_object (Infeasible (0 ∷ 1 ∷ []) (0 ∷ 1 ∷ [])) ≡ Some NotHall
as_many_objects = refl

no_such_person : fault_of one_object (Infeasible (1 ∷ 2 ∷ []) (0 ∷ [])) ≡ Some NotHall
no_such_person = refl

no_such_object : fault_of one_object (Infeasible (0 ∷ 1 ∷ []) (2 ∷ [])) ≡ Some NotHall
no_such_object = refl

-- person 1 takes object 1 and person 2 object 2: with this lower bound, at this price of the first object
abbrev bracket_at : ℤ → ℤ → CertParts
bracket_at lower price = Bracket Bids lower (pos 4) (pick 0 (pos 1) ∷ pick 1 (pos 3) ∷ []) (price ∷ pos 0 ∷ [])

bracket_spelled : text (bracket_at (pos 3) (pos 4)) ≡ codes "auction 1\nbracket bids 2 3 4\nassign 1 1 1\nassign 2 2 3\nprice 1 4\nprice 2 0\n"
unfolding digits
bracket_spelled = refl

bracket_below_zero : text (Bracket Mail (neg_ℤ (pos (2 ^ 63))) (pos 0) (pick 0 (pos 0) ∷ []) (pos 0 ∷ [])) ≡ codes "auction 1\nbracket mail 1 -9223372036854775808 0\nassign 1 1 0\nprice 1 0\n"
unfolding digits
bracket_below_zero = refl

-- the least values of arcs are 6 and 7, so the dual bound is 9, thrice the lower bound
bracket_valid : fault_of two_persons (bracket_at (pos 3) (pos 4)) ≡ None
bracket_valid = refl

bound_too_high : fault_of two_persons (bracket_at (pos 4) (pos 4)) ≡ Some WrongBound
bound_too_high = refl

-- though no assignment costs less
bound_too_low : fault_of two_persons (bracket_at (pos 2) (pos 4)) ≡ Some WrongBound
bound_too_low = refl

-- the least values are 6 and 9, so the dual bound is -5, and -5 thirds rounded up are -1
bound_rounded_up : fault_of two_persons (bracket_at (neg_ℤ (pos 1)) (pos 20)) ≡ None
bound_rounded_up = refl

bound_rounded_down : fault_of two_persons (bracket_at (neg_ℤ (pos 2)) (pos 20)) ≡ Some WrongBound
bound_rounded_down = refl

cost_before_bound : fault_of two_persons (Bracket Bids (pos 4) (pos 5) (pick 0 (pos 1) ∷ pick 1 (pos 3) ∷ []) (pos 4 ∷ pos 0 ∷ [])) ≡ Some WrongCost
cost_before_bound = refl

-- ---- more objects than persons

-- one person with arcs to two objects, and the certificate that assigns the second one at these prices
abbrev one_person : Problem
one_person = record { persons = 1; objects = 2; arcs = arc 0 0 (pos 5) ∷ arc 0 1 (pos 3) ∷ [] }

abbrev second_at : ℤ → ℤ → CertParts
second_at first second = Optimal (pos 3) (pick 1 (pos 3) ∷ []) (first ∷ second ∷ [])

more_prices_spelled : text (second_at (pos 0) (pos 5)) ≡ codes "auction 2\noptimal 1 2 3\nassign 1 2 3\nprice 1 0\nprice 2 5\n"
unfolding digits
more_prices_spelled = refl

second_valid : fault_of one_person (second_at (pos 0) (pos 5)) ≡ None
second_valid = refl

-- 11 is at most 13
first_left_over : fault_of one_person (second_at (pos 2) (pos 5)) ≡ Some (LeftOver 0)
first_left_over = refl

-- 12 is above 11
first_better : fault_of one_person (second_at (pos 0) (pos 6)) ≡ Some (Slack 0)
first_better = refl

too_few_prices : fault_of one_person (Optimal (pos 3) (pick 1 (pos 3) ∷ []) (pos 0 ∷ [])) ≡ Some WrongSize
too_few_prices = refl

-- the two persons with an object more: the least values are 6 and 7 again
abbrev one_object_more : Problem
one_object_more = record { persons = 2; objects = 3; arcs = two_persons.arcs }

wide_bracket_spelled : text (Bracket Bids (pos 3) (pos 4) (pick 0 (pos 1) ∷ pick 1 (pos 3) ∷ []) (pos 4 ∷ pos 0 ∷ pos 0 ∷ [])) ≡ codes "auction 2\nbracket bids 2 3 3 4\nassign 1 1 1\nassign 2 2 3\nprice 1 4\nprice 2 0\nprice 3 0\n"
unfolding digits
wide_bracket_spelled = refl

wide_bracket_valid : fault_of one_object_more (Bracket Bids (pos 3) (pos 4) (pick 0 (pos 1) ∷ pick 1 (pos 3) ∷ []) (pos 4 ∷ pos 0 ∷ pos 0 ∷ [])) ≡ None
wide_bracket_valid = refl

far_object_spelled : text (Infeasible (0 ∷ 1 ∷ []) (14999 ∷ [])) ≡ codes "auction 2\ninfeasible 2 1\nperson 1\nperson 2\nobject 15000\n"
unfolding digits
far_object_spelled = refl

near_object_spelled : text (Infeasible (0 ∷ 1 ∷ []) (9999 ∷ [])) ≡ codes "auction 1\ninfeasible 2 1\nperson 1\nperson 2\nobject 10000\n"
unfolding digits
near_object_spelled = refl

-- version 3 is for the names that the others can't spell
large_person_spelled : text (Infeasible (7 ∷ 10000 ∷ []) (9 ∷ [])) ≡ codes "auction 3\ninfeasible 2 1\nperson 8\nperson 10001\nobject 10\n"
unfolding digits
large_person_spelled = refl

large_object_spelled : text (Infeasible (0 ∷ []) (20000 ∷ [])) ≡ codes "auction 3\ninfeasible 1 1\nperson 1\nobject 20001\n"
unfolding digits
large_object_spelled = refl

-- and has a text of others too
small_in_version_3 : text_in Large (Optimal (neg_ℤ (pos 7)) (pick 0 (neg_ℤ (pos 7)) ∷ []) (pos 1 ∷ [])) ≡ codes "auction 3\noptimal 1 1 -7\nassign 1 1 -7\nprice 1 1\n"
unfolding digits
small_in_version_3 = refl

small_bracket_in_version_3 : text_in Large (Bracket Mail (pos 3) (pos 4) (pick 0 (pos 1) ∷ pick 1 (pos 3) ∷ []) (pos 4 ∷ pos 0 ∷ [])) ≡ codes "auction 3\nbracket mail 2 2 3 4\nassign 1 1 1\nassign 2 2 3\nprice 1 4\nprice 2 0\n"
unfolding digits
small_bracket_in_version_3 = refl
