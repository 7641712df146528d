-- The results of reading some small texts, computed by the definitions.
use Rattle.std.proofs.Common.{◌≡◌, ℕ, List, [], ◌∷◌, ◌++◌, refl}
use Rattle.std.specs.Prelude.{codes, pos, neg_ℤ, Ok, Err, Result}
use Rattle.auc_graph.specs.declared.number.Number.TheVariants.{Bad, Value, Huge}
use Rattle.auc_graph.specs.declared.read_error.ReadError.{ReadError}
use Rattle.auc_graph.specs.declared.read_error.ReadError.TheVariants.{Empty, BadNumber, CountRange, TooManyArcs, PersonRange, ObjectRange, CostRange, Cut, TooFewObjects}
use Rattle.auc_graph.specs.Tokens.{tokens, is_separator}
use Rattle.auc_graph.specs.Numbers.{number, numbers, numeral, magnitude, is_magnitude, split_sign}
use Rattle.auc_graph.specs.Problem.{Problem}
use Rattle.auc_graph.specs.Reading.{arc_of, problem, reading_on, step, step_at, finish, finish_at, reading}

abbrev square : ℕ → List Rattle.auc_graph.specs.declared.arc.Arc.Arc → Result Problem ReadError
square n arcs = Ok (problem n n arcs)

abbrev fault : ReadError → Result Problem ReadError
fault e = Err e

three_persons : reading 10000 100 0 (codes "3\n1 1 4 1 2 1 1 3 3\n2 1 2 2 2 0 2 3 5\n3 1 3 3 2 2 3 3 2\n")
    ≡ square 3 (arc_of 0 0 (pos 4) ∷ arc_of 0 1 (pos 1) ∷ arc_of 0 2 (pos 3) ∷ arc_of 1 0 (pos 2) ∷ arc_of 1 1 (pos 0) ∷ arc_of 1 2 (pos 5) ∷ arc_of 2 0 (pos 3) ∷ arc_of 2 1 (pos 2) ∷ arc_of 2 2 (pos 2) ∷ [])
unfolding tokens is_separator number numbers numeral magnitude is_magnitude split_sign reading_on step step_at finish finish_at
three_persons = refl

lenient_forms : reading 10000 100 0 (codes "+2\t1 1 003.0\r\n1 2 4 2\t1 4.\n2 2 -0" ++ 26 ∷ []) ≡ square 2 (arc_of 0 0 (pos 3) ∷ arc_of 0 1 (pos 4) ∷ arc_of 1 0 (pos 4) ∷ arc_of 1 1 (pos 0) ∷ [])
unfolding tokens is_separator number numbers numeral magnitude is_magnitude split_sign reading_on step step_at finish finish_at
lenient_forms = refl

listed_twice : reading 10000 100 0 (codes "1 1 1 4 1 1 2") ≡ square 1 (arc_of 0 0 (pos 4) ∷ arc_of 0 0 (pos 2) ∷ [])
unfolding tokens is_separator number numbers numeral magnitude is_magnitude split_sign reading_on step step_at finish finish_at
listed_twice = refl

no_arcs : reading 10000 0 0 (codes "1") ≡ square 1 []
unfolding tokens is_separator number numbers numeral magnitude is_magnitude split_sign reading_on step step_at finish finish_at
no_arcs = refl

empty : reading 10000 100 0 [] ≡ fault Empty
unfolding tokens is_separator number numbers numeral magnitude is_magnitude split_sign reading_on step step_at finish finish_at
empty = refl

no_persons : reading 10000 100 0 (codes "0") ≡ fault CountRange
unfolding tokens is_separator number numbers numeral magnitude is_magnitude split_sign reading_on step step_at finish finish_at
no_persons = refl

cut_inside : reading 10000 100 0 (codes "3 1 1") ≡ fault (Cut 3)
unfolding tokens is_separator number numbers numeral magnitude is_magnitude split_sign reading_on step step_at finish finish_at
cut_inside = refl

range_before_cut : reading 10000 100 0 (codes "2 1 3") ≡ fault (ObjectRange 0)
unfolding tokens is_separator number numbers numeral magnitude is_magnitude split_sign reading_on step step_at finish finish_at
range_before_cut = refl

first_in_text_order : reading 10000 100 0 (codes "2 1 3 4") ≡ fault (ObjectRange 0)
unfolding tokens is_separator number numbers numeral magnitude is_magnitude split_sign reading_on step step_at finish finish_at
first_in_text_order = refl

half_a_person : reading 10000 100 0 (codes "3.5") ≡ fault (BadNumber 0)
unfolding tokens is_separator number numbers numeral magnitude is_magnitude split_sign reading_on step step_at finish finish_at
half_a_person = refl

never_cut : reading 10000 100 0 (codes "99999999999999999999") ≡ fault CountRange
unfolding tokens is_separator number numbers numeral magnitude is_magnitude split_sign reading_on step step_at finish finish_at
never_cut = refl

too_dear : reading 10000 100 0 (codes "2 1 1 1000000001") ≡ fault (CostRange 0)
unfolding tokens is_separator number numbers numeral magnitude is_magnitude split_sign reading_on step step_at finish finish_at
too_dear = refl

unknown_person : reading 10000 100 0 (codes "1 1 1 1 2 1 1") ≡ fault (PersonRange 1)
unfolding tokens is_separator number numbers numeral magnitude is_magnitude split_sign reading_on step step_at finish finish_at
unknown_person = refl

one_too_many : reading 10000 1 0 (codes "1 1 1 4 x") ≡ fault TooManyArcs
unfolding tokens is_separator number numbers numeral magnitude is_magnitude split_sign reading_on step step_at finish finish_at
one_too_many = refl

-- ---- more objects than persons

one_object_more : reading 10000 100 2 (codes "1\n1 1 5\n1 2 3\n") ≡ Ok (problem 1 2 (arc_of 0 0 (pos 5) ∷ arc_of 0 1 (pos 3) ∷ []))
unfolding tokens is_separator number numbers numeral magnitude is_magnitude split_sign reading_on step step_at finish finish_at
one_object_more = refl

not_with_as_many : reading 10000 100 0 (codes "1\n1 1 5\n1 2 3\n") ≡ fault (ObjectRange 1)
unfolding tokens is_separator number numbers numeral magnitude is_magnitude split_sign reading_on step step_at finish finish_at
not_with_as_many = refl

too_few_objects : reading 10000 100 1 (codes "2 x") ≡ fault TooFewObjects
unfolding tokens is_separator number numbers numeral magnitude is_magnitude split_sign reading_on step step_at finish finish_at
too_few_objects = refl

count_before_objects : reading 10000 100 1 (codes "10001") ≡ fault CountRange
unfolding tokens is_separator number numbers numeral magnitude is_magnitude split_sign reading_on step step_at finish finish_at
count_before_objects = refl

above_all_objects : reading 10000 100 3 (codes "2 1 4") ≡ fault (ObjectRange 0)
unfolding tokens is_separator number numbers numeral magnitude is_magnitude split_sign reading_on step step_at finish finish_at
above_all_objects = refl

-- ---- single tokens

leading_zeros : number (codes "-00007.") ≡ Value (neg_ℤ (pos 7))
unfolding number numeral magnitude is_magnitude split_sign
leading_zeros = refl

largest : number (codes "1000000000000000000") ≡ Value (pos 1000000000000000000)
unfolding number numeral magnitude is_magnitude split_sign
largest = refl

above_largest : number (codes "+1000000000000000001.00") ≡ Huge
unfolding number numeral magnitude is_magnitude split_sign
above_largest = refl

no_digits : number (codes "-.0") ≡ Bad
unfolding number numeral magnitude is_magnitude split_sign
no_digits = refl

an_exponent : number (codes "1e3") ≡ Bad
unfolding number numeral magnitude is_magnitude split_sign
an_exponent = refl
