-- The content of a letter: its address, its price or answer, and its kind.
use Rattle.std.specs.Prelude.{ℕ, ◌==◌, ℤ, Bool, true, false, List, [], ◌∷◌, Option, Some, None, if◌then◌else◌}
use Rattle.auc_letters.specs.declared.letter.Letter.{Letter}
use Rattle.auc_letters.specs.declared.out.To.{To}
use Rattle.auc_letters.specs.declared.out.Out.{Out}
use Rattle.auc_model.specs.Places.{Answer}

abbrev pub same_to : To → To → Bool
same_to (To.Person s) (To.Person t) = s == t
same_to (To.Person s) (To.Object t) = false
same_to (To.Person s) To.Hub = false
same_to (To.Object s) (To.Object t) = s == t
same_to (To.Object s) (To.Person t) = false
same_to (To.Object s) To.Hub = false
same_to To.Hub To.Hub = true
same_to To.Hub (To.Person t) = false
same_to To.Hub (To.Object t) = false

-- the letters of an outbox to this address, in order
abbrev pub letters_to : To → List Out → List Letter
letters_to t [] = []
letters_to t (o ∷ os) = if same_to t o.to then o.letter ∷ letters_to t os else letters_to t os

-- the object and the price that a letter brings to a shard of the persons
abbrev pub told_price : Letter → Option (ℕ × ℤ)
told_price (Letter.Award i j p) = Some (j, p)
told_price (Letter.Refused i j p) = Some (j, p)
told_price (Letter.Outbid i j p) = Some (j, p)
told_price (Letter.Price j p) = Some (j, p)
told_price (Letter.Bid i a j p) = None
told_price (Letter.First j) = None
told_price (Letter.Stop y) = None

-- the answer that a letter brings to a person about an object, with its price
abbrev pub told_answer : Letter → Option (Answer × ℕ × ℕ × ℤ)
told_answer (Letter.Award i j p) = Some (Answer.Award, i, j, p)
told_answer (Letter.Refused i j p) = Some (Answer.Refused, i, j, p)
told_answer (Letter.Outbid i j p) = Some (Answer.Outbid, i, j, p)
told_answer (Letter.Price j p) = None
told_answer (Letter.Bid i a j p) = None
told_answer (Letter.First j) = None
told_answer (Letter.Stop y) = None

-- 1 for a letter of the kind, and 0 for any other
abbrev pub bid_one : Letter → ℕ
bid_one (Letter.Bid i a j p) = 1
bid_one (Letter.Award i j p) = 0
bid_one (Letter.Refused i j p) = 0
bid_one (Letter.Outbid i j p) = 0
bid_one (Letter.Price j p) = 0
bid_one (Letter.First j) = 0
bid_one (Letter.Stop y) = 0

abbrev pub award_one : Letter → ℕ
award_one (Letter.Bid i a j p) = 0
award_one (Letter.Award i j p) = 1
award_one (Letter.Refused i j p) = 0
award_one (Letter.Outbid i j p) = 0
award_one (Letter.Price j p) = 0
award_one (Letter.First j) = 0
award_one (Letter.Stop y) = 0

abbrev pub refused_one : Letter → ℕ
refused_one (Letter.Bid i a j p) = 0
refused_one (Letter.Award i j p) = 0
refused_one (Letter.Refused i j p) = 1
refused_one (Letter.Outbid i j p) = 0
refused_one (Letter.Price j p) = 0
refused_one (Letter.First j) = 0
refused_one (Letter.Stop y) = 0

abbrev pub outbid_one : Letter → ℕ
outbid_one (Letter.Bid i a j p) = 0
outbid_one (Letter.Award i j p) = 0
outbid_one (Letter.Refused i j p) = 0
outbid_one (Letter.Outbid i j p) = 1
outbid_one (Letter.Price j p) = 0
outbid_one (Letter.First j) = 0
outbid_one (Letter.Stop y) = 0

abbrev pub price_one : Letter → ℕ
price_one (Letter.Bid i a j p) = 0
price_one (Letter.Award i j p) = 0
price_one (Letter.Refused i j p) = 0
price_one (Letter.Outbid i j p) = 0
price_one (Letter.Price j p) = 1
price_one (Letter.First j) = 0
price_one (Letter.Stop y) = 0

abbrev pub first_one : Letter → ℕ
first_one (Letter.Bid i a j p) = 0
first_one (Letter.Award i j p) = 0
first_one (Letter.Refused i j p) = 0
first_one (Letter.Outbid i j p) = 0
first_one (Letter.Price j p) = 0
first_one (Letter.First j) = 1
first_one (Letter.Stop y) = 0

abbrev pub stop_one : Letter → ℕ
stop_one (Letter.Bid i a j p) = 0
stop_one (Letter.Award i j p) = 0
stop_one (Letter.Refused i j p) = 0
stop_one (Letter.Outbid i j p) = 0
stop_one (Letter.Price j p) = 0
stop_one (Letter.First j) = 0
stop_one (Letter.Stop y) = 1
