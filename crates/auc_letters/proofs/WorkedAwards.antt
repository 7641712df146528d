-- Bids on one object, computed by the definitions: the first, one too low, one high enough; and all of them among
-- letters.
use Rattle.std.proofs.Common.{◌≡◌, ℕ, [], ◌∷◌, Some, None, List, refl}
use Rattle.std.specs.Prelude.{ℤ, pos, negsuc}
use Rattle.auc_letters.specs.declared.letter.Letter.{Letter}
use Rattle.auc_letters.specs.declared.letter.Bid.{Bid}
use Rattle.auc_letters.specs.declared.out.To.{To}
use Rattle.auc_letters.specs.declared.out.Out.{Out}
use Rattle.auc_letters.specs.Award.{Sale, answers, award, award_all, bids_on}

abbrev unsold : Sale
unsold = record { price = pos 0; holder = None }

-- a bid for the object 5
abbrev bid : ℕ → ℕ → ℤ → Bid
bid i a amount = record { person = i; arc = a; object = 5; amount = amount }

abbrev letter_to : ℕ → Letter → Out
letter_to shard letter = record { letter = letter; to = To.Person shard; reserve = 0 }

abbrev sold_once : Sale
sold_once = award (pos 1) unsold (bid 0 10 (pos 4))

first : sold_once ≡ record { price = pos 4; holder = Some (record { person = 0; arc = 10 }) }
first = refl

first_letters : answers 2 (pos 1) unsold (bid 0 10 (pos 4)) ≡ letter_to 0 (Letter.Award 0 5 (pos 4)) ∷ record { letter = Letter.First 5; to = To.Hub; reserve = 0 } ∷ []
first_letters = refl

too_low : award (pos 1) sold_once (bid 1 11 (pos 4)) ≡ sold_once
too_low = refl

too_low_letters : answers 2 (pos 1) sold_once (bid 1 11 (pos 4)) ≡ letter_to 1 (Letter.Refused 1 5 (pos 4)) ∷ []
too_low_letters = refl

high_enough : award (pos 1) sold_once (bid 1 11 (pos 5)) ≡ record { price = pos 5; holder = Some (record { person = 1; arc = 11 }) }
high_enough = refl

outbid_letters : answers 2 (pos 1) sold_once (bid 1 11 (pos 5)) ≡ letter_to 0 (Letter.Outbid 0 5 (pos 5)) ∷ letter_to 1 (Letter.Award 1 5 (pos 5)) ∷ []
outbid_letters = refl

-- other objects, other letters and amounts out of range are no bids on the object
abbrev heard : List Letter
heard = Letter.Bid 0 10 5 (pos 4) ∷ Letter.Bid 2 20 6 (pos 9) ∷ Letter.First 5 ∷ Letter.Bid 1 11 5 (negsuc 0) ∷ Letter.Bid 1 11 5 (pos 7) ∷ []

among_letters : bids_on 5 heard ≡ bid 0 10 (pos 4) ∷ bid 1 11 (pos 7) ∷ []
among_letters = refl

all_of_them : award_all (pos 1) unsold (bids_on 5 heard) ≡ record { price = pos 7; holder = Some (record { person = 1; arc = 11 }) }
all_of_them = refl
