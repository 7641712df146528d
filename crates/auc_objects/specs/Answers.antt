-- The letters that answer a bid.
use Rattle.std.specs.Prelude.{List, [], ◌∷◌}
use Rattle.auc_letters.specs.declared.out.Out.{Out}
use Rattle.auc_objects.specs.declared.answers.Answers.{Answers}

-- the letters of an answer, in the order in which they are sent
abbrev pub letters_of : Answers → List Out
letters_of (Answers.Refused refused) = refused ∷ []
letters_of (Answers.First award first) = award ∷ first ∷ []
letters_of (Answers.Outbid outbid award) = outbid ∷ award ∷ []
