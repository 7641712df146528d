-- Lines of words that the grammar does not take, computed through it. No proof needs them, so none waits for them.
use Rattle.std.proofs.Common.{◌≡◌, [], ◌∷◌, codes, refl}
use Rattle.clap.specs.Words.{fault_of}
use Rattle.clap.specs.declared.error.kind.ErrorKind.TheVariants.{ArgumentConflict, InvalidValue, UnknownArgument}
use Rattle.clap.proofs.OnLiterals.{clap_on_literals}
use Rattle.auction.specs.Grammar.{grammar}

-- the option twice, without a value, and of another command; help
twice : fault_of grammar (codes "solve" ∷ codes "--bids=1" ∷ codes "--bids" ∷ codes "2" ∷ []) ≡ ArgumentConflict ∷ []
unfolding clap_on_literals
twice = refl

twice_in_a_check : fault_of grammar (codes "check" ∷ codes "--objects=3" ∷ codes "problem" ∷ codes "--objects=3" ∷ []) ≡ ArgumentConflict ∷ []
unfolding clap_on_literals
twice_in_a_check = refl

without_value : fault_of grammar (codes "solve" ∷ codes "problem" ∷ codes "--from" ∷ []) ≡ InvalidValue ∷ []
unfolding clap_on_literals
without_value = refl

of_another : fault_of grammar (codes "hall" ∷ codes "--from=old" ∷ []) ≡ UnknownArgument ∷ []
unfolding clap_on_literals
of_another = refl

help : fault_of grammar (codes "solve" ∷ codes "--help" ∷ []) ≡ UnknownArgument ∷ []
unfolding clap_on_literals
help = refl
