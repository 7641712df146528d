-- The reason for which a phase ends where a letter has a fault.
use Rattle.auc_letters.specs.declared.letter.Why.{Why}
use Rattle.auc_persons.specs.declared.bidding.PersonFault.{PersonFault}

abbrev pub reason_for : PersonFault → Why
reason_for PersonFault.Stray = Why.Stray
reason_for PersonFault.Fell = Why.Fell
