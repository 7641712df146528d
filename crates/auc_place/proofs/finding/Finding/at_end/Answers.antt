use Rattle.std.proofs.Common.{ℕ, List, [], subst}
use Rattle.std.proofs.lemmas.List.{append-nil}
use Rattle.auc_place.specs.Places.{IsPlaceOf}
use Rattle.auc_place.specs.Search.{IsFinding}
use Rattle.auc_place.proofs.PlaceLaws.{place_at_end}
use Rattle.auc_place.proofs.finding.Finding.at_end.Goals as goal

pub returns-in-Within : goal.returns-in-Within
returns-in-Within c = λ number seen found. place_at_end number seen c.in-Within.place (subst (λ f. IsFinding number seen f) c.in-Within.is found).0

pub returns-in-Behind : goal.returns-in-Behind
returns-in-Behind c = λ number seen found. subst (λ (t : List ℕ). IsPlaceOf t number c.in-Behind.place) (append-nil seen) (subst (λ f. IsFinding number seen f) c.in-Behind.is found [])
