-- What a search for a full assignment may find in a problem, the text that tells it, and which findings are right for
-- the bytes of a problem.
use Rattle.std.specs.Prelude.{ℕ, List, ◌++◌, ◌≤◌, length, codes, Option, Result, Ok, Err, ⊤}
use Rattle.auc_graph.specs.declared.limits.TheConstants.{MOST_PERSONS}
use Rattle.auc_graph.specs.Problem.{Problem}
use Rattle.auc_graph.specs.Assignment.{IsAssignment}
use Rattle.auc_cert.specs.Text.{text, assign_line, numbered, joined}
use Rattle.auc_claim.specs.Claim.{chosen}
use Rattle.auc_answers.specs.Answers.{IsHallCertificate}
use Rattle.auc_run.specs.declared.command.Sizes.{Sizes}
use Rattle.auc_run.specs.declared.found.Found.{Found}
use Rattle.auc_run.specs.declared.found.Found.TheVariants.{Full, Hall}
use Rattle.auc_run.specs.declared.refusal.Refusal.{Refusal}
use Rattle.auc_cert.specs.Writing.{counted}
use Rattle.auc_run.specs.Problems.{BearOutRefusal, HasFile, IsProblemOf}

abbrev pub IsFound : Problem → Found → Type 0
IsFound p (Full choice) = IsAssignment p (chosen 0 choice)
IsFound p (Hall cert) = IsHallCertificate p cert

-- the bytes of a problem bear out what was found, or the refusal
abbrev pub BearOutFound : Sizes → List ℕ → Result Found Refusal → Type 0
BearOutFound sizes file (Ok found) = (p : Problem) × IsProblemOf sizes file p × IsFound p found
BearOutFound sizes file (Err refusal) = BearOutRefusal sizes file refusal

-- what was found in the problem that a reader has
abbrev pub IsFoundIn : Sizes → Option (List ℕ) → Result Found Refusal → Type 0
IsFoundIn sizes reader found = HasFile reader (λ file. BearOutFound sizes file found)

-- no more picks than a problem can have persons
abbrev pub IsSmall : Found → Type 0
IsSmall (Full choice) = length choice ≤ MOST_PERSONS
IsSmall (Hall cert) = ⊤

abbrev pub found_text : Found → List ℕ
found_text (Full choice) = counted (codes "full ") (length choice) ++ joined (numbered assign_line 0 choice)
found_text (Hall cert) = text cert

-- 0 for a full assignment, 3 where there is none
abbrev pub found_status : Found → ℕ
found_status (Full choice) = 0
found_status (Hall cert) = 3
