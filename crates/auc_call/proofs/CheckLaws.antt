-- What a check comes to.
use Rattle.std.proofs.Common.{◌≡◌, ℕ, List, None, refl, ap, subst, ◌∙◌}
use Rattle.std.specs.Prelude.{ℤ, Result, Ok, Err}
use Rattle.auc_graph.specs.Problem.{Problem, IsProblem}
use Rattle.auc_claim.specs.declared.lists.Pick.{Pick}
use Rattle.auc_claim.specs.declared.cert.CertParts.{CertParts}
use Rattle.auc_claim.specs.Claim.{IsAllowed, chosen, fault_of}
use Rattle.auc_claim.specs.InRange.{IsInRange}
use Rattle.auc_call.specs.declared.checked.Checked.{Checked}
use Rattle.auc_call.specs.declared.checked.Checked.TheVariants.{Valid, Invalid}
use Rattle.auc_call.specs.declared.checked.ClaimFault.TheVariants.{Misplaced, OutOfRange, Refused}
use Rattle.auc_call.specs.declared.solved.Failed.{Failed}
use Rattle.auc_call.specs.declared.solved.Failed.TheVariants.{Sizes, Fault, Start, NoMemory}
use Rattle.auc_call.specs.Memory.{AreAt}
use Rattle.auc_call.specs.Shown.{IsLeastAt}
use Rattle.auc_call.specs.Checking.{AreClaimSizes, Checks, ChecksHall, Told}

-- a claim that has passed
least_at : (p : Problem) (places : List ℕ) (prices : List ℤ) (cost : ℤ) (picks : List Pick) → IsProblem p → AreAt p.arcs places (chosen 0 picks) → IsInRange (CertParts.Optimal cost picks prices) → IsAllowed p (CertParts.Optimal cost picks prices) → fault_of p (CertParts.Optimal cost picks prices) ≡ None → IsLeastAt p places prices cost
least_at p places prices cost picks is at in_range allowed none = record { problem = is; picks = picks; at = at; least = allowed.0; cost_is = allowed.1; in_range = in_range; shown = none }

-- what the checker says of the parts is said of the claim
told_checks : (p : Problem) (places : List ℕ) (prices : List ℤ) (cost : ℤ) (picks : List Pick) (r : Result Checked Failed) → IsProblem p → AreClaimSizes p places prices → AreAt p.arcs places (chosen 0 picks) → IsInRange (CertParts.Optimal cost picks prices)
    → Told (fault_of p (CertParts.Optimal cost picks prices)) r → (r ≡ Ok Valid → IsAllowed p (CertParts.Optimal cost picks prices)) → Checks p places prices cost r
told_checks p places prices cost picks (Ok Valid) is sizes at in_range told allowed = least_at p places prices cost picks is at in_range (allowed refl) told
told_checks p places prices cost picks (Ok (Invalid (Misplaced person))) is sizes at in_range told allowed = absurd told
told_checks p places prices cost picks (Ok (Invalid OutOfRange)) is sizes at in_range told allowed = absurd told
told_checks p places prices cost picks (Ok (Invalid (Refused fault))) is sizes at in_range told allowed = (sizes, record { picks = picks; at = at; has = told })
told_checks p places prices cost picks (Err Sizes) is sizes at in_range told allowed = absurd told
told_checks p places prices cost picks (Err (Fault fault)) is sizes at in_range told allowed = absurd told
told_checks p places prices cost picks (Err (Start fault)) is sizes at in_range told allowed = absurd told
told_checks p places prices cost picks (Err NoMemory) is sizes at in_range told allowed = sizes

told_checks_hall : (p : Problem) (persons objects : List ℕ) (r : Result Checked Failed) → IsProblem p → Told (fault_of p (CertParts.Infeasible persons objects)) r → (r ≡ Ok Valid → IsAllowed p (CertParts.Infeasible persons objects)) → ChecksHall p persons objects r
told_checks_hall p persons objects (Ok Valid) is told allowed = (is, allowed refl)
told_checks_hall p persons objects (Ok (Invalid (Misplaced person))) is told allowed = absurd told
told_checks_hall p persons objects (Ok (Invalid OutOfRange)) is told allowed = absurd told
told_checks_hall p persons objects (Ok (Invalid (Refused fault))) is told allowed = told
told_checks_hall p persons objects (Err Sizes) is told allowed = absurd told
told_checks_hall p persons objects (Err (Fault fault)) is told allowed = absurd told
told_checks_hall p persons objects (Err (Start fault)) is told allowed = absurd told
told_checks_hall p persons objects (Err NoMemory) is told allowed = told

parts_of : (cost : ℤ) (given picks : List Pick) (shown prices : List ℤ) (cert : CertParts) → cert ≡ CertParts.Optimal cost given shown → given ≡ picks → shown ≡ prices → cert ≡ CertParts.Optimal cost picks prices
parts_of cost given picks shown prices cert parts picked priced = parts ∙ ap (λ (xs : List Pick). CertParts.Optimal cost xs shown) picked ∙ ap (λ (zs : List ℤ). CertParts.Optimal cost picks zs) priced

-- a claim whose parts are these, of a problem that is this one
pub checks : (p q : Problem) (places : List ℕ) (prices shown : List ℤ) (cost : ℤ) (picks given : List Pick) (cert : CertParts) (r : Result Checked Failed)
    → q ≡ p → IsProblem p → AreClaimSizes p places prices → AreAt p.arcs places (chosen 0 picks) → cert ≡ CertParts.Optimal cost given shown → given ≡ picks → shown ≡ prices → IsInRange (CertParts.Optimal cost given shown)
    → Told (fault_of q cert) r → (r ≡ Ok Valid → IsAllowed q cert) → Checks p places prices cost r
checks p q places prices shown cost picks given cert r same is sizes at parts picked priced in_range told allowed =
    let e = parts_of cost given picks shown prices cert parts picked priced in
    told_checks p places prices cost picks r is sizes at (subst IsInRange (parts_of cost given picks shown prices (CertParts.Optimal cost given shown) refl picked priced) in_range) (subst (λ (c : CertParts). Told (fault_of p c) r) e (subst (λ (x : Problem). Told (fault_of x cert) r) same told))
    (λ ok. subst (λ (c : CertParts). IsAllowed p c) e (subst (λ (x : Problem). IsAllowed x cert) same (allowed ok)))

hall_parts_of : (given persons known objects : List ℕ) (cert : CertParts) → cert ≡ CertParts.Infeasible given known → given ≡ persons → known ≡ objects → cert ≡ CertParts.Infeasible persons objects
hall_parts_of given persons known objects cert parts ps os = parts ∙ ap (λ (xs : List ℕ). CertParts.Infeasible xs known) ps ∙ ap (λ (xs : List ℕ). CertParts.Infeasible persons xs) os

pub checks_hall : (p q : Problem) (given persons known objects : List ℕ) (cert : CertParts) (r : Result Checked Failed)
    → q ≡ p → IsProblem p → cert ≡ CertParts.Infeasible given known → given ≡ persons → known ≡ objects → Told (fault_of q cert) r → (r ≡ Ok Valid → IsAllowed q cert) → ChecksHall p persons objects r
checks_hall p q given persons known objects cert r same is parts ps os told allowed =
    let e = hall_parts_of given persons known objects cert parts ps os in
    told_checks_hall p persons objects r is (subst (λ (c : CertParts). Told (fault_of p c) r) e (subst (λ (x : Problem). Told (fault_of x cert) r) same told))
    (λ ok. subst (λ (c : CertParts). IsAllowed p c) e (subst (λ (x : Problem). IsAllowed x cert) same (allowed ok)))
