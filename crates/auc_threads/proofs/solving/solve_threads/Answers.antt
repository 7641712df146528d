use Rattle.std.proofs.Common.{pos, ◌≡◌, ◌∙◌, None, ℕ, ap, rules, w64}
use Rattle.std.specs.Prelude.{FitsSigned, replicate}
use Rattle.std.proofs.lemmas.Int.{to_z-of_z}
use Rattle.auc_threads.proofs.solving.solve_threads.Goals as goal

pub returns-in_ok-prices-in-Rows-clause-run : goal.returns-in_ok-prices-in-Rows-clause-run
returns-in_ok-prices-in-Rows-clause-run g c =
    let fits : FitsSigned w64 c.first_eps-eps.result = search rules in
    let zeros : c.in_ok-prices-in-Rows.prices.items ≡ replicate c.objects.result (pos 0) = search rules in
    c.solve_rows.ensures.run None (simp to_z-of_z c.first_eps-eps.ensures.is, zeros ∙ ap (λ (n : ℕ). replicate n (pos 0)) c.objects.ensures.objects)
