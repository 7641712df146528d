use Rattle.std.proofs.Common.{refl}
use Rattle.auc_answers.proofs.FoundLaws.{refused_claim}
use Rattle.auc_answers.proofs.finish.optimal.Goals as goal

pub returns-in-None : goal.returns-in-None
returns-in-None c =
    let made = rw c.in-Some.is at c.in_ok-parts.ensures.some in
    (refl, refused_claim c.args.problem.now c.args.gathered.holders.items c.args.gathered.prices.items c.in-Some.parts made (rw c.in-None.is at c.in_ok-cert.ensures.none))
