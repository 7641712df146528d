use Rattle.std.proofs.Common.{◌≤◌, ℕ, List, length, subst, sym, ap, arith}
use Rattle.auc_dense.specs.Shortage.{ShowShortage}
use Rattle.auc_dense.proofs.ShortageLaws.{shortage_at}
use Rattle.auc_dense.proofs.shortage.hand_shortage.Goals as goal

pub returns : goal.returns
returns c persons objects costs stride gap is table show =
    let listed = c.as_slice-persons.result.now in
    let known = c.as_slice-objects.result.now in
    let choice = c.put_front.new.target in
    let set = c.put_front-2.new.target in
    let shown = subst (λ (known : List ℕ). ShowShortage persons objects costs stride gap c.as_slice-persons.result.now known) (sym c.as_slice-objects.ensures.value)
    (subst (λ (listed : List ℕ). ShowShortage persons objects costs stride gap listed c.args.short.now.objects.items) (sym c.as_slice-persons.ensures.value) show) in
    let listed_in : length listed ≤ length choice = omega (arith, ap length c.as_slice-persons.ensures.value, c.requires.persons, c.put_front.auto.target) in
    let known_in : length known ≤ length set = omega (arith, ap length c.as_slice-objects.ensures.value, c.requires.objects, c.put_front-2.auto.target) in (
      shortage_at persons objects costs stride gap listed known table shown choice set is listed_in known_in c.put_front.ensures.front c.put_front-2.ensures.front,
      c.put_front.ensures.after,
      c.put_front-2.ensures.after,
    )
