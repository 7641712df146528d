use Rattle.auc_model.proofs.Theorems.{of_every_schedule, no_mail_stop}
use Rattle.auc_model.proofs.Reached.{counts_well, hears_well, kept_reached, only_prices_full, room_reached, sells_well}
use Rattle.auc_model.proofs.laws.no_guard.Goals as goal

pub returns : goal.returns
returns c = record {
  fell = (λ g v r. (of_every_schedule g v r).no_guard.fell);
  stray = (λ g v r. (of_every_schedule g v r).no_guard.stray);
  trail = (λ g v r. (of_every_schedule g v r).no_guard.trail);
  mail = no_mail_stop;
  hears = (λ g v r. hears_well g v r.lawful (kept_reached g v r));
  sells = (λ g v r. sells_well g v r.lawful (kept_reached g v r));
  counts = (λ g v r. counts_well g v r.lawful (kept_reached g v r));
  room = (λ g v r usual. only_prices_full g v r.lawful (kept_reached g v r) (room_reached g v r usual));
}
