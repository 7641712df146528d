use Rattle.auc_model.proofs.Reached.{counts_well, hears_well, kept_reached, room_reached, only_prices_full, sells_well}
use Rattle.auc_model.proofs.Theorems.{no_mail_stop, of_every_schedule}
use Rattle.auc_machine.specs.Parts.{phase, world_of}
use Rattle.auc_machine.proofs.world.World.no_guard_is_hit.Goals as goal

pub returns : goal.returns
returns c =
    let g = phase c.args.self.now in
    let v = world_of c.args.self.now in
    let r = c.requires in
    let k = kept_reached g v r in
    let none = (of_every_schedule g v r).no_guard in
    record {
      fell = none.fell;
      stray = none.stray;
      trail = none.trail;
      mail = no_mail_stop g v r;
      hears = hears_well g v r.lawful k;
      sells = sells_well g v r.lawful k;
      counts = counts_well g v r.lawful k;
      room = λ usual. only_prices_full g v r.lawful k (room_reached g v r usual);
    }
