-- Schedules, a turn at a time.
use Rattle.std.proofs.Common.{ℕ, ◌+◌, ◌<◌, ◌≡◌, List, [], ◌∷◌, length, get_or, take, sym, subst, refl}
use Rattle.std.proofs.lemmas.List.{take_more}
use Rattle.auc_model.specs.Schedule.{Schedule, Turned}
use Rattle.auc_model.specs.World.{Phase}
use Rattle.auc_model.specs.declared.turn.Turn.{Turn}
use Rattle.auc_model.specs.declared.turn.TurnReply.{TurnReply}
use Rattle.auc_model.proofs.Small.{one_more, schedules_join}
use Rattle.auc_machine.specs.Parts.{Parts, SamePhase, phase, world_of}

pub same_phase : (p n : Parts) → SamePhase p n → phase n ≡ phase p
same_phase p n same = rw (same.table, same.shards, same.eps) refl

pub turn_more : (p n v : Parts) (ts : List Turn) (i : ℕ) (d : Turn) (r : TurnReply) → Schedule (phase p) (world_of p) (take i ts) (world_of n) → phase n ≡ phase p → i < length ts → Turned (phase n) (world_of n) (get_or ts i d) r (world_of v)
    → Schedule (phase p) (world_of p) (take (i + 1) ts) (world_of v)
turn_more p n v ts i d r before same l turned =
    let turn = get_or ts i d in
    let one = one_more (phase p) (world_of n) (world_of v) turn r (subst (λ (g : Phase). Turned g (world_of n) turn r (world_of v)) same turned) in
    subst (λ (us : List Turn). Schedule (phase p) (world_of p) us (world_of v)) (sym (take_more ts i d l)) (schedules_join (phase p) (world_of p) (take i ts) (turn ∷ []) (world_of n) (world_of v) before one)
