-- Why a run in threads that gives no answer is refused.
use Rattle.auc_threads.specs.declared.error.RunError.{RunError}
use Rattle.auc_run.specs.declared.refusal.Refusal.{Refusal}

abbrev pub refusal_of_run : RunError → Refusal
refusal_of_run RunError.NoMemory = Refusal.NoMemory
refusal_of_run RunError.Spawn = Refusal.NoThreads
