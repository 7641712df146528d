-- Clauses on the answer of a call that may fail for want of memory.
use Rattle.std.specs.Prelude.{◌≢◌, Result, Ok, Err}

-- The answer, seen by view, meets the condition, unless it is the error that reports want of memory.
abbrev pub AnswersUnless : {X Y E : Type 0} → E → (X → Y) → Result X E → (Result Y E → Type 0) → Type 0
AnswersUnless no_memory view (Ok x) IsRight = IsRight (Ok (view x))
AnswersUnless no_memory view (Err e) IsRight = e ≢ no_memory → IsRight (Err e)
