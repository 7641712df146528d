-- Functions of one number, and of two, in which one value is replaced.
use Rattle.std.specs.Prelude.{ℕ, ◌==◌, ◌&&◌, if◌then◌else◌}

-- f, but v at k
abbrev pub put : {X : Type 0} → (ℕ → X) → ℕ → X → ℕ → X
put f k v = λ n. if n == k then v else f n

-- f, but v at the pair k, l
abbrev pub put2 : {X : Type 0} → (ℕ → ℕ → X) → ℕ → ℕ → X → ℕ → ℕ → X
put2 f k l v = λ m n. if (m == k) && (n == l) then v else f m n
