-- Answers that are equal have equal parts.
use Rattle.std.proofs.Common.{ℕ, ℤ, ◌≡◌, Option, Some, None, ap}
use Rattle.auc_model.specs.Places.{Answer}

abbrev pub from_some : {X : Type 0} → X → Option X → X
from_some d None = d
from_some d (Some x) = x

-- two answers, to persons i and k about j and l with the prices p and q, are the same
pub record SameAnswer (a b : Answer) (i j k l : ℕ) (p q : ℤ) : Type 0 where
  pub kind : a ≡ b
  pub person : i ≡ k
  pub object : j ≡ l
  pub price : p ≡ q

pub same_answer : (a b : Answer) (i j k l : ℕ) (p q : ℤ) → (let x : Option (Answer × ℕ × ℕ × ℤ) = Some (a, i, j, p) in let y : Option (Answer × ℕ × ℕ × ℤ) = Some (b, k, l, q) in x ≡ y) → SameAnswer a b i j k l p q
same_answer a b i j k l p q e =
    let t = ap (from_some {X = Answer × ℕ × ℕ × ℤ} (a, i, j, p)) e in
    record {
      kind = ap (λ (z : Answer × ℕ × ℕ × ℤ). z.0) t;
      person = ap (λ (z : Answer × ℕ × ℕ × ℤ). z.1) t;
      object = ap (λ (z : Answer × ℕ × ℕ × ℤ). z.2) t;
      price = ap (λ (z : Answer × ℕ × ℕ × ℤ). z.3) t;
    }
