-- Lists whose objects rise.
use Rattle.std.proofs.Common.{◌≡◌, ℕ, ◌-◌, ◌<◌, ◌≤◌, ◌⊎◌, inl, inr, List, [], ◌∷◌, ◌++◌, length, get_or, arith}
use Rattle.std.proofs.lemmas.Bool.{cases_lt}
use Rattle.std.proofs.lemmas.List.{get_or_default}
use Rattle.std.proofs.lemmas.List.Quantifiers.{all_pairs_push}
use Rattle.auc_graph.specs.declared.rows.RowArc.{RowArc}
use Rattle.auc_persons.specs.Rising.{IsRisingRow}

-- one arc more, to a higher object than the last one's
pub rising_push : (xs : List RowArc) (a e : RowArc) → IsRisingRow xs → 0 < length xs → (get_or xs (length xs - 1) e).object < a.object → IsRisingRow (xs ++ a ∷ [])
rising_push xs a e rises some above = all_pairs_push (λ x y. x.object < y.object) xs a rises below
  where
    below : (k : ℕ) (d : RowArc) → k < length xs → (get_or xs k d).object < a.object
    below k d lt = by (cases_lt k (length xs - 1))
      where
        by : (k < length xs - 1) ⊎ (length xs - 1 ≤ k) → (get_or xs k d).object < a.object
        by (inl before) =
            let last : (get_or xs (length xs - 1) d).object < a.object = rw (get_or_default xs (length xs - 1) d e (omega (arith, some))) above in
            omega (arith, rises k (length xs - 1) d before (omega (arith, some)), last)
        by (inr le) =
            let same : k ≡ length xs - 1 = omega (arith, le, lt) in
            rw (same, get_or_default xs (length xs - 1) d e (omega (arith, some))) above
