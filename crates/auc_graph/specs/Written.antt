-- How a person is written at the front of a line.
use Rattle.std.specs.Prelude.{ℕ, ◌≡◌, ◌+◌, ◌<◌, List, length, slice_index_or}
use Rattle.std.specs.Int.{w64, from_le_bytes}
use Rattle.std.specs.Int.Bits.{bit_and}
use Rattle.auc_graph.specs.declared.line.WrittenPerson.{WrittenPerson}
use Rattle.auc_graph.specs.Numbers.{IsPlainToken}

abbrev pub AreBytes : List ℕ → Type 0
AreBytes bytes = (i : ℕ) → slice_index_or bytes i 0 < 256

-- every eight bytes that agree with the word under the mask begin with the number of the person, counted from 1
abbrev pub IsWritten : WrittenPerson → Type 0
IsWritten written =
    (front : List ℕ) (word : ℕ) → length front ≡ 8 → AreBytes front → word ≡ from_le_bytes w64 front
    → bit_and word written.mask ≡ written.word
    → (written.digits < 8) × IsPlainToken front (written.person + 1) written.digits
