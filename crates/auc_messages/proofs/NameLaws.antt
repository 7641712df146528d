-- A name that is written character by character.
use Rattle.std.proofs.Common.{◌≡◌, ℕ, List, ◌++◌, length, Option, sym, ap, subst, ◌∙◌, append_assoc}
use Rattle.std.specs.Prelude.{encode_utf8}
use Rattle.std.specs.List.{flat_map}
use Rattle.std.specs.Str.{IsUtf8}
use Rattle.std.specs.Io.KnownBytes.{Appends}
use Rattle.std.proofs.KnownBytes.{Appends-trans}
use Rattle.std.proofs.lemmas.List.{nil_from_length}
use Rattle.std.proofs.lemmas.Str.{chars-nil, chars_past_char}
use Rattle.auc_cert.specs.Writing.{Begins}
use Rattle.auc_cert.proofs.WriteLaws.{Completes, begins_behind, begins_front, ends}
use Rattle.auc_messages.specs.Names.{shown_character, shown_name}

-- the first character, and what is left
shown_first : (c : ℕ) (old rest : List ℕ) → IsUtf8 old → old ≡ encode_utf8 c ++ rest → shown_name old ≡ shown_character c ++ shown_name rest
shown_first c old rest text step = ap (flat_map shown_character) (chars_past_char old rest c text step)

-- one character more was written
pub goes_on : (c : ℕ) (old rest all : List ℕ) (a b d : Option (List ℕ)) → IsUtf8 old → old ≡ encode_utf8 c ++ rest → Completes a b (shown_name old) all → Appends b d (shown_character c) → Completes a d (shown_name rest) all
goes_on c old rest all a b d text step h w = record {
  done = h.done ++ shown_character c;
  whole = append_assoc h.done (shown_character c) (shown_name rest) ∙ ap (λ (t : List ℕ). h.done ++ t) (sym (shown_first c old rest text step)) ∙ h.whole;
  written = Appends-trans a b d h.done (shown_character c) h.written w;
}

-- a character was not written whole
pub cut_in_character : (c : ℕ) (old rest all : List ℕ) (a b d : Option (List ℕ)) → IsUtf8 old → old ≡ encode_utf8 c ++ rest → Completes a b (shown_name old) all → Begins b d (shown_character c) → Begins a d all
cut_in_character c old rest all a b d text step h w =
    subst (λ (t : List ℕ). Begins a d t) (append_assoc h.done (shown_character c) (shown_name rest) ∙ ap (λ (t : List ℕ). h.done ++ t) (sym (shown_first c old rest text step)) ∙ h.whole)
    (begins_front a d (h.done ++ shown_character c) (shown_name rest) (begins_behind a b d h.done (shown_character c) h.written w))

-- no character is left
pub is_done : (old all : List ℕ) (a b : Option (List ℕ)) → length old ≡ 0 → Completes a b (shown_name old) all → Appends a b all
is_done old all a b none h = ends a b (shown_name old) all (ap shown_name (nil_from_length old none) ∙ ap (flat_map shown_character) chars-nil) h
