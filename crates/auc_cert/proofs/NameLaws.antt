-- The first line at which a text has no line of a named person or object, and the values that such lines spell.
use Rattle.std.proofs.Common.{◌≡◌, ℕ, ◌+◌, ◌-◌, ◌<◌, ◌≤◌, List, [], ◌∷◌, ◌++◌, length, refl, sym, ap, subst, ◌∙◌, arith, append_assoc}
use Rattle.std.specs.Prelude.{codes, All}
use Rattle.std.proofs.lemmas.List.{append-nil, length-append}
use Rattle.auc_graph.specs.Rising.{Rises}
use Rattle.auc_graph.specs.declared.limits.TheConstants.{MOST_OBJECTS}
use Rattle.auc_claim.specs.Spelled.{least_behind}
use Rattle.auc_cert.specs.declared.form.Form.{Form}
use Rattle.auc_cert.specs.Form.{AreNamedIn, least_last, objects_in, persons_in}
use Rattle.auc_cert.specs.Text.{person_line, object_line, numbered, joined, name_lines}
use Rattle.auc_cert.specs.CertReading.{IsFirstBadOf, NameLines}
use Rattle.auc_cert.specs.SecondLine.{AreCounts}
use Rattle.auc_cert.specs.Runs.{IsRisingRun, BreaksRising, From}
use Rattle.auc_claim.specs.Spelled.{IsBelow}
use Rattle.auc_cert.proofs.RunLaws.{numbers_apart, same_run, same_rest, goes_beyond}
use Rattle.auc_claim.proofs.RisingLaws.{rises_append, rises_from_lower, rises_below_higher, next_rises, rises_room, behind_top, behind_push, counted, counted_rises, length_counted, are_indices}
use Rattle.auc_cert.proofs.SizeLaws.{last_is_in, named_from, objects_above, objects_few, persons_few}
use Rattle.auc_cert.proofs.TextLines.{AreLines, AreSameLists, GoesOn, bad_of, numbers_lines, lines_append}
use Rattle.auc_cert.proofs.ChoiceLaws.{length_numbered, joined_append}
use Rattle.auc_cert.proofs.WriteLaws.{numbered_append}

few_rise : (end : ℕ) (numbers : List ℕ) → Rises 0 end numbers → length numbers ≤ end
few_rise end numbers p = let room : 0 + length numbers ≤ end = rises_room 0 end numbers (omega arith) p in omega arith

-- below the greatest number of objects are both persons and objects
wide : (end : ℕ) (numbers : List ℕ) → end ≤ MOST_OBJECTS → Rises 0 end numbers → Rises 0 MOST_OBJECTS numbers
wide end numbers le p = rises_below_higher 0 end MOST_OBJECTS numbers le p

indices : (end : ℕ) (numbers : List ℕ) → end ≤ MOST_OBJECTS → Rises 0 end numbers → All (IsBelow MOST_OBJECTS) numbers
indices end numbers le p = are_indices 0 MOST_OBJECTS numbers (wide end numbers le p)

persons_are_lines : (persons : List ℕ) → Rises 0 MOST_OBJECTS persons → AreLines (numbered person_line 0 persons)
persons_are_lines persons p = numbers_lines (codes "person ") refl persons (few_rise MOST_OBJECTS persons p) (are_indices 0 MOST_OBJECTS persons p)

objects_are_lines : (objects : List ℕ) → Rises 0 MOST_OBJECTS objects → AreLines (numbered object_line 0 objects)
objects_are_lines objects p = numbers_lines (codes "object ") refl objects (few_rise MOST_OBJECTS objects p) (are_indices 0 MOST_OBJECTS objects p)

pub names_are_lines : (v : Form) (persons objects : List ℕ) → AreNamedIn v persons objects → AreLines (name_lines persons objects)
names_are_lines v persons objects is = lines_append (numbered person_line 0 persons) (numbered object_line 0 objects) (persons_are_lines persons (wide (persons_in v) persons (persons_few v) is.within.persons_rise)) (objects_are_lines objects (wide (objects_in v) objects (objects_few v) is.within.objects_rise))

-- ---- the last numbers below an end: as many as are missing after some, and above those

abbrev completed : List ℕ → ℕ → ℕ → List ℕ
completed numbers end m = numbers ++ counted (end - m) m

completed_rises : (numbers : List ℕ) (end m : ℕ) → least_behind 0 numbers + m ≤ end → Rises 0 end numbers → Rises 0 end (completed numbers end m)
completed_rises numbers end m room p = rises_append 0 end numbers (counted (end - m) m) p (rises_from_lower (least_behind 0 numbers) (end - m) end (counted (end - m) m) (omega arith) (counted_rises (end - m) end m (omega arith)))

-- the last of objects that are completed so
completed_last : (v : Form) (numbers : List ℕ) (m : ℕ) → 0 < m → least_behind 0 numbers + m ≤ objects_in v → least_last v < least_behind 0 (completed numbers (objects_in v) m)
completed_last v numbers m some room =
    let top : least_behind 0 (completed numbers (objects_in v) m) ≡ objects_in v = behind_top numbers (objects_in v - m) m (objects_in v) some (omega arith) in
    let low : least_last v < objects_in v = last_is_in v in
    omega (arith, top, low)

-- ---- where the lines leave those of persons and objects

all_named : (v : Form) (l : ℕ) → l ≤ persons_in v → Rises 0 (objects_in v) (counted (objects_in v - l) l) × (0 < length (counted (objects_in v - l) l) → least_last v < least_behind 0 (counted (objects_in v - l) l))
all_named v l few =
    let len : length (counted (objects_in v - l) l) ≡ l = length_counted (objects_in v - l) l in (
      completed_rises [] (objects_in v) l (omega (arith, objects_above v l few)) tt,
      λ some. completed_last v [] l (omega (arith, some, len)) (omega (arith, objects_above v l few)),
    )

pub bad_person : (v : Form) (m l : ℕ) (r : List ℕ) (line : ℕ) → AreCounts v m l → From 2 (BreaksRising (codes "person ") (persons_in v) 0 m r) line → From 2 (IsFirstBadOf (NameLines v m l) r) line
bad_person v m l r line h (k, at, b) =
    let pad : List ℕ = counted (persons_in v - (m - k)) (m - k) in
    let persons : List ℕ = b.numbers ++ pad in
    let objects : List ℕ = counted (objects_in v - l) l in
    let few : k < m = b.few in
    let len : length b.numbers ≡ k = b.run.run.len in
    let many : length persons ≡ m = omega (arith, length-append b.numbers pad, length_counted (persons_in v - (m - k)) (m - k)) in
    let all : length objects ≡ l = length_counted (objects_in v - l) l in
    let known = all_named v l h.few in
    let named : AreNamedIn v persons objects = named_from v persons objects m l h (completed_rises b.numbers (persons_in v) (m - k) b.room b.run.rises) known.0 many all known.1 in
    let front : List (List ℕ) = numbered person_line 0 b.numbers in
    let behind : List (List ℕ) = numbered person_line (0 + length b.numbers) pad ++ numbered object_line 0 objects in
    let le : numbered person_line 0 persons ++ numbered object_line 0 objects ≡ front ++ behind =
    ap (λ (x : List (List ℕ)). x ++ numbered object_line 0 objects) (numbered_append person_line 0 b.numbers pad) ∙ append_assoc front (numbered person_line (0 + length b.numbers) pad) (numbered object_line 0 objects) in
    let place : k ≡ length front = sym (length_numbered person_line 0 b.numbers ∙ len) in
    let bad : IsFirstBadOf (NameLines v m l) r k =
    bad_of (NameLines v m l) front r b.rest k (persons_are_lines b.numbers (wide (persons_in v) b.numbers (persons_few v) b.run.rises)) b.run.run.text place (name_lines persons objects) (record { persons = persons; objects = objects; named = named; persons_are = many; objects_are = all; lines_are = refl }) behind le
    (λ ls of more e g.
    let own : List ℕ = of.persons in
    let known : List ℕ = of.objects in
    let own_few : 0 + length own ≤ MOST_OBJECTS = omega (arith, few_rise (persons_in v) own of.named.within.persons_rise, persons_few v) in
    let x = goes_beyond MOST_OBJECTS ℕ person_line (IsBelow MOST_OBJECTS) 0 b.numbers own (numbered object_line 0 known) more (numbers_apart (codes "person ")) (indices (persons_in v) b.numbers (persons_few v) b.run.rises) (indices (persons_in v) own (persons_few v) of.named.within.persons_rise) own_few (omega (arith, of.persons_are)) (sym of.lines_are ∙ e) in
    let y : GoesOn (person_line (0 + length b.numbers) x.value ∷ x.others) b.rest = subst (λ (n : List (List ℕ)). GoesOn n b.rest) x.is g in
    let bounds = next_rises 0 (persons_in v) b.numbers x.value x.behind (subst (Rises 0 (persons_in v)) x.split of.named.within.persons_rise) in
    let room : x.value + (m - k) ≤ persons_in v = omega (arith, bounds.1, of.persons_are, ap length x.split, length-append b.numbers (x.value ∷ x.behind)) in
    b.none x.value y.0 bounds.0 room (λ _. omega arith) y.1) in
    (k, at, bad)

last_value : (numbers : List ℕ) (k : ℕ) (behind : List ℕ) → length behind ≡ 0 → least_behind 0 (numbers ++ k ∷ behind) ≡ k + 1
last_value numbers k [] none = behind_push 0 numbers k
last_value numbers k (j ∷ behind) none = absurd (omega arith)

pub bad_object : (v : Form) (m l : ℕ) (r persons r2 : List ℕ) (line : ℕ) → AreCounts v m l → IsRisingRun (codes "person ") (persons_in v) m r persons r2 → From (2 + m) (BreaksRising (codes "object ") (objects_in v) (least_last v) l r2) line → From 2 (IsFirstBadOf (NameLines v m l) r) line
bad_object v m l r persons r2 line h run (k, at, b) =
    let pad : List ℕ = counted (objects_in v - (l - k)) (l - k) in
    let objects : List ℕ = b.numbers ++ pad in
    let some : 1 ≤ m = h.some in
    let few : k < l = b.few in
    let len : length b.numbers ≡ k = b.run.run.len in
    let many : length persons ≡ m = run.run.len in
    let all : length objects ≡ l = omega (arith, length-append b.numbers pad, length_counted (objects_in v - (l - k)) (l - k)) in
    let rises : Rises 0 (objects_in v) objects = completed_rises b.numbers (objects_in v) (l - k) b.room b.run.rises in
    let reached : 0 < length objects → least_last v < least_behind 0 objects = λ _. completed_last v b.numbers (l - k) (omega arith) b.room in
    let named : AreNamedIn v persons objects = named_from v persons objects m l h run.rises rises many all reached in
    let ps : List (List ℕ) = numbered person_line 0 persons in
    let os : List (List ℕ) = numbered object_line 0 b.numbers in
    let text : r ≡ joined (ps ++ os) ++ b.rest =
    run.run.text ∙ ap (λ (x : List ℕ). joined ps ++ x) b.run.run.text ∙ sym (append_assoc (joined ps) (joined os) b.rest) ∙ ap (λ (x : List ℕ). x ++ b.rest) (sym (joined_append ps os)) in
    let le : ps ++ numbered object_line 0 objects ≡ (ps ++ os) ++ numbered object_line (0 + length b.numbers) pad =
    ap (λ (x : List (List ℕ)). ps ++ x) (numbered_append object_line 0 b.numbers pad) ∙ sym (append_assoc ps os (numbered object_line (0 + length b.numbers) pad)) in
    let count : length (ps ++ os) ≡ m + k = length-append ps os ∙ omega (arith, length_numbered person_line 0 persons, length_numbered object_line 0 b.numbers) in
    let bad : IsFirstBadOf (NameLines v m l) r (m + k) =
    bad_of (NameLines v m l) (ps ++ os) r b.rest (m + k) (lines_append ps os (persons_are_lines persons (wide (persons_in v) persons (persons_few v) run.rises)) (objects_are_lines b.numbers (wide (objects_in v) b.numbers (objects_few v) b.run.rises))) text (sym count) (name_lines persons objects) (record { persons = persons; objects = objects; named = named; persons_are = many; objects_are = all; lines_are = refl })
    (numbered object_line (0 + length b.numbers) pad) le
    (λ ls of more e g.
    let own : List ℕ = of.persons in
    let known : List ℕ = of.objects in
    let both : length own ≡ length persons = of.persons_are ∙ sym many in
    let known_rises : Rises 0 (objects_in v) known = of.named.within.objects_rise in
    let known_few : 0 + length known ≤ MOST_OBJECTS = omega (arith, few_rise (objects_in v) known known_rises, objects_few v) in
    let behind : numbered object_line 0 known ≡ os ++ more = same_rest ℕ person_line 0 own persons (numbered object_line 0 known) (os ++ more) both (sym of.lines_are ∙ e ∙ append_assoc ps os more) in
    let x = goes_beyond MOST_OBJECTS ℕ object_line (IsBelow MOST_OBJECTS) 0 b.numbers known [] more (numbers_apart (codes "object ")) (indices (objects_in v) b.numbers (objects_few v) b.run.rises) (indices (objects_in v) known (objects_few v) known_rises) known_few (omega (arith, of.objects_are)) (append-nil (numbered object_line 0 known) ∙ behind) in
    let y : GoesOn (object_line (0 + length b.numbers) x.value ∷ x.others) b.rest = subst (λ (n : List (List ℕ)). GoesOn n b.rest) x.is g in
    let bounds = next_rises 0 (objects_in v) b.numbers x.value x.behind (subst (Rises 0 (objects_in v)) x.split known_rises) in
    let room : x.value + (l - k) ≤ objects_in v = omega (arith, bounds.1, of.objects_are, ap length x.split, length-append b.numbers (x.value ∷ x.behind)) in
    let reached : k + 1 ≡ l → least_last v ≤ x.value = λ last.
    let none : length x.behind ≡ 0 = omega (arith, of.objects_are, ap length x.split, length-append b.numbers (x.value ∷ x.behind)) in
    let there : least_last v < least_behind 0 known = of.named.last (omega (arith, of.objects_are)) in
    let goes : least_behind 0 known ≡ x.value + 1 = ap (least_behind 0) x.split ∙ last_value b.numbers x.value x.behind none in
    omega (arith, there, goes) in
    b.none x.value y.0 bounds.0 room reached y.1) in
    (m + k, omega (arith, at), bad)

pub bad_name_end : (v : Form) (m l : ℕ) (r persons r2 objects rest : List ℕ) → AreCounts v m l → IsRisingRun (codes "person ") (persons_in v) m r persons r2 → IsRisingRun (codes "object ") (objects_in v) l r2 objects rest → (0 < l → least_last v < least_behind 0 objects) → (rest ≡ [] → ⊥) → From 2 (IsFirstBadOf (NameLines v m l) r) (2 + m + l)
bad_name_end v m l r persons r2 objects rest h run run2 last some_rest =
    let many : length persons ≡ m = run.run.len in
    let all : length objects ≡ l = run2.run.len in
    let named : AreNamedIn v persons objects = named_from v persons objects m l h run.rises run2.rises many all (λ some. last (omega (arith, some, all))) in
    let ps : List (List ℕ) = numbered person_line 0 persons in
    let os : List (List ℕ) = numbered object_line 0 objects in
    let text : r ≡ joined (ps ++ os) ++ rest =
    run.run.text ∙ ap (λ (x : List ℕ). joined ps ++ x) run2.run.text ∙ sym (append_assoc (joined ps) (joined os) rest) ∙ ap (λ (x : List ℕ). x ++ rest) (sym (joined_append ps os)) in
    let count : length (ps ++ os) ≡ m + l = length-append ps os ∙ omega (arith, length_numbered person_line 0 persons, length_numbered object_line 0 objects) in
    let bad : IsFirstBadOf (NameLines v m l) r (m + l) =
    bad_of (NameLines v m l) (ps ++ os) r rest (m + l) (names_are_lines v persons objects named) text (sym count) (name_lines persons objects) (record { persons = persons; objects = objects; named = named; persons_are = many; objects_are = all; lines_are = refl }) [] (sym (append-nil (ps ++ os)))
    (λ ls of more e g.
    let own : List ℕ = of.persons in
    let known : List ℕ = of.objects in
    let both : length own ≡ length persons = of.persons_are ∙ sym many in
    let both2 : length known ≡ length objects = of.objects_are ∙ sym all in
    let behind : numbered object_line 0 known ++ [] ≡ os ++ more =
    append-nil (numbered object_line 0 known) ∙ same_rest ℕ person_line 0 own persons (numbered object_line 0 known) (os ++ more) both (sym of.lines_are ∙ e ∙ append_assoc ps os more) in
    let none : [] ≡ more = same_rest ℕ object_line 0 known objects [] more both2 behind in
    some_rest (subst (λ (n : List (List ℕ)). GoesOn n rest) (sym none) g)) in
    (m + l, omega arith, bad)

-- ---- what was read

pub are_names : (v : Form) (m l : ℕ) (r persons r2 objects rest : List ℕ) → AreCounts v m l → IsRisingRun (codes "person ") (persons_in v) m r persons r2 → IsRisingRun (codes "object ") (objects_in v) l r2 objects rest → (0 < l → least_last v < least_behind 0 objects) → rest ≡ []
    → AreNamedIn v persons objects × (length persons ≡ m) × (length objects ≡ l) × (r ≡ joined (name_lines persons objects))
are_names v m l r persons r2 objects rest h run run2 last none =
    let many : length persons ≡ m = run.run.len in
    let a : List ℕ = joined (numbered person_line 0 persons) in
    let b : List ℕ = joined (numbered object_line 0 objects) in
    let whole : r ≡ a ++ b = run.run.text ∙ ap (λ (x : List ℕ). a ++ x) (run2.run.text ∙ ap (λ (x : List ℕ). b ++ x) none ∙ append-nil b) in (
      named_from v persons objects m l h run.rises run2.rises many run2.run.len (λ some. last (omega (arith, some, run2.run.len))),
      many,
      run2.run.len,
      whole ∙ sym (joined_append (numbered person_line 0 persons) (numbered object_line 0 objects)),
    )

-- ---- two lists of such lines

same_names : (v : Form) (persons objects own known : List ℕ) → AreNamedIn v persons objects → AreNamedIn v own known → length persons ≡ length own → length objects ≡ length known → name_lines persons objects ≡ name_lines own known → (persons ≡ own) × (objects ≡ known)
same_names v persons objects own known s t same both others =
    let most : 0 + length persons ≤ MOST_OBJECTS = omega (arith, few_rise (persons_in v) persons s.within.persons_rise, persons_few v) in
    let few : 0 + length objects ≤ MOST_OBJECTS = omega (arith, few_rise (objects_in v) objects s.within.objects_rise, objects_few v) in
    let x = same_run MOST_OBJECTS ℕ person_line (IsBelow MOST_OBJECTS) 0 persons own (numbered object_line 0 objects) (numbered object_line 0 known) (numbers_apart (codes "person ")) (indices (persons_in v) persons (persons_few v) s.within.persons_rise) (indices (persons_in v) own (persons_few v) t.within.persons_rise) most same others in
    let y = same_run MOST_OBJECTS ℕ object_line (IsBelow MOST_OBJECTS) 0 objects known [] [] (numbers_apart (codes "object ")) (indices (objects_in v) objects (objects_few v) s.within.objects_rise) (indices (objects_in v) known (objects_few v) t.within.objects_rise) few both (append-nil (numbered object_line 0 objects) ∙ x.1 ∙ sym (append-nil (numbered object_line 0 known))) in
    (x.0, y.0)

no_more_names : (persons objects own known : List ℕ) (more : List (List ℕ)) → length persons ≡ length own → length objects ≡ length known → name_lines persons objects ++ more ≡ name_lines own known → more ≡ []
no_more_names persons objects own known more same both others =
    let behind : numbered object_line 0 objects ++ more ≡ numbered object_line 0 known =
    same_rest ℕ person_line 0 persons own (numbered object_line 0 objects ++ more) (numbered object_line 0 known) same (sym (append_assoc (numbered person_line 0 persons) (numbered object_line 0 objects) more) ∙ others) in
    same_rest ℕ object_line 0 objects known more [] both (behind ∙ sym (append-nil (numbered object_line 0 known)))

-- such lines that begin others name the same persons and objects, and no line is left
pub names_once : (v : Form) (persons objects own known : List ℕ) (more : List (List ℕ)) → AreNamedIn v persons objects → AreNamedIn v own known → length persons ≡ length own → length objects ≡ length known → name_lines persons objects ++ more ≡ name_lines own known
    → AreSameLists persons objects own known more
names_once v persons objects own known more s t same both others =
    let none = no_more_names persons objects own known more same both others in
    let all = same_names v persons objects own known s t same both (sym (append-nil (name_lines persons objects)) ∙ ap (λ (m : List (List ℕ)). name_lines persons objects ++ m) (sym none) ∙ others) in
    record { first = all.0; second = all.1; none = none }
