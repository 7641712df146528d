-- The first line at which a text has no line of a pick or a price, and the values that such lines spell.
use Rattle.std.proofs.Common.{◌≡◌, ℕ, suc, ◌+◌, ◌-◌, ◌<◌, ◌≤◌, List, [], ◌∷◌, ◌++◌, length, replicate, refl, sym, ap, subst, ◌∙◌, arith, append_assoc}
use Rattle.std.specs.Prelude.{ℤ, pos, All}
use Rattle.std.proofs.lemmas.Int.{ints}
use Rattle.std.proofs.lemmas.List.{append-nil, length-append, length-replicate}
use Rattle.std.proofs.lemmas.List.Elements.{All-append, All-replicate}
use Rattle.std.proofs.lemmas.List.Concat.{flat_map-append}
use Rattle.auc_graph.specs.declared.limits.TheConstants.{MOST_OBJECTS, MOST_PERSONS}
use Rattle.auc_claim.specs.declared.lists.Pick.{Pick}
use Rattle.auc_graph.specs.Price.{IsPrice}
use Rattle.auc_claim.specs.Spelled.{IsPick}
use Rattle.auc_cert.specs.declared.form.Form.{Form}
use Rattle.auc_cert.specs.Form.{AreObjects, IsChoiceIn, objects_in, persons_in}
use Rattle.auc_cert.specs.Text.{assign_line, price_line, numbered, joined, choice_lines}
use Rattle.auc_cert.specs.CertReading.{IsFirstBadOf, ChoiceLines}
use Rattle.auc_cert.specs.Runs.{IsRun, BreaksOff, From}
use Rattle.auc_cert.specs.SecondLine.{AreSizes}
use Rattle.auc_cert.proofs.RunLaws.{picks_apart, prices_apart, same_run, same_rest, next_of}
use Rattle.auc_cert.proofs.SizeLaws.{AreCounted, are_counted, objects_few, objects_fit, objects_some, persons_few, persons_fit}
use Rattle.auc_cert.proofs.TextLines.{AreLines, AreSameLists, GoesOn, bad_of, picks_lines, prices_lines, lines_append}
use Rattle.auc_graph.proofs.PriceLaws.{zero_is_price}
use Rattle.auc_cert.proofs.WriteLaws.{numbered_append}

-- ---- picks and prices that complete those that were read

pub no_pick_at_all : Pick
no_pick_at_all = record { object = 0; cost = pos 0 }

pub blank_is_pick : (most : ℕ) → 0 < most → IsPick most no_pick_at_all
unfolding no_pick_at_all
blank_is_pick most some = record { object = some; low = omega (arith, ints); high = omega (arith, ints) }

pub length_numbered : {X : Type 0} (line : ℕ → X → List ℕ) (k : ℕ) (xs : List X) → length (numbered line k xs) ≡ length xs
length_numbered line k [] = refl
length_numbered line k (x ∷ xs) = ap suc (length_numbered line (k + 1) xs)

pub joined_append : (a b : List (List ℕ)) → joined (a ++ b) ≡ joined a ++ joined b
joined_append a b = flat_map-append (λ (l : List ℕ). l) a b

choice_from : (f : Form) (n m : ℕ) (choice : List Pick) (prices : List ℤ) → AreSizes f n m → length choice ≡ n → length prices ≡ m → All (IsPick (objects_in f)) choice → All IsPrice prices → IsChoiceIn f choice prices
choice_from f n m choice prices h persons objects picks fair =
    let k : AreCounted f n m = are_counted f n m h in
    let some : 1 ≤ n = k.some in
    let most : n ≤ persons_in f = k.most in
    let enough : n ≤ m = k.enough in
    let few : m ≤ objects_in f = k.few in
    record {
      within = record {
        some = omega arith;
        most = omega arith;
        enough = omega arith;
        few = omega arith;
        picks = picks;
        fair = fair;
      };
      sizes = subst (λ (a : ℕ). AreObjects f a (length prices)) (sym persons) (subst (λ (b : ℕ). AreObjects f n b) (sym objects) h.beside);
    }

pub choice_are_lines : (f : Form) (choice : List Pick) (prices : List ℤ) → IsChoiceIn f choice prices → AreLines (choice_lines choice prices)
choice_are_lines f choice prices is =
    let most : length choice ≤ MOST_OBJECTS = omega (arith, is.within.most, persons_few f) in
    let few : length prices ≤ MOST_OBJECTS = omega (arith, is.within.few, objects_few f) in
    lines_append (numbered assign_line 0 choice) (numbered price_line 0 prices) (picks_lines (objects_in f) choice (objects_few f) most is.within.picks) (prices_lines prices few is.within.fair)

-- ---- where the lines leave those of picks and prices

pub bad_pick : (f : Form) (n m : ℕ) (r : List ℕ) (line : ℕ) → AreSizes f n m → From 2 (BreaksOff assign_line (IsPick (objects_in f)) n r) line → From 2 (IsFirstBadOf (ChoiceLines f n m) r) line
bad_pick f n m r line h (k, at, b) =
    let pad : List Pick = replicate (n - k) no_pick_at_all in
    let choice : List Pick = b.front ++ pad in
    let prices : List ℤ = replicate m (pos 0) in
    let most : n ≤ MOST_PERSONS = persons_fit f n m h in
    let few : k < n = b.few in
    let len : length b.front ≡ k = b.run.len in
    let persons : length choice ≡ n = omega (arith, length-append b.front pad, length-replicate (n - k) no_pick_at_all) in
    let objects : length prices ≡ m = length-replicate m (pos 0) in
    let all : All (IsPick (objects_in f)) choice =
    All-append (IsPick (objects_in f)) b.front pad b.run.all (All-replicate (IsPick (objects_in f)) (n - k) no_pick_at_all (blank_is_pick (objects_in f) (objects_some f))) in
    let spelled : IsChoiceIn f choice prices = choice_from f n m choice prices h persons objects all (All-replicate IsPrice m (pos 0) zero_is_price) in
    let le : numbered assign_line 0 choice ++ numbered price_line 0 prices ≡ numbered assign_line 0 b.front ++ (numbered assign_line (0 + length b.front) pad ++ numbered price_line 0 prices) =
    ap (λ (x : List (List ℕ)). x ++ numbered price_line 0 prices) (numbered_append assign_line 0 b.front pad) ∙ append_assoc (numbered assign_line 0 b.front) (numbered assign_line (0 + length b.front) pad) (numbered price_line 0 prices) in
    let own_place : k ≡ length (numbered assign_line 0 b.front) = sym (length_numbered assign_line 0 b.front ∙ len) in
    let bad : IsFirstBadOf (ChoiceLines f n m) r k =
    bad_of (ChoiceLines f n m) (numbered assign_line 0 b.front) r b.rest k (picks_lines (objects_in f) b.front (objects_few f) (omega arith) b.run.all) b.run.text own_place
    (choice_lines choice prices) (record { choice = choice; prices = prices; spelled = spelled; picks_are = persons; prices_are = objects; lines_are = refl }) (numbered assign_line (0 + length b.front) pad ++ numbered price_line 0 prices) le
    (λ ls of more e g.
    let own : List Pick = of.choice in
    let owns : List ℤ = of.prices in
    let x = next_of Pick assign_line (IsPick (objects_in f)) 0 b.front own (numbered price_line 0 owns) more of.spelled.within.picks (omega (arith, of.picks_are)) (sym of.lines_are ∙ e) in
    let y : GoesOn (assign_line (0 + length b.front) x.value ∷ x.others) b.rest = subst (λ (m : List (List ℕ)). GoesOn m b.rest) x.is g in
    let z : 0 + length b.front ≡ k = omega arith in
    b.none x.value y.0 x.right (y.1 ∙ ap (λ (m : ℕ). assign_line m x.value ++ y.0) z)) in
    (k, at, bad)

pub bad_price : (f : Form) (n m : ℕ) (r : List ℕ) (picks : List Pick) (r2 : List ℕ) (line : ℕ) → AreSizes f n m → IsRun assign_line (IsPick (objects_in f)) n r picks r2 → From (2 + n) (BreaksOff price_line IsPrice m r2) line → From 2 (IsFirstBadOf (ChoiceLines f n m) r) line
bad_price f n m r picks r2 line h run (k, at, b) =
    let pad : List ℤ = replicate (m - k) (pos 0) in
    let prices : List ℤ = b.front ++ pad in
    let most : n ≤ MOST_PERSONS = persons_fit f n m h in
    let most_objects : m ≤ MOST_OBJECTS = objects_fit f n m h in
    let few : k < m = b.few in
    let len : length b.front ≡ k = b.run.len in
    let persons : length picks ≡ n = run.len in
    let objects : length prices ≡ m = omega (arith, length-append b.front pad, length-replicate (m - k) (pos 0)) in
    let spelled : IsChoiceIn f picks prices = choice_from f n m picks prices h persons objects run.all (All-append IsPrice b.front pad b.run.all (All-replicate IsPrice (m - k) (pos 0) zero_is_price)) in
    let front : List (List ℕ) = numbered assign_line 0 picks ++ numbered price_line 0 b.front in
    let text : r ≡ joined front ++ b.rest =
    run.text ∙ ap (λ (x : List ℕ). joined (numbered assign_line 0 picks) ++ x) b.run.text ∙ sym (append_assoc (joined (numbered assign_line 0 picks)) (joined (numbered price_line 0 b.front)) b.rest)
    ∙ ap (λ (x : List ℕ). x ++ b.rest) (sym (joined_append (numbered assign_line 0 picks) (numbered price_line 0 b.front))) in
    let le : numbered assign_line 0 picks ++ numbered price_line 0 prices ≡ front ++ numbered price_line (0 + length b.front) pad =
    ap (λ (x : List (List ℕ)). numbered assign_line 0 picks ++ x) (numbered_append price_line 0 b.front pad) ∙ sym (append_assoc (numbered assign_line 0 picks) (numbered price_line 0 b.front) (numbered price_line (0 + length b.front) pad)) in
    let lines : AreLines front = lines_append (numbered assign_line 0 picks) (numbered price_line 0 b.front) (picks_lines (objects_in f) picks (objects_few f) (omega arith) run.all) (prices_lines b.front (omega arith) b.run.all) in
    let count : length front ≡ n + k = length-append (numbered assign_line 0 picks) (numbered price_line 0 b.front) ∙ omega (arith, length_numbered assign_line 0 picks, length_numbered price_line 0 b.front) in
    let bad : IsFirstBadOf (ChoiceLines f n m) r (n + k) =
    bad_of (ChoiceLines f n m) front r b.rest (n + k) lines text (sym count) (choice_lines picks prices) (record { choice = picks; prices = prices; spelled = spelled; picks_are = persons; prices_are = objects; lines_are = refl }) (numbered price_line (0 + length b.front) pad) le
    (λ ls of more e g.
    let own : List Pick = of.choice in
    let owns : List ℤ = of.prices in
    let both : length own ≡ length picks = of.picks_are ∙ sym persons in
    let behind : numbered price_line 0 owns ≡ numbered price_line 0 b.front ++ more = same_rest Pick assign_line 0 own picks (numbered price_line 0 owns) (numbered price_line 0 b.front ++ more) both (sym of.lines_are ∙ e ∙ append_assoc (numbered assign_line 0 picks) (numbered price_line 0 b.front) more) in
    let x = next_of ℤ price_line IsPrice 0 b.front owns [] more of.spelled.within.fair (omega (arith, of.prices_are)) (append-nil (numbered price_line 0 owns) ∙ behind) in
    let y : GoesOn (price_line (0 + length b.front) x.value ∷ x.others) b.rest = subst (λ (m : List (List ℕ)). GoesOn m b.rest) x.is g in
    let z : 0 + length b.front ≡ k = omega arith in
    b.none x.value y.0 x.right (y.1 ∙ ap (λ (m : ℕ). price_line m x.value ++ y.0) z)) in
    (n + k, omega (arith, at), bad)

pub bad_end : (f : Form) (n m : ℕ) (r : List ℕ) (picks : List Pick) (r2 : List ℕ) (prices : List ℤ) (rest : List ℕ) → AreSizes f n m → IsRun assign_line (IsPick (objects_in f)) n r picks r2 → IsRun price_line IsPrice m r2 prices rest → (rest ≡ [] → ⊥) → From 2 (IsFirstBadOf (ChoiceLines f n m) r) (2 + n + m)
bad_end f n m r picks r2 prices rest h run run2 some_rest =
    let most : n ≤ MOST_PERSONS = persons_fit f n m h in
    let most_objects : m ≤ MOST_OBJECTS = objects_fit f n m h in
    let persons : length picks ≡ n = run.len in
    let objects : length prices ≡ m = run2.len in
    let spelled : IsChoiceIn f picks prices = choice_from f n m picks prices h persons objects run.all run2.all in
    let front : List (List ℕ) = numbered assign_line 0 picks ++ numbered price_line 0 prices in
    let text : r ≡ joined front ++ rest =
    run.text ∙ ap (λ (x : List ℕ). joined (numbered assign_line 0 picks) ++ x) run2.text ∙ sym (append_assoc (joined (numbered assign_line 0 picks)) (joined (numbered price_line 0 prices)) rest)
    ∙ ap (λ (x : List ℕ). x ++ rest) (sym (joined_append (numbered assign_line 0 picks) (numbered price_line 0 prices))) in
    let lines : AreLines front = lines_append (numbered assign_line 0 picks) (numbered price_line 0 prices) (picks_lines (objects_in f) picks (objects_few f) (omega arith) run.all) (prices_lines prices (omega arith) run2.all) in
    let count : length front ≡ n + m = length-append (numbered assign_line 0 picks) (numbered price_line 0 prices) ∙ omega (arith, length_numbered assign_line 0 picks, length_numbered price_line 0 prices) in
    let bad : IsFirstBadOf (ChoiceLines f n m) r (n + m) =
    bad_of (ChoiceLines f n m) front r rest (n + m) lines text (sym count) (choice_lines picks prices) (record { choice = picks; prices = prices; spelled = spelled; picks_are = persons; prices_are = objects; lines_are = refl }) [] (sym (append-nil front))
    (λ ls of more e g.
    let own : List Pick = of.choice in
    let owns : List ℤ = of.prices in
    let both : length own ≡ length picks = of.picks_are ∙ sym persons in
    let both2 : length owns ≡ length prices = of.prices_are ∙ sym objects in
    let behind : numbered price_line 0 owns ++ [] ≡ numbered price_line 0 prices ++ more =
    append-nil (numbered price_line 0 owns) ∙ same_rest Pick assign_line 0 own picks (numbered price_line 0 owns) (numbered price_line 0 prices ++ more) both (sym of.lines_are ∙ e ∙ append_assoc (numbered assign_line 0 picks) (numbered price_line 0 prices) more) in
    let none : [] ≡ more = same_rest ℤ price_line 0 owns prices [] more both2 behind in
    some_rest (subst (λ (m : List (List ℕ)). GoesOn m rest) (sym none) g)) in
    (n + m, omega arith, bad)

-- ---- what was read

pub is_choice : (f : Form) (n m : ℕ) (r : List ℕ) (picks : List Pick) (r2 : List ℕ) (prices : List ℤ) (rest : List ℕ) → AreSizes f n m → IsRun assign_line (IsPick (objects_in f)) n r picks r2 → IsRun price_line IsPrice m r2 prices rest → rest ≡ []
    → IsChoiceIn f picks prices × (length picks ≡ n) × (length prices ≡ m) × (r ≡ joined (choice_lines picks prices))
is_choice f n m r picks r2 prices rest h run run2 none =
    let persons : length picks ≡ n = run.len in
    let objects : length prices ≡ m = run2.len in
    let a : List ℕ = joined (numbered assign_line 0 picks) in
    let b : List ℕ = joined (numbered price_line 0 prices) in
    let whole : r ≡ a ++ b = run.text ∙ ap (λ (x : List ℕ). a ++ x) (run2.text ∙ ap (λ (x : List ℕ). b ++ x) none ∙ append-nil b) in (
      choice_from f n m picks prices h persons objects run.all run2.all,
      persons,
      objects,
      whole ∙ sym (joined_append (numbered assign_line 0 picks) (numbered price_line 0 prices)),
    )

-- ---- two lists of such lines

same_choice : (f : Form) (choice : List Pick) (prices : List ℤ) (picks : List Pick) (owns : List ℤ) → IsChoiceIn f choice prices → IsChoiceIn f picks owns → length choice ≡ length picks → length prices ≡ length owns → choice_lines choice prices ≡ choice_lines picks owns → (choice ≡ picks) × (prices ≡ owns)
same_choice f choice prices picks owns s t same len others =
    let most : 0 + length choice ≤ MOST_PERSONS = omega (arith, s.within.most, persons_few f) in
    let x = same_run MOST_PERSONS Pick assign_line (IsPick (objects_in f)) 0 choice picks (numbered price_line 0 prices) (numbered price_line 0 owns) (picks_apart (objects_in f) (objects_few f)) s.within.picks t.within.picks most same others in
    let few : 0 + length prices ≤ MOST_OBJECTS = omega (arith, s.within.few, objects_few f) in
    let y = same_run MOST_OBJECTS ℤ price_line IsPrice 0 prices owns [] [] prices_apart s.within.fair t.within.fair few len (append-nil (numbered price_line 0 prices) ∙ x.1 ∙ sym (append-nil (numbered price_line 0 owns))) in
    (x.0, y.0)

nothing_more : (choice : List Pick) (prices : List ℤ) (picks : List Pick) (owns : List ℤ) (more : List (List ℕ)) → length choice ≡ length picks → length prices ≡ length owns → choice_lines choice prices ++ more ≡ choice_lines picks owns → more ≡ []
nothing_more choice prices picks owns more same len others =
    let behind : numbered price_line 0 prices ++ more ≡ numbered price_line 0 owns =
    same_rest Pick assign_line 0 choice picks (numbered price_line 0 prices ++ more) (numbered price_line 0 owns) same (sym (append_assoc (numbered assign_line 0 choice) (numbered price_line 0 prices) more) ∙ others) in
    same_rest ℤ price_line 0 prices owns more [] len (behind ∙ sym (append-nil (numbered price_line 0 owns)))

-- such lines that begin others are those of the same picks and prices, and no line is left
pub choice_once : (f : Form) (choice : List Pick) (prices : List ℤ) (picks : List Pick) (owns : List ℤ) (more : List (List ℕ)) → IsChoiceIn f choice prices → IsChoiceIn f picks owns → length choice ≡ length picks → length prices ≡ length owns → choice_lines choice prices ++ more ≡ choice_lines picks owns
    → AreSameLists choice prices picks owns more
choice_once f choice prices picks owns more s t same len others =
    let none = nothing_more choice prices picks owns more same len others in
    let both = same_choice f choice prices picks owns s t same len (sym (append-nil (choice_lines choice prices)) ∙ ap (λ (m : List (List ℕ)). choice_lines choice prices ++ m) (sym none) ∙ others) in
    record { first = both.0; second = both.1; none = none }
