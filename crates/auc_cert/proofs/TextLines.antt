-- The lines of a text, and the first line up to which no text of a kind begins so.
use Rattle.std.proofs.Common.{◌≡◌, ◌≢◌, ℕ, suc, ◌+◌, ◌<◌, ◌≤◌, Bool, true, false, not, cond, eqb, List, [], ◌∷◌, ◌++◌, length, take, refl, sym, ap, subst, ◌∙◌, arith, inl, All, w64, append_assoc}
use Rattle.std.specs.Prelude.{ℤ, pos, FitsSigned, ◌&&◌, codes}
use Rattle.std.specs.List.{onto_first}
use Rattle.std.specs.Fmt.{decimal, signed_decimal}
use Rattle.std.proofs.lemmas.Int.{ints}
use Rattle.std.proofs.lemmas.Bool.{and_parts, not-true, eqb-false, eqb-true, ne_eqb}
use Rattle.std.proofs.Math.Seq.{take-append_seam}
use Rattle.std.proofs.lemmas.List.Elements.{All-nil, All-cons, All-append, All-head, All-tail}
use Rattle.auc_graph.specs.declared.limits.TheConstants.{MOST_OBJECTS}
use Rattle.auc_claim.specs.declared.lists.Pick.{Pick}
use Rattle.auc_claim.specs.declared.version.Version.TheVariants.{First, Second}
use Rattle.auc_cert.specs.declared.form.Form.{Form}
use Rattle.auc_cert.specs.declared.form.Form.TheVariants.{Usual, Large}
use Rattle.auc_graph.specs.Price.{IsPrice}
use Rattle.auc_claim.specs.Spelled.{IsPick}
use Rattle.auc_cert.specs.Text.{head_line, assign_line, price_line, number_line, numbered, joined}
use Rattle.auc_claim.specs.Spelled.{IsBelow}
use Rattle.auc_cert.specs.CertReading.{lines_in, IsFirstBadOf}
use Rattle.auc_cert.proofs.NumberWords.{number_goes_on}

-- ---- the lines of bytes

abbrev pub lacks : ℕ → List ℕ → Bool
lacks stop [] = true
lacks stop (b ∷ bs) = not (eqb b stop) && lacks stop bs

pub record IsLine (l : List ℕ) : Type 0 where
  pub word : List ℕ
  pub text : l ≡ word ++ 10 ∷ []
  pub whole : All (λ b. b ≢ 10) word

abbrev pub AreLines : List (List ℕ) → Type 0
AreLines [] = Unit {0}
AreLines (l ∷ ls) = IsLine l × AreLines ls

lines_in_word : (w rest : List ℕ) → All (λ b. b ≢ 10) w → lines_in (w ++ 10 ∷ rest) ≡ (w ++ 10 ∷ []) ∷ lines_in rest
lines_in_word [] rest h = refl
lines_in_word (b ∷ w) rest h =
    let t : eqb b 10 ≡ false = ne_eqb b 10 (All-head (λ b. b ≢ 10) b w h) in
    rw (t, lines_in_word w rest (All-tail (λ b. b ≢ 10) b w h)) refl

pub lines_in_line : (l rest : List ℕ) → IsLine l → lines_in (l ++ rest) ≡ l ∷ lines_in rest
lines_in_line l rest h =
    ap (λ (x : List ℕ). lines_in (x ++ rest)) h.text ∙ ap lines_in (append_assoc h.word (10 ∷ []) rest) ∙ lines_in_word h.word rest h.whole ∙ ap (λ (x : List ℕ). x ∷ lines_in rest) (sym h.text)

pub lines_in_front : (ls : List (List ℕ)) (rest : List ℕ) → AreLines ls → lines_in (joined ls ++ rest) ≡ ls ++ lines_in rest
lines_in_front [] rest h = refl
lines_in_front (l ∷ ls) rest h =
    ap lines_in (append_assoc l (joined ls) rest) ∙ lines_in_line l (joined ls ++ rest) h.0 ∙ ap (λ (r : List (List ℕ)). l ∷ r) (lines_in_front ls rest h.1)

joined_step : (b : ℕ) (bytes : List ℕ) (ls : List (List ℕ)) (t : Bool) → (t ≡ true → b ≡ 10) → joined ls ≡ bytes → joined (cond t ((10 ∷ []) ∷ ls) (onto_first b ls)) ≡ b ∷ bytes
joined_step b bytes ls true is h = ap (λ (r : List ℕ). 10 ∷ r) h ∙ ap (λ (n : ℕ). n ∷ bytes) (sym (is refl))
joined_step b bytes [] false is h = ap (λ (r : List ℕ). b ∷ r) h
joined_step b bytes (l ∷ ls) false is h = ap (λ (r : List ℕ). b ∷ r) h

pub joined_lines : (bytes : List ℕ) → joined (lines_in bytes) ≡ bytes
joined_lines [] = refl
joined_lines (b ∷ bytes) = joined_step b bytes (lines_in bytes) (eqb b 10) (eqb-true b 10) (joined_lines bytes)

-- ---- where a text leaves a kind of texts

-- a text whose lines are `more` begins as these bytes do, at the first line at least
abbrev pub GoesOn : List (List ℕ) → List ℕ → Type 0
GoesOn [] rest = rest ≡ []
GoesOn (l ∷ more) rest = (after : List ℕ) × (rest ≡ l ++ after)

goes_on : (rest : List ℕ) (ls more : List (List ℕ)) → joined ls ≡ rest → take 1 ls ≡ take 1 more → GoesOn more rest
goes_on rest [] [] j e = sym j
goes_on rest [] (m ∷ more) j e = absurd cc
goes_on rest (l ∷ ls) [] j e = absurd cc
goes_on rest (l ∷ ls) (m ∷ more) j e =
    let h : l ≡ m = cc in
    (joined ls, sym j ∙ ap (λ (x : List ℕ). x ++ joined ls) h)

-- the lines begin with these, and then `many` of them are those of xs
pub record GoOnAs (many : ℕ) (front xs ls : List (List ℕ)) : Type 0 where
  pub more : List (List ℕ)
  pub split : ls ≡ front ++ more
  pub same : take many xs ≡ take many more

split_here : (front xs ls : List (List ℕ)) → take (suc (length front)) (front ++ xs) ≡ take (suc (length front)) ls → GoOnAs 1 front xs ls
split_here [] xs ls e = record { more = ls; split = refl; same = e }
split_here (f ∷ front) xs [] e = absurd cc
split_here (f ∷ front) xs (l ∷ ls) e =
    let rest : take (suc (length front)) (front ++ xs) ≡ take (suc (length front)) ls = cc in
    let h : f ≡ l = cc in
    let r = split_here front xs ls rest in
    record { more = r.more; split = ap (λ (x : List (List ℕ)). l ∷ x) r.split ∙ ap (λ (x : List ℕ). x ∷ (front ++ r.more)) (sym h); same = r.same }

-- The lines in front are those of some text of the kind, and none that begins with them goes on as the bytes do.
pub bad_of : (kind : List (List ℕ) → Type 0) (front : List (List ℕ)) (bytes rest : List ℕ) (k : ℕ) → AreLines front → bytes ≡ joined front ++ rest → k ≡ length front
    → (whole : List (List ℕ)) → kind whole → (more : List (List ℕ)) → whole ≡ front ++ more
    → ((ls : List (List ℕ)) → kind ls → (more : List (List ℕ)) → ls ≡ front ++ more → GoesOn more rest → ⊥) → IsFirstBadOf kind bytes k
bad_of kind front bytes rest k lines text at whole of more is none =
    let le : lines_in bytes ≡ front ++ lines_in rest = ap lines_in text ∙ lines_in_front front rest lines in
    let n : ℕ = length front in
    let bad : IsFirstBadOf kind bytes n = record {
      lines = whole;
      are_text = of;
      before = ap (take n) le ∙ take-append_seam front (lines_in rest) ∙ sym (take-append_seam front more) ∙ ap (take n) (sym is);
      here = λ ls o e. let r = split_here front (lines_in rest) ls (ap (take (suc n)) (sym le) ∙ e) in none ls o r.more r.split (goes_on rest (lines_in rest) r.more (joined_lines rest) r.same);
    } in
    subst (IsFirstBadOf kind bytes) (sym at) bad

-- two lists of lines are the same, made of the same two lists, and nothing is left behind them
pub record AreSameLists {X Y : Type 0} (xs : List X) (ys : List Y) (own : List X) (owns : List Y) (more : List (List ℕ)) : Type 0 where
  pub first : xs ≡ own
  pub second : ys ≡ owns
  pub none : more ≡ []

-- ---- the lines of a certificate are lines

pub all_lack : (stop : ℕ) (bs : List ℕ) → lacks stop bs ≡ true → All (λ b. b ≢ stop) bs
all_lack stop [] h = All-nil (λ b. b ≢ stop)
all_lack stop (b ∷ bs) h =
    let a = and_parts (not (eqb b stop)) (lacks stop bs) h in
    All-cons (λ b. b ≢ stop) b bs (eqb-false b stop (not-true (eqb b stop) a.0)) (all_lack stop bs a.1)

pub and_then : (x y : List ℕ) → All (λ b. b ≢ 10) x → All (λ b. b ≢ 10) y → All (λ b. b ≢ 10) (x ++ y)
and_then x y p q = All-append (λ b. b ≢ 10) x y p q

pub digits : (z : ℤ) → FitsSigned w64 z → All (λ b. b ≢ 10) (signed_decimal z)
digits z f = number_goes_on 10 z (inl refl) f

-- a number more, after a space
pub and_number : (word : List ℕ) (z : ℤ) → All (λ b. b ≢ 10) word → FitsSigned w64 z → All (λ b. b ≢ 10) (word ++ codes " " ++ signed_decimal z)
and_number word z h fits = and_then (word ++ codes " ") (signed_decimal z) (and_then word (codes " ") h (all_lack 10 (codes " ") refl)) (digits z fits)

pub head_is_line : (form : Form) → IsLine (head_line form)
head_is_line (Usual First) = record { word = codes "auction 1"; text = refl; whole = all_lack 10 (codes "auction 1") refl }
head_is_line (Usual Second) = record { word = codes "auction 2"; text = refl; whole = all_lack 10 (codes "auction 2") refl }
head_is_line Large = record { word = codes "auction 3"; text = refl; whole = all_lack 10 (codes "auction 3") refl }

assign_is_line : (i : ℕ) (p : Pick) → i < MOST_OBJECTS → IsPick MOST_OBJECTS p → IsLine (assign_line i p)
assign_is_line i p lt h =
    let fits : FitsSigned w64 (pos (i + 1)) = omega (arith, ints) in
    let object : p.object < MOST_OBJECTS = h.object in
    let fits_object : FitsSigned w64 (pos (p.object + 1)) = omega (arith, ints) in
    let fits_cost : FitsSigned w64 p.cost = omega (arith, ints, h.low, h.high) in
    let front : List ℕ = codes "assign " ++ decimal (i + 1) in
    let start = and_then (codes "assign ") (decimal (i + 1)) (all_lack 10 (codes "assign ") refl) (digits (pos (i + 1)) fits) in
    record {
      word = front ++ codes " " ++ decimal (p.object + 1) ++ codes " " ++ signed_decimal p.cost;
      text = refl;
      whole = and_number (front ++ codes " " ++ decimal (p.object + 1)) p.cost (and_number front (pos (p.object + 1)) start fits_object) fits_cost;
    }

price_is_line : (j : ℕ) (z : ℤ) → j < MOST_OBJECTS → IsPrice z → IsLine (price_line j z)
price_is_line j z lt h =
    let fits : FitsSigned w64 (pos (j + 1)) = omega (arith, ints) in
    let fits_price : FitsSigned w64 z = omega (arith, ints, h.low, h.high) in
    let front : List ℕ = codes "price " ++ decimal (j + 1) in
    record {
      word = front ++ codes " " ++ signed_decimal z;
      text = refl;
      whole = and_number front z (and_then (codes "price ") (decimal (j + 1)) (all_lack 10 (codes "price ") refl) (digits (pos (j + 1)) fits)) fits_price;
    }

numbered_lines : (X : Type 0) (line : ℕ → X → List ℕ) (ok : X → Type 0) → ((k : ℕ) (x : X) → k < MOST_OBJECTS → ok x → IsLine (line k x)) → (k : ℕ) (xs : List X) → k + length xs ≤ MOST_OBJECTS → All ok xs → AreLines (numbered line k xs)
numbered_lines X line ok is k [] le all = tt
numbered_lines X line ok is k (x ∷ xs) le all = (is k x (omega arith) (All-head ok x xs all), numbered_lines X line ok is (k + 1) xs (omega arith) (All-tail ok x xs all))

pub lines_append : (a b : List (List ℕ)) → AreLines a → AreLines b → AreLines (a ++ b)
lines_append [] b p q = q
lines_append (l ∷ a) b p q = (p.0, lines_append a b p.1 q)

wide_pick : (most : ℕ) (p : Pick) → most ≤ MOST_OBJECTS → IsPick most p → IsPick MOST_OBJECTS p
wide_pick most p few h = let object = h.object in record { object = omega (arith, object, few); low = h.low; high = h.high }

pub picks_lines : (most : ℕ) (picks : List Pick) → most ≤ MOST_OBJECTS → length picks ≤ MOST_OBJECTS → All (IsPick most) picks → AreLines (numbered assign_line 0 picks)
picks_lines most picks few le all =
    numbered_lines Pick assign_line (IsPick most) (λ i p lt h. assign_is_line i p lt (wide_pick most p few h)) 0 picks (omega arith) all

pub prices_lines : (prices : List ℤ) → length prices ≤ MOST_OBJECTS → All IsPrice prices → AreLines (numbered price_line 0 prices)
prices_lines prices le all = numbered_lines ℤ price_line IsPrice price_is_line 0 prices (omega arith) all

number_is_line : (front : List ℕ) → lacks 10 front ≡ true → (place k : ℕ) → place < MOST_OBJECTS → IsBelow MOST_OBJECTS k → IsLine (number_line front place k)
number_is_line front whole place k lt below =
    let fits : FitsSigned w64 (pos (k + 1)) = omega (arith, ints) in
    record { word = front ++ decimal (k + 1); text = refl; whole = and_then front (decimal (k + 1)) (all_lack 10 front whole) (digits (pos (k + 1)) fits) }

pub numbers_lines : (front : List ℕ) → lacks 10 front ≡ true → (numbers : List ℕ) → length numbers ≤ MOST_OBJECTS → All (IsBelow MOST_OBJECTS) numbers → AreLines (numbered (number_line front) 0 numbers)
numbers_lines front whole numbers le all = numbered_lines ℕ (number_line front) (IsBelow MOST_OBJECTS) (number_is_line front whole) 0 numbers (omega arith) all
