-- The objects of a shard after the letters that its worker took, by the award rule.
use Rattle.std.proofs.Common.{◌≡◌, ◌≢◌, ◌%◌, ◌<◌, ℕ, List, [], ◌∷◌, ◌++◌, length, map, refl, ap, sym, ◌∙◌, subst, inl, inr, arith}
use Rattle.std.specs.Prelude.{ℤ, All}
use Rattle.std.proofs.lemmas.Bool.{cases_eq, eq-eqb, ne_eqb}
use Rattle.std.proofs.lemmas.List.{append-nil}
use Rattle.std.proofs.lemmas.List.Elements.{All-head, All-tail, All-weaker, filter_map-append}
use Rattle.std.proofs.lemmas.List.Sums.{fold-append}
use Rattle.auc_letters.specs.declared.letter.Letter.{Letter}
use Rattle.auc_letters.specs.declared.letter.Bid.{Bid}
use Rattle.auc_letters.specs.declared.letter.Why.{Why}
use Rattle.auc_letters.specs.declared.out.Out.{Out}
use Rattle.auc_letters.specs.Award.{Sale, award, award_all, bid_letter, bid_on, bids_on}
use Rattle.auc_graph.specs.Price.{IsPrice}
use Rattle.auc_letters.proofs.Award.{price_is_amount}
use Rattle.auc_objects.specs.Objects.{Objects, Owns, SameShape, after_bid, sale_of}
use Rattle.auc_objects.proofs.Letters.{stray as stray_letter}
use Rattle.auc_objects.proofs.Sales.{sale_here, sale_other, shape_sold}
use Rattle.auc_book.specs.Seat.{Account}
use Rattle.auc_threads.specs.declared.calls.Step.{Step}
use Rattle.auc_threads.specs.Dealing.{AfterLetters, Deals, Fits, after_bids}
use Rattle.auc_threads.specs.Sales.{Sells}
use Rattle.auc_threads.specs.Worker.{box, taker}
use Rattle.auc_threads.proofs.DealingLaws.{deals_shape}

owns_then : (s t : Objects) (j : ℕ) → SameShape s t → Owns s j → Owns t j
owns_then s t j e o = record { known = subst (λ (n : ℕ). j < n) (sym e.objects) o.known; own = ap (λ (n : ℕ). j % n) e.of ∙ (o.own ∙ sym e.shard) }

fits_then : (s t : Objects) (b : Bid) → SameShape s t → Fits s b → Fits t b
fits_then s t b e f = record { owns = owns_then s t b.object e f.owns; amount = f.amount }

bids_append : (j : ℕ) (xs ys : List Letter) → bids_on j (xs ++ ys) ≡ bids_on j xs ++ bids_on j ys
bids_append j xs ys = filter_map-append (bid_on j) xs ys

bids_here : (j : ℕ) (bid : Bid) → bid.object ≡ j → IsPrice bid.amount → bids_on j (bid_letter bid ∷ []) ≡ bid ∷ []
bids_here j bid e p = rw (eq-eqb bid.object j e, price_is_amount bid.amount p) refl

bids_there : (j : ℕ) (bid : Bid) → bid.object ≢ j → bids_on j (bid_letter bid ∷ []) ≡ []
bids_there j bid ne = rw (ne_eqb bid.object j ne) refl

-- a bid that fits
sold_one : (eps : ℤ) (s : Objects) (bid : Bid) (j : ℕ) → length s.holders ≡ length s.prices → Fits s bid → sale_of (after_bid s eps bid) j ≡ award_all eps (sale_of s j) (bids_on j (bid_letter bid ∷ []))
sold_one eps s bid j each fits =
    let known = fits.owns.known in
    let held : bid.object < length s.holders = omega (arith, known, each) in
    elim (cases_eq bid.object j) [
      | inl e ↦ (
          let sold : sale_of (after_bid s eps bid) j ≡ award eps (sale_of s j) bid = subst (λ (k : ℕ). sale_of (after_bid s eps bid) k ≡ award eps (sale_of s k) bid) e (sale_here s eps bid known held) in
          sold ∙ ap (award_all eps (sale_of s j)) (sym (bids_here j bid e fits.amount)))
      | inr ne ↦ sale_other s eps bid j ne ∙ ap (award_all eps (sale_of s j)) (sym (bids_there j bid ne))
    ]

sold_all : (eps : ℤ) (s : Objects) (bids : List Bid) (j : ℕ) → length s.holders ≡ length s.prices → All (Fits s) bids → sale_of (after_bids eps s bids) j ≡ award_all eps (sale_of s j) (bids_on j (map bid_letter bids))
sold_all eps s [] j each fit = refl
sold_all eps s (b ∷ bs) j each fit =
    let shape : SameShape s (after_bid s eps b) = shape_sold s b.object _ in
    let later : All (Fits (after_bid s eps b)) bs = All-weaker (Fits s) (Fits (after_bid s eps b)) (λ x f. fits_then s (after_bid s eps b) x shape f) bs (All-tail (Fits s) b bs fit) in
    sold_all eps (after_bid s eps b) bs j (shape.holders ∙ (each ∙ sym shape.objects)) later
    ∙ (ap (λ (x : Sale). award_all eps x (bids_on j (map bid_letter bs))) (sold_one eps s b j each (All-head (Fits s) b bs fit))
    ∙ (sym (fold-append (award eps) (sale_of s j) (bids_on j (bid_letter b ∷ [])) (bids_on j (map bid_letter bs))) ∙ ap (award_all eps (sale_of s j)) (sym (bids_append j (bid_letter b ∷ []) (map bid_letter bs)))))

-- a letter that doesn't fit is no bid on an object of the shard
no_bids : (t : Objects) (stray : List Letter) (step : Step) (j : ℕ) → AfterLetters t stray step → Owns t j → bids_on j stray ≡ []
no_bids t stray Step.On j after own = ap (bids_on j) after
no_bids t stray Step.Over j after own = ap (bids_on j) after
no_bids t stray (Step.Stop Why.Trail) j after own = ap (bids_on j) after
no_bids t stray (Step.Stop Why.Stray) j after own = ap (bids_on j) after.stray_is ∙ stray_letter t after.letter j own after.unfit
no_bids t stray (Step.Stop Why.Bids) j after own = absurd after
no_bids t stray (Step.Stop Why.Ceiling) j after own = absurd after
no_bids t stray (Step.Stop Why.Stuck) j after own = absurd after
no_bids t stray (Step.Stop Why.Posts) j after own = absurd after
no_bids t stray (Step.Stop Why.Mail) j after own = absurd after
no_bids t stray (Step.Stop Why.Fell) j after own = absurd after

pub sells_of : (eps : ℤ) (room : ℕ) (s t : Objects) (a b : Account Letter) (said : List Out) (step : Step) → length s.holders ≡ length s.prices → Deals eps (box room s.shard) (taker s a) said (taker t b) step → Sells eps room (taker s a) (taker t b)
sells_of eps room s t a b said step each f =
    let shape : SameShape s t = deals_shape eps room s.shard s t a b said step f in
    let d = f.dealt in
    record {
      shape = shape;
      letters = f.letters;
      took = f.took;
      sold = λ j own.
          let stray : bids_on j d.stray ≡ [] = no_bids t d.stray step j d.after (owns_then s t j shape own) in
          let bids : bids_on j f.letters ≡ bids_on j (map bid_letter d.bids) = ap (bids_on j) d.letters_are ∙ (bids_append j (map bid_letter d.bids) d.stray ∙ (ap (λ w. bids_on j (map bid_letter d.bids) ++ w) stray ∙ append-nil (bids_on j (map bid_letter d.bids)))) in
          ap (λ (x : Objects). sale_of x j) d.left ∙ (sold_all eps s d.bids j each d.fit ∙ ap (award_all eps (sale_of s j)) (sym bids));
    }
