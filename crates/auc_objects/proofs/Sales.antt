-- A shard, and each of its objects, after a sale.
use Rattle.std.proofs.Common.{◌≡◌, ◌≢◌, ℕ, ◌<◌, List, length, set, refl, sym, ap, ◌∙◌, None}
use Rattle.std.specs.Prelude.{ℤ, ◌≤ℤ◌, ◌<ℤ◌, pos, Option}
use Rattle.std.proofs.lemmas.List.{get_or-set_same, get_or-set_other, length-set, set-get_or}
use Rattle.auc_letters.specs.declared.letter.Bid.{Bid}
use Rattle.auc_letters.specs.declared.state.Held.{Held}
use Rattle.auc_letters.specs.Award.{Sale, award, least_amount, sold_by}
use Rattle.auc_letters.proofs.Award.{award_accepts, award_declines}
use Rattle.auc_objects.specs.Objects.{Objects, SameShape, after_bid, holder_of, price_of, sale_of, with_sale}

pub shape_same : (s : Objects) → SameShape s s
shape_same s = record { shard = refl; of = refl; person_shards = refl; persons = refl; objects = refl; holders = refl }

pub shape_sold : (s : Objects) (j : ℕ) (sale : Sale) → SameShape s (with_sale s j sale)
shape_sold s j sale = record { shard = refl; of = refl; person_shards = refl; persons = refl; objects = length-set s.prices j sale.price; holders = length-set s.holders j sale.holder }

-- a sale with the object's own price and holder changes nothing
with_same : (s : Objects) (j : ℕ) → with_sale s j (sale_of s j) ≡ s
with_same s j =
    ap (λ (ps : List ℤ). record s { prices = ps; holders = set s.holders j (holder_of s j) }) (set-get_or s.prices j (pos 0))
    ∙ ap (λ (hs : List (Option Held)). record s { holders = hs }) (set-get_or s.holders j None)

pub after_accepted : (s : Objects) (eps : ℤ) (bid : Bid) → least_amount (price_of s bid.object) eps ≤ℤ bid.amount → after_bid s eps bid ≡ with_sale s bid.object (sold_by bid)
after_accepted s eps bid h = ap (with_sale s bid.object) (award_accepts 1 eps (sale_of s bid.object) bid h)

pub after_declined : (s : Objects) (eps : ℤ) (bid : Bid) → bid.amount <ℤ least_amount (price_of s bid.object) eps → after_bid s eps bid ≡ s
after_declined s eps bid h = ap (with_sale s bid.object) (award_declines 1 eps (sale_of s bid.object) bid h) ∙ with_same s bid.object

-- the object that was bid for, and the others
pub sale_here : (s : Objects) (eps : ℤ) (bid : Bid) → bid.object < length s.prices → bid.object < length s.holders → sale_of (after_bid s eps bid) bid.object ≡ award eps (sale_of s bid.object) bid
sale_here s eps bid known held =
    let sale : Sale = award eps (sale_of s bid.object) bid in
    ap (λ (p : ℤ). record { price = p; holder = holder_of (with_sale s bid.object sale) bid.object }) (get_or-set_same s.prices bid.object sale.price (pos 0) known)
    ∙ ap (λ (h : Option Held). record { price = sale.price; holder = h }) (get_or-set_same s.holders bid.object sale.holder None held)

pub sale_other : (s : Objects) (eps : ℤ) (bid : Bid) (j : ℕ) → bid.object ≢ j → sale_of (after_bid s eps bid) j ≡ sale_of s j
sale_other s eps bid j ne =
    let sale : Sale = award eps (sale_of s bid.object) bid in
    ap (λ (p : ℤ). record { price = p; holder = holder_of (with_sale s bid.object sale) j }) (get_or-set_other s.prices bid.object j sale.price (pos 0) (λ e. ne (sym e)))
    ∙ ap (λ (h : Option Held). record { price = price_of s j; holder = h }) (get_or-set_other s.holders bid.object j sale.holder None (λ e. ne (sym e)))
