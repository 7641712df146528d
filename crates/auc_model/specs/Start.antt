-- The worlds with which a phase begins.
use Rattle.std.specs.Prelude.{ℕ, suc, ◌+◌, ◌*◌, ◌%◌, ◌<◌, ◌≡◌, ◌==◌, ◌&&◌, nat_lt, pos, ◌≤ℤ◌, false, List, [], ◌∷◌, None, if◌then◌else◌, All}
use Rattle.auc_mail.specs.Mail.{Mail, empty_mail}
use Rattle.auc_letters.specs.declared.letter.Letter.{Letter}
use Rattle.auc_letters.specs.declared.state.PersonState.{PersonState}
use Rattle.auc_letters.specs.Persons.{is_free}
use Rattle.auc_graph.specs.Price.{IsPrice}
use Rattle.auc_model.specs.World.{Phase, World, senders}

-- the limits of the numbers of a phase
pub record Lawful (g : Phase) : Type 0 where
  pub some_shards : 0 < g.shards
  pub eps_above : pos 1 ≤ℤ g.eps
  pub spread_above : pos 0 ≤ℤ g.spread
  pub arcs_in_range : (i : ℕ) → All (λ a. a.object < g.objects) (g.row i)

-- the number of times that i occurs in the list
abbrev pub occurs : ℕ → List ℕ → ℕ
occurs i [] = 0
occurs i (k ∷ ks) = if k == i then suc (occurs i ks) else occurs i ks

-- 1 where i is a person of the shard s, and free; else 0
abbrev pub free_in : Phase → PersonState → ℕ → ℕ → ℕ
free_in g t s i = if ((i % g.shards) == s) && (nat_lt i g.persons && is_free t) then 1 else 0

-- a mail with this number of boxes, all open, in which nothing was posted
abbrev pub IsNew : Phase → Mail Letter → ℕ → Type 0
IsNew g m boxes = m ≡ empty_mail boxes (senders g) m.nodes m.most

-- The world with which a phase begins, at any prices in range. No copy is above its price, no object has a holder, and
-- every person is free and once in its shard's list. Nothing was sent, stopped, counted or ended.
pub record Starts (g : Phase) (w : World) : Type 0 where
  pub price_range : (j : ℕ) → IsPrice (w.price j)
  pub copies_above : (s j : ℕ) → pos 0 ≤ℤ w.copy s j
  pub copies_low : (s j : ℕ) → w.copy s j ≤ℤ w.price j
  pub nobody_holds : (j : ℕ) → w.holder j ≡ None
  pub all_free : (i : ℕ) → w.state i ≡ PersonState.Free
  pub idle_is : (s i : ℕ) → occurs i (w.idle s) ≡ free_in g PersonState.Free s i
  pub none_stopped : (s : ℕ) → w.has_stopped s ≡ false
  pub no_person_out : (s : ℕ) → w.person_out s ≡ []
  pub no_object_out : (q : ℕ) → w.object_out q ≡ []
  pub objects_mail : IsNew g w.objects_mail g.shards
  pub persons_mail : IsNew g w.persons_mail g.shards
  pub hub_mail : IsNew g w.hub_mail 1
  pub none_counted : w.count ≡ 0
  pub no_end : w.end ≡ None

-- the usual numbers of letters that may wait in each mail
pub record UsualNodes (g : Phase) (w : World) : Type 0 where
  pub objects : w.objects_mail.nodes ≡ g.persons
  pub persons : w.persons_mail.nodes ≡ 4 * g.persons
  pub hub : w.hub_mail.nodes ≡ g.persons + 2 * g.shards
