-- The replies of a run from the empty mail are right for its script.
use Rattle.std.proofs.Common.{◌≡◌, ℕ, true, List, length, ℤ, sym, ap, subst, ◌∙◌}
use Rattle.std.specs.List.{zip}
use Rattle.std.proofs.lemmas.List.{length-replicate}
use Rattle.auc_mail.specs.Mail.{Mail, IsEmpty, empty_mail}
use Rattle.auc_mail.specs.Run.{Run}
use Rattle.auc_mail.specs.Letters.{HandsOutInOrder, NothingBehindClose}
use Rattle.auc_mail.specs.declared.call.Call.{Call}
use Rattle.auc_mail.specs.declared.call.Reply.{Reply}
use Rattle.auc_script.specs.declared.script.Script.{Script}
use Rattle.auc_script.specs.Replies.{AreRepliesTo}

is_empty : (boxes senders nodes most : ℕ) → IsEmpty {T = ℤ} (empty_mail boxes senders nodes most)
is_empty boxes senders nodes most = ap (λ (n : ℕ). empty_mail n senders nodes most) (sym (length-replicate boxes true))

pub are_replies : (s : Script) (calls : List (Call ℤ)) (replies : List (Reply ℤ)) (m y : Mail ℤ) → calls ≡ s.calls → m ≡ empty_mail s.boxes s.senders s.nodes s.most → length replies ≡ length calls
    → Run m (zip calls replies) y → (IsEmpty m → HandsOutInOrder (zip calls replies)) → NothingBehindClose (zip calls replies) → AreRepliesTo s replies
are_replies s calls replies m y same made one_each run in_order closed =
    let empty : IsEmpty m = subst (λ (x : Mail ℤ). IsEmpty x) (sym made) (is_empty s.boxes s.senders s.nodes s.most) in
    record {
      one_each = one_each ∙ ap length same;
      last = y;
      run = subst (λ (x : Mail ℤ). Run x (zip s.calls replies) y) made (subst (λ (xs : List (Call ℤ)). Run m (zip xs replies) y) same run);
      in_order = subst (λ (xs : List (Call ℤ)). HandsOutInOrder (zip xs replies)) same (in_order empty);
      closed = subst (λ (xs : List (Call ℤ)). NothingBehindClose (zip xs replies)) same closed;
    }
