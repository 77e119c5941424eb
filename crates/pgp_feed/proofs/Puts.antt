-- What the writer's operations lead to.
use Rattle.std.proofs.Common.{◌≡◌, ℕ, List, [], ◌∷◌, ◌++◌, Option, Result, Ok, Err, MatchResult, is_ok, true, fold, ap, sym, ◌∙◌, subst}
use Rattle.std.specs.Arc.{arc_value}
use Rattle.left_right.specs.Register.{TurnsAt}
use Rattle.pgp_feed.specs.declared.receipt.Receipt.{Receipt}
use Rattle.pgp_feed.specs.declared.store.Store.{Store}
use Rattle.pgp_feed.specs.declared.store.Content.{Content}
use Rattle.pgp_feed.specs.declared.store.Operation.{Operation}
use Rattle.pgp_feed.specs.declared.store.Operation.TheVariants.{Skip, Put}
use Rattle.pgp_feed.specs.Receipts.{entries_of, Holds}
use Rattle.pgp_feed.specs.Stores.{content_of, applied}
use Rattle.pgp_feed.specs.OneLog.{IsOneLog, SeesTold}
use Rattle.pgp_feed.specs.kept.Puts.{IsPut}
use Rattle.pgp_feed.proofs.Views.{holds_self, turns}

pub put_told : (c : Content) (next : Receipt) (ops : List Operation) → IsPut c.told next ops → (fold applied c ops).told ≡ next
put_told c next [] put = sym put
put_told c next (Skip ∷ ops) put = put_told c next ops put
put_told c next (Put entry named ∷ []) put = put.1
put_told c next (Put entry named ∷ (o ∷ ops)) put = absurd (cc (put.0))

put_entries : (c : Content) (next : Receipt) (ops : List Operation) → IsPut c.told next ops → c.entries ≡ entries_of c.told → (fold applied c ops).entries ≡ entries_of next
put_entries c next [] put is = is ∙ ap entries_of (sym put)
put_entries c next (Skip ∷ ops) put is = put_entries c next ops put is
put_entries c next (Put entry named ∷ []) put is = ap (λ l. l ++ arc_value entry ∷ []) is ∙ sym (put.3)
put_entries c next (Put entry named ∷ (o ∷ ops)) put is = absurd (cc (put.0))

put_holds : (c : Content) (next : Receipt) (ops : List Operation) → IsPut c.told next ops → Holds next c.told
put_holds c next [] put = subst (λ (r : Receipt). Holds r c.told) (sym put) (holds_self c.told)
put_holds c next (Skip ∷ ops) put = put_holds c next ops put
put_holds c next (Put entry named ∷ ops) put = record { feed = sym (put.2); front = record { rest = arc_value entry ∷ []; whole = put.3 } }

pub put_turns : (seat : ℕ) (v : Option Receipt) (x y : Store) (next : Receipt) (ops : List Operation) → IsPut x.told next ops
    → content_of y ≡ fold applied (content_of x) ops → TurnsAt IsOneLog seat v x y SeesTold
put_turns seat v x y next ops put is =
    let named : y.told ≡ next = ap (λ (c : Content). c.told) is ∙ put_told (content_of x) next ops put in
    turns seat v x y
    (λ told. ap (λ (c : Content). c.entries) is ∙ (put_entries (content_of x) next ops put told ∙ ap entries_of (sym named)))
    (λ told. subst (λ (r : Receipt). Holds r x.told) (sym named) (put_holds (content_of x) next ops put))

pub when_ok : {A E : Type 0} (found : Result A E) (P Q : Type 0) → MatchResult found (λ _. P) (λ _. Q) → is_ok found ≡ true → P
when_ok (Ok x) P Q either is = either
when_ok (Err e) P Q either is = absurd (cc is)
