-- The rule over the two copies is kept by each step.
use Rattle.std.proofs.Common.{◌≡◌, ℕ, zero, suc, ◌≢◌, List, [], ◌∷◌, Option, Some, None, option_map, set, refl, ap, sym, ◌∙◌, subst, ⊎_elim}
use Rattle.std.proofs.lemmas.Option.{same_Some}
use mathlib.Core.Option.{some}
use lib.ListN.{get_elem?}
use Rattle.logbook.specs.Pages.{Book}
use Rattle.left_right.specs.Register.{Admits, TurnsAt, Forks, Merges}
use Rattle.atomic_table.proofs.Lists.{at_set, at_snoc}
use Rattle.pgp_feed.specs.declared.receipt.Receipt.{Receipt}
use Rattle.pgp_feed.specs.declared.store.Store.{Store}
use Rattle.pgp_feed.specs.Receipts.{feed_of, entries_of, Holds}
use Rattle.pgp_feed.specs.OneLog.{IsTold, IsOneLog, SeesTold}
use Rattle.pgp_feed.proofs.Fronts.{front_self, front_trans}

pub holds_self : (r : Receipt) → Holds r r
holds_self r = record { feed = refl; front = front_self (entries_of r) }

pub holds_trans : (p q r : Receipt) → Holds p q → Holds q r → Holds p r
holds_trans p q r a b = record { feed = b.feed ∙ a.feed; front = front_trans (entries_of r) (entries_of q) (entries_of p) b.front a.front }

pub admits : Admits IsOneLog None
admits x views h = record {
  told = h.told;
  fronts = λ seat r at. ⊎_elim (h.fronts seat r) (λ (e : None ≡ Some r). absurd (cc e)) (at_snoc views None (Some r) seat at);
}

pub turns : (seat : ℕ) (v : Option Receipt) (x y : Store) → (IsTold x → IsTold y) → (IsTold x → Holds y.told x.told)
    → TurnsAt IsOneLog seat v x y SeesTold
turns seat v x y told step views h at = (
  Some y.told,
  record {
    told = told h.told;
    fronts = λ j r e. ⊎_elim
        (λ (t : (j ≡ seat) × (Some y.told ≡ Some r)). subst (Holds y.told) (same_Some y.told r t.1) (holds_self y.told))
        (λ (t : (j ≢ seat) × (get_elem? views j ≡ some (Some r))). holds_trans y.told x.told r (step h.told) (h.fronts j r t.1))
        (at_set views seat j (Some y.told) (Some r) e);
  },
  record {
    told = told h.told;
    later = λ r is. holds_trans y.told x.told r (step h.told) (h.fronts seat r (at ∙ ap some is));
    seen = refl;
  },
)

set_same : (x : Store) (views : List (Option Receipt)) (seat : ℕ) (v : Option Receipt) → IsOneLog x views
    → ((r : Receipt) → v ≡ Some r → Holds x.told r)
    → (j : ℕ) (r : Receipt) → get_elem? (set views seat v) j ≡ some (Some r) → Holds x.told r
set_same x views seat v h own j r e = ⊎_elim
    (λ (t : (j ≡ seat) × (v ≡ Some r)). own r t.1)
    (λ (t : (j ≢ seat) × (get_elem? views j ≡ some (Some r))). h.fronts j r t.1)
    (at_set views seat j v (Some r) e)

pub forks : (seat : ℕ) (v : Option Receipt) → Forks IsOneLog seat v v v
forks seat v x views h at =
    let own : (r : Receipt) → v ≡ Some r → Holds x.told r = λ r is. h.fronts seat r (at ∙ ap some is) in
    record {
      told = h.told;
      fronts = λ j r e. ⊎_elim (set_same x views seat v h own j r) (λ (is : v ≡ Some r). own r is) (at_snoc (set views seat v) v (Some r) j e);
    }

pub merges : (seat : ℕ) (v : Option Receipt) (other : ℕ) (w : Option Receipt) → Merges IsOneLog seat v other w w None
merges seat v other w x views h at apart there =
    let told : (r : Receipt) → w ≡ Some r → Holds x.told r = λ r is. ⊎_elim
    (λ (t : (other ≡ seat) × (w ≡ w)). absurd (apart t.0))
    (λ (t : (other ≢ seat) × (get_elem? views other ≡ some w)). h.fronts other r (t.1 ∙ ap some is))
    (at_set views seat other w w there) in
    record {
      told = h.told;
      fronts = λ j r e. ⊎_elim
          (λ (t : (j ≡ other) × (None ≡ Some r)). absurd (cc (t.1)))
          (λ (t : (j ≢ other) × (get_elem? (set views seat w) j ≡ some (Some r))). set_same x views seat w h told j r t.1)
          (at_set (set views seat w) other j None (Some r) e);
    }

-- what a reader sees is of the feed that it saw before
pub knows_feed : (v : Option Receipt) (feed : Book) (s : Store) → option_map feed_of v ≡ Some feed → ((r : Receipt) → v ≡ Some r → Holds s.told r) → feed_of s.told ≡ feed
knows_feed None feed s is later = absurd (cc is)
knows_feed (Some r) feed s is later = let h = later r refl in let e : feed_of r ≡ feed = cc is in sym h.feed ∙ e

pub known_one : {X : Type 0} (f : X → Option Book) (found : Option X) (one : X) (feed : Book) → found ≡ Some one → option_map f found ≡ Some (Some feed) → f one ≡ Some feed
known_one f None one feed is e = absurd (cc is)
known_one f (Some x) one feed is e = let same : x ≡ one = cc is in subst (λ y. f y ≡ Some feed) same (cc e)

unseen : (s : Store) (seat : ℕ) (r : Receipt) → get_elem? (None ∷ []) seat ≡ some (Some r) → Holds s.told r
unseen s zero r at = absurd (cc at)
unseen s (suc seat) r at = absurd (cc at)

-- at the start nobody has seen anything
pub opens : (s : Store) → IsTold s → IsOneLog s (None ∷ [])
opens s told = record { told = told; fronts = unseen s }
