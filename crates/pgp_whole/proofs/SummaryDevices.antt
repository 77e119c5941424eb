-- The order of the devices for which groups wait.
use Rattle.std.proofs.Common.{◌≡◌, ℕ, suc, ◌+◌, ◌-◌, ◌<◌, ◌≤◌, List, ◌∷◌, Bool, true, cond, map, refl, ap, sym, ◌∙◌, arith}
use Rattle.std.specs.Cmp.{IsTotalOrder, nat_cmp_total, on_total, then_total}
use Rattle.std.specs.List.{Contains, filter, range_with_len}
use Rattle.std.specs.Ordering.{flip_args, is_lt, nat_cmp, ordering_reverse}
use Rattle.std.specs.declared.cmp.Ordering.{Ordering}
use Rattle.std.specs.declared.cmp.Ordering.TheVariants.{Less, Equal, Greater}
use Rattle.std.specs.declared.cmp.Reverse.{Reverse}
use Rattle.std.proofs.lemmas.List.FromFn.{get_or-range_with_len}
use Rattle.pgp_lists.specs.Ordered.{IsAscending, ascending, with_item}
use Rattle.pgp_lists.proofs.Members.{map-agree}
use Rattle.pgp_lists.proofs.Ordered.{IsAscending-by_transitive}
use Rattle.pgp_whole.specs.Summary.{device_cmp, device_numbers, devices_of, greater_first, is_waited_for, stands_first}
use Rattle.pgp_whole.specs.declared.devices.DeviceWaits.{DeviceWaits}

-- ---- the order

flipped : IsTotalOrder (flip_args nat_cmp)
flipped = record {
  antisymm = λ x y. nat_cmp_total.antisymm y x;
  trans = λ x y z first second. nat_cmp_total.trans z y x second first;
  congr = λ x y z same. nat_cmp_total.antisymm z x ∙ ap ordering_reverse (sym (nat_cmp_total.congr y x z same)) ∙ sym (nat_cmp_total.antisymm z y);
}

greater_total : (number : DeviceWaits → Reverse ℕ) → IsTotalOrder (greater_first number)
greater_total number = on_total (λ device. (number device).0) flipped

total : IsTotalOrder device_cmp
total =
    then_total (greater_total (λ device. device.frees))
    (then_total (greater_total (λ device. device.blocks)) (then_total (greater_total (λ device. device.awaited)) (on_total (λ device. device.osd) nat_cmp_total)))

less : (o : Ordering) → is_lt o ≡ true → o ≡ Less
less Less is = refl
less Equal is = absurd (cc)
less Greater is = absurd (cc)

pub ascends : (devices : List DeviceWaits) → IsAscending stands_first (ascending stands_first devices)
ascends = IsAscending-by_transitive stands_first
    (λ x y z first second. ap is_lt (total.trans x y z (less (device_cmp x y) first) (less (device_cmp y z) second)))

-- ---- one device more

module _ (waits : ℕ → DeviceWaits) where
  -- the devices from this number on for which groups wait
  abbrev pub from_number : ℕ → List DeviceWaits
  from_number n = ascending stands_first (filter is_waited_for (map waits (range_with_len n (4096 - n))))

  from-here : (n next : ℕ) → n + 1 ≡ next → next ≤ 4096 → range_with_len n (4096 - n) ≡ n ∷ range_with_len next (4096 - next)
  from-here n next is below =
      let more : 4096 - n ≡ suc (4096 - next) = omega arith in
      ap (range_with_len n) more ∙ ap {B = List ℕ} (λ from. n ∷ range_with_len from (4096 - next)) is

  put_if : ℕ → List DeviceWaits → Bool → List DeviceWaits
  put_if n devices b = ascending stands_first (cond b (waits n ∷ devices) devices)

  by-first : (n next : ℕ) → n + 1 ≡ next → next ≤ 4096 → from_number n ≡ put_if n (filter is_waited_for (map waits (range_with_len next (4096 - next)))) (is_waited_for (waits n))
  unfolding put_if
  by-first n next is below = ap (λ osds. ascending stands_first (filter is_waited_for (map waits osds))) (from-here n next is below)

  pub one-waits : (n next : ℕ) → n + 1 ≡ next → next ≤ 4096 → is_waited_for (waits n) ≡ true → from_number n ≡ with_item stands_first (waits n) (from_number next)
  unfolding put_if
  one-waits n next is below some = by-first n next is below ∙ ap (put_if n (filter is_waited_for (map waits (range_with_len next (4096 - next))))) some

pub all_numbers : (waits : ℕ → DeviceWaits) (n : ℕ) → n ≡ 0 → from_number waits n ≡ devices_of waits
unfolding device_numbers
all_numbers waits n is = ap (from_number waits) is

-- ---- the same counts

below-all : (osd : ℕ) → Contains device_numbers osd → osd < 4096
unfolding device_numbers
below-all osd in' = omega (arith, get_or-range_with_len 0 4096 in'.0 osd, in'.1, in'.2)

-- where two counts agree on all devices, the devices are the same
pub devices-agree : (one other : ℕ → DeviceWaits) → ((osd : ℕ) → osd < 4096 → one osd ≡ other osd) → devices_of one ≡ devices_of other
devices-agree one other same =
    ap (λ devices. ascending stands_first (filter is_waited_for devices)) (map-agree one other device_numbers (λ osd in'. same osd (below-all osd in')))
