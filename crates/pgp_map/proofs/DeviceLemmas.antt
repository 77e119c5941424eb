-- What an incremental changes of a device.
use Rattle.std.proofs.Common.{◌≡◌, ℕ, List, [], ◌∷◌, ◌++◌, Bool, false, ◌||◌, cond, refl, ap, ◌∙◌, max, filter, arith}
use Rattle.std.specs.Prelude.{nat_eq, Option, Some, None, flat_map}
use Rattle.std.specs.List.{last_or}
use Rattle.std.specs.Option.{option_map_or, option_or}
use Rattle.std.proofs.lemmas.Grind.{common_steps}
use Rattle.pgp_ids.specs.declared.incremental.DeviceEpoch.{DeviceEpoch}
use Rattle.pgp_ids.specs.declared.incremental.Incremental.{Incremental}
use Rattle.pgp_lists.specs.Last.{last_where}
use Rattle.pgp_map.specs.Devices.{boots, takes_down, destroys, is_up, greatest_epoch}
use Rattle.pgp_tables.specs.DeviceTable.{changed}
use Rattle.pgp_map.specs.Devices.{device}
use Rattle.pgp_lists.proofs.Last.{last_where-append, last_where-push}
use Rattle.pgp_lists.proofs.Lists.{flat_map-push}

-- the last of a list, or else what stood before it
last_or-either : {X : Type 0} (o : Option X) (xs : List X) → last_or o xs ≡ option_or (last_or None xs) o
last_or-either o [] = refl
last_or-either o (x ∷ xs) = let same = last_or-either (Some x) xs in grind (arith, same)

-- the last entry that passes a test, of those of all incrementals
pub last-push : {E : Type 0} (test : E → Bool) (f : Incremental → List E) (incs : List Incremental) (inc : Incremental)
    → last_where test (flat_map f (incs ++ inc ∷ [])) ≡ option_or (last_where test (f inc)) (last_where test (flat_map f incs))
last-push test f incs inc =
    ap (last_where test) (flat_map-push f incs inc) ∙ last_where-append test (flat_map f incs) (f inc)
    ∙ last_or-either (last_where test (flat_map f incs)) (filter test (f inc))

-- what is told last of a key
pub told-push : {E Y : Type 0} (h : E → Y) (test : E → Bool) (f : Incremental → List E) (incs : List Incremental) (inc : Incremental) (d : Y)
    → option_map_or h (last_where test (flat_map f (incs ++ inc ∷ []))) d
    ≡ option_map_or h (last_where test (f inc)) (option_map_or h (last_where test (flat_map f incs)) d)
told-push h test f incs inc d =
    let last = last-push test f incs inc in
    grind (arith, last)

-- the last incremental that passes a test, and what it says
fact-push : (says test : Incremental → Bool) (incs : List Incremental) (inc : Incremental)
    → option_map_or says (last_where test (incs ++ inc ∷ [])) false ≡ cond (test inc) (says inc) (option_map_or says (last_where test incs) false)
fact-push says test incs inc = grind (arith, last_where-push)

pub greatest-push : (test : Incremental → Bool) (incs : List Incremental) (inc : Incremental)
    → greatest_epoch (filter test (incs ++ inc ∷ [])) ≡ cond (test inc) (max (greatest_epoch (filter test incs)) inc.epoch) (greatest_epoch (filter test incs))
greatest-push test incs inc = grind (arith, common_steps)

pub device-push : (incs : List Incremental) (inc : Incremental) (osd : ℕ) → device (incs ++ inc ∷ []) osd ≡ changed inc osd (device incs osd)
device-push incs inc osd =
    let exists = fact-push (boots osd) (λ inc. boots osd inc || destroys osd inc) incs inc in
    let is_up = fact-push (boots osd) (λ inc. boots osd inc || takes_down osd inc || destroys osd inc) incs inc in
    let up_from = greatest-push (boots osd) incs inc in
    let down_at = greatest-push (takes_down osd) incs inc in
    let up_thru = told-push (λ (entry : DeviceEpoch). entry.epoch) (λ entry. nat_eq entry.osd osd) (λ inc. inc.up_thru) incs inc 0 in
    let lost_at = told-push (λ (entry : DeviceEpoch). entry.epoch) (λ entry. nat_eq entry.osd osd) (λ inc. inc.lost) incs inc 0 in
    grind (arith, exists, is_up, up_from, down_at, up_thru, lost_at)

pub is_up-push : (incs : List Incremental) (inc : Incremental) (osd : ℕ) → is_up (incs ++ inc ∷ []) osd ≡ cond (boots osd inc || takes_down osd inc || destroys osd inc) (boots osd inc) (is_up incs osd)
is_up-push incs inc osd = fact-push (boots osd) (λ inc. boots osd inc || takes_down osd inc || destroys osd inc) incs inc
