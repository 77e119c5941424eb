-- What the tests of a map's tables say of the incrementals that made it.
use Rattle.std.proofs.Common.{◌≡◌, ◌<◌, ℕ, List, [], ◌∷◌, length, map, Bool, true, false, ◌||◌, ◌&&◌, not, cond, refl, sym, ◌∙◌, arith}
use Rattle.std.specs.Prelude.{Option, Some}
use Rattle.std.specs.List.{list_any}
use Rattle.std.specs.Option.{option_or}
use Rattle.std.proofs.lemmas.Bool.Decides.{nat_tests}
use Rattle.std.proofs.lemmas.List.Folds.{list_any-append}
use Rattle.pgp_crush.specs.Bucket.{bucket_of}
use Rattle.pgp_crush.specs.TreeFault.{may_lack_memory}
use Rattle.pgp_ids.specs.declared.bucket.BucketSpec.{BucketSpec}
use Rattle.pgp_ids.specs.declared.incremental.Incremental.{Incremental}
use Rattle.pgp_map.specs.declared.findings.Findings.{Findings}
use Rattle.pgp_lists.proofs.Lists.{any-mapped}
use Rattle.pgp_map.specs.declared.fault.MapFault.{MapFault}
use Rattle.pgp_map.specs.declared.fault.MapFault.TheVariants.{EpochGap, Memory, Twice}
use Rattle.pgp_map.specs.Devices.{boots, takes_down, destroys, is_up}
use Rattle.pgp_map.specs.kept.Findings.{first_of, AreFindings}
use Rattle.pgp_map.specs.MapFault.{map_fault, given_fault, has_epoch_gap, names_twice, devices_that_must_exist, then_with}
use Rattle.pgp_map.specs.Memory.{is_filled}
use Rattle.pgp_map.proofs.DeviceLemmas.{is_up-push}

-- a device that is named passes a test exactly if one of some list does
pub must_exist-any : (test : ℕ → Bool) (inc : Incremental) → list_any test (devices_that_must_exist inc)
    ≡ (list_any test inc.down || list_any test inc.gone || list_any (λ entry. test entry.osd) inc.weight
    || list_any (λ entry. test entry.osd) inc.up_thru || list_any (λ entry. test entry.osd) inc.lost)
must_exist-any test inc = simp (list_any-append, any-mapped)

pub ruleset must_exist_steps = (must_exist-any)

-- a device is up after an incremental that boots it, or that lets it stay up
pub up_after : (incs : List Incremental) (inc : Incremental) (osd : ℕ)
    → (boots osd inc || not (takes_down osd inc || destroys osd inc) && is_up incs osd) ≡ is_up (then_with incs inc) osd
up_after incs inc osd = joined (boots osd inc) (takes_down osd inc) (destroys osd inc) (is_up incs osd) ∙ sym (is_up-push incs inc osd)
  where
    joined : (b t g u : Bool) → (b || not (t || g) && u) ≡ cond (b || t || g) b u
    joined b t g u = grind arith

-- an incremental that changes another map is refused for it
pub gap-found : (incs : List Incremental) (inc : Incremental) → has_epoch_gap incs inc ≡ true → map_fault incs inc ≡ Some EpochGap
unfolding map_fault
gap-found incs inc gap = rw gap refl

-- one that changes this map is refused for what is in it twice
pub twice-found : (incs : List Incremental) (inc : Incremental) → has_epoch_gap incs inc ≡ false → names_twice inc ≡ true → map_fault incs inc ≡ Some Twice
unfolding map_fault
twice-found incs inc next twice = rw (next, twice) refl

-- the first of the findings is the first fault of an incremental that changes this map in which nothing is twice, or the tree's where there is none
pub fault-found : (incs : List Incremental) (inc : Incremental) (f : Findings) (found : Option MapFault) → has_epoch_gap incs inc ≡ false → names_twice inc ≡ false
    → AreFindings incs inc f → first_of f ≡ found → map_fault incs inc ≡ option_or found (given_fault inc.crush)
unfolding map_fault
fault-found incs inc f found next once are is = grind arith

-- no finding is that memory was lacking
pub found-otherwise : (f : Findings) → first_of f ≡ Some Memory → ⊥
found-otherwise f memory = grind arith

-- a list that has an item
pub is_filled-at : {X : Type 0} (xs : List X) (n : ℕ) → n < length xs → is_filled xs ≡ true
is_filled-at xs n here = grind (arith, here, nat_tests)

-- a list of buckets for which memory may be lacking has a bucket
pub lacks-filled : (buckets : List BucketSpec) → may_lack_memory (map bucket_of buckets) ≡ true → is_filled buckets ≡ true
lacks-filled [] lacks = cc
lacks-filled (b ∷ buckets) lacks = grind (arith, nat_tests)
