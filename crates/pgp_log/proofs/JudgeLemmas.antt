-- Why a judge may lack memory to judge an entry.
use Rattle.pgp_log.proofs.Common.{◌≡◌, ◌≢◌, ◌⊎◌, inl, inr, Bool, true, false, List, map, Option, Some, None, if◌then◌else◌, refl, subst, option_map, Entry, Incremental, refusal_of, tree_refusal, given_fault, IsMapOf, Says, MapFault, OsdMap, incs_of}
use Rattle.pgp_crush.specs.Bucket.{Bucket, bucket_of}
use Rattle.pgp_crush.specs.TreeFault as tree
use Rattle.pgp_crush.specs.declared.fault.TreeFault.{TreeFault}
use Rattle.pgp_crush.specs.declared.fault.TreeFault.TheVariants.{NoRoot, TwiceHeld, WrongType, Unknown, TooDeep, TooMany, WeightSum}
use Rattle.pgp_ids.specs.declared.bucket.BucketSpec.{BucketSpec}
use Rattle.pgp_ids.specs.declared.refusal.Refusal.TheVariants as refusal
use Rattle.pgp_map.specs.MapFault.{map_fault}
use Rattle.pgp_map.specs.Memory.{MayLackMemory}
use Rattle.pgp_map.specs.declared.fault.MapFault.TheVariants as fault

-- the fault that was found, if one was, passes the test
abbrev Passes : {F : Type 0} → (F → Type 0) → Option F → Type 0
Passes {F = F} P found = (f : F) → found ≡ Some f → P f

passes_none : {F : Type 0} (P : F → Type 0) → Passes P None
passes_none P f is = absurd (cc is)

passes_some : {F : Type 0} (P : F → Type 0) (f : F) → P f → Passes P (Some f)
passes_some P f p g is = let same : f ≡ g = cc in subst P same p

passes_if : {F : Type 0} (P : F → Type 0) (b : Bool) (x y : Option F) → Passes P x → Passes P y → Passes P (if b then x else y)
passes_if P true x y one other = one
passes_if P false x y one other = other

-- the fault of a tree has a number
abbrev HasNumber : TreeFault → Type 0
HasNumber f = tree_refusal (tree.tree_fault_number f) ≢ refusal.Memory

-- the fault is no lack of memory
abbrev IsOther : MapFault → Type 0
IsOther f = refusal_of f ≢ refusal.Memory

below_root : (t : List Bucket) → Passes HasNumber (tree.fault_below_root t)
unfolding tree.fault_below_root
below_root t =
    passes_if HasNumber _ _ _ (passes_some HasNumber TwiceHeld (λ e. cc e))
    (passes_if HasNumber _ _ _ (passes_some HasNumber WrongType (λ e. cc e))
    (passes_if HasNumber _ _ _ (passes_some HasNumber Unknown (λ e. cc e))
    (passes_if HasNumber _ _ _ (passes_some HasNumber TooDeep (λ e. cc e))
    (passes_if HasNumber _ _ _ (passes_some HasNumber TooMany (λ e. cc e))
    (passes_if HasNumber _ _ _ (passes_some HasNumber WeightSum (λ e. cc e)) (passes_none HasNumber))))))

of_tree : (t : List Bucket) → Passes HasNumber (tree.tree_fault t)
unfolding tree.tree_fault
of_tree t = passes_if HasNumber _ _ _ (passes_some HasNumber NoRoot (λ e. cc e)) (below_root t)

wrapped : (found : Option TreeFault) → Passes HasNumber found → Passes IsOther (option_map fault.TreeFault found)
wrapped None p = passes_none IsOther
wrapped (Some f) p = passes_some IsOther (fault.TreeFault f) (p f refl)

of_given : (crush : Option (List BucketSpec)) → Passes IsOther (given_fault crush)
of_given None = passes_none IsOther
of_given (Some buckets) = wrapped (tree.tree_fault (map bucket_of buckets)) (of_tree (map bucket_of buckets))

of_map : (incs : List Incremental) (inc : Incremental) → Passes IsOther (map_fault incs inc)
unfolding map_fault
of_map incs inc =
    passes_if IsOther _ _ _ (passes_some IsOther fault.EpochGap (λ e. cc e))
    (passes_if IsOther _ _ _ (passes_some IsOther fault.Twice (λ e. cc e))
    (passes_if IsOther _ _ _ (passes_some IsOther fault.UnknownDevice (λ e. cc e))
    (passes_if IsOther _ _ _ (passes_some IsOther fault.AlreadyUp (λ e. cc e))
    (passes_if IsOther _ _ _ (passes_some IsOther fault.AlreadyDown (λ e. cc e))
    (passes_if IsOther _ _ _ (passes_some IsOther fault.StillUp (λ e. cc e))
    (passes_if IsOther _ _ _ (passes_some IsOther fault.UpThruBack (λ e. cc e))
    (passes_if IsOther _ _ _ (passes_some IsOther fault.Ahead (λ e. cc e))
    (passes_if IsOther _ _ _ (passes_some IsOther fault.BadPool (λ e. cc e))
    (passes_if IsOther _ _ _ (passes_some IsOther fault.PoolKnown (λ e. cc e))
    (passes_if IsOther _ _ _ (passes_some IsOther fault.BadTemp (λ e. cc e)) (of_given inc.crush)))))))))))

-- a map that answers a refusal for lack of memory lacked it to look at the incremental
pub lacked : (log : List Entry) (inc : Incremental) (m : OsdMap) (f : MapFault) → IsMapOf (incs_of log) m
    → (f ≡ fault.Memory) ⊎ Says m (λ incs. map_fault incs inc ≡ Some f)
    → (f ≡ fault.Memory → Says m (λ incs. MayLackMemory incs inc)) → refusal_of f ≡ refusal.Memory → MayLackMemory (incs_of log) inc
lacked log inc m f is (inl memory) wants same = wants memory (incs_of log) is
lacked log inc m f is (inr says) wants same = absurd (of_map (incs_of log) inc f (says (incs_of log) is) same)
