-- A group that lies as before, as an incremental comes.
use Rattle.pgp_shard.proofs.Common.{◌≡◌, List, [], ◌∷◌, ◌++◌, true, false, Option, Some, None, IfSome, sym, ap, ◌∙◌, is_none, Entry, Incremental, View, map_fault, temp, OsdMap, left-unmoved, lies-as-before, reaches-next, untouched-unmoved, IsLeft, temp-same, incs_of, is_touched, may_move, MapBefore, IsKeptOf, IsStep, IsViewSince, lacks_view, KeptGroup}
use Rattle.pgp_ids.specs.declared.entry.Entry.TheVariants as entry
use Rattle.pgp_shard.proofs.KeptLemmas.{grown, kept_raw-stays, step-fine, untouched-inc, view-stays}

-- ---- an incremental by which the group lies as before

-- it sleeps on
kept-lies : (log : List Entry) (inc : Incremental) (before : MapBefore) (after : OsdMap) (old : KeptGroup) (view : Option View) → IsStep log inc before after → IsKeptOf log old → may_move (incs_of log) inc old.pg ≡ false
    → IfSome view (IsViewSince (log ++ entry.Inc inc ∷ []) old.pg) → IsKeptOf (log ++ entry.Inc inc ∷ []) (record old { view = view })
kept-lies log inc before after old view step is still told =
    let fine : map_fault (incs_of log) inc ≡ None = step-fine log inc before after step in
    let left : IsLeft (incs_of log) inc old.pg = left-unmoved (incs_of log) inc old.pg still in
    record {
      group_is = reaches-next log inc old.pg old.group fine (lies-as-before (incs_of log) inc old.pg fine still) is.group_is;
      raw_is = kept_raw-stays log inc before after old is step left.still;
      temp_is = is.temp_is ∙ sym (ap (λ (l : List Incremental). temp l old.pg) (grown log inc) ∙ temp-same (incs_of log) inc old.pg left.temp);
      view_is = told;
    }

-- the view is forgotten
pub kept-marked : (log : List Entry) (inc : Incremental) (before : MapBefore) (after : OsdMap) (old : KeptGroup) → IsStep log inc before after → IsKeptOf log old → may_move (incs_of log) inc old.pg ≡ false
    → IsKeptOf (log ++ entry.Inc inc ∷ []) (record old { view = None })
kept-marked log inc before after old step is still = kept-lies log inc before after old None step is still tt

-- it was already
pub kept-unseen : (log : List Entry) (inc : Incremental) (before : MapBefore) (after : OsdMap) (old : KeptGroup) → lacks_view old ≡ true → IsStep log inc before after → IsKeptOf log old → may_move (incs_of log) inc old.pg ≡ false
    → IsKeptOf (log ++ entry.Inc inc ∷ []) old
kept-unseen log inc before after old marked step is still = kept-lies log inc before after old old.view step is still (unseen old.view marked) where
  unseen : (view : Option View) → is_none view ≡ true → IfSome view (IsViewSince (log ++ entry.Inc inc ∷ []) old.pg)
  unseen None none = tt
  unseen (Some view) none = cc

-- the incremental doesn't touch the group
pub kept-stays : (log : List Entry) (inc : Incremental) (before : MapBefore) (after : OsdMap) (old : KeptGroup) → IsStep log inc before after → IsKeptOf log old → is_touched log (entry.Inc inc) old.pg ≡ false
    → IsKeptOf (log ++ entry.Inc inc ∷ []) old
kept-stays log inc before after old step is untouched =
    kept-lies log inc before after old old.view step is (untouched-unmoved log inc old.pg untouched)
    (view-stays log (entry.Inc inc) old.pg old.view (untouched-inc log inc before after old.pg step untouched) is.view_is)
