-- What a shard keeps beside the entries that it has read, or that it keeps nothing, and the marks.
use Rattle.pgp_shard.proofs.Common.{◌≡◌, List, [], ◌∷◌, ◌++◌, Option, Some, None, IfSome, true, false, ◌&&◌, map, refl, and_from, and_parts, sym, ap, ◌∙◌, subst, map-append, Entry, PgId, Incremental, has_group, incs_of, is_touched, fits, AreOwnGroupsOf, IsKeptBeside, marks_of, owns, shard_with, AreAllMarked, AreMarked, MarksOnlyTouched, is_among, Groups, Owner}
use Rattle.pgp_ids.specs.declared.entry.Entry.TheVariants as entry
use Rattle.pgp_shard.specs.kept.Groups.{AreMadeBeside}
use Rattle.pgp_log.proofs.ComingLemmas.{has_group-same}
use Rattle.pgp_shard.proofs.MarksLemmas.{all-marks, marks-once, pool-left}
use Rattle.pgp_shard.proofs.KeptLemmas.{grown, still-there}
use Rattle.pgp_log.proofs.TakeLemmas.{faultless-inc, fits-faultless, incs-inc, incs-other}

-- what is there follows from the log
pub groups-there : (owner : Owner) (log : List Entry) (found : Option Groups) (groups : Groups) → IsKeptBeside owner log found → found ≡ Some groups → AreOwnGroupsOf owner log groups
groups-there owner log found groups is there = subst (λ (o : Option Groups). IfSome o (AreOwnGroupsOf owner log)) there is.groups_are

-- what was made, by the entries that are the log
pub made-there : (owner : Owner) (entries log : List Entry) (before after : Option Groups) (groups : Groups) → entries ≡ log → after ≡ Some groups → IfSome after (AreMadeBeside owner entries before)
    → AreMadeBeside owner log before groups
made-there owner entries log before after groups same there made =
    subst (λ (l : List Entry). AreMadeBeside owner l before groups) same (subst (λ (o : Option Groups). IfSome o (AreMadeBeside owner entries before)) there made)

-- ---- an entry comes

-- the front with one entry more
pub front-longer : {X : Type 0} (f : X → Entry) (before after : List X) (copy : X) (new : Entry) → after ≡ before ++ copy ∷ [] → f copy ≡ new → map f after ≡ map f before ++ new ∷ []
front-longer f before after copy new longer same = ap (map f) longer ∙ map-append f before (copy ∷ []) ∙ ap (λ (e : Entry). map f before ++ e ∷ []) same

-- an entry that doesn't touch a group leaves the map the group, or without it
has-untouched : (log : List Entry) (new : Entry) (pg : PgId) → is_touched log new pg ≡ false → has_group (incs_of (log ++ new ∷ [])) pg ≡ has_group (incs_of log) pg
has-untouched log (entry.Inc inc) pg untouched =
    ap (λ (l : List Incremental). has_group l pg) (incs-inc log (entry.Inc inc) inc refl) ∙ has_group-same (incs_of log) inc pg (pool-left log inc pg untouched)
has-untouched log new pg untouched = ap (λ (l : List Incremental). has_group l pg) (incs-other log new refl)

-- an entry that fits leaves the map each group that it has
pub has-still-there : (log : List Entry) (new : Entry) (pg : PgId) → fits log new ≡ None → has_group (incs_of log) pg ≡ true → has_group (incs_of (log ++ new ∷ [])) pg ≡ true
has-still-there log (entry.Inc inc) pg fit there =
    ap (λ (l : List Incremental). has_group l pg) (grown log inc)
    ∙ still-there (incs_of log) inc pg (faultless-inc log (entry.Inc inc) inc refl (fits-faultless log (entry.Inc inc) fit)) there
has-still-there log new pg fit there = ap (λ (l : List Incremental). has_group l pg) (incs-other log new refl) ∙ there

-- where nothing is kept
pub marks-away : (owner : Owner) (log : List Entry) (new : Entry) → fits log new ≡ None → MarksOnlyTouched new (shard_with owner log None) (shard_with owner (log ++ new ∷ []) None)
marks-away owner log new fit = record {
  kept = λ pg was.
      let parts = and_parts (owns owner pg) (has_group (incs_of log) pg) was in
      and_from (owns owner pg) (has_group (incs_of (log ++ new ∷ [])) pg) parts.0 (has-still-there log new pg fit parts.1);
  others = λ pg untouched. ap (λ b. owns owner pg && b) (has-untouched log new pg untouched);
  there = refl;
  worked = λ pg unmarked. refl;
}

-- ---- the marks

-- those of what is made anew: all the owner's groups that the map has
pub marked-anew : (owner : Owner) (log : List Entry) (groups : Groups) (found : Option Groups) → found ≡ None → AreOwnGroupsOf owner log groups → AreAllMarked groups.kept.items
    → AreMarked (shard_with owner log found) (marks_of groups)
marked-anew owner log groups found none is all =
    subst (λ (o : Option Groups). AreMarked (shard_with owner log o) (marks_of groups)) (sym none) (record {
      each = λ pg. ap (is_among pg) (all-marks groups.kept.items all) ∙ is.own_are pg;
      once = marks-once groups is.groups_are.places_are;
      in_order = tt;
    })

-- those that are there
pub marked-there : (owner : Owner) (log : List Entry) (groups : Groups) (found : Option Groups) → found ≡ Some groups → AreOwnGroupsOf owner log groups
    → AreMarked (shard_with owner log found) (marks_of groups)
marked-there owner log groups found there is =
    subst (λ (o : Option Groups). AreMarked (shard_with owner log o) (marks_of groups)) (sym there)
    (record { each = λ pg. refl; once = marks-once groups is.groups_are.places_are; in_order = refl })
