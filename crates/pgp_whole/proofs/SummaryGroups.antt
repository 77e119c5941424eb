-- The groups of a log, one after another.
use Rattle.std.proofs.Common.{◌≡◌, ℕ, List, [], ◌∷◌, ◌++◌, false, Some, None, option_map, ap, sym, ◌∙◌, subst}
use Rattle.std.specs.HashMap as hash
use Rattle.std.specs.HashMap.{HashMap}
use Rattle.std.specs.List.{filter_map, list_any}
use Rattle.std.specs.Option.{option_map_or}
use Rattle.pgp_ids.specs.declared.entry.Entry.{Entry}
use Rattle.pgp_ids.specs.declared.member.Member.{Member}
use Rattle.pgp_ids.specs.declared.pg_id.PgId.{PgId}
use Rattle.pgp_ids.specs.declared.view.View.{View}
use Rattle.pgp_lists.proofs.Options.{map_none, map_some}
use Rattle.pgp_map.specs.MapOf.{IsMapOf}
use Rattle.pgp_map.specs.declared.map.OsdMap.{OsdMap}
use Rattle.pgp_group.specs.Entries.{incs_of}
use Rattle.pgp_group.specs.GroupHistory.{group_history}
use Rattle.pgp_group.specs.GroupLog.{GroupLog, group_in, group_with}
use Rattle.pgp_group.specs.Heard.{has_member, heard, is_counted}
use Rattle.pgp_group.specs.Present.{IsPresent}
use Rattle.pgp_group.specs.View.{scratch, view_of}
use Rattle.pgp_group.proofs.Lists.{nothing_new, one_new}
use Rattle.pgp_reasons.specs.Reasons.{IsViewed}
use Rattle.pgp_whole.specs.kept.Hearing.{AreStamps, hears, is_same_source, source_of}
use Rattle.pgp_whole.specs.kept.Sums.{AreSums}
use Rattle.pgp_whole.specs.declared.group_sums.GroupSums.{GroupSums}
use Rattle.pgp_whole.specs.declared.stamps.Sender.{Sender}
use Rattle.pgp_whole.proofs.SummaryHearing.{hears-all}

-- ---- a group of a log

-- it is of that log, and has that name
group-named : (log : List Entry) (pg : PgId) (g : GroupLog) → group_in log pg ≡ Some g → (g.pg ≡ pg) × (g.log ≡ log)
group-named log pg g is =
    let found = map_some (group_with log pg) (group_history (incs_of log) pg) g is in
    (ap (λ (g : GroupLog). g.pg) (sym found.2), ap (λ (g : GroupLog). g.log) (sym found.2))

-- the view of a group is that of the group in the log
pub viewed : (log : List Entry) (pg : PgId) (view : View) → scratch log pg ≡ Some view → (g : GroupLog) × ((group_in log pg ≡ Some g) × (view ≡ view_of g))
viewed log pg view is = let found = map_some view_of (group_in log pg) view is in (found.0, (found.1, sym found.2))

pub unviewed : (log : List Entry) (pg : PgId) → scratch log pg ≡ None → group_in log pg ≡ None
unviewed log pg is = map_none view_of (group_in log pg) is

module _ (log : List Entry) (map' : OsdMap) (pg : PgId) (view : View) (g : GroupLog) (is : IsViewed log map' pg view g) where
  pub is-view : view ≡ view_of g
  is-view = let both : Some view ≡ Some (view_of g) = sym is.view_is ∙ ap (option_map view_of) is.group_is in cc

  pub is-present : IsPresent g map' view.first
  is-present = record {
    map_is = subst (λ (l : List Entry). IsMapOf (incs_of l) map') (sym (group-named log pg g is.group_is).1) is.map_is;
    first_is = ap (λ (v : View). v.first) is-view;
  }

  -- a stamp that is kept counts just where the group has heard the member
  pub heard-by : {S : Type 0} (member : Member) (stamps : HashMap Sender ℕ S) → AreStamps log stamps
      → option_map_or (is_counted g member) (hash.get is_same_source stamps (source_of pg member)) false ≡ has_member member (heard g)
  heard-by member stamps are =
      let named = group-named log pg g is.group_is in
      ap (λ p. option_map_or (is_counted g member) (hash.get is_same_source stamps (source_of p member)) false) (sym named.0)
      ∙ are g member
      ∙ ap (list_any (hears g member)) (sym named.1)
      ∙ hears-all g member

-- ---- one group more

pub sums-more : (log : List Entry) (pgs : List PgId) (pg : PgId) (g : GroupLog) (sums : GroupSums) → group_in log pg ≡ Some g → AreSums (filter_map (group_in log) pgs ++ g ∷ []) sums → AreSums (filter_map (group_in log) (pgs ++ pg ∷ [])) sums
sums-more log pgs pg g sums is are = subst (λ (gs : List GroupLog). AreSums gs sums) (sym (one_new (group_in log) pgs pg g is)) are

pub sums-same : (log : List Entry) (pgs : List PgId) (pg : PgId) (sums : GroupSums) → group_in log pg ≡ None → AreSums (filter_map (group_in log) pgs) sums → AreSums (filter_map (group_in log) (pgs ++ pg ∷ [])) sums
sums-same log pgs pg sums none are = subst (λ (gs : List GroupLog). AreSums gs sums) (sym (nothing_new (group_in log) pgs pg none)) are
