-- What is kept of the infos of a group, as its log grows and as they are looked at.
use Rattle.pgp_group.proofs.Common.{◌≡◌, ℕ, ◌<◌, ◌≤◌, List, [], ◌∷◌, ◌++◌, Some, Bool, true, false, ◌&&◌, length, map, fold, max, take, drop, append-nil, append_assoc, refl, ap, sym, ◌∙◌, subst, arith, All-contains, Contains, filter, and_parts, eqb-true, nat_tests, take-append-drop, map-append, filter-append, fold-append, AnyCode, is_same_member, Incremental, Member, Membership, PgId, Info, HasDistinctMembers, with_infos, History, filter-contains, epoch, EpochsAscend, grown_with, passed_over, primary_facts, group_history, GroupLog, incs, infos, has_member, heard, last_of_each_member, KeepsInfos, TakesInfo, Infos}
use Rattle.std.proofs.lemmas.Map.Views.{any-filter_same}
use Rattle.pgp_group.proofs.FirstLemmas.{first-within, step-moves}
use Rattle.pgp_group.specs.kept.InboxOf.{with_arrival}
use Rattle.pgp_group.specs.Heard.{counts}
use Rattle.pgp_group.proofs.GrowthLemmas.{history-last}
use Rattle.pgp_group.proofs.HeardLemmas.{HasDistinctMembers-last_of, last_of-contains, last_of-snoc}
use Rattle.pgp_group.proofs.InboxLemmas.{Grows, Grows-none, Grows-one, IsInboxOf-grown, seen-all, seen-grown, seen-sent}
use Rattle.pgp_group.proofs.LaterLemmas.{Moves, Outlasts, outlasts-same}
use Rattle.pgp_group.proofs.Lists.{filter-agree, filter-both, filter-each}

-- ---- infos that are put in their order

pub with_infos-last : (new before : List Info) → with_infos new (last_of_each_member before) ≡ last_of_each_member (before ++ new)
with_infos-last [] before = ap last_of_each_member (sym (append-nil before))
with_infos-last (info ∷ new) before = grind (arith, last_of-snoc before info, with_infos-last new (before ++ info ∷ []), append_assoc before (info ∷ []) new)

has_member-last : (member : Member) (told : List Info) → has_member member told ≡ false → has_member member (last_of_each_member told) ≡ false
has_member-last member [] none = refl
has_member-last member (info ∷ told) none = grind (arith, has_member-last member told)

last_of-twice : (told : List Info) → last_of_each_member (last_of_each_member told) ≡ last_of_each_member told
last_of-twice [] = refl
last_of-twice (info ∷ told) = grind (arith, has_member-last info.member told, last_of-twice told)

-- ---- infos of devices that last

abbrev of_lasting : (ℕ → Bool) → Info → Bool
of_lasting lasts info = lasts info.member.osd

has_member-lasting : (lasts : ℕ → Bool) (member : Member) (told : List Info) → lasts member.osd ≡ true → has_member member (filter (of_lasting lasts) told) ≡ has_member member told
has_member-lasting lasts member told lasting =
    any-filter_same (λ (info : Info). is_same_member info.member member) (of_lasting lasts) true
    (λ info same. ap lasts (eqb-true info.member.osd member.osd (and_parts _ _ same).0) ∙ lasting) told

last_of-lasting : (lasts : ℕ → Bool) (told : List Info) → last_of_each_member (filter (of_lasting lasts) told) ≡ filter (of_lasting lasts) (last_of_each_member told)
last_of-lasting lasts [] = refl
last_of-lasting lasts (info ∷ told) = grind (arith, last_of-lasting lasts told, has_member-lasting lasts info.member told)

-- ---- more infos, or another map

abbrev begun_by : Info → ℕ
begun_by info = info.history_les

abbrev sent_in : Info → ℕ
sent_in info = info.stamp

KeepsInfos-grown : (g after : GroupLog) (more : List Info) (old kept : Infos) → Outlasts g after → infos after ≡ infos g ++ more
    → Grows sent_in more (epoch (incs after)) old.inbox kept.inbox → kept.les ≡ fold max old.les (map begun_by more) → kept.heard ≡ old.heard
    → KeepsInfos g old → KeepsInfos after kept
KeepsInfos-grown g after more old kept on told grows les' heard' is = record {
  inbox_is = IsInboxOf-grown is.inbox_is told on.rises grows;
  les_is = grind (arith, nat_tests, map-append, fold-append);
  distinct = grind (arith, nat_tests);
  heard_sent = λ settled i there. grind (arith, nat_tests, is.heard_sent (grows.sent settled).0 i);
  heard_are = λ settled.
      let looked_at : List Info = take old.inbox.seen (infos g) in
      grind (arith, seen-grown is.inbox_is told grows, left looked_at (seen-sent is.inbox_is (grows.sent settled).0), last_of-lasting on.lasts (filter (counts g) looked_at), is.heard_are (grows.sent settled).0, left old.heard.infos (is.heard_sent (grows.sent settled).0));
}
  where
    left : (l : List Info) → ((info : Info) → Contains l info → info.stamp ≤ epoch (incs g))
        → filter (counts after) l ≡ filter (of_lasting on.lasts) (filter (counts g) l)
    left l early =
        filter-agree (counts after) (λ info. counts g info && of_lasting on.lasts info) l
        (λ info there. on.counts info.member info.stamp (early info there))
        ∙ filter-both (counts g) (of_lasting on.lasts) l

-- no info more
pub KeepsInfos-on : (g after : GroupLog) (kept : Infos) → Outlasts g after → infos after ≡ infos g → KeepsInfos g kept → KeepsInfos after kept
KeepsInfos-on g after kept on told =
    KeepsInfos-grown g after [] kept kept on (told ∙ sym (append-nil (infos g))) (Grows-none sent_in (epoch (incs after)) kept.inbox) refl refl

pub KeepsInfos-new : (g after : GroupLog) (info : Info) (at : ℕ) (old kept : Infos) → at ≡ epoch (incs g) → TakesInfo g info after → KeepsInfos g old
    → kept.inbox ≡ with_arrival info at info.stamp old.inbox → kept.les ≡ max old.les info.history_les → kept.heard ≡ old.heard → KeepsInfos after kept
KeepsInfos-new g after info at old kept here told is inbox les' heard' =
    KeepsInfos-grown g after (info ∷ []) old kept (outlasts-same g after told.incs_are told.history_is) told.infos_are
    (Grows-one sent_in info at (epoch (incs after)) old.inbox kept.inbox (here ∙ sym (ap epoch told.incs_are)) inbox) les' heard' is

-- ---- the next map

pub moves : (incs : List Incremental) (inc : Incremental) (pg : PgId) (h : History AnyCode) (members : Membership) → EpochsAscend incs → epoch incs < inc.epoch → group_history incs pg ≡ Some h → Moves incs h (grown_with incs inc h members)
moves incs inc pg h members counts' later is =
    grind (arith, step-moves h (passed_over incs inc) members (primary_facts incs h.current.acting_primary), first-within incs pg h counts' is, history-last incs pg h counts' is)

-- ---- a look at them

-- those that are kept and count, and then the ones that weren't looked at
pub heard-on : (g : GroupLog) (kept : Infos) → KeepsInfos g kept → kept.inbox.ahead ≡ false
    → with_infos (filter (counts g) (drop kept.inbox.seen (infos g))) (filter (counts g) kept.heard.infos) ≡ heard g
heard-on g kept is settled =
    let front : List Info = filter (counts g) (take kept.inbox.seen (infos g)) in
    let back : List Info = filter (counts g) (drop kept.inbox.seen (infos g)) in
    grind (arith, with_infos-last back front, filter-append (counts g) (take kept.inbox.seen (infos g)) (drop kept.inbox.seen (infos g)), take-append-drop kept.inbox.seen (infos g))

-- the same of those that are kept, each by itself
pub heard-more : (g : GroupLog) (kept : Infos) → KeepsInfos g kept → kept.inbox.ahead ≡ false
    → with_infos (filter (counts g) (drop kept.inbox.seen (infos g))) (last_of_each_member (filter (counts g) kept.heard.infos)) ≡ heard g
heard-more g kept is settled = grind (arith, nat_tests, last_of-twice, heard-on)

-- all were looked at
pub KeepsInfos-heard : (g : GroupLog) (old kept : Infos) → KeepsInfos g old → kept.inbox ≡ record old.inbox { seen = length old.inbox.all } → kept.les ≡ old.les
    → kept.heard.infos ≡ heard g → KeepsInfos g kept
KeepsInfos-heard g old kept is inbox les' infos_are =
    let among : (info : Info) → Contains (heard g) info → Contains (infos g) info × (counts g info ≡ true) = λ info there.
    filter-contains (counts g) (infos g) info (last_of-contains (filter (counts g) (infos g)) info there) in
    record {
      inbox_is = grind (arith, nat_tests);
      les_is = les' ∙ is.les_is;
      distinct = subst HasDistinctMembers (sym infos_are) (HasDistinctMembers-last_of (filter (counts g) (infos g)));
      heard_sent = λ settled info there. grind (arith, nat_tests, All-contains (λ (i : Info). i.stamp ≤ epoch (incs g)) (infos g) info, among info);
      heard_are = λ settled. grind (arith, nat_tests, seen-all is.inbox_is, filter-each (counts g) (heard g) (λ info there. (among info there).1));
    }
