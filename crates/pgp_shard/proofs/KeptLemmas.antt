-- What a shard keeps of its groups, as the log grows.
use Rattle.pgp_shard.proofs.Common.{◌≡◌, ℕ, ◌+◌, List, [], ◌∷◌, ◌++◌, true, false, Bor, Option, Some, None, IfSome, is_none, is_some, not, length, option_map, refl, sym, ap, ◌∙◌, subst, filter, option_copied, false_from_ne_true, true≢false, arith, inl, inr, cases_lt, length-append, same_Some, take_all, take-append-le, some_is, Entry, Incremental, Membership, PgId, Info, View, checked-more, are_checked, device, HasGroup, epoch, map_fault, then_with, IsMapOf, has_group, is_same_group, pool, temp, OsdMap, raw_set-stays, may_place_elsewhere, members_from_up, membership, raw_set_of, without_down, infos-kept, infos-other, infos-same, names-kept, past-same, reports-kept, reports-other, reports-same, IsGroupOf-other, has_group-grows, reached-now, history_there, inc_of, incs_of, infos_of, reports_of, EpochsAscend, group_facts, group_history, made_at, IsGroupOf, IsSilent, group_with, reaching, is_touched, view_at, scratch, view_of, Group, MapBefore, fits, IsKeptOf, IsStep, IsViewOf, IsViewSince, HasInc, is_legal, IsRawSet, KeptGroup, epochs_ascend}
use Rattle.pgp_ids.specs.declared.entry.Entry.TheVariants as entry
use Rattle.pgp_ids.specs.declared.history.PrimaryFacts.{PrimaryFacts}
use Rattle.pgp_ids.specs.declared.report.Report.{Report}
use Rattle.pgp_group.proofs.SameViewLemmas.{view-same}
use Rattle.pgp_group.proofs.UntouchedLemmas.{Stays, untouched-stays}
use Rattle.pgp_log.proofs.LogLemmas.{legal-checked, legal-induction}
use Rattle.pgp_log.proofs.RawSetLemmas.{filtered}
use Rattle.pgp_log.proofs.ComingLemmas.{IsAbsent, absent-other, inc-of-group, made-now, next-there, silent-inc}
use Rattle.pgp_log.proofs.TakeLemmas.{faultless-inc, fits-faultless, incs-inc, incs-other}

-- ---- a step to the next map

pub step-fine : (log : List Entry) (inc : Incremental) (before : MapBefore) (after : OsdMap) → IsStep log inc before after → map_fault (incs_of log) inc ≡ None
step-fine log inc before after step = faultless-inc log (entry.Inc inc) inc refl (fits-faultless log (entry.Inc inc) step.fits)

pub step-checked : (log : List Entry) (inc : Incremental) (before : MapBefore) (after : OsdMap) → IsStep log inc before after → are_checked (then_with (incs_of log) inc) ≡ true
step-checked log inc before after step = checked-more (incs_of log) inc (legal-checked log step.legal) (step-fine log inc before after step)

pub grown : (log : List Entry) (inc : Incremental) → incs_of (log ++ entry.Inc inc ∷ []) ≡ then_with (incs_of log) inc
grown log inc = incs-inc log (entry.Inc inc) inc refl

-- the next map has the group
pub kept-there : (log : List Entry) (inc : Incremental) (before : MapBefore) (after : OsdMap) (kept : KeptGroup) → IsKeptOf log kept → IsStep log inc before after → HasGroup after kept.pg
kept-there log inc before after kept is step =
    next-there log kept.pg inc (reaching (epoch (incs_of log)) kept.group) after is.group_is (step-fine log inc before after step) (step-checked log inc before after step) step.after_is

-- the raw set stays, where the tree puts the group nowhere else
pub kept_raw-stays : (log : List Entry) (inc : Incremental) (before : MapBefore) (after : OsdMap) (kept : KeptGroup) → IsKeptOf log kept → IsStep log inc before after → may_place_elsewhere (incs_of log) inc kept.pg ≡ false
    → IsRawSet (incs_of (log ++ entry.Inc inc ∷ [])) kept.pg kept.raw
kept_raw-stays log inc before after kept is step still =
    subst (λ (l : List Incremental). IsRawSet l kept.pg kept.raw) (sym (grown log inc))
    (raw_set-stays (incs_of log) inc kept.pg kept.raw (step-fine log inc before after step) still is.raw_is)

-- it is found anew
pub raw-anew : (log : List Entry) (inc : Incremental) (before : MapBefore) (after : OsdMap) (pg : PgId) (raw : List (Option ℕ)) → IsStep log inc before after
    → ((incs : List Incremental) → IsMapOf incs after → raw_set_of incs pg ≡ Some raw) → IsRawSet (incs_of (log ++ entry.Inc inc ∷ [])) pg raw
raw-anew log inc before after pg raw step placed =
    placed (incs_of (log ++ entry.Inc inc ∷ [])) (subst (λ (l : List Incremental). IsMapOf l after) (sym (grown log inc)) step.after_is)

-- the pg_temp list is read anew
pub temp-anew : (log : List Entry) (inc : Incremental) (before : MapBefore) (after : OsdMap) (pg : PgId) (list : List (Option ℕ)) → IsStep log inc before after
    → ((incs : List Incremental) → IsMapOf incs after → list ≡ temp incs pg) → list ≡ temp (incs_of (log ++ entry.Inc inc ∷ [])) pg
temp-anew log inc before after pg list step says =
    says (incs_of (log ++ entry.Inc inc ∷ [])) (subst (λ (l : List Incremental). IsMapOf l after) (sym (grown log inc)) step.after_is)

-- ---- groups that a legal log doesn't have

-- a group that is there before an incremental is there after it
pub still-there : (incs : List Incremental) (inc : Incremental) (pg : PgId) → map_fault incs inc ≡ None → has_group incs pg ≡ true → has_group (then_with incs inc) pg ≡ true
still-there incs inc pg fine there =
    let history = some_is (group_history incs pg) (history_there incs pg ∙ there) in has_group-grows incs inc pg history.0 fine history.1

-- one that is absent after it was absent before
absent-before : (incs : List Incremental) (inc : Incremental) (pg : PgId) → map_fault incs inc ≡ None → has_group (then_with incs inc) pg ≡ false → has_group incs pg ≡ false
absent-before incs inc pg fine absent = false_from_ne_true (has_group incs pg) (λ there. true≢false (sym (still-there incs inc pg fine there) ∙ absent))

absent-more : (log : List Entry) (new : Entry) → fits log new ≡ None → ((pg : PgId) → has_group (incs_of log) pg ≡ false → IsAbsent log pg)
    → (pg : PgId) → has_group (incs_of (log ++ new ∷ [])) pg ≡ false → IsAbsent (log ++ new ∷ []) pg
absent-more log (entry.Inc inc) fit each pg absent =
    let fine : map_fault (incs_of log) inc ≡ None = faultless-inc log (entry.Inc inc) inc refl (fits-faultless log (entry.Inc inc) fit) in
    let before : has_group (incs_of log) pg ≡ false = absent-before (incs_of log) inc pg fine (sym (ap (λ (l : List Incremental). has_group l pg) (grown log inc)) ∙ absent) in
    record { absent = absent; silent = silent-inc log inc pg (each pg before).silent }
absent-more log new fit each pg absent =
    absent-other log new pg refl (fits-faultless log new fit) (each pg (sym (ap (λ (l : List Incremental). has_group l pg) (incs-other log new refl)) ∙ absent))

pub legal-absent : (log : List Entry) → is_legal log ≡ true → (pg : PgId) → has_group (incs_of log) pg ≡ false → IsAbsent log pg
legal-absent = legal-induction (λ log. (pg : PgId) → has_group (incs_of log) pg ≡ false → IsAbsent log pg)
    (λ pg absent. record { absent = absent; silent = record { infos = refl; reports = refl } })
    absent-more

-- ---- views

no_view : (log : List Entry) (pg : PgId) (view : Option View) → view ≡ None → IfSome view (IsViewSince log pg)
no_view log pg view none = subst (λ (o : Option View). IfSome o (IsViewSince log pg)) (sym none) tt

-- a view that is right since it was worked out is that of the log
pub view-whole : (log : List Entry) (pg : PgId) (view : View) → IsViewSince log pg view → IsViewOf log pg view
view-whole log pg view is =
    let all : ℕ = view.count + length log in subst (λ (l : List Entry). IsViewOf l pg view) (take_all all log (omega arith)) (is all (omega arith))

-- the view stays that of the log, where the entry changes it in count and epoch alone
pub view-stays : (log : List Entry) (new : Entry) (pg : PgId) (view : Option View) → Stays log new pg → IfSome view (IsViewSince log pg) → IfSome view (IsViewSince (log ++ new ∷ []) pg)
view-stays log new pg None stays is = tt
view-stays log new pg (Some view) stays is = λ n from. elim (cases_lt (length log) n) [
  | inl past ↦
      subst (λ (l : List Entry). IsViewOf l pg view) (sym (take_all n (log ++ new ∷ []) (omega (arith, past, length-append log (new ∷ [])))))
      (stays ∙ ap (option_map (view_at (length (log ++ new ∷ [])) (epoch (incs_of (log ++ new ∷ []))))) (view-whole log pg view is))
  | inr within ↦ subst (λ (l : List Entry). IsViewOf l pg view) (sym (take-append-le n log (new ∷ []) within)) (is n from)
]

-- an incremental that doesn't touch the group does so
pub untouched-inc : (log : List Entry) (inc : Incremental) (before : MapBefore) (after : OsdMap) (pg : PgId) → IsStep log inc before after → is_touched log (entry.Inc inc) pg ≡ false → Stays log (entry.Inc inc) pg
untouched-inc log inc before after pg step untouched =
    untouched-stays log (entry.Inc inc) pg (ap are_checked (grown log inc) ∙ step-checked log inc before after step) untouched

mapped-same : {X Y Z : Type 0} (f : Y → Z) (k : Z → Z) (g g' : X → Y) (found : Option X) → ((x : X) → f (g x) ≡ k (f (g' x))) → option_map f (option_map g found) ≡ option_map k (option_map f (option_map g' found))
mapped-same f k g g' None same = refl
mapped-same f k g g' (Some x) same = ap Some (same x)

-- a view that was just worked out has the count and the epoch of its log
pub view-now : (log : List Entry) (pg : PgId) (view : View) → scratch log pg ≡ Some view → IsViewOf log pg view
view-now log pg view is =
    mapped-same view_of (view_at (length log) (epoch (incs_of log))) (group_with log pg) (group_with log pg) (group_history (incs_of log) pg) (λ h. refl)
    ∙ ap (option_map (view_at (length log) (epoch (incs_of log)))) is

-- and it was worked out by all of it
pub view-counts : (log : List Entry) (pg : PgId) (view : View) → scratch log pg ≡ Some view → view.count ≡ length log
view-counts log pg view is = ap (λ (v : View). v.count) (same_Some view (view_at (length log) (epoch (incs_of log)) view) (sym is ∙ view-now log pg view is))

view-since : (log : List Entry) (pg : PgId) (view : View) → scratch log pg ≡ Some view → IsViewSince log pg view
view-since log pg view is = λ n from.
    subst (λ (l : List Entry). IsViewOf l pg view) (sym (take_all n log (omega (arith, from, view-counts log pg view is)))) (view-now log pg view is)

-- ---- a group comes

pub kept-begun : (log : List Entry) (inc : Incremental) (before : MapBefore) (after : OsdMap) (kept : KeptGroup) (members : Membership) → kept.view ≡ None → IsStep log inc before after → has_group (incs_of log) kept.pg ≡ false → has_group (then_with (incs_of log) inc) kept.pg ≡ true
    → ((l : List Entry) → EpochsAscend (incs_of l) → IsMapOf (incs_of l) after → has_group (incs_of l) kept.pg ≡ true → made_at (incs_of l) kept.pg.pool ≡ epoch (incs_of l) → IsSilent l kept.pg → membership (incs_of l) kept.pg ≡ Some members → IsGroupOf l kept.pg kept.group)
    → ((incs : List Incremental) → IsMapOf incs after → raw_set_of incs kept.pg ≡ Some kept.raw)
    → ((incs : List Incremental) → IsMapOf incs after → option_map (λ made. members_from_up incs made kept.pg (without_down incs made kept.raw)) (pool incs kept.pg.pool) ≡ Some members)
    → ((incs : List Incremental) → IsMapOf incs after → kept.temp ≡ temp incs kept.pg)
    → IsKeptOf (log ++ entry.Inc inc ∷ []) kept
kept-begun log inc before after kept members none step absent there begins placed lies says =
    let later : List Entry = log ++ entry.Inc inc ∷ [] in
    let back : then_with (incs_of log) inc ≡ incs_of later = sym (grown log inc) in
    let now : IsMapOf (incs_of later) after = subst (λ (l : List Incremental). IsMapOf l after) back step.after_is in
    let raw : IsRawSet (incs_of later) kept.pg kept.raw = raw-anew log inc before after kept.pg kept.raw step placed in
    record {
      group_is = reached-now later kept.pg kept.group (begins later
          (epochs_ascend (incs_of later) (ap are_checked (grown log inc) ∙ step-checked log inc before after step))
          now
          (ap (λ (l : List Incremental). has_group l kept.pg) (grown log inc) ∙ there)
          (subst (λ (l : List Incremental). made_at l kept.pg.pool ≡ epoch l) back (made-now (incs_of log) inc kept.pg absent there))
          (silent-inc log inc kept.pg (legal-absent log step.legal kept.pg absent).silent)
          (filtered (incs_of later) kept.pg kept.raw members raw (lies (incs_of later) now)));
      raw_is = raw;
      temp_is = temp-anew log inc before after kept.pg kept.temp step says;
      view_is = no_view later kept.pg kept.view none;
    }

-- ---- an entry that brings no map

-- the entry brings no report of the group
record IsOfOthers (log : List Entry) (new : Entry) (pg : PgId) : Type 0 where
  infos : filter (λ (i : Info). is_same_group i.pg pg) (infos_of (log ++ new ∷ [])) ≡ filter (λ (i : Info). is_same_group i.pg pg) (infos_of log)
  reports : filter (λ (r : Report). is_same_group r.pg pg) (reports_of (log ++ new ∷ [])) ≡ filter (λ (r : Report). is_same_group r.pg pg) (reports_of log)

of-others : (log : List Entry) (new : Entry) (pg : PgId) → inc_of new ≡ None → is_touched log new pg ≡ false → IsOfOthers log new pg
of-others log (entry.Inc inc) pg none untouched = cc
of-others log (entry.Info info) pg none untouched = record { infos = infos-other log info pg untouched; reports = reports-same log (entry.Info info) pg refl }
of-others log (entry.Entries report) pg none untouched = record { infos = infos-same log (entry.Entries report) pg refl; reports = reports-other log report pg untouched }
of-others log entry.Close pg none untouched = record { infos = infos-same log entry.Close pg refl; reports = reports-same log entry.Close pg refl }

group-untold : (log : List Entry) (new : Entry) (pg : PgId) (group : Group) → inc_of new ≡ None → IsOfOthers log new pg → IsGroupOf log pg group → IsGroupOf (log ++ new ∷ []) pg group
group-untold log new pg group none others is =
    IsGroupOf-other log new pg group group is none others.infos refl refl
    (infos-kept log new pg is.history group.infos none others.infos is.keeps.infos_are) (reports-kept log new pg is.history group.reports none others.reports is.keeps.reports_are)
    (names-kept log new pg is.history group.named others.infos others.reports is.keeps.named_are)

view-untold : (log : List Entry) (new : Entry) (pg : PgId) → inc_of new ≡ None → IsOfOthers log new pg → Stays log new pg
view-untold log new pg none others =
    let later : List Entry = log ++ new ∷ [] in
    let same : incs_of later ≡ incs_of log = incs-other log new none in
    ap (λ (l : List Incremental). option_map view_of (option_map (group_with later pg) (group_history l pg))) same
    ∙ mapped-same view_of (view_at (length later) (epoch (incs_of later))) (group_with later pg) (group_with log pg) (group_history (incs_of log) pg)
    (λ h. view-same log later pg h h.lived (record {
      first = refl;
      past = past-same (group_with log pg h) (group_with later pg h) refl others.infos;
      infos = others.infos;
      reports = others.reports;
      named = λ osd named. ap (λ (l : List Incremental). device l osd) same;
      leads = λ osd leads. ap (λ (l : List Incremental). device l osd) same;
    }))

-- it isn't of the group
pub kept-untold : (log : List Entry) (new : Entry) (kept : KeptGroup) → inc_of new ≡ None → is_touched log new kept.pg ≡ false → IsKeptOf log kept → IsKeptOf (log ++ new ∷ []) kept
kept-untold log new kept none untouched is =
    let others : IsOfOthers log new kept.pg = of-others log new kept.pg none untouched in
    record {
      group_is = subst (λ (l : List Incremental). IsGroupOf (log ++ new ∷ []) kept.pg (reaching (epoch l) kept.group)) (sym (incs-other log new none))
          (group-untold log new kept.pg (reaching (epoch (incs_of log)) kept.group) none others is.group_is);
      raw_is = subst (λ (l : List Incremental). IsRawSet l kept.pg kept.raw) (sym (incs-other log new none)) is.raw_is;
      temp_is = subst (λ (l : List Incremental). kept.temp ≡ temp l kept.pg) (sym (incs-other log new none)) is.temp_is;
      view_is = view-stays log new kept.pg kept.view (view-untold log new kept.pg none others) is.view_is;
    }

-- the group has taken it
pub kept-told : (log : List Entry) (new : Entry) (old : KeptGroup) (group : Group) → inc_of new ≡ None → IsKeptOf log old → IsGroupOf (log ++ new ∷ []) old.pg group
    → IsKeptOf (log ++ new ∷ []) (record old { group = group; view = None })
kept-told log new old group none is told = record {
  group_is = reached-now (log ++ new ∷ []) old.pg group told;
  raw_is = subst (λ (l : List Incremental). IsRawSet l old.pg old.raw) (sym (incs-other log new none)) is.raw_is;
  temp_is = subst (λ (l : List Incremental). old.temp ≡ temp l old.pg) (sym (incs-other log new none)) is.temp_is;
  view_is = tt;
}

-- a group is there by an incremental
pub kept-inc : (log : List Entry) (kept : KeptGroup) → IsKeptOf log kept → HasInc log
kept-inc log kept is = inc-of-group log kept.pg (reaching (epoch (incs_of log)) kept.group) is.group_is

-- ---- an incremental that the group takes

-- where the group lies by the incremental's map
pub lies-next : (log : List Entry) (inc : Incremental) (before : MapBefore) (after : OsdMap) (old moved : KeptGroup) (members : Membership) → IsStep log inc before after → moved.pg ≡ old.pg
    → IsRawSet (incs_of (log ++ entry.Inc inc ∷ [])) old.pg moved.raw
    → ((incs : List Incremental) → IsMapOf incs after → option_map (λ made. members_from_up incs made moved.pg (without_down incs made moved.raw)) (pool incs moved.pg.pool) ≡ Some members)
    → membership (then_with (incs_of log) inc) moved.pg ≡ Some members
lies-next log inc before after old moved members step same placed lies =
    let here : IsRawSet (incs_of (log ++ entry.Inc inc ∷ [])) moved.pg moved.raw = subst (λ (pg : PgId). IsRawSet (incs_of (log ++ entry.Inc inc ∷ [])) pg moved.raw) (sym same) placed in
    let now : IsRawSet (then_with (incs_of log) inc) moved.pg moved.raw = subst (λ (l : List Incremental). IsRawSet l moved.pg moved.raw) (grown log inc) here in
    filtered (then_with (incs_of log) inc) moved.pg moved.raw members now (lies (then_with (incs_of log) inc) step.after_is)

-- the group, brought to the epoch of the log, is still that of the log
pub group-still : (log : List Entry) (old : KeptGroup) (pg : PgId) (stood : Group) (at : ℕ) → IsKeptOf log old → pg ≡ old.pg → stood ≡ reaching at old.group → at ≡ epoch (incs_of log) → IsGroupOf log pg stood
group-still log old pg stood at is same stands here =
    subst (λ (id : PgId). IsGroupOf log id stood) (sym same)
    (subst (λ (g : Group). IsGroupOf log old.pg g) (sym (stands ∙ ap (λ (e : ℕ). reaching e old.group) here)) is.group_is)

pub kept-moved : (log : List Entry) (inc : Incremental) (before : MapBefore) (after : OsdMap) (old moved : KeptGroup) (stood group : Group) (members : Membership) (facts : PrimaryFacts) → IsStep log inc before after → IsKeptOf log old
    → moved.pg ≡ old.pg → IsRawSet (incs_of (log ++ entry.Inc inc ∷ [])) old.pg moved.raw → moved.temp ≡ temp (incs_of (log ++ entry.Inc inc ∷ [])) old.pg
    → ((incs : List Incremental) → IsMapOf incs after → option_map (λ made. members_from_up incs made moved.pg (without_down incs made moved.raw)) (pool incs moved.pg.pool) ≡ Some members)
    → IsGroupOf log moved.pg stood → group_facts (incs_of log) moved.pg ≡ Some facts
    → ((l : List Entry) (pg : PgId) (i : Incremental) → IsGroupOf l pg stood → map_fault (incs_of l) i ≡ None → group_facts (incs_of l) pg ≡ Some facts → IsMapOf (then_with (incs_of l) i) after
    → membership (then_with (incs_of l) i) pg ≡ Some members → IsGroupOf (l ++ entry.Inc i ∷ []) pg group)
    → IsKeptOf (log ++ entry.Inc inc ∷ []) (record moved { group = group; view = None })
kept-moved log inc before after old moved stood group members facts step is same placed listed lies stands told takes =
    record {
      group_is = reached-now (log ++ entry.Inc inc ∷ []) moved.pg group
          (takes log moved.pg inc stands (step-fine log inc before after step) told step.after_is
          (lies-next log inc before after old moved members step same placed lies));
      raw_is = subst (λ (pg : PgId). IsRawSet (incs_of (log ++ entry.Inc inc ∷ [])) pg moved.raw) (sym same) placed;
      temp_is = listed ∙ ap (temp (incs_of (log ++ entry.Inc inc ∷ []))) (sym same);
      view_is = tt;
    }

-- ---- the group is worked out

-- what it keeps may change, as long as it stands for the same log
pub kept-anew : (log : List Entry) (old : KeptGroup) (group : Group) → IsKeptOf log old → IsGroupOf log old.pg group → IsKeptOf log (record old { group = group })
kept-anew log old group is stands = record { group_is = reached-now log old.pg group stands; raw_is = is.raw_is; temp_is = is.temp_is; view_is = is.view_is }

pub kept-worked_out : (log : List Entry) (old : KeptGroup) (group : Group) (view : View) → IsKeptOf log old → IsGroupOf log old.pg group → scratch log old.pg ≡ Some view
    → IsKeptOf log (record old { group = group; view = Some view })
kept-worked_out log old group view is stands says =
    record { group_is = reached-now log old.pg group stands; raw_is = is.raw_is; temp_is = is.temp_is; view_is = view-since log old.pg view says }

-- ---- the group is told of

-- the view that is kept is that of the log, except for count and epoch
pub view-there : (pg : PgId) (kept : KeptGroup) (P : List Entry → Type 0) (told : Option (Bor View)) → option_copied told ≡ kept.view → kept.pg ≡ pg → ((log : List Entry) → P log → IsKeptOf log kept)
    → IfSome told (λ view. (log : List Entry) → P log → IsViewOf log pg view.now)
view-there pg kept P None is same each = tt
view-there pg kept P (Some view) is same each = λ log holds.
    subst (λ (id : PgId). IsViewOf log id view.now) same
    (view-whole log kept.pg view.now (subst (λ (o : Option View). IfSome o (IsViewSince log kept.pg)) (sym is) (each log holds).view_is))

pub there-copied : {X : Type 0} (told : Option (Bor X)) → is_some told ≡ not (is_none (option_copied told))
there-copied None = refl
there-copied (Some x) = refl
