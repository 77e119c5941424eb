-- The parts of a view are those of its definition, and its verdict is the first whose cause holds.
use Rattle.pgp_group.proofs.Common.{◌≡◌, List, [], ◌++◌, Option, Some, None, Bool, true, false, not, map, refl, ap₂, sym, ◌∙◌, list_any, option_map, is_by_place, is_before, Membership, Info, best_info, Heard, Preference, ascending, KeptLog, members_of, Prior, AreHeard, GroupLog, heard, has_member, prior, leader, best, has_whole_log, present_members, peers, peer_missing, peer_states, is_waiting, CountedLog, arith, nat_tests, ℕ, suc, ◌<◌, ◌∷◌, find, unwrap_or, cases_lt, true≢false, Verdict, NoPrimary, Down, Waiting, Incomplete, Short, NeedLog, NeedUpThru, Serve, verdict_holds, verdict, verdict_place, IsFirstCause}
use Rattle.std.specs.Option.{option_map_or}
use Rattle.pgp_info.specs.Prefers.{prefers_with as prefers_by}
use Rattle.pgp_group.specs.kept.Parts.{IsBestCopy}
use Rattle.pgp_group.specs.Peering.{whole_best}
use Rattle.pgp_group.specs.Prefers.{prefers}
use Rattle.pgp_group.specs.declared.group.best_copy.BestCopy.{BestCopy}

-- ---- the best copy

pub best-is : (g : GroupLog) (found : Heard Preference) → AreHeard g found → best_info (prefers_by found.prefer) found.infos ≡ best g
best-is g found are = ap₂ best_info are.prefer are.infos

pub states-whole : (g : GroupLog) (info : Info) → best g ≡ Some info → has_whole_log g info ≡ true → peer_states g ≡ map (peer_missing g info) (peers g info)
states-whole g info is log = grind (arith, nat_tests)

pub whole-best : (g : GroupLog) (info : Info) → best g ≡ Some info → has_whole_log g info ≡ true → whole_best g ≡ Some info
whole-best g info is log = grind (arith, nat_tests)

pub no-whole : (g : GroupLog) (info : Info) (copy : BestCopy) → best g ≡ Some info → has_whole_log g info ≡ false
    → copy.member ≡ Some info.member → copy.whole ≡ false → copy.states ≡ [] → IsBestCopy g copy
no-whole g info copy is log member whole states = grind (arith, nat_tests)

-- the members of up and acting, by the same place rule and membership
pub present-is : (g : GroupLog) (by_place : Bool) (current : Membership) → by_place ≡ is_by_place g.history.code → current ≡ g.history.current → ascending is_before (members_of by_place current.up ++ members_of by_place current.acting) ≡ present_members g
present-is g by_place current by_is current_is = λ i. ascending is_before (members_of (by_is i) (current_is i).up ++ members_of (by_is i) (current_is i).acting)

-- ---- whom the group needs

pub waiting-is : (g : GroupLog) (found : Prior) (infos' : List Info) → found ≡ prior g → infos' ≡ heard g → list_any (λ member. not (has_member member infos')) found.probe ≡ is_waiting g
waiting-is g found infos' prior_is infos_is = λ i. list_any (λ member. not (has_member member (infos_is i))) (prior_is i).probe

-- ---- what was looked at

pub heard-is : (g : GroupLog) (found : Heard Preference) (prefer : Preference) → found ≡ record { prefer = prefer; infos = heard g } → prefers_by prefer ≡ prefers g.history.code (leader g) → AreHeard g found
heard-is g found prefer is by = grind (arith, nat_tests)

pub log-there : (found : Option CountedLog) (log : KeptLog) → Some log ≡ option_map (λ l. l.log) found → (l : CountedLog) × (found ≡ Some l) × (l.log ≡ log)
log-there None log is = grind (arith, nat_tests)
log-there (Some l) log is = (l, refl, let same : Some log ≡ Some l.log = is in cc)

pub no-log : (found : Option CountedLog) → None ≡ option_map (λ l. l.log) found → [] ≡ option_map_or (λ l. l.log.entries) found []
no-log None is = refl
no-log (Some l) is = let none : None ≡ Some l.log = is in cc

-- ---- the first cause that holds

-- no cause before this place holds
NoneBelow : GroupLog → ℕ → Type 0
NoneBelow g n = (v : Verdict) → verdict_place v < n → verdict_holds g v ≡ false

none_below-next : (g : GroupLog) (v : Verdict) → NoneBelow g (verdict_place v) → verdict_holds g v ≡ false → NoneBelow g (suc (verdict_place v))
unfolding NoneBelow
none_below-next g v below fails = grind arith

none_below-first : (g : GroupLog) → NoneBelow g 0
unfolding NoneBelow
none_below-first g = λ v low. absurd (omega arith)

first_here : (g : GroupLog) (v : Verdict) → NoneBelow g (verdict_place v) → verdict_holds g v ≡ true → IsFirstCause g v
unfolding NoneBelow
first_here g v below here = record { cause = here; none_before = below }

-- the first of the verdicts from this one on, where no earlier one's cause holds
first_of : (g : GroupLog) (v : Verdict) (rest : List Verdict) → NoneBelow g (verdict_place v) → (NoneBelow g (suc (verdict_place v)) → IsFirstCause g (unwrap_or (find (verdict_holds g) rest) Serve)) → IsFirstCause g (unwrap_or (find (verdict_holds g) (v ∷ rest)) Serve)
first_of g v rest below later = grind (arith, nat_tests, first_here, none_below-next)

pub IsFirstCause-verdict : (g : GroupLog) → IsFirstCause g (verdict g)
IsFirstCause-verdict g =
    first_of g NoPrimary (Down ∷ Waiting ∷ Incomplete ∷ Short ∷ NeedLog ∷ NeedUpThru ∷ Serve ∷ []) (none_below-first g) (λ n1.
    first_of g Down (Waiting ∷ Incomplete ∷ Short ∷ NeedLog ∷ NeedUpThru ∷ Serve ∷ []) n1 (λ n2.
    first_of g Waiting (Incomplete ∷ Short ∷ NeedLog ∷ NeedUpThru ∷ Serve ∷ []) n2 (λ n3.
    first_of g Incomplete (Short ∷ NeedLog ∷ NeedUpThru ∷ Serve ∷ []) n3 (λ n4.
    first_of g Short (NeedLog ∷ NeedUpThru ∷ Serve ∷ []) n4 (λ n5.
    first_of g NeedLog (NeedUpThru ∷ Serve ∷ []) n5 (λ n6.
    first_of g NeedUpThru (Serve ∷ []) n6 (λ n7.
    first_here g Serve n7 refl)))))))

-- there is only one
one_first : (g : GroupLog) (v w : Verdict) → IsFirstCause g v → IsFirstCause g w → verdict_place v < verdict_place w → ⊥
one_first g v w first_v first_w less = true≢false (sym first_v.cause ∙ first_w.none_before v less)

pub verdict-IsFirstCause : (g : GroupLog) (v : Verdict) → IsFirstCause g v → verdict g ≡ v
verdict-IsFirstCause g v first =
    grind (arith, cases_lt (verdict_place v) (verdict_place (verdict g)), IsFirstCause-verdict g, cases_lt (verdict_place (verdict g)) (verdict_place v))

-- what the laws say
pub ruleset verdict_laws = (IsFirstCause-verdict, verdict-IsFirstCause)
