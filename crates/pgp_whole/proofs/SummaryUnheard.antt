-- The devices from which a group has yet to hear.
use Rattle.std.proofs.Common.{◌≡◌, ℕ, List, [], Bool, true, false, not, cond, ◌&&◌, ◌||◌, map, nat_eq, nat_lt, ap, sym, ◌∙◌, arith}
use Rattle.std.specs.List.{filter, list_any}
use Rattle.std.proofs.lemmas.Bool.Decides.{nat_tests}
use Rattle.pgp_ids.specs.declared.member.Member.{Member}
use Rattle.pgp_ids.specs.declared.verdict.Verdict.TheVariants.{Waiting}
use Rattle.pgp_lists.proofs.Lists.{any-mapped}
use Rattle.pgp_lists.specs.Ordered.{IsAscending}
use Rattle.pgp_lists.proofs.Pairs.{AllPairs-weaker}
use Rattle.pgp_group.specs.GroupLog.{GroupLog}
use Rattle.pgp_group.specs.Heard.{has_member, heard}
use Rattle.pgp_group.specs.Peering.{prior}
use Rattle.pgp_group.proofs.NamedLemmas.{before}
use Rattle.pgp_reasons.specs.Smallest.{holds}
use Rattle.pgp_whole.specs.Summary.{has_verdict, unheard}
use Rattle.pgp_whole.proofs.SummaryHearing.{any-filter}

before-is : (a b : ℕ) → before a b ≡ nat_lt a b
before-is a b = grind (arith, nat_tests)

pub ascends-plain : (osds : List ℕ) → IsAscending before osds → IsAscending nat_lt osds
ascends-plain osds up = AllPairs-weaker (λ a b. before a b ≡ true) (λ a b. nat_lt a b ≡ true) (λ a b is. sym (before-is a b) ∙ is) osds up

pub or-flip : (a b c : Bool) → c ≡ false → a || b ≡ b || (not c && a)
or-flip a b c is = grind arith

pub or-left : (b c d : Bool) → c ≡ true → b ≡ b || (not c && d)
or-left b c d is = grind arith

-- ---- the devices of a group

-- where the group waits, those of members that weren't heard are those from which it has yet to hear
pub unheard-holds : (g : GroupLog) (osd : ℕ) → has_verdict Waiting g ≡ true
    → list_any (λ (m : Member). not (has_member m (heard g)) && nat_eq osd m.osd) (prior g).probe ≡ holds (unheard g) osd
unheard-holds g osd waits =
    let probe : List Member = (prior g).probe in
    let left : List Member = filter (λ (m : Member). not (has_member m (heard g))) probe in
    sym (any-filter (λ (m : Member). nat_eq osd m.osd) (λ (m : Member). not (has_member m (heard g))) probe)
    ∙ sym (any-mapped (λ (m : Member). m.osd) (nat_eq osd) left)
    ∙ ap (λ b. list_any (nat_eq osd) (cond b (map (λ (m : Member). m.osd) left) [])) (sym waits)

-- and else it has nobody to hear
pub unheard-none : (g : GroupLog) (osd : ℕ) → has_verdict Waiting g ≡ false → false ≡ holds (unheard g) osd
unheard-none g osd idle =
    ap (λ b. list_any (nat_eq osd) (cond b (map (λ (m : Member). m.osd) (filter (λ (m : Member). not (has_member m (heard g))) (prior g).probe)) [])) (sym idle)
