-- Both preferences are strict total orders.
use Rattle.std.proofs.Common.{◌≡◌, ◌≢◌, ℕ, Option, true, not, refl, ap, ap₂, sym, ◌∙◌, arith}
use Rattle.std.specs.Cmp.{IsTotalOrder, tied_itself, then_total, on_total, back_total, nat_cmp_total, bool_cmp_total}
use Rattle.std.specs.declared.cmp.Ordering.{Ordering}
use Rattle.std.specs.declared.cmp.Ordering.TheVariants.{Less, Equal, Greater}
use Rattle.std.specs.Ordering.{is_lt, ordering_reverse, nat_cmp, bool_cmp, ordering_then}
use Rattle.std.proofs.lemmas.Bool.Decides.{nat_tests}
use Rattle.pgp_ids.specs.Version.{version_cmp}
use Rattle.pgp_ids.specs.Member.{member_cmp}
use Rattle.pgp_ids.specs.declared.member.Member.{Member}
use Rattle.pgp_ids.specs.declared.report.Info.{Info}
use Rattle.pgp_info.specs.Preference.{is_primary, tie_cmp, newest_first_cmp, oldest_first_cmp, IsPreference}

version_total : IsTotalOrder version_cmp
version_total = then_total (on_total (λ version. version.epoch) nat_cmp_total) (on_total (λ version. version.v) nat_cmp_total)

member_total : IsTotalOrder member_cmp
member_total = then_total (on_total (λ member. member.osd) nat_cmp_total) (on_total (λ member. member.slot) nat_cmp_total)

tie_total : (primary : Option Member) → IsTotalOrder (tie_cmp primary)
tie_total primary =
    then_total (on_total (λ info. info.log_tail) version_total)
    (then_total (back_total (on_total (is_primary primary) bool_cmp_total)) (on_total (λ info. info.member) member_total))

newest_total : (primary : Option Member) → IsTotalOrder (newest_first_cmp primary)
newest_total primary = then_total (back_total (on_total (λ info. info.last_update) version_total)) (tie_total primary)

oldest_total : (primary : Option Member) → IsTotalOrder (oldest_first_cmp primary)
oldest_total primary = then_total (on_total (λ info. info.last_update) version_total) (tie_total primary)

-- orders that tie in a row tie in the last one
tied_last : (r s : Ordering) → ordering_then r s ≡ Equal → s ≡ Equal
tied_last Less s tied = cc
tied_last Equal s tied = tied
tied_last Greater s tied = cc

tied_first : (r s : Ordering) → ordering_then r s ≡ Equal → r ≡ Equal
tied_first Less s tied = cc
tied_first Equal s tied = refl
tied_first Greater s tied = cc

same_numbers : (a b : ℕ) → nat_cmp a b ≡ Equal → a ≡ b
same_numbers a b tied = grind (arith, nat_tests)

-- members that tie are the same
same_members : (a b : Member) → member_cmp a b ≡ Equal → a ≡ b
same_members a b tied =
    let make : ℕ → ℕ → Member = λ osd slot. record { osd = osd; slot = slot } in
    ap₂ make (same_numbers a.osd b.osd (tied_first _ _ tied)) (same_numbers a.slot b.slot (tied_last _ _ tied))

less : (r : Ordering) → is_lt r ≡ true → r ≡ Less
less Less is = refl
less Equal is = cc
less Greater is = cc

one_of_two : (r : Ordering) → r ≢ Equal → is_lt r ≡ not (is_lt (ordering_reverse r))
one_of_two Less differ = refl
one_of_two Equal differ = absurd (differ refl)
one_of_two Greater differ = refl

-- a total order that ties no two members is a preference
preference : (order : Info → Info → Ordering) → IsTotalOrder order → ((a b : Info) → order a b ≡ Equal → a.member ≡ b.member) → IsPreference (λ a b. is_lt (order a b))
preference order total same = record {
  irreflexive = λ a. ap is_lt (tied_itself total a);
  transitive = λ a b c _ _ _ ab bc. ap is_lt (total.trans a b c (less _ ab) (less _ bc));
  one_of_two = λ a b differ. one_of_two (order a b) (λ tied. differ (same a b tied)) ∙ ap (λ r. not (is_lt r)) (sym (total.antisymm b a));
}

-- infos that tie are of one member
same_from_tie : (primary : Option Member) (a b : Info) → tie_cmp primary a b ≡ Equal → a.member ≡ b.member
same_from_tie primary a b tied =
    let same_tail = tied_last (version_cmp a.log_tail b.log_tail) _ tied in
    same_members a.member b.member (tied_last (bool_cmp (is_primary primary b) (is_primary primary a)) _ same_tail)

pub newest_is_preference : (primary : Option Member) → IsPreference (λ a b. is_lt (newest_first_cmp primary a b))
newest_is_preference primary = preference (newest_first_cmp primary) (newest_total primary) (λ a b tied.
    same_from_tie primary a b (tied_last (version_cmp b.last_update a.last_update) _ tied))

pub oldest_is_preference : (primary : Option Member) → IsPreference (λ a b. is_lt (oldest_first_cmp primary a b))
oldest_is_preference primary = preference (oldest_first_cmp primary) (oldest_total primary) (λ a b tied.
    same_from_tie primary a b (tied_last (version_cmp a.last_update b.last_update) _ tied))
