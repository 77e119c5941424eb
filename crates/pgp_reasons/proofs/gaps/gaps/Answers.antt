use Rattle.std.proofs.Common.{◌≡◌, ℕ, [], Bool, Option, Some, None, nat_eq, map, nat_lt, ap, ◌∙◌}
use Rattle.std.specs.List.{list_any}
use Rattle.std.specs.Option.{option_map_or}
use Rattle.std.proofs.lemmas.Result.{IfOk-weaker}
use Rattle.pgp_ids.specs.declared.report.Info.{Info}
use Rattle.pgp_lists.specs.Ordered.{ascending}
use Rattle.pgp_missing.specs.Log.{has_number, number_of}
use Rattle.pgp_group.specs.GroupLog.{GroupLog}
use Rattle.pgp_group.specs.Heard.{reported}
use Rattle.pgp_group.specs.Peering.{best}
use Rattle.pgp_reasons.specs.Gaps.{gaps_in, runs_lacked}
use Rattle.pgp_reasons.specs.Reasons.{gaps}
use Rattle.pgp_reasons.proofs.GapLemmas.{any-number}
use Rattle.pgp_reasons.proofs.gaps.gaps.Goals as goal

gaps-of : (g : GroupLog) (found : Option Info) → found ≡ best g → option_map_or (λ info. gaps_in info (reported g info.member)) found [] ≡ gaps g
gaps-of g found is = ap (λ (one : Option Info). option_map_or (λ (info : Info). gaps_in info (reported g info.member)) one []) is

pub returns-in_default : goal.returns-in_default
returns-in_default c = λ g log pg here is. c.new.ensures ∙ gaps-of g None (rw c.in_default.is at is)

pub returns : goal.returns
returns c =
    IfOk-weaker c.runs_beside.result _ _
    (λ list is g log pg here best.
    let info = c.in-Some.info.now in
    let told = reported g info.member in
    let numbers : c.as_slice.result.now ≡ ascending nat_lt (map number_of told) = c.as_slice.ensures ∙ c.in_ok-numbers.ensures.numbers g log pg here in
    let tests : (λ (v : ℕ). list_any (nat_eq v) c.as_slice.result.now) ≡ (λ (v : ℕ). has_number v told) =
    λ i v. (ap (list_any (nat_eq v)) numbers ∙ any-number told v) i in
    is ∙ ap (λ (present : ℕ → Bool). runs_lacked present info.log_tail.v info.last_update.v) tests ∙ gaps-of g (Some info) (rw c.in-Some.is at best))
    c.runs_beside.ensures
