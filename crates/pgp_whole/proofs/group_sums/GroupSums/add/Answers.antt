use Rattle.std.proofs.Common.{◌≡◌, ◌++◌, [], ◌∷◌, ap, sym, ◌∙◌, subst, nat_lt}
use Rattle.std.proofs.lemmas.List.{map-append}
use Rattle.pgp_lists.specs.Ordered.{IsAscending}
use Rattle.pgp_group.specs.Verdict.{verdict}
use Rattle.pgp_group.specs.View.{view_of}
use Rattle.pgp_reasons.specs.Smallest.{holds}
use Rattle.pgp_whole.specs.Summary.{blockers, freers, unheard}
use Rattle.pgp_whole.proofs.SummaryCounts.{blockers-ascend, counts-more, freers-ascend}
use Rattle.pgp_whole.proofs.SummaryGroups.{is-view}
use Rattle.pgp_whole.proofs.group_sums.GroupSums.add.Goals as goal

pub returns : goal.returns
returns c = λ groups log g are viewed stamped.
    let is : c.args.view.now ≡ view_of g = is-view log c.args.map.now c.args.pg.now c.args.view.now g viewed in
    let blocked : c.blockers_of.result.now ≡ blockers g = c.blockers_of.ensures g is in
    let freed : c.as_slice.result.now ≡ freers g = c.as_slice.ensures.value ∙ c.in_ok-freers.ensures log g viewed in
    record {
      verdicts_are = c.in_ok-push.ensures.ok
          ∙ (λ i. are.verdicts_are i ++ (is i).verdict ∷ [])
          ∙ sym (map-append verdict groups (g ∷ []));
      blocks_are = counts-more blockers groups g c.blockers_of.result.now _ _ (λ osd. ap (λ osds. holds osds osd) blocked) c.add.ensures
          (subst (IsAscending nat_lt) (sym blocked) (blockers-ascend g)) are.blocks_are;
      frees_are = counts-more freers groups g c.as_slice.result.now _ _ (λ osd. ap (λ osds. holds osds osd) freed) c.add-2.ensures
          (subst (IsAscending nat_lt) (sym freed) (freers-ascend g)) are.frees_are;
      awaited_are = counts-more unheard groups g c.as_slice-2.result.now _ _
          (λ osd. ap (λ osds. holds osds osd) c.as_slice-2.ensures.value ∙ c.in_ok-unheard.ensures.holds log g osd viewed stamped) c.add-3.ensures
          (subst (IsAscending nat_lt) (sym c.as_slice-2.ensures.value) c.in_ok-unheard.ensures.ascends) are.awaited_are;
    }
