use Rattle.pgp_group.proofs.Common.{◌≡◌, ℕ, ◌+◌, List, [], ◌∷◌, ◌++◌, true, ◌&&◌, nat_le, refl, ap, subst, sym, take, ◌∙◌, arith, All, nat_tests, Member, Report, by_number, is_counted, counts_by, member_entries, reported_in, AreLogsOf, CountedLog}
use Rattle.pgp_group.proofs.Lists.{append-next}
use Rattle.pgp_group.proofs.ReportsLemmas.{told-counted, told-other}
use Rattle.pgp_group.proofs.logs.Logs.hear.Goals as goal
use Rattle.pgp_group.proofs.logs.Logs.hear.Goals.{then-is_counted+in_ok-add, else-is_counted}

pub loop-report-preserved : goal.loop-report-preserved
loop-report-preserved c =
    let i = c.loop-report.report-index in
    let x = c.report-item.result in
    let all = c.args.told.now in
    let next : (before : List Report) → before ++ take (i + 1) all ≡ (before ++ take i all) ++ x ∷ [] = λ before. append-next before all i x c.loop-report-test.true c.report-item.is in
    record {
      logs = λ g before here is member.
          let so_far : AreLogsOf g (before ++ take i all) c.loop-report.self.of_members.items = c.loop-report.invariant.logs g before here is in
          subst (λ (told : List Report). member_entries member c.if-is_counted.self.of_members.items ≡ by_number (reported_in g told member)) (sym (next before))
          (elim c.if-is_counted.branch [
            | then-is_counted+in_ok-add w ↦
                rw w.self-is
                (w.in_ok-add.ensures.logs member (reported_in g (before ++ take i all) member) (so_far member)
                ∙ ap by_number (sym (told-counted g (before ++ take i all) x member (sym (c.is_counted.ensures g here) ∙ w.if-is_counted.true))))
            | else-is_counted w ↦
                rw w.self-is
                (so_far member ∙ ap by_number (sym (told-other g (before ++ take i all) x member (sym (c.is_counted.ensures g here) ∙ w.if-is_counted.false))))
          ]);
      count = λ g at here sent is.
          let so_far : All (λ (log : CountedLog). counts_by g at log ≡ true) c.loop-report.self.of_members.items = c.loop-report.invariant.count g at here sent is in
          elim c.if-is_counted.branch [
            | then-is_counted+in_ok-add w ↦
                let by : nat_le x.stamp at ≡ true = grind (arith, nat_tests) in
                let counted : is_counted g x.member x.stamp ≡ true = sym (c.is_counted.ensures g here) ∙ w.if-is_counted.true in
                rw w.self-is (w.in_ok-add.ensures.each (λ (m : Member) (s : ℕ). is_counted g m s && nat_le s at) (rw (counted, by) refl) so_far)
            | else-is_counted w ↦ rw w.self-is so_far
          ];
    }
