use Rattle.std.proofs.Common.{◌≡◌, ℕ, ◌+◌, ◌++◌, List, [], ◌∷◌, take, sym, ap, ◌∙◌, subst}
use Rattle.std.specs.List.{filter_map}
use Rattle.std.proofs.lemmas.List.{take_all, take_more}
use Rattle.pgp_ids.specs.declared.entry.Entry.{Entry}
use Rattle.pgp_ids.specs.declared.pg_id.PgId.{PgId}
use Rattle.pgp_group.specs.GroupLog.{group_in}
use Rattle.pgp_whole.specs.kept.Hearing.{AreStamps}
use Rattle.pgp_whole.specs.kept.Sums.{AreSums}
use Rattle.pgp_whole.specs.declared.group_sums.GroupSums.{GroupSums}
use Rattle.pgp_whole.proofs.summary.sums_of.Goals as goal

pub loop-pg-preserved : goal.loop-pg-preserved
loop-pg-preserved c =
    let i : ℕ = c.loop-pg.pg-index in
    let groups : List PgId = c.args.groups.now in
    let log : List Entry = c.args.log.now in
    let here : c.loop-pg.log ≡ log = c.loop-pg.invariant.same in
    let more : take (i + 1) groups ≡ take i groups ++ c.pg-item.result ∷ [] =
    take_more groups i c.pg-item.result c.loop-pg-test.true ∙ ap (λ pg. take i groups ++ pg ∷ []) (sym c.pg-item.is) in
    let at : List Entry → List PgId → GroupSums → Type 0 = λ l pgs sums. AreSums (filter_map (group_in l) pgs) sums in
    record {
      same = c.add_group.ensures.same ∙ here;
      sums = λ stamped.
          let before : at c.loop-pg.log (take i groups) c.loop-pg.sums = subst (λ l. at l (take i groups) c.loop-pg.sums) (sym here) (c.loop-pg.invariant.sums stamped) in
          let there : AreStamps c.loop-pg.log c.args.stamps.now = subst (λ (l : List Entry). AreStamps l c.args.stamps.now) (sym here) stamped in
          let after : at c.loop-pg.log (take i groups ++ c.pg-item.result ∷ []) c.add_group.new.sums = c.in_ok-add_group.ensures.more (take i groups) there before in
          subst (λ l. at l (take (i + 1) groups) c.add_group.new.sums) here (subst (λ pgs. at c.loop-pg.log pgs c.add_group.new.sums) (sym more) after);
    }

pub returns-clause-value : goal.returns-clause-value
returns-clause-value c = λ stamped.
    subst (λ pgs. AreSums (filter_map (group_in c.args.log.now) pgs) c.loop-pg.sums) (take_all c.loop-pg.pg-index c.args.groups.now c.loop-pg-test.false) (c.loop-pg.invariant.sums stamped)
