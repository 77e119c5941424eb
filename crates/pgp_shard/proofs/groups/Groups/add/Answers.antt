use Rattle.pgp_shard.proofs.Common.{◌≡◌, true, false, List, [], ◌∷◌, ◌++◌, sym, ap, ◌∙◌, subst, All-push, PgId, then_with, has_group, is_same_group, incs_of, keeps, AreAllMarked, ids_of, lacks_view, marks_in, worked_in, is_among, worked_at, on_ok_weaker, HasOneMore, Groups, KeptGroup}
use Rattle.pgp_ids.specs.declared.entry.Entry.TheVariants as entry
use Rattle.pgp_shard.proofs.GroupsLemmas.{groups-more, keeps-found, keeps-last, keeps-others}
use Rattle.pgp_shard.proofs.KeptLemmas.{step-fine}
use Rattle.pgp_shard.proofs.MarksLemmas.{marks-push, marks-push-still, other-pool}
use Rattle.pgp_shard.proofs.WorkedLemmas.{keeps-none, worked-push}
use Rattle.pgp_shard.proofs.OwnGroupsLemmas.{absent-before, keeps-still, next-has_group, only-more}
use Rattle.pgp_shard.proofs.groups.Groups.add.Goals as goal

pub returns-then-contains_key-clause-own : goal.returns-then-contains_key-clause-own
returns-then-contains_key-clause-own c = λ log inc is own there.
    sym (keeps-found c.args.self.now c.args.pg is.groups_are.places_are) ∙ (sym c.contains_key.ensures ∙ c.if-contains_key.true)

pub begin-kept-requires : goal.begin-kept-requires
begin-kept-requires c =
    let can = c.requires.can in
    let inc = c.requires.inc in
    let there : has_group (then_with (incs_of can.log) inc) c.args.pg ≡ true = sym (c.has_group.ensures (then_with (incs_of can.log) inc) can.is.step.after_is) ∙ c.if-not-has_group.false in
    next-has_group c.args.owner can.log inc c.args.self.now c.args.pg can.is there

pub returns : goal.returns
returns c =
    let pg = c.args.pg in
    let old : Groups = c.args.self.now in
    let new : Groups = c.keep.new.self in
    let kept : KeptGroup = c.begin-kept.result in
    let begun = c.begin-kept.ensures in
    let here : HasOneMore kept old new → keeps pg new ≡ true = λ more.
    ap (λ (l : List KeptGroup). is_among pg (ids_of l)) more.items
    ∙ subst (λ (p : PgId). is_among p (ids_of (old.kept.items ++ kept ∷ [])) ≡ true) begun.pg (keeps-last old.kept.items kept) in
    let others : HasOneMore kept old new → (other : PgId) → is_same_group other pg ≡ false → keeps other new ≡ keeps other old = λ more other differs.
    ap (λ (l : List KeptGroup). is_among other (ids_of l)) more.items ∙ keeps-others old.kept.items kept other (ap (is_same_group other) begun.pg ∙ differs) in
    record {
      ok = on_ok_weaker c.keep.result (λ more log inc made is.
          let there : has_group (then_with (incs_of log) inc) pg ≡ true = sym (c.has_group.ensures (then_with (incs_of log) inc) is.step.after_is) ∙ c.if-not-has_group.false in
          let absent : has_group (incs_of log) pg ≡ false = absent-before log inc pg (step-fine log inc is.before old.map is.step) made in
          record {
            before = is.before;
            step = rw more.map is.step;
            groups_are = groups-more (log ++ entry.Inc inc ∷ []) old new kept more.row (rw begun.pg (sym c.contains_key.ensures ∙ c.if-contains_key.false)) more.found
                more.items more.worked begun.marked (begun.is log inc is.before is.step absent there) more.row_is more.rows is.groups_are;
            own_are = λ other own was. keeps-still old new pg (here more) (others more) other (is.own_are other own was);
            only_own = only-more c.args.owner (then_with (incs_of log) inc) old new pg (sym c.owns.ensures ∙ c.if-not-owns.false) there (others more) is.only_own;
          }) c.keep.ensures;
      own = on_ok_weaker c.keep.result (λ more log inc is own there. here more) c.keep.ensures;
      still = on_ok_weaker c.keep.result (λ more. record {
        groups_are = keeps-still old new pg (here more) (others more);
        kept = record {
          marks = λ other was. ap (λ (l : List KeptGroup). is_among other (marks_in l)) more.items ∙ marks-push-still old.kept.items kept other was;
          worked = λ other unmarked. ap (λ (l : List KeptGroup). worked_at (worked_in l) other) more.items ∙ worked-push old.kept.items kept other begun.marked;
        };
        marked = λ all. subst AreAllMarked (sym more.items) (All-push (λ (k : KeptGroup). lacks_view k ≡ true) old.kept.items kept all begun.marked);
      }) c.keep.ensures;
      marks = on_ok_weaker c.keep.result (λ more other differs.
          ap (λ (l : List KeptGroup). is_among other (marks_in l)) more.items ∙ marks-push old.kept.items kept other (ap (is_same_group other) begun.pg ∙ other-pool pg other differs))
          c.keep.ensures;
    }

pub returns-then-contains_key-clause-still : goal.returns-then-contains_key-clause-still
returns-then-contains_key-clause-still c = record { groups_are = λ pg was. was; kept = keeps-none c.args.self.now; marked = λ all. all }
