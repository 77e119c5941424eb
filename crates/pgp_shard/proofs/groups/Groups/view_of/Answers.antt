use Rattle.pgp_shard.proofs.Common.{◌≡◌, ◌&&◌, not, None, Some, is_none, is_some, sym, ap, ap₂, ◌∙◌, slice_get, some-weaker, is_same_group, AreGroupsOf, marks_of, is_among, Groups, KeptGroup}
use Rattle.std.specs.HashMap as hash
use Rattle.pgp_shard.proofs.GroupsLemmas.{kept-at, kept-within, place-holds}
use Rattle.pgp_shard.proofs.KeptLemmas.{there-copied, view-there}
use Rattle.pgp_shard.proofs.MarksLemmas.{marked-at}
use Rattle.pgp_shard.proofs.OwnGroupsLemmas.{found-own}
use Rattle.pgp_shard.proofs.groups.Groups.view_of.Goals as goal

pub index-requires : goal.index-requires
index-requires c = kept-within c.args.self.now c.args.pg.now c.in_ok-place.place c.requires (sym c.in_ok-place.ensures)

pub returns : goal.returns
returns c =
    let groups : Groups = c.args.self.now in
    let pg = c.args.pg.now in
    let place = c.in_ok-place.place in
    let kept : KeptGroup = c.index.result.now in
    let is : hash.get is_same_group groups.places pg ≡ Some place = sym c.in_ok-place.ensures in
    let at : slice_get groups.kept.items place ≡ Some kept = kept-at groups pg place kept c.requires is c.index.ensures in
    record {
      view = some-weaker c.as_ref.result _ _ (λ view given owner log are. given log are.groups_are)
          (view-there pg kept (λ log. AreGroupsOf log groups) c.as_ref.result c.as_ref.ensures.value (place-holds groups pg place kept c.requires is at) (λ log are. are.each.each place kept at));
      there = λ owner log are own.
          there-copied c.as_ref.result ∙ ap (λ v. not (is_none v)) c.as_ref.ensures.value
          ∙ ap₂ (λ b m. b && not m) (found-own owner log groups pg (Some place) is are own)
          (sym (marked-at groups pg place kept c.requires is at));
    }

pub returns-in_err-place-clause-there : goal.returns-in_err-place-clause-there
returns-in_err-place-clause-there c = λ owner log are own.
    ap is_some c.from_residual.ensures ∙ ap (λ b. b && not (is_among c.args.pg.now (marks_of c.args.self.now)))
    (found-own owner log c.args.self.now c.args.pg.now None (sym c.in_err-place.ensures) are own)
