use Rattle.pgp_group.proofs.Common.{refl, subst, sym, take, Contains, on_err_weaker, on_ok_weaker, members_of, basis_with, past}
use Rattle.pgp_lists.proofs.Results.{on_err}
use Rattle.pgp_group.proofs.PriorLemmas.{abreast-index, abreast-more, abreast-noted}
use Rattle.pgp_group.proofs.kept_prior.KeptPrior.add.Goals as goal

pub returns-in_err-note_members-clause-err : goal.returns-in_err-note_members-clause-err
returns-in_err-note_members-clause-err c = search (on_err, abreast-noted)

pub returns-clause-ok : goal.returns-clause-ok
returns-clause-ok c =
    let kept = c.args.self.now in
    let map = c.args.map.now in
    let p = c.args.past in
    let noted = c.note_members.new.noted.items in
    on_ok_weaker c.add_past.result (λ added g by_place at is.
    abreast-more g map kept.added kept.index c.add_past.new.self noted p at
    (abreast-noted g map kept.added kept.index kept.noted.items noted c.note_members.ensures.kept c.note_members.ensures.of_map is)
    (added (basis_with g map (take kept.added (past g))) is.index_is (λ m acts. refl))
    (λ m acts. c.in_ok-note_members.ensures.ok m (subst (λ b. Contains (members_of b p.members.acting) m) (sym by_place) acts)))
    c.add_past.ensures.ok

pub returns-clause-err : goal.returns-clause-err
returns-clause-err c =
    let kept = c.args.self.now in
    let map = c.args.map.now in
    let noted = c.note_members.new.noted.items in
    on_err_weaker c.add_past.result (λ keeps g by_place is.
    abreast-index g map kept.added kept.index c.add_past.new.self noted keeps
    (abreast-noted g map kept.added kept.index kept.noted.items noted c.note_members.ensures.kept c.note_members.ensures.of_map is))
    c.add_past.ensures.err
