use Rattle.pgp_log.proofs.Common.{◌≡◌, Some, IfSome, rules, PgId, is_same_group, IsRawSet}
use Rattle.std.specs.HashMap as hash
use Rattle.pgp_log.proofs.RawSetLemmas.{filtered, known-is, with-raw_set, either-way}
use Rattle.pgp_log.proofs.raw_sets.RawSets.members.Goals as goal

pub returns-in-Some-clause-members : goal.returns-in-Some-clause-members
returns-in-Some-clause-members c incs is are =
    let there : hash.get is_same_group c.args.self.now.known c.args.pg.now ≡ Some c.in-Some.known.now = search rules in
    filtered incs c.args.pg.now c.in-Some.known.now c.filter.result
    (known-is incs c.args.pg.now _ _ there (are.each c.args.pg.now)) (c.filter.ensures incs is)

pub returns-clause-kept : goal.returns-clause-kept
returns-clause-kept c incs is are =
    let old = hash.get is_same_group c.args.self.now.known in
    let new = hash.get is_same_group c.insert-kept.new.self in
    record {
      each = either-way c.insert-kept.result _ _ ((q : PgId) → IfSome (new q) (IsRawSet incs q)) c.insert-kept.ensures.updates c.insert-kept.ensures.err
          (λ up. with-raw_set incs old new c.args.pg.now c.raw-found.result are.each (c.raw-found.ensures incs is) up.0)
          (λ same q. rw same (are.each q));
    }
