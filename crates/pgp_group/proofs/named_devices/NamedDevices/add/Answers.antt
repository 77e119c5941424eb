use Rattle.pgp_group.proofs.Common.{◌≡◌, ◌<◌, sym, Err, vec_len, vec_capacity, nat_cmp_total, with_item, put_new, put_there}
use Rattle.pgp_group.proofs.NamedLemmas.{before, inserted, search-has, with_item-ascends}
use Rattle.pgp_group.proofs.named_devices.NamedDevices.add.Goals as goal
use Rattle.pgp_group.proofs.named_devices.NamedDevices.add.Goals.{After-insert}

room : (c : After-insert) → vec_len c.args.self.now.osds < vec_capacity c.args.self.now.osds
room c =
    c.requires (sym (search-has (Err c.in-Err.place) c.args.self.now.osds.items c.args.osd c.args.self.now.ascends
    (rw c.deref.ensures.value at c.in-Err.ensures.bound) (rw c.deref.ensures.value at c.in-Err.ensures.position)))

put : (c : After-insert) → c.insert.new.self.items ≡ with_item before c.args.osd c.args.self.now.osds.items
put c =
    let osds = c.args.self.now.osds.items in
    inserted c.insert.result c.insert.new.self.items osds c.in-Err.place c.args.osd (c.insert.ensures.succeeds (room c)) c.insert.ensures.items
    (put_new nat_cmp_total osds c.in-Err.place c.args.osd c.args.self.now.ascends (rw c.deref.ensures.value at c.in-Err.ensures.bound) (rw c.deref.ensures.value at c.in-Err.ensures.position))

pub unwrap-requires : goal.unwrap-requires
unwrap-requires c = c.insert.ensures.succeeds (room (goal.at.unwrap-requires c).After-insert)

pub invariant_of-self : goal.invariant_of-self
invariant_of-self c = search (put, with_item-ascends)

pub returns-in-Err-clause-osds : goal.returns-in-Err-clause-osds
returns-in-Err-clause-osds c = put (goal.at.returns-in-Err-clause-osds c).After-insert

pub returns-in-Err-clause-capacity : goal.returns-in-Err-clause-capacity
returns-in-Err-clause-capacity c = (c.insert.ensures.in_place (room (goal.at.returns-in-Err-clause-capacity c).After-insert)).1.0

pub returns-in_default-clause-osds : goal.returns-in_default-clause-osds
returns-in_default-clause-osds c =
    sym (put_there nat_cmp_total c.args.self.now.osds.items c.in_default.field-0 c.args.osd c.args.self.now.ascends
    (rw c.deref.ensures.value at c.in_default.ensures.bound) (rw c.deref.ensures.value at c.in_default.ensures.ok))
