use Rattle.pgp_group.proofs.Common.{◌∙◌}
use Rattle.pgp_group.proofs.NamedLemmas.{search-has}
use Rattle.pgp_group.proofs.named_devices.NamedDevices.has.Goals as goal

pub returns : goal.returns
returns c =
    let osds = c.args.self.now.osds.items in
    c.is_ok.ensures.value
    ∙ search-has c.binary_search.result osds c.args.osd c.args.self.now.ascends
    (rw c.deref.ensures.value at c.binary_search.ensures.bound) (rw c.deref.ensures.value at c.binary_search.ensures.position)
