use Rattle.pgp_group.proofs.Common.{arith, sym, ◌∙◌}
use Rattle.pgp_group.proofs.NamedLemmas.{place-put, place-empty}
use Rattle.pgp_group.proofs.named_devices.NamedDevices.add_places.Goals as goal
use Rattle.pgp_group.proofs.named_devices.NamedDevices.add_places.Goals.{in-Some, in_default}

pub loop-place-preserved : goal.loop-place-preserved
loop-place-preserved c =
    let places = c.as_slice-place-items.result.now in
    let old = c.args.self.now.osds.items in
    let at = c.loop-place.place-index in
    let so_far = c.loop-place.invariant in
    elim c.match-osd.branch [
      | in-Some w ↦ rw (w.self-is) (record {
        osds = λ q. place-put q at places c.place-item.result w.in-Some.osd w.add.new.self.osds.items c.loop-place.self.osds.items old c.loop-place-test.true c.place-item.is (sym c.osd.ensures ∙ w.in-Some.is) w.add.ensures.osds (so_far.osds q);
        len = omega (arith, w.add.ensures.len, so_far.len);
        capacity = w.add.ensures.capacity ∙ so_far.capacity;
      })
      | in_default w ↦ rw (w.self-is) (record {
        osds = λ q. place-empty q at places c.place-item.result c.loop-place.self.osds.items old c.loop-place-test.true c.place-item.is (sym c.osd.ensures ∙ w.in_default.is) (so_far.osds q);
        len = omega (arith, so_far.len);
        capacity = so_far.capacity;
      })
    ]
