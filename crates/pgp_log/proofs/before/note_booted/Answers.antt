use Rattle.pgp_log.proofs.Common.{with_facts, ◌∙◌}
use Rattle.pgp_log.proofs.MapBeforeLemmas.{noted-more}
use Rattle.pgp_log.proofs.before.note_booted.Goals as goal

pub loop-osd-preserved : goal.loop-osd-preserved
loop-osd-preserved c = λ incs is.
    c.in_ok-push.ensures.items
    ∙ noted-more (with_facts incs) c.args.devices.now.items c.loop-osd.devices.items c.args.osds.now c.loop-osd.osd-index c.osd-item.result c.device_facts.result
    c.loop-osd-test.true c.osd-item.is (c.device_facts.ensures incs is) (c.loop-osd.invariant incs is)
