use Rattle.pgp_shard.proofs.Common.{refl, ◌∙◌, arith, then_with, incs_of, Groups}
use Rattle.pgp_shard.proofs.WorkedLemmas.{keeps-none}
use Rattle.pgp_shard.proofs.OwnGroupsLemmas.{pool-more, still-on}
use Rattle.pgp_shard.proofs.groups.Groups.add_pool.Goals as goal

pub add-requires : goal.add-requires
add-requires c =
    let can = c.requires.can in
    let inc = c.requires.inc in
    record { inc = inc; can = record { log = can.log; is = c.loop-number.invariant.is can.log inc c.requires.made can.is }; made = c.requires.made }

pub loop-number-init : goal.loop-number-init
loop-number-init c = record {
  is = λ log inc made is. is;
  own = λ log inc made is pg same below. absurd (omega arith);
  still = record { groups_are = λ pg was. was; kept = keeps-none c.args.self.now; marked = λ all. all };
  marks = λ other differs. refl;
}

pub loop-number-preserved : goal.loop-number-preserved
loop-number-preserved c =
    let so_far = c.loop-number.invariant in
    let before : Groups = c.loop-number.self in
    let after : Groups = c.add.new.self in
    let added = c.in_ok-add.ensures in
    record {
      is = λ log inc made is. added.ok log inc made (so_far.is log inc made is);
      own = λ log inc made is.
          pool-more c.args.owner (then_with (incs_of log) inc) before after c.args.id c.loop-number.number added.still
          (so_far.own log inc made is) (added.own log inc (so_far.is log inc made is));
      still = still-on c.args.self.now before after so_far.still added.still;
      marks = λ other differs. added.marks other differs ∙ so_far.marks other differs;
    }
