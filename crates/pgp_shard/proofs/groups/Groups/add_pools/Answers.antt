use Rattle.pgp_shard.proofs.Common.{◌≡◌, ◌<◌, Some, length, slice_get, get_or, refl, ap, ◌∙◌, list_any, nat_eq, take_all, slice_get_read, PoolSpec, none-at, then_with, incs_of, Groups}
use Rattle.pgp_shard.proofs.OwnGroupsLemmas.{made-here, own-next, pools-more, still-on}
use Rattle.pgp_shard.proofs.groups.Groups.add_pools.Goals as goal

pub add_pool-requires : goal.add_pool-requires
add_pool-requires c =
    let inc = c.args.inc.now in
    let i = c.loop-pool.pool-index in
    let made : PoolSpec = c.pool-item.result in
    let within : i < length inc.pools = rw (← c.as_slice-pool-items.ensures) c.loop-pool-test.true in
    let item : made ≡ get_or inc.pools i made = rw (← c.as_slice-pool-items.ensures) c.pool-item.is in
    record {
      inc = inc;
      can = record { log = c.requires.log; is = c.loop-pool.invariant.is c.requires.log c.requires.is };
      made = made-here inc i made (slice_get_read inc.pools (length inc.pools) i made refl within item);
    }

pub loop-pool-preserved : goal.loop-pool-preserved
loop-pool-preserved c =
    let so_far = c.loop-pool.invariant in
    let before : Groups = c.loop-pool.self in
    let after : Groups = c.add_pool.new.self in
    let added = c.in_ok-add_pool.ensures in
    let inc = c.args.inc.now in
    let i = c.loop-pool.pool-index in
    let made : PoolSpec = c.pool-item.result in
    let within : i < length inc.pools = rw (← c.as_slice-pool-items.ensures) c.loop-pool-test.true in
    let item : made ≡ get_or inc.pools i made = rw (← c.as_slice-pool-items.ensures) c.pool-item.is in
    let at : slice_get inc.pools i ≡ Some made = slice_get_read inc.pools (length inc.pools) i made refl within item in
    let makes = made-here inc i made at in
    record {
      is = λ log is. added.ok log inc makes (so_far.is log is);
      own = λ log is.
          pools-more c.args.owner (then_with (incs_of log) inc) inc before after i made added.still within item (so_far.own log is) (added.own log inc makes (so_far.is log is));
      still = still-on c.args.self.now before after so_far.still added.still;
      marks = λ other none. added.marks other (none-at (λ (p : PoolSpec). nat_eq p.id other.pool) inc.pools i made none at) ∙ so_far.marks other none;
    }

pub returns-clause-own : goal.returns-clause-own
returns-clause-own c = λ log is.
    own-next c.args.owner log c.args.inc.now c.loop-pool.self (c.loop-pool.invariant.is log is)
    (λ pg made. c.loop-pool.invariant.own log is pg
    (ap (list_any (λ (p : PoolSpec). nat_eq p.id pg.pool)) (take_all c.loop-pool.pool-index c.args.inc.now.pools (rw (← c.as_slice-pool-items.ensures) c.loop-pool-test.false)) ∙ made))
