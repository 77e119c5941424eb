use Rattle.std.proofs.Common.{◌≡◌, map, take}
use Rattle.std.specs.Option.{option_copied}
use Rattle.pgp_lists.specs.Last.{last_where}
use Rattle.pgp_reasons.specs.Blocking.{was_clean_in}
use Rattle.pgp_reasons.proofs.blocking.clean_of.Given as goal

abbrev pub invariant-loop-interval : goal.invariant-loop-interval
invariant-loop-interval l = option_copied l.last ≡ last_where (was_clean_in (map (λ info. info.last_epoch_clean) l.infos) l.les) (take l.interval-index l.past)
