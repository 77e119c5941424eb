-- What a list of map incrementals, oldest first, says of the map as a whole: its epoch, its tree, and the map of an
-- earlier epoch (Ceph's developer documentation on map epochs; the RADOS paper, 2007).
use Rattle.std.specs.Prelude.{ℕ, List, Option, None, map, filter, filter_map, nat_le, option_map}
use Rattle.std.specs.List.{last_or}
use Rattle.std.specs.Option.{option_map_or}
use Rattle.pgp_crush.specs.Bucket.{Bucket, bucket_of}
use Rattle.pgp_ids.specs.declared.incremental.Incremental.{Incremental}

-- the epoch of the last incremental, 0 if there is none
abbrev pub epoch : List Incremental → ℕ
epoch incs = option_map_or (λ inc. inc.epoch) (last_or None incs) 0

-- the incrementals that made the map of this epoch: those of epochs up to it
abbrev pub up_to : ℕ → List Incremental → List Incremental
up_to at incs = filter (λ inc. nat_le inc.epoch at) incs

-- the tree that was given last, if one was
abbrev pub tree : List Incremental → Option (List Bucket)
tree incs = option_map (map bucket_of) (last_or None (filter_map (λ inc. inc.crush) incs))
