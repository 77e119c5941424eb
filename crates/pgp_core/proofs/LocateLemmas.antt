-- The reply to the question where an object lies, by the map of a log.
use Rattle.std.proofs.Common.{◌≡◌, ℕ, List, Option, Some, None, refl, sym, ap₂}
use Rattle.std.proofs.lemmas.Option.{same_Some}
use Rattle.pgp_ids.specs.declared.entry.Entry.{Entry}
use Rattle.pgp_ids.specs.declared.pool.PoolSpec.{PoolSpec}
use Rattle.pgp_map.specs.Pools.{pool}
use Rattle.pgp_group.specs.Entries.{incs_of}
use Rattle.pgp_text.specs.declared.reply.Reply.TheVariants.{Located}
use Rattle.pgp_log.specs.Locate.{place_of_object}
use Rattle.pgp_log.specs.Log.{epoch_of}
use Rattle.pgp_log.specs.declared.place.ObjectPlace.{ObjectPlace}
use Rattle.pgp_core.specs.Answer.{located_reply}

-- the reply, where the object lies there
pub located-there : (log : List Entry) (id : ℕ) (name : List ℕ) (place : ObjectPlace) (now : ℕ) → place_of_object (incs_of log) id name ≡ Some place → now ≡ epoch_of log
    → Located place.pg place.members now ≡ located_reply log id name (pool (incs_of log) id)
located-there log id name place now lies epoch = go (pool (incs_of log) id) refl where
  go : (found : Option PoolSpec) → pool (incs_of log) id ≡ found → Located place.pg place.members now ≡ located_reply log id name found
  go None none = let no = simp none at lies in cc
  go (Some made) there = ap₂ (λ (p : ObjectPlace) (e : ℕ). Located p.pg p.members e) (same_Some _ _ (sym (simp there at lies))) epoch
