use Rattle.pgp_shard.proofs.Common.{◌≡◌, ◌-◌, length, map, true, ap, sym, ◌∙◌, arith, arc_value, is_close, is_closed, is_legal, Shard}
use Rattle.pgp_log.proofs.SharedLemmas.{closed-by-last}
use Rattle.pgp_shard.proofs.shard.ShardState.is_closed.Goals as goal

pub returns-in-Some : goal.returns-in-Some
returns-in-Some c =
    let entries = c.deref.result.now in
    let item = c.in-Some.ensures.item in
    let legal : is_legal (map arc_value entries) ≡ true = ap (λ l. is_legal (map arc_value l)) c.deref.ensures.value ∙ c.self.invariant.legal in
    c.is_close.ensures ∙ (ap is_close c.deref-in-Some.ensures
    ∙ (sym (closed-by-last arc_value entries (length entries - 1) c.in-Some.last.now legal (omega (arith, item.3.0)) item.1)
    ∙ (ap (λ l. is_closed (map arc_value l)) c.deref.ensures.value ∙ ap (λ (s : Shard). is_closed s.front) c.self.view_is)))
