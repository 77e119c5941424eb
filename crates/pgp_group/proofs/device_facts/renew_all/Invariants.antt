use Rattle.pgp_group.proofs.Common.{◌≡◌, ◌++◌, take, drop, enough_of, is_by_place, AnyCode, Basis, IsIndexOf, renoted_all, GivesEach}
use Rattle.pgp_group.proofs.NotedLemmas.{partly}
use Rattle.pgp_group.proofs.device_facts.renew_all.Given as goal

-- the entries so far are renewed, and the index follows them
abbrev pub invariant-loop-entry : goal.invariant-loop-entry
invariant-loop-entry l = record {
  noted : l.noted ≡ renoted_all l.map (take l.entry-index l.initial.noted) ++ drop l.entry-index l.initial.noted;
  index : (b : Basis AnyCode) → IsIndexOf enough_of is_by_place b l.initial.index → GivesEach (is_by_place b.code) b.status b.past l.initial.noted
      → IsIndexOf enough_of is_by_place (record b { status = partly l.map (take l.entry-index l.initial.noted) b.status }) l.index;
}
