use Rattle.pgp_shard.proofs.Common.{◌≡◌, List, [], ◌∷◌, ◌++◌, Option, None, map, ap, sym, ◌∙◌, subst, arc_value, Entry, IsKeptBeside, MarksOnlyTouched, fits, shard_with, Shard, Groups}
use Rattle.pgp_shard.proofs.KeptBesideLemmas.{front-longer}
use Rattle.pgp_shard.proofs.shard.ShardState.absorb.Goals as goal

pub read_on-requires : goal.read_on-requires
read_on-requires c =
    let log : List Entry = map arc_value c.self.inside.front.items in
    record {
      log = log;
      is = c.self.invariant;
      fits = ap (fits log) c.deref.ensures ∙ subst (λ (s : Shard). fits s.front (arc_value c.args.entry.now) ≡ None) (sym c.self.view_is) c.requires;
    }

pub invariant_of-self-in_err-read_on : goal.invariant_of-self-in_err-read_on
invariant_of-self-in_err-read_on c = record { legal = rw c.reserve.ensures.items c.self.invariant.legal; groups_are = rw c.in_err-read_on.ensures.given_up tt }

pub invariant_of-self-2 : goal.invariant_of-self-2
invariant_of-self-2 c =
    let log : List Entry = map arc_value c.self.inside.front.items in
    let fit : fits log c.deref.result.now ≡ None = ap (fits log) c.deref.ensures ∙ subst (λ (s : Shard). fits s.front (arc_value c.args.entry.now) ≡ None) (sym c.self.view_is) c.requires in
    subst (λ (l : List Entry). IsKeptBeside c.self.inside.owner l c.read_on.new.kept)
    (sym (front-longer arc_value c.self.inside.front.items c.push_reserved.new.self.items c.in_ok-copy.copy c.deref.result.now
    (c.push_reserved.ensures.items ∙ ap (λ l. l ++ c.in_ok-copy.copy ∷ []) c.reserve.ensures.items) (c.in_ok-copy.ensures ∙ sym c.deref.ensures)))
    (c.in_ok-read_on.ensures.is log c.self.invariant fit)

pub returns-clause-ok : goal.returns-clause-ok
returns-clause-ok c =
    let new : Entry = arc_value c.args.entry.now in
    record {
      front_is = front-longer arc_value c.self.inside.front.items c.push_reserved.new.self.items c.in_ok-copy.copy new
          (c.push_reserved.ensures.items ∙ ap (λ l. l ++ c.in_ok-copy.copy ∷ []) c.reserve.ensures.items) c.in_ok-copy.ensures
          ∙ ap (λ (s : Shard). s.front ++ new ∷ []) c.self.view_is;
      shard_is = ap (λ (s : Shard). s.shard) c.self.view_is;
      shards_are = ap (λ (s : Shard). s.shards) c.self.view_is;
    }

pub returns-clause-marks : goal.returns-clause-marks
returns-clause-marks c =
    let log : List Entry = map arc_value c.self.inside.front.items in
    let new : Entry = arc_value c.args.entry.now in
    let left : Option Groups = c.read_on.new.kept in
    let owner = c.self.inside.owner in
    let fit : fits log new ≡ None = subst (λ (s : Shard). fits s.front new ≡ None) (sym c.self.view_is) c.requires in
    let longer : map arc_value c.push_reserved.new.self.items ≡ log ++ new ∷ [] =
    front-longer arc_value c.self.inside.front.items c.push_reserved.new.self.items c.in_ok-copy.copy new
    (c.push_reserved.ensures.items ∙ ap (λ l. l ++ c.in_ok-copy.copy ∷ []) c.reserve.ensures.items) c.in_ok-copy.ensures in
    rw (← c.self.view_is)
    (subst (λ (l : List Entry). MarksOnlyTouched new (shard_with owner log c.self.inside.groups) (shard_with owner l left)) (sym longer)
    ((rw c.deref.ensures at c.in_ok-read_on.ensures.marks) log c.self.invariant fit))
