use Rattle.pgp_shard.proofs.Common.{◌≡◌, Some, sym, ap, ◌∙◌, option_map, on_ok_weaker, incs_of, primary_facts, IsGroupOf, reaching, Group, KeptGroup}
use Rattle.pgp_shard.proofs.KeptLemmas.{group-still, kept-moved, kept-there}
use Rattle.pgp_shard.proofs.kept_group.KeptGroup.move_on.Goals as goal

pub place_anew-requires : goal.place_anew-requires
place_anew-requires c = kept-there c.requires.log c.args.inc.now c.args.before.now c.args.after.now c.args.self.now c.requires.is c.requires.step

pub filter-members-requires : goal.filter-members-requires
filter-members-requires c =
    rw c.place_anew.ensures.pg (kept-there c.requires.log c.args.inc.now c.args.before.now c.args.after.now c.args.self.now c.requires.is c.requires.step)

pub returns-clause-ok : goal.returns-clause-ok
returns-clause-ok c =
    let inc = c.args.inc.now in
    let old : KeptGroup = c.args.self.now in
    let moved : KeptGroup = c.place_anew.new.self in
    let placed = c.place_anew.ensures in
    let stood : Group = c.stay.new.self in
    let is : stood ≡ reaching c.args.before.now.epoch old.group = c.stay.ensures.is ∙ ap (λ (g : Group). reaching c.args.before.now.epoch g) placed.group in
    on_ok_weaker c.absorb_members.result
    (λ given log kept step.
    let stands : IsGroupOf log moved.pg stood = group-still log old moved.pg stood c.args.before.now.epoch kept placed.pg is step.before_is.epoch_is in
    kept-moved log inc c.args.before.now c.args.after.now old moved stood c.absorb_members.new.self c.filter-members.result c.facts-facts.result step kept placed.pg
    (placed.raw log kept step) (placed.temp log step) c.filter-members.ensures
    stands (ap (option_map (primary_facts (incs_of log))) (c.primary.ensures log moved.pg stands) ∙ ap Some (sym (c.facts-facts.ensures (incs_of log) inc step.before_is step.after_is))) given)
    c.absorb_members.ensures.ok
