use Rattle.std.proofs.Common.{◌≡◌, ℕ, ◌++◌, ◌∷◌, [], List, map, true, is_some, nat_eq, ap, sym, ◌∙◌, append_assoc, append-nil, rules, subst}
use Rattle.std.specs.Cmp.{unsigned_Decides}
use Rattle.std.specs.HashMap as hash
use Rattle.std.specs.List.{flat_map, Contains}
use Rattle.std.specs.Set.{is_member}
use Rattle.std.proofs.lemmas.Map.Made.{is_member-Decides}
use Rattle.std.proofs.lemmas.List.{map-append}
use Rattle.pgp_lists.proofs.Lists.{flat_map-push}
use Rattle.pgp_lists.proofs.Members.{contains-flat_map}
use Rattle.pgp_map.specs.Held.{held_groups}
use Rattle.pgp_map.proofs.AlikeLemmas.{group-held, pool-there}
use Rattle.pgp_map.proofs.map.OsdMap.groups.Goals as goal

pub loop-id-init : goal.loop-id-init
loop-id-init c = (search rules, search rules)

pub loop-id-preserved : goal.loop-id-preserved
loop-id-preserved c =
    let id : ℕ = c.in-Some.id.now in
    let f = held_groups c.args.self.now in
    let before : List ℕ = map (λ id. id.now) c.loop-id.yielded in
    let more : map (λ id. id.now) (c.loop-id.yielded ++ c.in-Some.id ∷ []) ≡ before ++ id ∷ [] = map-append (λ id. id.now) c.loop-id.yielded (c.in-Some.id ∷ []) in (
      c.in_ok-put_groups.ensures ∙ (λ i. c.loop-id.invariant.0 i ++ f id) ∙ sym (flat_map-push f before id) ∙ ap (flat_map f) (sym more),
      ap (λ l. l ++ c.next.new.self) more ∙ append_assoc before (id ∷ []) c.next.new.self ∙ ap (λ l. before ++ l) (sym c.in-Some.ensures.steps) ∙ c.loop-id.invariant.1,
    )

pub returns : goal.returns
returns c = λ incs is pg has.
    let pools = c.args.self.now.pools in
    let all : map (λ id. id.now) c.loop-id.yielded ≡ hash.keys pools =
    sym (append-nil _) ∙ (λ i. map (λ id. id.now) c.loop-id.yielded ++ sym c.in-None.ensures.steps.0 i) ∙ c.loop-id.invariant.1 in
    let listed : is_member nat_eq (hash.keys pools) pg.pool ≡ true =
    (λ i. is_member nat_eq (sym c.keys-id-items.ensures.rest i) pg.pool) ∙ sym (c.keys-id-items.ensures.has pg.pool) ∙ ap is_some (is.pools_are pg.pool) ∙ pool-there incs pg has in
    subst (λ l. Contains l pg) (ap (flat_map (held_groups c.args.self.now)) (sym all) ∙ sym c.loop-id.invariant.0)
    (contains-flat_map (held_groups c.args.self.now) (hash.keys pools) pg.pool pg ((is_member-Decides unsigned_Decides (hash.keys pools) pg.pool).0 listed) (group-held c.args.self.now incs is pg has))
