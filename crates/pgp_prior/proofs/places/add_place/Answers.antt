use Rattle.std.proofs.Common.{◌≡◌, ℕ, List, [], Option, Some, None, cond, nat_eq, unwrap_or, rules, IsSome, ap, sym, subst, inl, inr, eqb-true}
use Rattle.std.specs.List.{Contains}
use Rattle.std.proofs.lemmas.Bool.{cases_Bool}
use Rattle.std.specs.HashMap as hash
use Rattle.pgp_lists.proofs.Members.{Contains-nil}
use Rattle.pgp_prior.proofs.places.add_place.Goals as goal

-- what stood in a list of the table still does, where one list of it was replaced by one that keeps its places
lookup-kept : (old new : ℕ → Option (List ℕ)) (osd q at : ℕ) (was now : List ℕ) → unwrap_or (old osd) [] ≡ was → new q ≡ cond (nat_eq osd q) (Some now) (old q) → ((a : ℕ) → Contains was a → Contains now a) → Contains (unwrap_or (old q) []) at → Contains (unwrap_or (new q) []) at
lookup-kept old new osd q at was now is step keeps in' = elim (cases_Bool (nat_eq osd q)) [
  | inl same ↦
      let found : new q ≡ Some now = rw same at step in
      let list : unwrap_or (old q) [] ≡ was = subst (λ o. unwrap_or (old o) [] ≡ was) (eqb-true osd q same) is in
      rw found (keeps at (subst (λ l. Contains l at) list in'))
  | inr other ↦ let stays : new q ≡ old q = rw other at step in rw stays in'
]

pub returns-in-Some-clause-kept : goal.returns-in-Some-clause-kept
returns-in-Some-clause-kept c =
    let there : IsSome (hash.get nat_eq c.args.table.now c.args.osd) = search rules in
    let now = c.add_last.new.places in
    λ q at. lookup-kept (hash.get nat_eq c.args.table.now) (hash.get nat_eq (c.get_mut.follows.lender now)) c.args.osd q at c.in-Some.places.now now
    (ap (λ found. unwrap_or found []) (sym c.in-Some.ensures.value)) (((c.get_mut.follows.holds now).3 there).0 q) c.add_last.ensures.kept

pub returns-clause-kept : goal.returns-clause-kept
returns-clause-kept c =
    let none : hash.get nat_eq c.args.table.now c.args.osd ≡ None = search rules in
    λ q at. lookup-kept (hash.get nat_eq c.args.table.now) (hash.get nat_eq c.insert.new.self) c.args.osd q at [] c.push.new.self
    (ap (λ found. unwrap_or found []) none) (rw c.get_mut.follows.holds-at-none at (c.in_ok-insert.ensures.updates.0 q)) (λ a in'. absurd (Contains-nil a in'))
