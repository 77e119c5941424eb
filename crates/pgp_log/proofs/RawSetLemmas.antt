-- The membership of a group from its raw set, and a table of raw sets with one more.
use Rattle.pgp_log.proofs.Common.{list_any, option_map_or, Result, Ok, Err, OnOk, OnErr, is_some, length, nat_eq, nat_lt, ◌≡◌, ℕ, List, [], ◌∷◌, ◌++◌, Bool, true, false, ◌||◌, cond, Option, Some, None, IfSome, option_map, refl, sym, ap, ◌∙◌, subst, arith, or_parts, nat_tests, same_Some, some-weaker, Entry, Incremental, Membership, PgId, PoolSizes, PoolSpec, inc_of, incs_of, then_with, pool, is_same_group, raw_set-stays, unmoved-unplaced, membership, moves, pool_membership, raw_set, without_down, members_from_up, fits, AreRawSets, IsRawSet, moves_any, same_group}
use Rattle.std.specs.HashMap as hash
use Rattle.pgp_ids.specs.declared.entry.Entry.TheVariants as entry
use Rattle.pgp_log.specs.declared.raw_sets.RawSets.{RawSets}
use Rattle.pgp_log.proofs.TakeLemmas.{faultless-inc, fits-faultless, incs-inc, incs-other}

-- where the filter of the raw set is this membership, it is the group's
pub filtered : (incs : List Incremental) (pg : PgId) (raw : List (Option ℕ)) (members : Membership) → IsRawSet incs pg raw
    → option_map (λ made. members_from_up incs made pg (without_down incs made raw)) (pool incs pg.pool) ≡ Some members
    → membership incs pg ≡ Some members
filtered incs pg raw members is lies = at (pool incs pg.pool) is lies where
  at : (found : Option PoolSpec) → option_map (λ made. raw_set incs made pg) found ≡ Some raw
      → option_map (λ made. members_from_up incs made pg (without_down incs made raw)) found ≡ Some members
      → option_map (pool_membership incs pg) found ≡ Some members
  at None is lies = cc
  at (Some made) is lies =
      ap (λ (places : List (Option ℕ)). Some (members_from_up incs made pg (without_down incs made places))) (same_Some _ _ is) ∙ lies

-- the raw set of a group that is there
pub known-is : (incs : List Incremental) (pg : PgId) (found : Option (List (Option ℕ))) (raw : List (Option ℕ)) → found ≡ Some raw
    → IfSome found (IsRawSet incs pg) → IsRawSet incs pg raw
known-is incs pg found raw same each = subst (λ (o : Option (List (Option ℕ))). IfSome o (IsRawSet incs pg)) same each

-- a table with one more raw set
pub with-raw_set : (incs : List Incremental) (old new : PgId → Option (List (Option ℕ))) (pg : PgId) (raw : List (Option ℕ))
    → ((q : PgId) → IfSome (old q) (IsRawSet incs q)) → IsRawSet incs pg raw
    → ((q : PgId) → new q ≡ cond (is_same_group pg q) (Some raw) (old q)) → (q : PgId) → IfSome (new q) (IsRawSet incs q)
with-raw_set incs old new pg raw each is step q = subst (λ (o : Option (List (Option ℕ))). IfSome o (IsRawSet incs q)) (sym (step q)) (at (is_same_group pg q) (same_group pg q)) where
  at : (same : Bool) → (same ≡ true → pg ≡ q) → IfSome (cond same (Some raw) (old q)) (IsRawSet incs q)
  at true law = subst (λ (g : PgId). IsRawSet incs g raw) (law refl) is
  at false law = each q

-- ---- an entry more

-- without sizes no pool has sizes
unsized : (sizes : List PoolSizes) (id : ℕ) → nat_lt 0 (length sizes) ≡ false → list_any (λ given. nat_eq given.pool id) sizes ≡ false
unsized [] id none = refl
unsized (given ∷ sizes) id none = grind (arith, nat_tests)

-- an incremental that moves no group moves none of this pool
moves_none : (inc : Incremental) (id : ℕ) → moves_any inc ≡ false → moves inc id ≡ false
moves_none inc id still =
    let parts = or_parts (is_some inc.crush || nat_lt 0 (length inc.weight)) (nat_lt 0 (length inc.sizes)) still in
    rw (parts.0, unsized inc.sizes id parts.1) refl

-- the raw sets stay those of the map, unless the entry is an incremental that may move groups
pub sets-stay : (log : List Entry) (new : Entry) (sets : RawSets) → fits log new ≡ None → option_map_or moves_any (inc_of new) false ≡ false
    → AreRawSets (incs_of log) sets → AreRawSets (incs_of (log ++ new ∷ [])) sets
sets-stay log (entry.Inc inc) sets fit still are =
    let fine = faultless-inc log (entry.Inc inc) inc refl (fits-faultless log (entry.Inc inc) fit) in
    rw (incs-inc log (entry.Inc inc) inc refl) (record {
      each = λ pg. some-weaker (hash.get is_same_group sets.known pg) (IsRawSet (incs_of log) pg) (IsRawSet (then_with (incs_of log) inc) pg)
          (λ places is. raw_set-stays (incs_of log) inc pg places fine (unmoved-unplaced (incs_of log) inc pg (moves_none inc pg.pool still)) is) (are.each pg);
    })
sets-stay log new sets fit still are = rw (incs-other log new refl) are

-- what follows from each of a call's ends
pub either-way : {X Y : Type 0} (r : Result X Y) (P Q G : Type 0) → OnOk r P → OnErr r Q → (P → G) → (Q → G) → G
either-way (Ok x) P Q G p q f g = f p
either-way (Err e) P Q G p q f g = g q
