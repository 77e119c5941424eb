-- The last start that infos tell of: what each of them says of it, and what becomes of it while infos come and go.
use Rattle.std.proofs.Common.{◌≡◌, ℕ, ◌≤◌, List, [], ◌∷◌, ◌++◌, Bool, true, false, cond, map, filter, fold, max, append-nil, ap, ◌∙◌, arith}
use Rattle.std.specs.List.{Contains}
use Rattle.std.proofs.lemmas.List.{map-append}
use Rattle.std.proofs.lemmas.List.Elements.{filter-append}
use Rattle.std.proofs.lemmas.List.Sums.{fold_push}
use Rattle.pgp_ids.specs.declared.report.Info.{Info}
use Rattle.pgp_lists.proofs.Members.{Contains-nil, Contains-here, Contains-later, Contains-cases, filter-contains, contains-filter}
use Rattle.pgp_info.specs.Best.{last_start}

-- each of the first infos is one of the second
abbrev pub AllAmong : List Info → List Info → Type 0
AllAmong a b = (info : Info) → Contains a info → Contains b info

pub passing-among : (test : Info → Bool) (a b : List Info) → AllAmong a b → AllAmong (filter test a) (filter test b)
passing-among test a b among info in' =
    let passes = filter-contains test a info in' in
    contains-filter test b info (among info passes.0) passes.1

-- ---- the greatest of a number for each info

greatest-start : (f : Info → ℕ) (start : ℕ) (infos : List Info) → start ≤ fold max start (map f infos)
greatest-start f start [] = omega arith
greatest-start f start (x ∷ infos) = omega (arith, greatest-start f (max start (f x)) infos)

greatest-above : (f : Info → ℕ) (start : ℕ) (infos : List Info) (info : Info) → Contains infos info → f info ≤ fold max start (map f infos)
greatest-above f start [] info in' = absurd (Contains-nil info in')
greatest-above f start (x ∷ infos) info in' =
    grind (arith, Contains-cases x infos info in', greatest-start f (max start (f x)) infos, greatest-above f (max start (f x)) infos info)

greatest-below : (f : Info → ℕ) (start limit : ℕ) (infos : List Info) → start ≤ limit → ((info : Info) → Contains infos info → f info ≤ limit) → fold max start (map f infos) ≤ limit
greatest-below f start limit [] low all = low
greatest-below f start limit (x ∷ infos) low all =
    greatest-below f (max start (f x)) limit infos (omega (arith, all x (Contains-here x infos))) (λ info in'. all info (Contains-later x infos info in'))

-- more infos, no lesser a greatest
greatest-among : (f : Info → ℕ) (a b : List Info) → AllAmong a b → fold max 0 (map f a) ≤ fold max 0 (map f b)
greatest-among f a b among = greatest-below f 0 (fold max 0 (map f b)) a (omega arith) (λ info in'. greatest-above f 0 b info (among info in'))

greatest-push : (f : Info → ℕ) (infos : List Info) (x : Info) → fold max 0 (map f (infos ++ x ∷ [])) ≡ max (fold max 0 (map f infos)) (f x)
greatest-push f infos x = ap (fold max 0) (map-append f infos (x ∷ [])) ∙ fold_push max 0 (map f infos) (f x)

-- ---- the last start

pub starts-among : (a b : List Info) → AllAmong a b → last_start a ≤ last_start b
starts-among a b among =
    let told = greatest-among (λ info. info.history_les) a b among in
    let served = greatest-among (λ info. info.les) (filter (λ info. info.complete) a) (filter (λ info. info.complete) b) (passing-among (λ info. info.complete) a b among) in
    omega (arith, told, served)

-- a complete copy served no later
pub served-before : (infos : List Info) (info : Info) → Contains infos info → info.complete ≡ true → info.les ≤ last_start infos
served-before infos info in' complete =
    let served = greatest-above (λ i. i.les) 0 (filter (λ i. i.complete) infos) info (contains-filter (λ i. i.complete) infos info in' complete) in
    omega (arith, served)

abbrev last_served : List Info → ℕ
last_served infos = fold max 0 (map (λ info. info.les) infos)

served-push : (complete : Bool) (infos : List Info) (x : Info) → last_served (infos ++ cond complete (x ∷ []) []) ≡ max (last_served infos) (last_served (cond complete (x ∷ []) []))
served-push true infos x = let grown = greatest-push (λ info. info.les) infos x in omega (arith, grown)
served-push false infos x = let same = ap last_served (append-nil infos) in omega (arith, same)

pub start-push : (infos : List Info) (x : Info) → last_start (infos ++ x ∷ []) ≡ max (last_start infos) (last_start (x ∷ []))
start-push infos x =
    let told = greatest-push (λ info. info.history_les) infos x in
    let served = ap last_served (filter-append (λ info. info.complete) infos (x ∷ [])) ∙ served-push x.complete (filter (λ info. info.complete) infos) x in
    omega (arith, told, served)
