-- What a follower has taken of a log.
use Rattle.std.proofs.Common.{◌≡◌, ℕ, ◌<◌, ◌≤◌, List, ◌++◌, length, map, take, drop, append_assoc, true, refl, ap, sym, ◌∙◌, subst, Result, Ok, Err, OnErr, ◌+◌, arith}
use Rattle.std.proofs.lemmas.List.{map-append, take-append-drop, length-append, length-map, length-take-le}
use Rattle.std.specs.Arc.{arc_value}
use Rattle.std.specs.declared.sync.Arc.{Arc}
use Rattle.pgp_ids.specs.declared.entry.Entry.{Entry}
use Rattle.pgp_log.specs.Log.{IsFrontOf, is_legal}
use Rattle.pgp_feed.proofs.Fronts.{front_self}
use Rattle.pgp_engine.specs.kept.Members.{IsChartOf, IsChartWithin}
use Rattle.pgp_engine.specs.kept.Followers.{HasTakenFront, HasTakenMore, HasTakenFewer}
use Rattle.pgp_engine.specs.declared.client.chart.Chart.{Chart}
use Rattle.pgp_engine.proofs.FrontLemmas.{filled, front_same, front_short}

-- some of what comes next, behind the log, is a front of all of it
front-of-part : {X : Type 0} (log : List Entry) (f : X → Entry) (xs : List X) (i : ℕ) → IsFrontOf (log ++ map f (take i xs)) (log ++ map f xs)
front-of-part log f xs i =
    let parts : map f xs ≡ map f (take i xs) ++ map f (drop i xs) = ap (map f) (sym (take-append-drop i xs)) ∙ map-append f (take i xs) (drop i xs) in
    record { rest = map f (drop i xs); whole = ap (λ (l : List Entry). log ++ l) parts ∙ sym (append_assoc log (map f (take i xs)) (map f (drop i xs))) }

-- one that has taken some of what comes next has taken no fewer than before
pub more-of-part : {F X : Type 0} (has_taken : List Entry → F → Type 0) (log : List Entry) (f : X → Entry) (xs : List X) (i : ℕ) (follower : F)
    → has_taken (log ++ map f (take i xs)) follower → HasTakenMore has_taken log (log ++ map f xs) follower
more-of-part has_taken log f xs i follower is = record {
  taken = log ++ map f (take i xs);
  no_fewer = record { rest = map f (take i xs); whole = refl };
  is_front = front-of-part log f xs i;
  is = is;
}

-- one that has taken some of it, and not all
pub fewer-of-part : {F X : Type 0} (has_taken : List Entry → F → Type 0) (log : List Entry) (f : X → Entry) (xs : List X) (i : ℕ) (follower : F)
    → i < length xs → has_taken (log ++ map f (take i xs)) follower → HasTakenFewer has_taken (log ++ map f xs) follower
fewer-of-part has_taken log f xs i follower below is =
    let some : length (log ++ map f (take i xs)) ≡ length log + i = simp (length-append, length-map, length-take-le i xs (omega (arith, below))) in
    let all : length (log ++ map f xs) ≡ length log + length xs = simp (length-append, length-map) in
    record { taken = log ++ map f (take i xs); fewer = omega (arith, some, all, below); is_front = front-of-part log f xs i; is = is }

-- one that has taken nothing more
pub none-more : {F : Type 0} (has_taken : List Entry → F → Type 0) (log : List Entry) (follower : F) (taken : List Entry)
    → has_taken taken follower → IsFrontOf taken log → HasTakenMore has_taken taken log follower
none-more has_taken log follower taken is part = record { taken = taken; no_fewer = front_self taken; is_front = part; is = is }

-- no more was taken than there is
pub taken-count : {F : Type 0} (has_taken : List Entry → F → Type 0) (log : List Entry) (follower : F) (here : HasTakenFront has_taken log follower)
    → length here.taken ≤ length log
taken-count has_taken log follower here = front_short here.taken log here.is_front

-- one that has taken as much as there is has taken all
pub taken-whole : {F : Type 0} (has_taken : List Entry → F → Type 0) (log : List Entry) (follower : F) (here : HasTakenFront has_taken log follower)
    → length log ≤ length here.taken → has_taken log follower
taken-whole has_taken log follower here few = subst (λ (l : List Entry). has_taken l follower) (sym (front_same here.taken log here.is_front few)) here.is

-- one that has taken what was read of a front has taken the whole front
pub filled-whole : {F Z : Type 0} (has_taken : List Entry → F → Type 0) (log : List Entry) (old new : F) (n : ℕ) (unread slice : List (Arc Entry Z))
    (here : HasTakenFront has_taken log old) → n ≡ length here.taken → slice ≡ unread → map arc_value unread ≡ drop n log → is_legal log ≡ true
    → ((l : List Entry) → has_taken l old → is_legal (l ++ map arc_value slice) ≡ true → has_taken (l ++ map arc_value slice) new)
    → has_taken log new
filled-whole has_taken log old new n unread slice here count same read legal takes =
    let whole : here.taken ++ map arc_value slice ≡ log = filled here.taken log n unread slice here.is_front count same read in
    subst (λ (l : List Entry). has_taken l new) whole (takes here.taken here.is (ap is_legal whole ∙ legal))

-- the same of one that has taken some of it
pub filled-more : {F Z : Type 0} (has_taken : List Entry → F → Type 0) (log : List Entry) (old new : F) (n : ℕ) (unread slice : List (Arc Entry Z))
    (taken : List Entry) → has_taken taken old → IsFrontOf taken log
    → n ≡ length taken → slice ≡ unread → map arc_value unread ≡ drop n log → is_legal log ≡ true
    → ((l : List Entry) → has_taken l old → is_legal (l ++ map arc_value slice) ≡ true → HasTakenMore has_taken l (l ++ map arc_value slice) new)
    → HasTakenMore has_taken taken log new
filled-more has_taken log old new n unread slice taken is part count same read legal takes =
    let whole : taken ++ map arc_value slice ≡ log = filled taken log n unread slice part count same read in
    subst (λ (l : List Entry). HasTakenMore has_taken taken l new) whole (takes taken is (ap is_legal whole ∙ legal))

-- a chart that has taken less than there is counts less
pub charted_less : {T E : Type 0} (r : Result T E) (log : List Entry) (chart : Chart) → IsChartWithin log chart
    → OnErr r ((taken : List Entry) → IsChartOf taken chart → length taken < length log) → OnErr r (chart.judge.count < length log)
charted_less (Ok x) log chart within less = less
charted_less (Err x) log chart within less = subst (λ (n : ℕ). n < length log) (sym within.is.judge_is.count_is) (less within.taken within.is)

-- one that hasn't taken all of what was read of a front hasn't taken the whole front
pub filled-fewer : {F Z : Type 0} (has_taken : List Entry → F → Type 0) (log : List Entry) (old new : F) (n : ℕ) (unread slice : List (Arc Entry Z))
    (here : HasTakenFront has_taken log old) → n ≡ length here.taken → slice ≡ unread → map arc_value unread ≡ drop n log → is_legal log ≡ true
    → ((l : List Entry) → has_taken l old → is_legal (l ++ map arc_value slice) ≡ true → HasTakenFewer has_taken (l ++ map arc_value slice) new)
    → HasTakenFewer has_taken log new
filled-fewer has_taken log old new n unread slice here count same read legal takes =
    let whole : here.taken ++ map arc_value slice ≡ log = filled here.taken log n unread slice here.is_front count same read in
    subst (λ (l : List Entry). HasTakenFewer has_taken l new) whole (takes here.taken here.is (ap is_legal whole ∙ legal))

-- one that has taken another number of entries hasn't taken the whole front
pub short-fewer : {F : Type 0} (has_taken : List Entry → F → Type 0) (log : List Entry) (follower : F) (here : HasTakenFront has_taken log follower)
    → length here.taken < length log → HasTakenFewer has_taken log follower
short-fewer has_taken log follower here fewer = record { taken = here.taken; fewer = fewer; is_front = here.is_front; is = here.is }
