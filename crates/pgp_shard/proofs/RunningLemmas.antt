-- What the code of a world keeps of it.
use Rattle.pgp_shard.proofs.Common.{◌≡◌, ℕ, zero, suc, ◌+◌, ◌<◌, ◌≤◌, List, [], ◌∷◌, ◌++◌, inl, inr, Result, Ok, Err, OnOk, OnErr, IfOk, Some, None, true, false, length, map, min, take, drop, get_or, set, replicate, refl, ap, sym, ◌∙◌, subst, add-one, zero-add, arith, eq-eqb, length-append, range_with_len, drop-append_seam, map-set_same, take-append-add, cases_eq, drop-map, get_or-map, get_or_default, get_or-set_other, get_or-set_same, length-map, length-set, length-take, map-append, map-set, take-append-drop, take-map, take-take, take-front, Entry, PgId, View, has_group, incs_of, scratch, HasInc, IsFrontOf, is_legal, Shard, HasReadSame, HasReadFewer, HasReadSome, having_read_all, having_read_front, is_own, opening_shard, shard_of, World, front_of, view_reply, Absorb, Ask, Absorbed, Asked, MayReply}
use Rattle.std.specs.declared.alloc.AllocError.{AllocError}
use Rattle.std.proofs.lemmas.List.FromFn.{get_or-map-range_with_len}
use Rattle.pgp_lists.proofs.Ranges.{range_with_len-suc}
use Rattle.pgp_ids.specs.declared.ask_refusal.AskRefusal.{AskRefusal}
use Rattle.pgp_ids.specs.declared.ask_refusal.AskRefusal.TheVariants.{UnknownGroup, Memory}
use Rattle.pgp_shard.specs.Running.{IsReading, IsRunning}
use Rattle.pgp_log.proofs.LogLemmas.{legal-take}

-- ---- the start

pub openings-more : (k n : ℕ) → map (λ i. opening_shard i k) (range_with_len 0 (n + 1)) ≡ map (λ i. opening_shard i k) (range_with_len 0 n) ++ opening_shard n k ∷ []
openings-more k n =
    rw add-one (ap (map (λ i. opening_shard i k)) (range_with_len-suc 0 n)
    ∙ map-append (λ i. opening_shard i k) (range_with_len 0 n) ((0 + n) ∷ [])
    ∙ ap (λ j. map (λ i. opening_shard i k) (range_with_len 0 n) ++ opening_shard j k ∷ []) (zero-add n))

pub openings-read : (a n k : ℕ) → map (λ s. length s.front) (map (λ i. opening_shard i k) (range_with_len a n)) ≡ replicate n 0
openings-read a zero k = refl
openings-read a (suc n) k = ap (λ l. 0 ∷ l) (openings-read (a + 1) n k)

openings-length : (a n k : ℕ) → length (map (λ i. opening_shard i k) (range_with_len a n)) ≡ n
openings-length a zero k = refl
openings-length a (suc n) k = ap suc (openings-length (a + 1) n k)

pub opening-reads : (log : List Entry) (k n : ℕ) → IsReading log k n (opening_shard n k)
opening-reads log k n = record { front_is = record { rest = log; whole = refl }; shard_is = refl; shards_are = refl }

pub openings-each : (log : List Entry) (k : ℕ) (all : List Shard) → all ≡ map (λ i. opening_shard i k) (range_with_len 0 k) → (length all ≡ k)
    × ((n : ℕ) → n < length all → IsReading log (length all) n (get_or all n (opening_shard 0 0)))
openings-each log k all are =
    let long : length all ≡ k = ap length are ∙ openings-length 0 k k in (
      long,
      λ n below.
          let here : get_or all n (opening_shard 0 0) ≡ opening_shard n k =
          ap (λ (l : List Shard). get_or l n (opening_shard 0 0)) are
          ∙ get_or-map-range_with_len (λ i. opening_shard i k) 0 k n n (opening_shard 0 0) (omega (arith, below, long)) (zero-add n) in
          rw (here, long) (opening-reads log k n),
    )

pub openings-running : (log : List Entry) (k : ℕ) (all : List Shard) → all ≡ map (λ i. opening_shard i k) (range_with_len 0 k) → 0 < k → IsRunning log all
openings-running log k all are some =
    let each = openings-each log k all are in
    record { some = omega (arith, some, each.0); each = each.1 }

-- ---- a shard reads on

-- this many entries from a place on
next-few : {X : Type 0} (f : X → Entry) (xs : List X) (n m : ℕ) → map f (take m (drop n xs)) ≡ take m (drop n (map f xs))
next-few f xs n m = sym (take-map f m (drop n xs)) ∙ ap (take m) (sym (drop-map f n xs))

-- what follows the front in the log, this many entries of it
read-on : {X : Type 0} (f : X → Entry) (xs : List X) (front : List Entry) (m : ℕ) → IsFrontOf front (map f xs)
    → front ++ map f (take m (drop (length front) xs)) ≡ take (length front + m) (map f xs)
read-on f xs front m is =
    ap (λ l. front ++ l) (next-few f xs (length front) m ∙ ap (take m) (ap (drop (length front)) is.whole ∙ drop-append_seam front is.rest))
    ∙ sym (take-append-add front is.rest m) ∙ ap (take (length front + m)) (sym is.whole)

-- and fewer of these
read-fewer : {X : Type 0} (f : X → Entry) (xs : List X) (front : List Entry) (m r : ℕ) → IsFrontOf front (map f xs) → r ≤ m
    → front ++ take r (map f (take m (drop (length front) xs))) ≡ take (length front + r) (map f xs)
read-fewer f xs front m r is fewer =
    ap (λ l. front ++ l) (take-map f r (take m (drop (length front) xs)) ∙ ap (map f) (take-take r m (drop (length front) xs) fewer))
    ∙ read-on f xs front r is

few : {X : Type 0} (f : X → Entry) (ys : List X) (m r : ℕ) → r < length (map f (take m ys)) → r < m
few f ys m r below = omega (arith, below, length-map (take m ys) f, length-take m ys)

-- a call that reads all that it is given, and one that reads some of it
pub reads-all : {X : Type 0} (f : X → Entry) (xs : List X) (count : ℕ) (s new : Shard) → IsFrontOf s.front (map f xs)
    → HasReadSame (having_read_all s (map f (take count (drop (length s.front) xs)))) new → HasReadSame (having_read_front (length s.front + count) (map f xs) s) new
reads-all f xs count s new is reads =
    record { front_is = reads.front_is ∙ read-on f xs s.front count is; shard_is = reads.shard_is; shards_are = reads.shards_are }

pub reads-fewer : {X : Type 0} (f : X → Entry) (xs : List X) (count : ℕ) (s new : Shard) → IsFrontOf s.front (map f xs)
    → HasReadSome s (map f (take count (drop (length s.front) xs))) new → HasReadFewer count (map f xs) s new
reads-fewer f xs count s new is some =
    let fewer : some.read < count = few f (drop (length s.front) xs) count some.read some.fewer in
    record {
      read = some.read;
      fewer = subst (λ n. some.read < n) (ap length (next-few f xs (length s.front) count)) some.fewer;
      after_is = record { front_is = some.after_is.front_is ∙ read-fewer f xs s.front count some.read is (omega arith); shard_is = some.after_is.shard_is; shards_are = some.after_is.shards_are };
    }

reads-front : (log : List Entry) (p : ℕ) (s new : Shard) → HasReadSame (having_read_front p log s) new → (k n : ℕ) → IsReading log k n s → IsReading log k n new
reads-front log p s new reads k n was = record {
  front_is = record { rest = drop p log; whole = sym (take-append-drop p log) ∙ ap (λ (l : List Entry). l ++ drop p log) (sym reads.front_is) };
  shard_is = reads.shard_is ∙ was.shard_is;
  shards_are = reads.shards_are ∙ was.shards_are;
}

-- as far as it came
pub still-reading : {X E : Type 0} (f : X → Entry) (xs : List X) (count : ℕ) (s new : Shard) (r : Result (Unit {0}) E) → IsFrontOf s.front (map f xs)
    → OnOk r (HasReadSame (having_read_all s (map f (take count (drop (length s.front) xs)))) new)
    → OnErr r (HasReadSome s (map f (take count (drop (length s.front) xs))) new)
    → (k n : ℕ) → IsReading (map f xs) k n s → IsReading (map f xs) k n new
still-reading f xs count s new (Ok x) is ok err = reads-front (map f xs) (length s.front + count) s new (reads-all f xs count s new is ok)
still-reading f xs count s new (Err e) is ok err =
    let fewer = reads-fewer f xs count s new is err in
    reads-front (map f xs) (length s.front + fewer.read) s new fewer.after_is

-- a shard has read no more than there is
pub front-within : {X : Type 0} (f : X → Entry) (xs : List X) (front : List Entry) → IsFrontOf front (map f xs) → length front ≤ length xs
front-within f xs front is = omega (arith, ap length is.whole, length-append front is.rest, length-map xs f)

-- the entries that a shard is to read come next in the log
pub next-legal : {X : Type 0} (f : X → Entry) (xs : List X) (front : List Entry) (count : ℕ) → is_legal (map f xs) ≡ true → IsFrontOf front (map f xs)
    → is_legal (front ++ map f (take count (drop (length front) xs))) ≡ true
next-legal f xs front count legal is = ap is_legal (read-on f xs front count is) ∙ legal-take (length front + count) (map f xs) legal

-- ---- a shard of the world reads on

-- the shard is that of the world at this place
pub record IsShardAt (log : List Entry) (shards : List Shard) (i : ℕ) (s : Shard) : Type 0 where
  pub running : IsRunning log shards
  pub there : i < length shards
  pub here : s ≡ get_or shards i s

pub reading-at : {log : List Entry} {shards : List Shard} {i : ℕ} {s : Shard} → IsShardAt log shards i s → IsReading log (length shards) i s
reading-at {log = log} {shards = shards} {i = i} {s = s} at =
    subst (IsReading log (length shards) i) (sym (at.here ∙ get_or_default shards i s (opening_shard 0 0) at.there)) (at.running.each i at.there)

-- how many entries it has read
read-at : {log : List Entry} {shards : List Shard} {i : ℕ} {s : Shard} → IsShardAt log shards i s → length s.front ≡ get_or (map (λ s. length s.front) shards) i 0
read-at {shards = shards} {i = i} {s = s} at = ap (λ (o : Shard). length o.front) at.here ∙ sym (get_or-map (λ (o : Shard). length o.front) shards i s 0 at.there)

-- it is another now, which reads the log too
pub still-running : {log : List Entry} {shards : List Shard} {i : ℕ} {s : Shard} → IsShardAt log shards i s → (new : Shard) → IsReading log (length shards) i new → IsRunning log (set shards i new)
still-running {log = log} {shards = shards} {i = i} at new reads = record {
  some = omega (arith, at.running.some, length-set shards i new);
  each = λ n below. subst (λ k. IsReading log k n (get_or (set shards i new) n (opening_shard 0 0))) (sym (length-set shards i new)) (elim (cases_eq n i) [
    | inl here ↦ rw (here, get_or-set_same shards i new (opening_shard 0 0) at.there) reads
    | inr other ↦ rw (get_or-set_other shards i n new (opening_shard 0 0) other) (at.running.each n (omega (arith, below, length-set shards i new)))
  ]);
}

-- what the shards have read then
next-read : {log : List Entry} {shards : List Shard} {i : ℕ} {s : Shard} → IsShardAt log shards i s → (new : Shard) (n : ℕ) → HasReadSame (having_read_front (length s.front + n) log s) new
    → map (λ s. length s.front) (set shards i new) ≡ set (map (λ s. length s.front) shards) i (min (get_or (map (λ s. length s.front) shards) i 0 + n) (length log))
next-read {log = log} {shards = shards} {i = i} {s = s} at new n reads =
    map-set (λ (s : Shard). length s.front) shards i new
    ∙ ap (set (map (λ (s : Shard). length s.front) shards) i)
    (ap length reads.front_is ∙ length-take (length s.front + n) log ∙ ap (λ m. min (m + n) (length log)) (read-at at))

pub absorbed-reply : (log : List Entry) (shards : List Shard) (i count : ℕ) (s new : Shard) (r : Result (Unit {0}) AllocError) → IsShardAt log shards i s
    → OnOk r (HasReadSame (having_read_front (length s.front + count) log s) new) → OnErr r (HasReadFewer count log s new)
    → MayReply (record { log = log; read = map (λ s. length s.front) shards }) (Absorb i count) (Absorbed r) (record { log = log; read = map (λ s. length s.front) (set shards i new) })
absorbed-reply log shards i count s new (Ok x) at ok err =
    inl (record { reply_is = refl; next_is = ap (λ (l : List ℕ). record { log = log; read = l }) (next-read at new count ok) })
absorbed-reply log shards i count s new (Err e) at ok err =
    inr (
      refl,
      record {
        read = err.read;
        fewer = subst (λ n. err.read < length (take count (drop n log))) (read-at at) err.fewer;
        next_is = ap (λ (l : List ℕ). record { log = log; read = l }) (next-read at new err.read err.after_is);
      },
    )

-- ---- a shard is asked

-- the group is one of the shard's own
pub own-at : {log : List Entry} {shards : List Shard} {k : ℕ} {s : Shard} → IsShardAt log shards k s → (pg : PgId) → k ≡ shard_of (length shards) pg → is_own s.shard s.shards pg ≡ true
own-at {s = s} at pg number =
    let reads = reading-at at in
    eq-eqb (shard_of s.shards pg) s.shard (ap (λ n. shard_of n pg) reads.shards_are ∙ sym number ∙ sym reads.shard_is)

-- it has read the same
pub still-asked : {log : List Entry} {shards : List Shard} {k : ℕ} {s : Shard} → IsShardAt log shards k s → (new : Shard) → HasReadSame s new → IsRunning log (set shards k new)
still-asked {log = log} at new same =
    let was = reading-at at in
    still-running at new (record {
      front_is = subst (λ (front : List Entry). IsFrontOf front log) (sym same.front_is) was.front_is;
      shard_is = same.shard_is ∙ was.shard_is;
      shards_are = same.shards_are ∙ was.shards_are;
    })

-- what the group's shard has read
asked-front : (log : List Entry) (shards : List Shard) (pg : PgId) (k : ℕ) (s : Shard) → IsShardAt log shards k s → k ≡ shard_of (length shards) pg
    → front_of (record { log = log; read = map (λ s. length s.front) shards }) pg ≡ s.front
asked-front log shards pg k s at number =
    let front = (reading-at at).front_is in
    ap (λ n. take (get_or (map (λ (s : Shard). length s.front) shards) (shard_of n pg) 0) log) (length-map shards (λ (s : Shard). length s.front))
    ∙ ap (λ j. take (get_or (map (λ (s : Shard). length s.front) shards) j 0) log) (sym number)
    ∙ ap (λ n. take n log) (sym (read-at at))
    ∙ ap (take (length s.front)) front.whole ∙ take-front s.front front.rest

asked : (w : World) (pg : PgId) (front : List Entry) (r : Result View AskRefusal) → front_of w pg ≡ front → IfOk r (λ view. scratch front pg ≡ Some view)
    → (r ≡ Err UnknownGroup → has_group (incs_of front) pg ≡ false) → (r ≡ Err Memory → HasInc front) → MayReply w (Ask pg) (Asked r) w
asked w pg front (Ok view) is ok unknown wants =
    inl (record { reply_is = ap Asked (sym (ap (λ (l : List Entry). view_reply (scratch l pg)) is ∙ ap view_reply ok)); next_is = refl })
asked w pg front (Err UnknownGroup) is ok unknown wants =
    let none : scratch front pg ≡ None = rw (unknown refl) refl in
    inl (record { reply_is = ap Asked (sym (ap (λ (l : List Entry). view_reply (scratch l pg)) is ∙ ap view_reply none)); next_is = refl })
asked w pg front (Err Memory) is ok unknown wants = inr (refl, (refl, subst HasInc (sym is) (wants refl)))

pub asked-reply : (log : List Entry) (shards : List Shard) (pg : PgId) (k : ℕ) (s new : Shard) (r : Result View AskRefusal) → IsShardAt log shards k s → k ≡ shard_of (length shards) pg → HasReadSame s new
    → IfOk r (λ view. scratch s.front pg ≡ Some view) → (r ≡ Err UnknownGroup → has_group (incs_of s.front) pg ≡ false) → (r ≡ Err Memory → HasInc s.front)
    → MayReply (record { log = log; read = map (λ s. length s.front) shards }) (Ask pg) (Asked r) (record { log = log; read = map (λ s. length s.front) (set shards k new) })
asked-reply log shards pg k s new r at number same ok unknown wants =
    let kept : map (λ (s : Shard). length s.front) (set shards k new) ≡ map (λ (s : Shard). length s.front) shards =
    map-set_same (λ (s : Shard). length s.front) shards k new s (ap length (same.front_is ∙ ap (λ (o : Shard). o.front) at.here)) in
    rw kept (asked (record { log = log; read = map (λ s. length s.front) shards }) pg s.front r (asked-front log shards pg k s at number) ok unknown wants)
