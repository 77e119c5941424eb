-- What a shard has read.
use Rattle.pgp_shard.proofs.Common.{◌≡◌, ℕ, ◌+◌, ◌<◌, List, [], ◌∷◌, ◌++◌, Bool, false, ◌&&◌, not, cond, Option, Some, length, get_or, map, take, refl, ap, ap₂, sym, ◌∙◌, arith, filter, list_any, option_map_or, cases_Bool, nat_tests, length-map, take-map, Entry, PgId, is_same_group, HasReadSame, HasReadSome, IsUnmarked, AreMarked, AreWorkedAt, RenewsMarks, Shard, WorkedGroup, WorksOutMarks, has_own, having_read, having_read_all, is_among, marks_of, worked_at, worked_in, worked_of, Groups}
use Rattle.pgp_shard.specs.Shard.{is_marked}
use Rattle.pgp_log.proofs.SharedLemmas.{next-after}

-- one entry more is read
pub read-further : {X : Type 0} (s before after : Shard) (f : X → Entry) (xs : List X) (i : ℕ) (x : X) → i < length xs → x ≡ get_or xs i x
    → HasReadSame (having_read_all s (map f (take i xs))) before → HasReadSame (having_read before (f x)) after → HasReadSame (having_read_all s (map f (take (i + 1) xs))) after
read-further s before after f xs i x within item was reads = record {
  front_is = reads.front_is ∙ ap (λ (l : List Entry). l ++ f x ∷ []) was.front_is ∙ sym (next-after s.front f xs i x within item);
  shard_is = reads.shard_is ∙ was.shard_is;
  shards_are = reads.shards_are ∙ was.shards_are;
}

-- no more is read
pub read-some : {X : Type 0} (s before after : Shard) (f : X → Entry) (xs : List X) (i : ℕ) → i < length xs
    → HasReadSame (having_read_all s (map f (take i xs))) before → HasReadSame before after → HasReadSome s (map f xs) after
read-some s before after f xs i within was same = record {
  read = i;
  fewer = omega (arith, within, length-map xs f);
  after_is = record {
    front_is = same.front_is ∙ was.front_is ∙ ap (λ (l : List Entry). s.front ++ l) (sym (take-map f i xs));
    shard_is = same.shard_is ∙ was.shard_is;
    shards_are = same.shards_are ∙ was.shards_are;
  };
}

-- of those that fail the test none passes
none-left : {X : Type 0} (p : X → Bool) (xs : List X) → list_any p (filter (λ x. not (p x)) xs) ≡ false
none-left p [] = refl
none-left p (x ∷ xs) = grind (arith, nat_tests, none-left p xs, cases_Bool (p x))

-- a group whose mark was taken away isn't marked
pub unmarked-now : (pg : PgId) (before after : Shard) → IsUnmarked pg before after → is_marked after pg ≡ false
unmarked-now pg before after is =
    ap (λ (marks : Option (List PgId)). option_map_or (is_among pg) marks (has_own after pg)) is.left ∙ none-left (is_same_group pg) is.marked

-- groups were worked out, where the shard's groups were these and are those
pub works-out : (before after : Shard) (count : ℕ) (old new : Groups) → AreMarked before (marks_of old) → AreWorkedAt before old → RenewsMarks count old new → count ≡ length before.front
    → after.marks ≡ Some (marks_of new) → after.worked ≡ worked_in new.kept.items → WorksOutMarks before after
works-out before after count old new were when renews long marks worked = record {
  kept = λ pg is. sym (were.each pg) ∙ renews.marks pg (sym (marked pg) ∙ is);
  worked = λ pg.
      ap (λ (l : List WorkedGroup). worked_at l pg) worked ∙ renews.worked pg
      ∙ ap (λ n. cond (is_among pg (marks_of old) && not (is_among pg (marks_of new))) n (worked_of old pg)) long
      ∙ ap (λ n. cond (is_among pg (marks_of old) && not (is_among pg (marks_of new))) (length before.front) n) (when pg)
      ∙ ap₂ (λ a b. cond (a && not b) (length before.front) (worked_at before.worked pg)) (were.each pg) (sym (marked pg));
} where
  marked : (pg : PgId) → is_marked after pg ≡ is_among pg (marks_of new)
  marked pg = ap (λ (o : Option (List PgId)). option_map_or (is_among pg) o (has_own after pg)) marks

-- a shard that has read the same, whatever its marks
pub still-read : (before : Shard) (front : List Entry) (shard shards : ℕ) (old new : Option (List PgId)) (was now : List WorkedGroup)
    → ◌≡◌ {A = Shard} (record { front = front; shard = shard; shards = shards; marks = old; worked = was }) before
    → HasReadSame before (record { front = front; shard = shard; shards = shards; marks = new; worked = now })
still-read before front shard shards old new was now is =
    record { front_is = ap (λ (s : Shard). s.front) is; shard_is = ap (λ (s : Shard). s.shard) is; shards_are = ap (λ (s : Shard). s.shards) is }
