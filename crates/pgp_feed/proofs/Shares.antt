-- What a part of the copy's list has to do with a front.
use Rattle.std.proofs.Common.{◌≡◌, ℕ, ◌-◌, ◌≤◌, List, length, map, take, drop, ap, sym, ◌∙◌, arith, length-drop}
use Rattle.std.proofs.lemmas.List.{take-append-le, drop-append-le, take-map, drop-map}
use Rattle.std.specs.Arc.{arc_value}
use Rattle.std.specs.List.{slice_range}
use Rattle.std.specs.declared.sync.Arc.{Arc}
use Rattle.pgp_ids.specs.declared.entry.Entry.{Entry}
use Rattle.pgp_log.specs.Log.{IsFrontOf}
use Rattle.pgp_feed.proofs.Adding.{take-whole}

module _ {Z : Type 0} where
  pub slice_read : (shared : List (Arc Entry Z)) (told front : List Entry) (at n : ℕ) → map arc_value shared ≡ told → IsFrontOf front told
      → n ≡ length front → at ≤ n → map arc_value (slice_range shared at n) ≡ drop at front
  slice_read shared told front at n is part len le =
      let room : at ≤ length front = omega arith in
      let size : n - at ≡ length (drop at front) = omega (arith, length-drop at front) in
      sym (take-map arc_value (n - at) (drop at shared))
      ∙ (ap (take (n - at)) (sym (drop-map arc_value at shared) ∙ (ap (drop at) (is ∙ part.whole) ∙ drop-append-le at front part.rest room))
      ∙ (take-append-le (n - at) (drop at front) part.rest (omega arith) ∙ take-whole (n - at) (drop at front) size))
