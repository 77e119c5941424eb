use Rattle.std.proofs.Common.{◌≡◌, ℕ, ◌<◌, ◌+◌, ◌*◌, ◌/◌, ◌%◌, ◌^◌, arith, ap, sym, ◌∙◌, slice_index, unwrap_or, length}
use Rattle.pgp_crush.specs.Choice.{straw2_place, draw, hash_at, draw_at}
use Rattle.pgp_crush.proofs.ChoiceLemmas.{draw_within}
use Rattle.pgp_crush.proofs.LeastLemmas.{leads-none, leads-next, leads-on, leads-is}
use Rattle.pgp_crush.proofs.straw2.straw2_place.Goals as goal
use Rattle.pgp_crush.proofs.straw2.straw2_place.Goals.{then-i-eq0, else-i-eq0, in-Some, in_default}

pub loop-i-init : goal.loop-i-init
loop-i-init c = record { within = omega arith; hashed = λ some. absurd (omega arith); leads = leads-none (draw_at c.args.x c.args.r c.args.items.now c.args.weights.now) (2 ^ 63) }

pub loop-i-preserved : goal.loop-i-preserved
loop-i-preserved c =
    let lane : (k : ℕ) → k < 8 → c.loop-i.i / 8 * 8 + k < length c.args.items.now
    → slice_index c.if-i-eq0.hashes k ≡ hash_at c.args.x c.args.r c.args.items.now (c.loop-i.i / 8 * 8 + k) =
    elim c.if-i-eq0.branch [
      | then-i-eq0 w ↦ λ k below within. (
          let is : c.if-i-eq0.hashes ≡ w.hashes_from-hashes.result = cc in
          let at : c.loop-i.i ≡ c.loop-i.i / 8 * 8 = omega arith in
          ap (λ h. slice_index h k) is ∙ w.hashes_from-hashes.ensures k below (omega arith) ∙ ap (λ first. hash_at c.args.x c.args.r c.args.items.now (first + k)) at)
      | else-i-eq0 w ↦ λ k below within. (
          let is : c.if-i-eq0.hashes ≡ c.loop-i.hashes = cc in
          ap (λ h. slice_index h k) is ∙ c.loop-i.invariant.hashed (omega arith) k below within)
    ] in
    let hashed : 0 < (c.loop-i.i + 1) % 8 → (k : ℕ) → k < 8 → (c.loop-i.i + 1) / 8 * 8 + k < length c.args.items.now
    → slice_index c.if-i-eq0.hashes k ≡ hash_at c.args.x c.args.r c.args.items.now ((c.loop-i.i + 1) / 8 * 8 + k) =
    λ some k below within. (
    let same : (c.loop-i.i + 1) / 8 * 8 ≡ c.loop-i.i / 8 * 8 = omega arith in
    rw same (lane k below (omega arith))) in
    let at : c.loop-i.i / 8 * 8 + c.loop-i.i % 8 ≡ c.loop-i.i = omega arith in
    let hash : slice_index c.if-i-eq0.hashes (c.loop-i.i % 8) ≡ hash_at c.args.x c.args.r c.args.items.now c.loop-i.i =
    lane (c.loop-i.i % 8) (omega arith) (omega arith) ∙ ap (λ i. hash_at c.args.x c.args.r c.args.items.now i) at in
    let drawn : draw (slice_index c.if-i-eq0.hashes (c.loop-i.i % 8) % 2 ^ 16) (slice_index c.args.weights.now c.loop-i.i)
    ≡ draw_at c.args.x c.args.r c.args.items.now c.args.weights.now c.loop-i.i =
    ap (λ h. draw (h % 2 ^ 16) (slice_index c.args.weights.now c.loop-i.i)) hash in
    elim c.match-draw_below.branch [
      | in-Some w ↦ (
          let below = w.in-Some.ensures.below in
          let place : c.match-draw_below.place ≡ c.loop-i.i = cc in
          let least : c.match-draw_below.least ≡ draw_at c.args.x c.args.r c.args.items.now c.args.weights.now c.loop-i.i = cc in
          let leads = leads-next (draw_at c.args.x c.args.r c.args.items.now c.args.weights.now) (2 ^ 63) c.loop-i.i c.loop-i.place c.loop-i.least
          c.loop-i.invariant.leads (omega (arith, below.0, below.1, drawn)) in
          record { within = omega arith; hashed = hashed; leads = rw (place, least) leads })
      | in_default w ↦ (
          let not_below = w.in_default.ensures.not_below in
          let place : c.match-draw_below.place ≡ c.loop-i.place = cc in
          let least : c.match-draw_below.least ≡ c.loop-i.least = cc in
          let leads = leads-on (draw_at c.args.x c.args.r c.args.items.now c.args.weights.now) (2 ^ 63) c.loop-i.i c.loop-i.place c.loop-i.least
          c.loop-i.invariant.leads (omega (arith, not_below, drawn)) (draw_within _ _) in
          record { within = omega arith; hashed = hashed; leads = rw (place, least) leads })
    ]

pub returns-clause-value : goal.returns-clause-value
unfolding straw2_place
returns-clause-value c =
    let ended : c.loop-i.i ≡ length c.args.items.now = omega arith in
    sym (ap (λ o. unwrap_or o 0) (leads-is (draw_at c.args.x c.args.r c.args.items.now c.args.weights.now) (2 ^ 63) (length c.args.items.now) c.loop-i.place c.loop-i.least c.requires.some (rw ended at c.loop-i.invariant.leads)))

pub returns-clause-within : goal.returns-clause-within
returns-clause-within c =
    let ended : c.loop-i.i ≡ length c.args.items.now = omega arith in
    omega (arith, (c.loop-i.invariant.leads.leader (omega arith)).0)
