use Rattle.std.proofs.Common.{◌≡◌, ℕ, true, ◌+◌, ◌++◌, ap, sym, ◌∙◌, add-one, arith}
use Rattle.std.specs.Option.{is_some}
use Rattle.std.specs.List.{flat_map, range_with_len}
use Rattle.pgp_lists.proofs.Lists.{flat_map-push}
use Rattle.pgp_lists.proofs.Ranges.{range_with_len-suc}
use Rattle.pgp_whole.specs.Summary.{groups_of_pool, pool_numbers}
use Rattle.pgp_whole.proofs.summary.all_groups.Goals as goal
use Rattle.pgp_whole.proofs.summary.all_groups.Goals.{in-Some+in_ok-put_groups, in_default}

pub loop-below-preserved : goal.loop-below-preserved
loop-below-preserved c = λ incs is.
    let n : ℕ = c.loop-below.below in
    let before = c.loop-below.invariant incs is in
    let more : flat_map (groups_of_pool incs) (range_with_len 1 (n + 1)) ≡ flat_map (groups_of_pool incs) (range_with_len 1 n) ++ groups_of_pool incs (1 + n) =
    ap (λ k. flat_map (groups_of_pool incs) (range_with_len 1 k)) (add-one n) ∙ ap (flat_map (groups_of_pool incs)) (range_with_len-suc 1 n) ∙ flat_map-push (groups_of_pool incs) (range_with_len 1 n) (1 + n) in
    elim c.match-new.branch [
      | in-Some+in_ok-put_groups w ↦
          let pool : w.in-Some.pool ≡ 1 + n = w.in-Some.ensures.value ∙ omega arith in
          rw w.groups-is (w.in_ok-put_groups.ensures incs is ∙ (λ i. before i ++ groups_of_pool incs (pool i)) ∙ sym more)
      | in_default w ↦ let there : is_some c.new.result ≡ true = c.new.ensures.in_range.1 (omega arith) in let none = ap is_some w.in_default.is in cc
    ]

all_numbers : (n : ℕ) → n ≡ 255 → range_with_len 1 n ≡ pool_numbers
unfolding pool_numbers
all_numbers n is = ap (range_with_len 1) is

pub returns : goal.returns
returns c = λ incs is. c.loop-below.invariant incs is ∙ ap (flat_map (groups_of_pool incs)) (all_numbers c.loop-below.below (omega arith))
