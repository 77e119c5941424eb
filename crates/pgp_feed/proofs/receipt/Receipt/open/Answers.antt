use Rattle.std.proofs.Common.{◌≡◌, ℕ, [], true, refl, subst, sym, arith, List}
use Rattle.pgp_ids.specs.declared.entry.Entry.{Entry}
use Rattle.pgp_log.specs.Log.{is_legal}
use Rattle.pgp_feed.proofs.Adding.{kept_at_first}
use Rattle.pgp_feed.proofs.Lengths.{legal-empty}
use Rattle.pgp_feed.proofs.receipt.Receipt.open.Goals as goal

pub open-seen-requires : goal.open-seen-requires
open-seen-requires c = (kept_at_first, λ xs. tt, c.alone.ensures.1)

pub invariant_of-result : goal.invariant_of-result
invariant_of-result c =
    let empty : c.open-seen.result.0.log ≡ [] = c.open-seen.ensures.1 in
    record {
      within = omega arith;
      legal = subst (λ (l : List Entry). is_legal l ≡ true) (sym empty) legal-empty;
    }
