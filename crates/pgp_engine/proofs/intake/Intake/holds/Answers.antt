use Rattle.std.proofs.Common.{◌≡◌, ◌<◌, Bool, true, false, List, length, ap, ◌∙◌, subst, arith}
use Rattle.std.proofs.lemmas.Bool.Decides.{nat_tests}
use Rattle.std.specs.Prelude.{MatchBool, nat_le}
use Rattle.pgp_ids.specs.declared.entry.Entry.{Entry}
use Rattle.pgp_log.specs.Log.{IsFrontOf}
use Rattle.pgp_feed.specs.declared.receipt.Receipt.{Receipt}
use Rattle.pgp_feed.specs.Receipts.{entries_of, Holds}
use Rattle.pgp_engine.specs.Intakes.{ToldLog}
use Rattle.pgp_engine.proofs.intake.Intake.holds.Goals as goal

holds_log : (b : Bool) (told front : Receipt) (log : List Entry) → entries_of told ≡ log → b ≡ nat_le (length (entries_of front)) (length (entries_of told))
    → MatchBool b (Holds told front) (Holds front told) → MatchBool b (IsFrontOf (entries_of front) log) (length log < length (entries_of front))
holds_log true told front log is longer holds = subst (λ (l : List Entry). IsFrontOf (entries_of front) l) is holds.front
holds_log false told front log is longer holds = subst (λ (l : List Entry). length l < length (entries_of front)) is (grind (arith, nat_tests))

pub returns : goal.returns
returns g c =
    holds_log c.holds.result c.told.result c.args.front.now c.args.self.now.log (ap entries_of c.told.ensures ∙ ap (λ (t : ToldLog). t.log) c.self.view_is) c.holds.ensures.longer c.holds.ensures.holds
