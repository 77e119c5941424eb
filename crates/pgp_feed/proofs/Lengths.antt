-- How long a legal log is: beyond its 65,535 entries a log takes a Close alone.
use Rattle.std.proofs.Common.{◌≡◌, ◌≤◌, List, [], ◌∷◌, ◌++◌, length, None, true, refl, arith, length-append}
use Rattle.pgp_ids.specs.declared.entry.Entry.{Entry}
use Rattle.pgp_log.specs.Fits.{fits}
use Rattle.pgp_log.specs.Log.{is_legal}
use Rattle.pgp_log.proofs.LogLemmas.{legal-short, legal-snoc}

pub legal-empty : is_legal [] ≡ true
legal-empty = refl

-- a legal log that takes one more entry has room for it
pub legal-room : (log : List Entry) (new : Entry) → is_legal log ≡ true → fits log new ≡ None → length log ≤ 65535
legal-room log new legal fit =
    omega (arith, legal-short (log ++ new ∷ []) (legal-snoc log new legal fit), length-append log (new ∷ []))
