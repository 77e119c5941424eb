-- The best info depends on which infos there are, and not on their order.
use Rattle.std.proofs.Common.{◌≡◌, ◌≤◌, List, Bool, refl, arith}
use Rattle.pgp_ids.specs.declared.report.Info.{Info}
use Rattle.pgp_lists.proofs.Members.{filter-contains}
use Rattle.pgp_info.specs.Preference.{IsPreference}
use Rattle.pgp_info.specs.Best.{HasDistinctMembers, last_start, best_info}
use Rattle.pgp_info.specs.Lead.{has_served_since}
use Rattle.pgp_info.proofs.BestLemmas.{best_info-IsBest}
use Rattle.pgp_info.proofs.StartLemmas.{AllAmong, starts-among}
use Rattle.pgp_info.proofs.LeadLemmas.{lead_among}

pub same_best : (better : Info → Info → Bool) (a b : List Info) → IsPreference better → HasDistinctMembers a → HasDistinctMembers b → AllAmong a b → AllAmong b a → best_info better a ≡ best_info better b
same_best better a b laws distinct_a distinct_b there back =
    let less : last_start b ≤ last_start a = starts-among b a back in
    let more : last_start a ≤ last_start b = starts-among a b there in
    (lead_among better laws a b distinct_a distinct_b back (record { start = last_start a; best = best_info better a }) (record { start = refl; best = refl })
    (λ m is. there m ((filter-contains (has_served_since (last_start a)) a m (best_info-IsBest better a m is).candidate).0)) (omega arith)).best
