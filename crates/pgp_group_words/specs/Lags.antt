-- The members that were heard and lack something of the best copy.
use Rattle.std.specs.Prelude.{◌==◌, [], ◌∷◌, ◌++◌, Bool, true, not, length, codes, decimal}
use Rattle.pgp_ids.specs.declared.peer.PeerMissing.{PeerMissing}
use Rattle.pgp_ids.specs.declared.peer.PeerState.{PeerState}
use Rattle.pgp_ids.specs.declared.peer.PeerState.TheVariants.{Missing, Backfill, Diverged}
use Rattle.pgp_group_words.specs.Text.{Text, joined}
use Rattle.pgp_group_words.specs.Names.{member_name, plural}
use Rattle.pgp_group_words.specs.declared.page.Naming.{Naming}

-- a member of this state lacks something
abbrev pub is_behind : PeerState → Bool
is_behind (Missing objects) = not (length objects == 0)
is_behind Backfill = true
is_behind Diverged = true

-- the member lacks something
abbrev pub lags : PeerMissing → Bool
lags peer = is_behind peer.state

abbrev pub lag_name : PeerState → Text
lag_name (Missing objects) =
    joined (codes " lacks " ∷ decimal (length objects) ∷ codes " " ∷ plural (length objects) (codes "object") (codes "objects") ∷ [])
lag_name Backfill = codes " needs a backfill"
lag_name Diverged = codes " has diverged"

-- a member, and what it lacks
abbrev pub laggard_name : Naming → PeerMissing → Text
laggard_name naming peer = member_name naming peer.member ++ lag_name peer.state
