-- Past intervals that may have gone read-write after all.
use Rattle.std.specs.Prelude.{ℕ, zero, suc, List, [], ◌∷◌, true}
use Rattle.pgp_ids.specs.declared.past.Past.{Past}

-- the interval, which may have gone read-write
abbrev pub with_rw : Past → Past
with_rw past = record past { rw = true }

-- the intervals, of which the one at this place may have gone read-write. Where there is none, all stay as they are
abbrev pub raised_at : ℕ → List Past → List Past
raised_at place [] = []
raised_at zero (interval ∷ past) = with_rw interval ∷ past
raised_at (suc place) (interval ∷ past) = interval ∷ raised_at place past
