use Rattle.pgp_compact.proofs.Common.{Entry, List, [], arc_value, arith, drop, front-legal, get_or, is_legal, length, map, map-next, next-front, take, true, within, ℕ, ◌++◌, ◌+◌, ◌<◌, ◌∷◌, ◌≡◌}
use Rattle.pgp_compact.proofs.whole.Whole.of.Goals as goal

-- the entries up to the next one are those of a legal log
legal-next : {X : Type 0} (f : X → Entry) (xs : List X) (i : ℕ) (x : X) → is_legal (map f xs) ≡ true → i < length xs → x ≡ get_or xs i x → is_legal (map f (take i xs) ++ f x ∷ []) ≡ true
legal-next f xs i x legal within item =
    grind (arith, front-legal (map f (take i xs) ++ f x ∷ []) (map f (drop (i + 1) xs)), next-front f xs i x within item)

pub read-requires : goal.read-requires
read-requires c =
    let xs = c.args.entries.now in
    let front : List Entry = map arc_value (take c.loop-entry.entry-index xs) in
    let legal = legal-next arc_value xs c.loop-entry.entry-index c.entry-item.result c.requires c.loop-entry-test.true c.entry-item.is in
    record { log = map arc_value xs; front = front; legal = grind (arith, c.deref.ensures, legal); is = c.loop-entry.invariant }

pub loop-entry-preserved : goal.loop-entry-preserved
loop-entry-preserved c =
    let xs = c.args.entries.now in
    let i = c.loop-entry.entry-index in
    let legal = legal-next arc_value xs i c.entry-item.result c.requires c.loop-entry-test.true c.entry-item.is in
    let more = map-next arc_value xs i c.entry-item.result c.loop-entry-test.true c.entry-item.is in
    grind (arith, c.deref.ensures, legal, more, c.in_ok-read.ensures (map arc_value xs) (map arc_value (take i xs)))
