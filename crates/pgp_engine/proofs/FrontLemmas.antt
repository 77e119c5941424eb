-- Fronts of one log.
use Rattle.std.proofs.Common.{◌≡◌, ℕ, ◌+◌, ◌≤◌, List, [], ◌∷◌, ◌++◌, length, map, take, drop, true, refl, ap, sym, ◌∙◌, subst, arith, length-append, append-nil}
use Rattle.std.proofs.Math.Seq.{take-append-add}
use Rattle.std.proofs.lemmas.List.{drop_at, take-append-drop}
use Rattle.std.specs.Arc.{arc_value}
use Rattle.std.specs.declared.sync.Arc.{Arc}
use Rattle.pgp_ids.specs.declared.entry.Entry.{Entry}
use Rattle.pgp_log.specs.Log.{IsFrontOf, is_legal}
use Rattle.pgp_log.proofs.LogLemmas.{front-legal}
use Rattle.pgp_feed.specs.Receipts.{entries_of}
use Rattle.pgp_feed.specs.declared.receipt.Receipt.{Receipt}

pub front_none : (log : List Entry) → IsFrontOf [] log
front_none log = record { rest = log; whole = refl }

pub front_short : (a b : List Entry) → IsFrontOf a b → length a ≤ length b
front_short a b f = omega (arith, ap length f.whole, length-append a f.rest)

rest_none : (a b rest : List Entry) → b ≡ a ++ rest → length b ≤ length a → b ≡ a
rest_none a b [] whole few = whole ∙ append-nil a
rest_none a b (x ∷ rest) whole few = absurd (omega (arith, ap length whole, length-append a (x ∷ rest)))

-- a front as long as the log is the log
pub front_same : (a b : List Entry) → IsFrontOf a b → length b ≤ length a → b ≡ a
front_same a b f few = rest_none a b f.rest f.whole few

-- what stands behind the front
pub front_rest : (a b : List Entry) → IsFrontOf a b → a ++ drop (length a) b ≡ b
front_rest a b f = ap (λ l. a ++ l) (ap (drop (length a)) f.whole ∙ drop_at a f.rest (length a) refl) ∙ sym f.whole

-- what was read from behind the front makes up the log
pub filled : {Z : Type 0} (front log : List Entry) (n : ℕ) (list slice : List (Arc Entry Z)) → IsFrontOf front log → n ≡ length front → slice ≡ list
    → map arc_value list ≡ drop n log → front ++ map arc_value slice ≡ log
filled front log n list slice f count same read =
    ap (λ (l : List Entry). front ++ l) (ap (map arc_value) same ∙ (read ∙ ap (λ (k : ℕ). drop k log) count)) ∙ front_rest front log f

-- the front with some of what stands behind it
pub front_more : (a b : List Entry) (k : ℕ) → IsFrontOf a b → take (length a + k) b ≡ a ++ take k (drop (length a) b)
front_more a b k f = ap (take (length a + k)) (sym (front_rest a b f)) ∙ take-append-add a (drop (length a) b) k

pub front_between : (a b : List Entry) (k : ℕ) → IsFrontOf a b → IsFrontOf a (take (length a + k) b)
front_between a b k f = record { rest = take k (drop (length a) b); whole = front_more a b k f }

pub take_front : (n : ℕ) (log : List Entry) → IsFrontOf (take n log) log
take_front n log = record { rest = drop n log; whole = sym (take-append-drop n log) }

pub front_legal : (a b : List Entry) → IsFrontOf a b → is_legal b ≡ true → is_legal a ≡ true
front_legal a b f legal = front-legal a f.rest (subst (λ (l : List Entry). is_legal l ≡ true) f.whole legal)

-- what any receipt names is legal
pub receipt_legal : (r : Receipt) → is_legal (entries_of r) ≡ true
receipt_legal r = front_legal (take r.len r.seen.log) r.seen.log (take_front r.len r.seen.log) r.legal
