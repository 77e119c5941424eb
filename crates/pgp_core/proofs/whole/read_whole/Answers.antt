use Rattle.std.proofs.Common.{◌≡◌, ℕ, ◌++◌, length, List, take, arith}
use Rattle.std.proofs.lemmas.List.{length-append}
use Rattle.std.proofs.KnownBytes.{Consumes-trans}
use Rattle.pgp_core.proofs.whole.read_whole.Goals as goal

pub returns-then-count-bounds-clause-large : goal.returns-then-count-bounds-clause-large
returns-then-count-bounds-clause-large g c = λ too_large.
    let script = c.loop-count.script.items in
    let read : List ℕ = take c.in-Ok.count c.read.new.buf in
    let long : c.in-Ok.count ≡ length read = c.in-Ok.ensures.bound.1 in record {
      script = script ++ read;
      consumed = Consumes-trans _ _ _ script read c.loop-count.invariant.bytes c.in-Ok.ensures.bytes.0;
      beyond = λ within. absurd (omega (arith, within.few_bytes, length-append script read, long, c.if-count-bounds.true, c.len.ensures));
    }
