use Rattle.pgp_compact.proofs.Common.{arith, faultless-tree, fits-faultless, incs-inc, incs_of, legal-last, on_ok}
use Rattle.pgp_compact.proofs.WholeLemmas.{comes-next, read-other}
use Rattle.pgp_compact.proofs.whole.Whole.read.Goals as goal

pub apply-requires : goal.apply-requires
apply-requires c =
    let front = c.requires.front in
    let new = c.args.entry.now in
    rw c.in-Inc.is at (faultless-tree front new (fits-faultless front new (legal-last front new c.requires.legal)))

pub absorb-requires : goal.absorb-requires
absorb-requires c =
    let is = c.requires.is in
    let next = comes-next c.requires.front c.args.entry.now c.in-Inc.is c.requires.legal is.map_is c.in_ok-apply.ensures.ok in
    record { incs = _; each = is.courses_are.each; next = next }

pub returns : goal.returns
returns c = on_ok c.absorb.result _ _ (λ goes log front legal is.
    let before = c.in_ok-before.ensures (incs_of front) is.map_is in
    let next = comes-next front c.args.entry.now c.in-Inc.is legal is.map_is c.in_ok-apply.ensures.ok in
    grind (arith, incs-inc front c.args.entry.now c.in-Inc.inc, goes (incs_of front) log next before is.courses_are)) c.absorb.ensures

pub returns-in_default : goal.returns-in_default
returns-in_default c = λ log front legal is. read-other log front c.args.entry.now c.args.self.now (grind arith) is
