use Rattle.pgp_log.proofs.Common.{◌≡◌, ◌∷◌, ◌++◌, [], sym, ap, ◌∙◌, arith, length-append, incs_of, IsMapOf}
use Rattle.pgp_map.proofs.FaultLemmas.{no_fault}
use Rattle.pgp_log.specs.declared.judge.Judge.{Judge}
use Rattle.pgp_log.proofs.LogLemmas.{legal-short, legal-snoc}
use Rattle.pgp_log.proofs.TakeLemmas.{closed-push, faultless-inc, fits-faultless, fits-open_log, incs-inc, incs-other}
use Rattle.pgp_log.proofs.judge.Judge.take.Goals.{in-Some+in_ok-apply, in_default}
use Rattle.pgp_log.proofs.judge.Judge.take.Goals as goal

pub apply-requires : goal.apply-requires
apply-requires c =
    let log = c.requires.log in
    let inc = c.in-Some.inc.now in
    (no_fault (incs_of log) inc (faultless-inc log c.args.entry.now inc (sym c.in-Some.ensures) (fits-faultless log c.args.entry.now c.requires.fits))).tree

pub overflow_add-self : goal.overflow_add-self
overflow_add-self c =
    let same : c.match-inc_of.self.count ≡ c.args.self.now.count =
    elim c.match-inc_of.branch [ in-Some+in_ok-apply w ↦ ap (λ (j : Judge). j.count) w.self-is | in_default w ↦ ap (λ (j : Judge). j.count) w.self-is ] in
    omega (arith, same, c.requires.is.count_is, legal-short c.requires.log c.requires.is.legal)

pub returns-clause-ok : goal.returns-clause-ok
returns-clause-ok c log is fit =
    let new = c.args.entry.now in
    let same : c.match-inc_of.self.count ≡ c.args.self.now.count =
    elim c.match-inc_of.branch [ in-Some+in_ok-apply w ↦ ap (λ (j : Judge). j.count) w.self-is | in_default w ↦ ap (λ (j : Judge). j.count) w.self-is ] in
    let made : IsMapOf (incs_of (log ++ new ∷ [])) c.match-inc_of.self.map = elim c.match-inc_of.branch [
      | in-Some+in_ok-apply w ↦
          let some = sym w.in-Some.ensures in
          rw (w.self-is, incs-inc log new w.in-Some.inc.now some)
          (w.in_ok-apply.ensures.ok (incs_of log) is.map_is (faultless-inc log new w.in-Some.inc.now some (fits-faultless log new fit)))
      | in_default w ↦ rw (w.self-is, incs-other log new (sym w.in_default.ensures)) is.map_is
    ] in
    record {
      legal = legal-snoc log new is.legal fit;
      map_is = made;
      count_is = omega (arith, same, is.count_is, length-append log (new ∷ []));
      closed_is = c.is_close-self.ensures ∙ sym (closed-push log new (fits-open_log log new fit));
    }
