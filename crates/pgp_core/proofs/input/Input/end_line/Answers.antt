use Rattle.std.proofs.Common.{refl}
use Rattle.pgp_core.proofs.InputLemmas.{read-line}
use Rattle.pgp_core.proofs.input.Input.end_line.Goals as goal

pub returns-clause-read : goal.returns-clause-read
returns-clause-read c bounds before bytes same read =
    read-line bounds before _ bytes c.args.piece.now c.requires.one_line (rw same c.requires.room) (rw same c.requires.fits) c.clear.ensures (rw same refl) (rw same refl) read
