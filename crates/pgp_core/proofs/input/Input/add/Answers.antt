use Rattle.std.proofs.Common.{refl}
use Rattle.pgp_core.proofs.InputLemmas.{read-piece}
use Rattle.pgp_core.proofs.input.Input.add.Goals as goal

pub returns-clause-read : goal.returns-clause-read
returns-clause-read c bounds bytes read =
    read-piece bounds _ _ bytes c.args.piece.now c.requires.one_line c.requires.room c.requires.fits c.add.ensures refl refl read
