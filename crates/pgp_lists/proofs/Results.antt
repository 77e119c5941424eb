-- What is answered, or the fault.
use Rattle.std.proofs.Common.{Result, Ok, Err, OnErr}

-- what holds anyhow holds where a call fails
pub on_err : {T E : Type 0} (r : Result T E) (P : Type 0) → P → OnErr r P
on_err (Ok x) P holds = tt
on_err (Err e) P holds = holds
