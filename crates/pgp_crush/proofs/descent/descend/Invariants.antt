use Rattle.std.proofs.Common.{◌≡◌, ◌-◌, ◌<◌, ◌^◌, sum, Some}
use Rattle.pgp_crush.specs.Bucket.{bucket_of}
use Rattle.pgp_crush.specs.Descent.{path, first_stop}
use Rattle.pgp_crush.proofs.descent.descend.Given as goal

abbrev pub invariant-loop-level : goal.invariant-loop-level
invariant-loop-level l = record {
  weighed : sum l.bucket.weights < 2 ^ 32;
  same : first_stop l.tree l.kind (path l.tree l.x l.rank 10 (Some (bucket_of l.from)))
      ≡ first_stop l.tree l.kind (path l.tree l.x l.rank (10 - l._level) (Some (bucket_of l.bucket)));
}
