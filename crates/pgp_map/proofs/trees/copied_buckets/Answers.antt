use Rattle.std.proofs.Common.{◌∙◌, ap, map}
use Rattle.std.proofs.lemmas.List.{take_all}
use Rattle.pgp_crush.specs.Bucket.{bucket_of}
use Rattle.pgp_lists.proofs.Results.{on_err}
use Rattle.pgp_map.proofs.CheckLemmas.{is_filled-at}
use Rattle.pgp_map.proofs.trees.copied_buckets.Goals as goal

pub returns-in_err-copy-clause-wants : goal.returns-in_err-copy-clause-wants
returns-in_err-copy-clause-wants c = on_err _ _ (is_filled-at c.args.buckets.now c.loop-bucket.bucket-index c.loop-bucket-test.true)

pub returns-in_err-push-clause-wants : goal.returns-in_err-push-clause-wants
returns-in_err-push-clause-wants c = on_err _ _ (is_filled-at c.args.buckets.now c.loop-bucket.bucket-index c.loop-bucket-test.true)

pub returns-clause-ok : goal.returns-clause-ok
returns-clause-ok c = c.loop-bucket.invariant ∙ ap (map bucket_of) (take_all _ c.args.buckets.now c.loop-bucket-test.false)
