use Rattle.std.proofs.Common.{◌≡◌, take, fold}
use Rattle.pgp_group_words.specs.Sentence.{later_of}
use Rattle.pgp_group_words.proofs.sentence.informed_beside_complete.Given as goal

abbrev pub invariant-loop-info : goal.invariant-loop-info
invariant-loop-info l = l.informed ≡ fold later_of l.initial.informed (take l.info-index l.others)
