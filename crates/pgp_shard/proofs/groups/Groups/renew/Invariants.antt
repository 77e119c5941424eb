use Rattle.pgp_shard.proofs.Common.{◌≡◌, ℕ, ◌≤◌, length, take, slice_get, AreAtPlaces, FollowStill, marks_in}
use Rattle.pgp_shard.proofs.MarksLemmas.{IsRenewing}
use Rattle.pgp_shard.proofs.groups.Groups.renew.Given as goal

abbrev pub invariant-loop-place : goal.invariant-loop-place
invariant-loop-place l = record {
  places : AreAtPlaces l.self;
  long : length l.self.kept.items ≡ length l.fn.self.kept.items;
  is : FollowStill l.count l.fn.self l.self;
  rest : (at : ℕ) → l.place ≤ at → slice_get l.self.kept.items at ≡ slice_get l.fn.self.kept.items at;
  renewing : IsRenewing l.max l.place l.more l.left (marks_in (take l.place l.fn.self.kept.items)) (marks_in (take l.place l.self.kept.items));
}
