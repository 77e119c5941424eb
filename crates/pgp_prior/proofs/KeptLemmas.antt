-- Past intervals that are kept, as statuses and the epoch in which the group last began to serve change.
use Rattle.std.proofs.Common.{arith, ◌≡◌, ◌⊎◌, ℕ, List, Some, Bool, true, false, map, refl, sym, ap, ◌∙◌, inl, inr}
use Rattle.std.specs.List.{Contains}
use Rattle.std.proofs.lemmas.Bool.{cases_eq, true≢false, false_from_ne_true, not-false}
use Rattle.pgp_ids.specs.SlotSet.{IsSlotSet, is_within}
use Rattle.pgp_ids.specs.declared.member.Member.{Member}
use Rattle.pgp_ids.specs.declared.past.Past.{Past}
use Rattle.pgp_sets.specs.declared.status.Status.{Status}
use Rattle.pgp_prior.specs.declared.judged_interval.Change.{Change}
use Rattle.pgp_prior.specs.declared.judged_interval.Change.TheVariants as change
use Rattle.pgp_prior.specs.declared.judged_interval.JudgedInterval.{JudgedInterval}
use Rattle.pgp_prior.specs.declared.statuses.KnownStatus.{KnownStatus}
use Rattle.pgp_prior.specs.declared.statuses.Statuses.{Statuses}
use Rattle.pgp_prior.specs.Members.{members_of}
use Rattle.pgp_prior.specs.Blocks.{blocks}
use Rattle.pgp_prior.specs.Changes.{allows, rechecks, IsChangeIn}
use Rattle.pgp_prior.specs.kept.KnownStatuses.{status_in, status_or_gone, renamed}
use Rattle.pgp_prior.specs.kept.JudgedInterval.{IsKept}
use Rattle.pgp_prior.specs.kept.KeptLists.{kept_status}
use Rattle.pgp_prior.proofs.BetterLemmas.{no_worse-relieves, no_better-relieves, blocks-before, blocks-same}
use Rattle.pgp_prior.proofs.KnownStatusLemmas.{status-renamed, status-others, status_or_gone-is}

-- more slots are never less
abbrev pub Law : (List ℕ → Bool) → Type 0
Law enough = (a b : List ℕ) → IsSlotSet a → IsSlotSet b → is_within a b ≡ true → enough a ≡ true → enough b ≡ true

pub allows-same : (kind : Change) (status : Status) → allows kind status status ≡ true
allows-same kind status = grind arith

module _ (by_place : Bool) (kind : Change) (osd : ℕ) (told' old new : ℕ → ℕ → Status) (p : Past) (is : IsChangeIn (allows kind) by_place osd told' old new p) where
  -- the change is allowed of each member
  pub allowed : (m : Member) → Contains (members_of by_place p.members.acting) m → allows kind (old m.osd p.first) (new m.osd p.first) ≡ true
  allowed m in' = elim (cases_eq m.osd osd) [
    | inl it ↦ rw it (is.allowed_of_it m in' it)
    | inr other ↦ ap (allows kind (old m.osd p.first)) (is.of_others m in' other) ∙ allows-same kind (old m.osd p.first)
  ]

  -- what was known of each acting member, with the new status of the device
  pub renamed-known : (known : List KnownStatus) → ((m : Member) → Contains (members_of by_place p.members.acting) m → status_in known m.osd ≡ Some (old m.osd p.first)) → (m : Member) → Contains (members_of by_place p.members.acting) m → status_in (map (renamed osd (told' osd p.first)) known) m.osd ≡ Some (new m.osd p.first)
  renamed-known known were m in' = elim (cases_eq m.osd osd) [
    | inl it ↦ rw it (status-renamed osd (told' osd p.first) (old osd p.first) known (rw it at (were m in')) ∙ ap Some (sym (is.of_it m in' it)))
    | inr other ↦ status-others osd (told' osd p.first) known m.osd other ∙ were m in' ∙ ap Some (sym (is.of_others m in' other))
  ]

module _ (by_place : Bool) (enough : List ℕ → Bool) (monotone : Law enough) where
  -- an interval is kept once each status is known and it was judged by them
  pub judged : (status : ℕ → ℕ → Status) (les : ℕ) (kept : JudgedInterval) → ((member : Member) → Contains (members_of by_place kept.past.members.acting) member → status_in kept.statuses.known.items member.osd ≡ Some (status member.osd kept.past.first)) → kept.blocks ≡ blocks enough by_place (kept_status kept) les kept.past → IsKept enough by_place status les kept
  judged status les kept known is =
      record {
        statuses_are = known;
        blocks_is = is ∙ blocks-same by_place enough monotone les (kept_status kept) status kept.past (λ m in'. status_or_gone-is _ m.osd _ (known m in'));
      }

  -- where the change needs no new judgement, it stands
  pub blocks-stands : (kind : Change) (osd : ℕ) (told' old new : ℕ → ℕ → Status) (p : Past) → IsChangeIn (allows kind) by_place osd told' old new p → (les : ℕ)
      → rechecks kind (blocks enough by_place old les p) ≡ false → blocks enough by_place new les p ≡ blocks enough by_place old les p
  blocks-stands change.Better osd told' old new p is les up =
      false_from_ne_true _ (λ blocking.
      let was = blocks-before by_place old new p (λ m in'. no_worse-relieves _ _ (allowed by_place change.Better osd told' old new p is m in')) enough monotone les blocking in
      true≢false (sym was ∙ up))
      ∙ sym up
  blocks-stands change.Worse osd told' old new p is les down =
      let was : blocks enough by_place old les p ≡ true = not-false _ down in
      blocks-before by_place new old p (λ m in'. no_better-relieves _ _ (allowed by_place change.Worse osd told' old new p is m in')) enough monotone les was ∙ sym was
  blocks-stands change.Gone osd told' old new p is les none = cc

  -- the interval with the new status of the device, judged anew, or left as it was where the change can't have turned it
  pub renewed-kept : (kind : Change) (osd : ℕ) (told' old new : ℕ → ℕ → Status) (les : ℕ) (was : JudgedInterval) (statuses : Statuses) (blocked : Bool)
      → IsKept enough by_place old les was → IsChangeIn (allows kind) by_place osd told' old new was.past
      → statuses.known.items ≡ map (renamed osd (told' osd was.past.first)) was.statuses.known.items
      → (blocked ≡ blocks enough by_place (λ osd first. status_or_gone statuses.known.items osd) les was.past) ⊎ (blocked ≡ was.blocks) × (rechecks kind was.blocks ≡ false)
      → IsKept enough by_place new les (record { past = was.past; statuses = statuses; blocks = blocked })
  renewed-kept kind osd told' old new les was statuses blocked before is items which =
      let known : (m : Member) → Contains (members_of by_place was.past.members.acting) m → status_in statuses.known.items m.osd ≡ Some (new m.osd was.past.first) = λ m in'.
      ap (λ known. status_in known m.osd) items ∙ renamed-known by_place kind osd told' old new was.past is was.statuses.known.items before.statuses_are m in' in
      elim which [
        | inl anew ↦ judged new les (record { past = was.past; statuses = statuses; blocks = blocked }) known anew
        | inr stands ↦ record {
          statuses_are = known;
          blocks_is = stands.0 ∙ before.blocks_is ∙ sym (blocks-stands kind osd told' old new was.past is les (ap (rechecks kind) (sym before.blocks_is) ∙ stands.1));
        }
      ]

-- the same change once more changes nothing
pub change-again : (by_place : Bool) (kind : Change) (osd : ℕ) (told' old new : ℕ → ℕ → Status) (p : Past) → IsChangeIn (allows kind) by_place osd told' old new p → IsChangeIn (allows kind) by_place osd told' new new p
change-again by_place kind osd told' old new p is =
    record {
      of_it = is.of_it;
      allowed_of_it = λ m in' it. allows-same kind (new osd p.first);
      of_others = λ m in' apart. refl;
    }
