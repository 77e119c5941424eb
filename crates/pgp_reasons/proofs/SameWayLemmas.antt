-- Of the devices of a way some boot and the others are declared lost: how they are split makes no difference to whether a group is
-- down, and no other devices do, as long as none boots that was destroyed.
use Rattle.std.proofs.Common.{◌≡◌, ℕ, List, [], ◌++◌, Bool, true, false, cond, ◌&&◌, ◌||◌, nat_eq, refl, ap, sym, ◌∙◌, subst, inl, inr, arith}
use Rattle.std.specs.List.{Contains, filter, list_any}
use Rattle.std.proofs.lemmas.Bool.{cases_Bool, and_parts, or_parts, true≢false, false_from_ne_true}
use Rattle.std.proofs.lemmas.List.Folds.{list_any-append}
use Rattle.pgp_code.specs.AnyCode.{enough_of, enough_of-mono, is_by_place}
use Rattle.pgp_ids.specs.declared.member.Member.{Member}
use Rattle.pgp_ids.specs.declared.past.Past.{Past}
use Rattle.pgp_lists.proofs.Bools.{same_falses, same_tests}
use Rattle.pgp_lists.proofs.Members.{any-contains, contains-any, filter-contains, contains-filter, contains-map, contains-flat_map}
use Rattle.pgp_map.specs.Devices.{exists, is_up, lost_at}
use Rattle.pgp_prior.specs.Blocks.{acting_where, blocks}
use Rattle.pgp_prior.specs.Members.{members_of}
use Rattle.pgp_prior.specs.Prior.{IsBlocking}
use Rattle.pgp_prior.proofs.BetterLemmas.{Relieves, EachRelieved, blocks-before, not_down-relieved, same-relieves}
use Rattle.pgp_prior.proofs.PriorLemmas.{blocked_by-IsBlocking, IsBlocking-blocked_by}
use Rattle.pgp_sets.specs.Status.{status, status_by}
use Rattle.pgp_sets.specs.declared.status.Status.{Status}
use Rattle.pgp_sets.specs.declared.status.Status.TheVariants.{Up, Gone, Lost, Down}
use Rattle.pgp_group.specs.GroupLog.{GroupLog, incs}
use Rattle.pgp_group.specs.Heard.{les}
use Rattle.pgp_group.specs.Peering.{past, prior}
use Rattle.pgp_reasons.specs.Fates.{is_gone, osds_with}
use Rattle.pgp_reasons.specs.GroupWays.{blocking_past, destroyed_osds, is_down_with}
use Rattle.pgp_reasons.specs.Smallest.{IsPartOf}
use Rattle.pgp_reasons.specs.Ways.{given_up, status_after}
use Rattle.pgp_reasons.proofs.SetLemmas.{held-one, one-held}

-- ---- a device that is down for one interval is down or lost for each

-- it relieves as much once it booted as once it was declared lost
abbrev AreAlike : Status → Type 0
AreAlike status = Relieves Up (given_up status) × Relieves (given_up status) Up

alike-lost : (lost : Bool) → AreAlike (cond lost Lost Down)
alike-lost true = (record { settled = λ s. s; down = λ d. d }, record { settled = λ s. s; down = λ d. d })
alike-lost false = (record { settled = λ s. s; down = λ d. d }, record { settled = λ s. s; down = λ d. d })

alike : (up there : Bool) (lost first at : ℕ) → status_by up there lost at ≡ Down → AreAlike (status_by up there lost first)
alike true there lost first at is = cc
alike false false lost first at is = cc
alike false true lost first at is = alike-lost _

-- ---- one device

-- the status of a device after a way: whether it boots, and whether it is declared lost
abbrev after : (boots lost : Bool) → Status → Status
after boots lost status = cond boots Up (cond lost (given_up status) status)

-- to boot relieves no less than to be declared lost
boot-relieves : (status : Status) → Relieves status Up
boot-relieves status = record { settled = λ s. refl; down = λ d. absurd (true≢false (sym d)) }

-- a device that isn't waited for: it is up, or lost, or it was destroyed and doesn't boot
left-relieves : (boots lost : Bool) (status : Status) → (status ≡ Down → ⊥) → (boots ≡ true → status ≡ Gone → ⊥) → Relieves (after boots lost status) status
left-relieves boots lost Down waited gone = absurd (waited refl)
left-relieves true lost Up waited gone = record { settled = λ s. refl; down = λ d. d }
left-relieves true lost Lost waited gone = record { settled = λ s. refl; down = λ d. d }
left-relieves true lost Gone waited gone = absurd (gone refl refl)
left-relieves false true Up waited gone = same-relieves Up Up refl
left-relieves false true Lost waited gone = same-relieves Lost Lost refl
left-relieves false true Gone waited gone = same-relieves Gone Gone refl
left-relieves false false status waited gone = same-relieves status status refl

lost-relieves : (lost : Bool) (status : Status) → Relieves status (cond lost (given_up status) status)
lost-relieves true Up = same-relieves Up Up refl
lost-relieves true Gone = same-relieves Gone Gone refl
lost-relieves true Lost = same-relieves Lost Lost refl
lost-relieves true Down = record { settled = λ s. refl; down = λ d. absurd (true≢false (sym d)) }
lost-relieves false status = same-relieves status status refl

-- ---- a group

module _ (g : GroupLog) where
  abbrev here : ℕ → ℕ → Status
  here = status (incs g)

  -- the devices that it waits for
  abbrev awaited : List ℕ
  awaited = (prior g).blocked_by

  alike-awaited : (osd first : ℕ) → Contains awaited osd → AreAlike (here osd first)
  alike-awaited osd first waited =
      let blocking = blocked_by-IsBlocking (enough_of g.history.code) (is_by_place g.history.code) here (les g) (past g) osd waited in
      let down : here osd blocking.0.first ≡ Down = subst (λ (o : ℕ). here o blocking.0.first ≡ Down) blocking.1.1.1 blocking.1.1.0.down in
      alike (is_up (incs g) osd) (exists (incs g) osd) (lost_at (incs g) osd) first blocking.0.first down

  module _ (starts losses : List ℕ) where
    -- ---- how a way is split

    module _ (are : IsPartOf losses awaited) where
      split-alike : (osd first : ℕ) → Relieves (status_after starts losses here osd first) (status_after (starts ++ losses) [] here osd first)
          × Relieves (status_after (starts ++ losses) [] here osd first) (status_after starts losses here osd first)
      split-alike osd first = elim (cases_Bool (list_any (nat_eq osd) starts)) [
        | inl boots ↦ rw (list_any-append (nat_eq osd) starts losses, boots) (same-relieves Up Up refl, same-relieves Up Up refl)
        | inr stays ↦ elim (cases_Bool (list_any (nat_eq osd) losses)) [
          | inl lost ↦
              let both = alike-awaited osd first (are osd (held-one losses osd lost)) in
              rw (list_any-append (nat_eq osd) starts losses, stays, lost) (both.1, both.0)
          | inr kept ↦ rw (list_any-append (nat_eq osd) starts losses, stays, kept) (same-relieves _ _ refl, same-relieves _ _ refl)
        ]
      ]

      pub same-down : is_down_with starts losses g ≡ is_down_with (starts ++ losses) [] g
      same-down =
          let up = not_down-relieved (is_by_place g.history.code) (enough_of g.history.code) (enough_of-mono g.history.code) (les g) in
          let mixed : ℕ → ℕ → Status = status_after starts losses here in
          let all : ℕ → ℕ → Status = status_after (starts ++ losses) [] here in
          same_falses _ _ (up mixed all (past g) (λ p in' m acts. (split-alike m.osd p.first).0))
          (up all mixed (past g) (λ p in' m acts. (split-alike m.osd p.first).1))

    -- ---- devices that aren't waited for

    -- those of both that the group waits for
    abbrev pub kept_of : List ℕ
    kept_of = filter (λ osd. list_any (nat_eq osd) awaited) (starts ++ losses)

    pub kept-held : (osd : ℕ) → list_any (nat_eq osd) kept_of ≡ (list_any (nat_eq osd) awaited && list_any (nat_eq osd) (starts ++ losses))
    kept-held osd = same_tests _ _
        (λ held.
        let kept = filter-contains (λ o. list_any (nat_eq o) awaited) (starts ++ losses) osd (held-one kept_of osd held) in
        rw (kept.1, one-held (starts ++ losses) osd kept.0) refl)
        (λ both.
        let parts = and_parts _ _ both in
        one-held kept_of osd (contains-filter (λ o. list_any (nat_eq o) awaited) (starts ++ losses) osd (held-one (starts ++ losses) osd parts.1) parts.0))

    pub kept-awaited : IsPartOf kept_of awaited
    kept-awaited osd in' = held-one awaited osd (filter-contains (λ o. list_any (nat_eq o) awaited) (starts ++ losses) osd in').1

    pub kept-part : IsPartOf kept_of (starts ++ losses)
    kept-part osd in' = (filter-contains (λ o. list_any (nat_eq o) awaited) (starts ++ losses) osd in').0

    -- ---- each status

    kept-relieves : (osd first : ℕ) → Relieves (here osd first) (status_after kept_of [] here osd first)
    kept-relieves osd first = elim (cases_Bool (list_any (nat_eq osd) kept_of)) [
      | inl one ↦ rw one (boot-relieves (here osd first))
      | inr none ↦ rw none (same-relieves _ _ refl)
    ]

    all-relieve : (osd first : ℕ) → Relieves (status_after kept_of [] here osd first) (status_after starts losses here osd first)
    all-relieve osd first = elim (cases_Bool (list_any (nat_eq osd) starts)) [
      | inl boots ↦ rw boots (boot-relieves (status_after kept_of [] here osd first))
      | inr stays ↦ elim (cases_Bool (list_any (nat_eq osd) kept_of)) [
        | inl one ↦
            let both = and_parts _ _ (sym (kept-held osd) ∙ one) in
            let lost : list_any (nat_eq osd) losses ≡ true = sym (list_any-append (nat_eq osd) starts losses ∙ ap (λ b. b || list_any (nat_eq osd) losses) stays) ∙ both.1 in
            rw (stays, one, lost) (alike-awaited osd first (held-one awaited osd both.0)).0
        | inr none ↦ rw (stays, none) (lost-relieves (list_any (nat_eq osd) losses) (here osd first))
      ]
    ]

    module _ (none : (osd : ℕ) → Contains starts osd → Contains (destroyed_osds g) osd → ⊥) where
      -- an acting member of an interval that blocks
      member-alike : (p : Past) → Contains (past g) p → blocks (enough_of g.history.code) (is_by_place g.history.code) here (les g) p ≡ true
          → EachRelieved (is_by_place g.history.code) (status_after starts losses here) (status_after kept_of [] here) p
      member-alike p in' blocking m acts =
          let boots : Bool = list_any (nat_eq m.osd) starts in
          let lost : Bool = list_any (nat_eq m.osd) losses in
          let now : Status = here m.osd p.first in
          let both : list_any (nat_eq m.osd) (starts ++ losses) ≡ (boots || lost) = list_any-append (nat_eq m.osd) starts losses in
          elim (cases_Bool (list_any (nat_eq m.osd) kept_of)) [
            | inl kept ↦ rw kept (boot-relieves (after boots lost now))
            | inr left ↦ elim (cases_Bool (list_any (nat_eq m.osd) awaited)) [
              | inl waited ↦
                  let neither : (boots || lost) ≡ false = sym both ∙ sym (kept-held m.osd ∙ ap (λ b. b && list_any (nat_eq m.osd) (starts ++ losses)) waited) ∙ left in
                  rw (left, (or_parts boots lost neither).0, (or_parts boots lost neither).1) (same-relieves now now refl)
              | inr unawaited ↦
                  rw left (left-relieves boots lost now
                  (λ down. true≢false (sym (one-held awaited m.osd (IsBlocking-blocked_by (enough_of g.history.code) (is_by_place g.history.code) here (les g) (past g) p m (is-blocking p m in' blocking acts down))) ∙ unawaited))
                  (λ started gone. none m.osd (held-one starts m.osd started)
                  (contains-flat_map (osds_with Gone (is_by_place g.history.code) here) (blocking_past g) p m.osd
                  (contains-filter (blocks (enough_of g.history.code) (is_by_place g.history.code) here (les g)) (past g) p in' blocking)
                  (contains-map (λ (one : Member). one.osd) (acting_where is_gone (is_by_place g.history.code) here p) m
                  (contains-filter (λ (one : Member). is_gone (here one.osd p.first)) (members_of (is_by_place g.history.code) p.members.acting) m acts (ap is_gone gone))))))
            ]
          ]
        where
          is-blocking : (p : Past) (m : Member) → Contains (past g) p → blocks (enough_of g.history.code) (is_by_place g.history.code) here (les g) p ≡ true → Contains (members_of (is_by_place g.history.code) p.members.acting) m → here m.osd p.first ≡ Down
              → IsBlocking (enough_of g.history.code) (is_by_place g.history.code) here (les g) (past g) p m
          is-blocking p m there blocking acts down = record { there = there; matters = grind (arith, blocking); short = grind (arith, blocking); acting = acts; down = down }

      -- what those do that the group waits for, all of them do
      pub kept-down : is_down_with starts losses g ≡ is_down_with kept_of [] g
      kept-down = same_falses _ _ (λ up. false_from_ne_true _ (λ down.
          let found = any-contains (blocks (enough_of g.history.code) (is_by_place g.history.code) (status_after kept_of [] here) (les g)) (past g) down in
          let was = blocks-before (is_by_place g.history.code) here (status_after kept_of [] here) found.0 (λ m acts. kept-relieves m.osd found.0.first) (enough_of g.history.code) (enough_of-mono g.history.code) (les g) found.1.1 in
          let still = blocks-before (is_by_place g.history.code) (status_after starts losses here) (status_after kept_of [] here) found.0 (member-alike found.0 found.1.0 was) (enough_of g.history.code) (enough_of-mono g.history.code) (les g) found.1.1 in
          true≢false (sym (contains-any (blocks (enough_of g.history.code) (is_by_place g.history.code) (status_after starts losses here) (les g)) (past g) found.0 found.1.0 still) ∙ up)))
          (not_down-relieved (is_by_place g.history.code) (enough_of g.history.code) (enough_of-mono g.history.code) (les g) (status_after kept_of [] here) (status_after starts losses here) (past g)
          (λ p in' m acts. all-relieve m.osd p.first))
