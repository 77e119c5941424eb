use Rattle.std.specs.Prelude.{replicate}
use Rattle.std.proofs.lemmas.List.{length-replicate}
use Rattle.pgp_interval.proofs.GrownLemmas.{grown-stays}
use Rattle.pgp_group.proofs.Common.{◌∷◌, ◌≡◌, ◌≢◌, ◌||◌, ℕ, ◌+◌, List, Option, Some, None, false, nat_eq, ap, refl, subst, sym, ◌∙◌, list_any, option_map, true≢false, same_Some, enough_of, is_by_place, AnyCode, Entry, PrimaryFacts, Membership, PgId, Incremental, History, grown, IsIntervalsOf, is_same, is_same-eq, eq-is_same, membership, epoch, map_fault, then_with, incs_of, passed_over, primary_facts, cleans, group_with, IsGroupOf, has_osd, Group, arith}
use Rattle.pgp_group.proofs.GroupLemmas.{on_err, same_after_error, IsGroupOf-inc, names-end, names-stay}
use Rattle.pgp_group.proofs.GrowthLemmas.{epoch-snoc, history-last, later_epoch}
use Rattle.pgp_group.proofs.HistoryLemmas.{history-current}
use Rattle.pgp_group.proofs.group.Group.absorb_members.Goals as goal

differ : (a b : Membership) → is_same a b ≡ false → a ≢ b
differ a b is same = true≢false (sym (eq-is_same a b same) ∙ is)

-- the new epoch lies past those that are passed over
later : (log : List Entry) (pg : PgId) (inc : Incremental) (group : Group) (to : ℕ) (is : IsGroupOf log pg group) → map_fault (incs_of log) inc ≡ None → to ≡ epoch (then_with (incs_of log) inc)
    → to ≡ group.intervals.last + passed_over (incs_of log) inc + 1
later log pg inc group to is fine at =
    omega (arith, at, epoch-snoc (incs_of log) inc, later_epoch (incs_of log) inc fine, is.keeps.intervals_are.last_is, history-last (incs_of log) pg is.history is.ascend is.history_is)

-- by no log for which the group stands does it lie at these members
abbrev LiesElsewhere : Group → Membership → Type 0
LiesElsewhere group members = (log : List Entry) (pg : PgId) → IsGroupOf log pg group → membership (incs_of log) pg ≢ Some members

elsewhere : (group : Group) (members current : Membership) → is_same members current ≡ false
    → ((h : History AnyCode) (epochs : List ℕ) → IsIntervalsOf enough_of is_by_place h epochs group.intervals → current ≡ h.current) → LiesElsewhere group members
elsewhere group members current moved was log pg is there =
    let here : Some members ≡ Some is.history.current = sym there ∙ history-current (incs_of log) pg is.history is.history_is in
    let same : members ≡ is.history.current = cc in
    differ members current moved (same ∙ sym (was is.history (cleans (group_with log pg is.history)) is.keeps.intervals_are))

pub returns-then-is_same-clause-ok : goal.returns-then-is_same-clause-ok
returns-then-is_same-clause-ok c = λ log pg inc is fine told after lies.
    let h = is.history in
    let facts : PrimaryFacts = primary_facts (incs_of log) h.current.acting_primary in
    let stays : c.args.members ≡ h.current =
    is_same-eq c.args.members c.current-current.result.1 (sym c.is_same.ensures ∙ c.if-is_same.true) ∙ c.current-current.ensures.members h (cleans (group_with log pg h)) is.keeps.intervals_are in
    let passed : ℕ = passed_over (incs_of log) inc in
    IsGroupOf-inc log inc pg c.args.self.now _ h.current is fine (lies ∙ ap Some stays) refl refl refl refl
    (subst (λ (t : History AnyCode). IsIntervalsOf enough_of is_by_place t (cleans (group_with log pg h)) c.stay.new.self) (sym (grown-stays h passed facts))
    (c.stay.ensures.stays h (cleans (group_with log pg h)) (facts ∷ replicate passed facts) is.keeps.intervals_are
    (omega (arith, length-replicate passed facts, later log pg inc c.args.self.now c.epoch.result is fine (c.epoch.ensures (then_with (incs_of log) inc) after)))))
    (names-stay log inc pg h passed facts c.args.self.now.named is.keeps.named_are)

pub returns-clause-ok : goal.returns-clause-ok
returns-clause-ok c = λ log pg inc is fine told after lies.
    let h = is.history in
    let members = c.args.members in
    let current : c.current-current.result.1 ≡ h.current = c.current-current.ensures.members h (cleans (group_with log pg h)) is.keeps.intervals_are in
    let moved : members ≢ h.current = λ same. differ members c.current-current.result.1 (sym c.is_same.ensures ∙ c.if-is_same.false) (same ∙ sym current) in
    let facts : c.args.facts ≡ primary_facts (incs_of log) h.current.acting_primary =
    same_Some c.args.facts (primary_facts (incs_of log) h.current.acting_primary)
    (sym told ∙ ap (λ (o : Option Membership). option_map (primary_facts (incs_of log)) (option_map (λ (m : Membership). m.acting_primary) o)) (history-current (incs_of log) pg h is.history_is)) in
    let passed : ℕ = passed_over (incs_of log) inc in
    IsGroupOf-inc log inc pg c.args.self.now _ members is fine lies refl refl refl refl
    (subst (λ (f : PrimaryFacts). IsIntervalsOf enough_of is_by_place (grown h passed members f) (cleans (group_with log pg h)) c.step.new.self) facts
    (c.in_ok-step.ensures.ok h (cleans (group_with log pg h)) passed is.keeps.intervals_are (later log pg inc c.args.self.now c.epoch-2.result is fine (c.epoch-2.ensures (then_with (incs_of log) inc) after))))
    (names-end log inc pg h passed members (primary_facts (incs_of log) h.current.acting_primary) c.args.self.now.named c.add_places.new.self c.add_places-2.new.self moved
    (λ osd. c.add_places.ensures.osds osd ∙ (λ i. has_osd osd (current i).up || list_any (nat_eq osd) (c.make_room.ensures.same i)))
    (λ osd. c.add_places-2.ensures.osds osd ∙ (λ i. has_osd osd (current i).acting || list_any (nat_eq osd) c.add_places.new.self.osds.items))
    is.keeps.named_are)

pub returns-in_err-make_room-clause-wants : goal.returns-in_err-make_room-clause-wants
returns-in_err-make_room-clause-wants c =
    on_err c.from_residual.result _
    (grind (arith, elsewhere c.args.self.now c.args.members c.current-current.result.1 (sym c.is_same.ensures ∙ c.if-is_same.false) c.current-current.ensures.members))

pub returns-in_err-step-clause-wants : goal.returns-in_err-step-clause-wants
returns-in_err-step-clause-wants c =
    on_err c.from_residual-in_err-step.result _
    (grind (arith, elsewhere c.args.self.now c.args.members c.current-current.result.1 (sym c.is_same.ensures ∙ c.if-is_same.false) c.current-current.ensures.members))

pub returns-in_err-make_room-clause-err : goal.returns-in_err-make_room-clause-err
returns-in_err-make_room-clause-err c =
    same_after_error c.from_residual.result c.args.self.now _ refl refl (λ g kept. kept) (λ g kept. kept) c.in_err-make_room.ensures.same refl

pub returns-in_err-step-clause-err : goal.returns-in_err-step-clause-err
returns-in_err-step-clause-err c =
    same_after_error c.from_residual-in_err-step.result c.args.self.now _ refl c.in_err-step.ensures.err (λ g kept. kept) (λ g kept. kept) c.in_ok-make_room.ensures.same refl
