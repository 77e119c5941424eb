use Rattle.pgp_group.proofs.Common.{◌≡◌, Some, true, ap, map, refl, subst, sym, ◌∙◌, arith, is_some, option_map, option_copied, Info, IsLogOf, GroupLog, AreHeard, reported, has_whole_log, others_heard, peer_missing, present_members, member_log, best}
use Rattle.pgp_group.specs.kept.Parts.{AreLogsHeard}
use Rattle.pgp_group.proofs.PartLemmas.{best-is, log-there, no-log, no-whole, present-is, states-whole, whole-best}
use Rattle.pgp_group.proofs.group.Group.best_copy.Goals as goal
use Rattle.pgp_group.proofs.group.Group.best_copy.Goals.{After-whole, in-Some-log_of, in-None}

-- the log that is followed is that of the best info
follows : (c : After-whole) (g : GroupLog) → AreHeard g c.args.heard.now → AreLogsHeard g c.args.self.now.reports.logs.of_members.items
    → (best g ≡ Some c.in-Some.best.now) × IsLogOf c.in-Some.best.now (reported g c.in-Some.best.now.member) c.match-log_of.log.now
follows c g heard kept =
    let info = c.in-Some.best.now in
    let best_is : best g ≡ Some info = sym (best-is g c.args.heard.now heard) ∙ sym c.best.ensures ∙ ap option_copied c.in-Some.is in (
      best_is,
      elim c.match-log_of.branch [
        | in-Some-log_of w ↦
            let there = log-there (member_log info.member c.args.self.now.reports.logs.of_members.items) w.in-Some-log_of.log.now
            (sym (ap option_copied w.in-Some-log_of.is) ∙ c.log_of.ensures) in
            rw w.log-is (subst (IsLogOf info (reported g info.member)) there.2 (kept.best_by_info info there.0 best_is there.1))
        | in-None w ↦ rw w.log-is (record {
          from_tail = c.begin-empty.ensures.from_tail;
          to_last = c.begin-empty.ensures.to_last;
          of_reported = c.begin-empty.ensures.of_reported
              ∙ no-log (member_log info.member c.args.self.now.reports.logs.of_members.items) (sym (ap option_copied w.in-None.is) ∙ c.log_of.ensures)
              ∙ kept.each info.member;
        })
      ],
    )

pub returns-then-not-whole : goal.returns-then-not-whole
returns-then-not-whole c = λ g keeps current heard kept.
    let info = c.in-Some.best.now in
    let log = follows (goal.at.returns-then-not-whole c).After-whole g heard kept in
    no-whole g info _ log.0 (sym (c.whole.ensures info (reported g info.member) log.1) ∙ c.if-not-whole.true) c.no_log_to_follow-then-not-whole.ensures.member c.no_log_to_follow-then-not-whole.ensures.whole c.no_log_to_follow-then-not-whole.ensures.states

pub returns : goal.returns
returns c = λ g keeps current heard kept.
    let info = c.in-Some.best.now in
    let log = follows (goal.at.returns c).After-whole g heard kept in
    let whole : has_whole_log g info ≡ true = sym (c.whole.ensures info (reported g info.member) log.1) ∙ c.if-not-whole.false in
    let members : c.as_slice.result.now ≡ present_members g =
    c.as_slice.ensures.value ∙ c.in_ok-members.ensures ∙ present-is g c.by_place-by_place.result c.args.current.now (grind (arith, keeps.intervals_are.code_is)) current in
    record {
      member = sym (ap (option_map (λ (i : Info). i.member)) log.0);
      whole = sym (ap is_some (whole-best g info log.0 whole));
      states = c.from_vec.ensures ∙ c.in_ok-states.ensures info (reported g info.member) log.1 refl
          ∙ (λ i. map (peer_missing g info) (others_heard (members i) (heard.infos i) info))
          ∙ sym (states-whole g info log.0 whole);
    }
