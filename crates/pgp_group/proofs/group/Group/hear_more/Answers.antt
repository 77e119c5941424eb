use Rattle.pgp_group.proofs.Common.{◌≡◌, Some, ap, refl, subst, sym, ◌∙◌, option_copied, Info, IsLogOf, GroupLog, reports, Keeps, reported, AreLogsOf, member_log, best, IsPresent, arith}
use Rattle.pgp_group.proofs.PartLemmas.{heard-is}
use Rattle.pgp_group.proofs.ReportsLemmas.{AreLogsOf-renewed, KeepsReports-renewed}
use Rattle.pgp_group.proofs.group.Group.hear_more.Goals as goal
use Rattle.pgp_group.proofs.group.Group.hear_more.Goals.{After-best}

-- the best of those that are heard after the looks is the best of the group
led : (c : After-best) (g : GroupLog) → Keeps g c.args.self.now → IsPresent g c.args.map.now c.args.first
    → c.args.current.now ≡ g.history.current → best g ≡ option_copied c.best.result
led c g keeps here current =
    grind (arith, heard-is g c.look.new.self.heard c.of_pool-prefer.result (c.in_ok-look.ensures.ok g here keeps.infos_are) (grind arith))

pub returns-in-Some-clause-logs : goal.returns-in-Some-clause-logs
returns-in-Some-clause-logs c = λ g keeps here current.
    let all : AreLogsOf g (reports g) c.look-2.new.self.logs.of_members.items = c.in_ok-look-2.ensures.ok g here keeps.reports_are in
    let first : best g ≡ Some c.in-Some.best.now = led (goal.at.returns-in-Some-clause-logs c).After-best g keeps here current ∙ ap option_copied c.in-Some.is in
    record {
      each = AreLogsOf-renewed g (reports g) c.look-2.new.self.logs.of_members.items c.renew.new.self.of_members.items c.renew.ensures.entries all;
      best_by_info = λ info log best_is found.
          let same : c.in-Some.best.now ≡ info = let both : Some c.in-Some.best.now ≡ Some info = sym first ∙ best_is in cc in
          subst (λ (i : Info). member_log i.member c.renew.new.self.of_members.items ≡ Some log → IsLogOf i (reported g i.member) log.log) same
          (λ there. c.renew.ensures.bounds log (reported g c.in-Some.best.now.member) (all c.in-Some.best.now.member) there) found;
    }

pub returns-in_default-clause-logs : goal.returns-in_default-clause-logs
returns-in_default-clause-logs c = λ g keeps here current. grind (arith, led (goal.at.returns-in_default-clause-logs c).After-best g keeps here current)

pub returns-in-Some-clause-kept : goal.returns-in-Some-clause-kept
returns-in-Some-clause-kept c = λ g keeps here. record {
  pg_is = keeps.pg_is;
  intervals_are = keeps.intervals_are;
  infos_are = c.look.ensures.kept g here keeps.infos_are;
  reports_are =
      KeepsReports-renewed g c.look-2.new.self _ (c.look-2.ensures.kept g here keeps.reports_are) refl c.renew.ensures.entries c.renew.ensures.each;
  named_are = keeps.named_are;
  prior_is = keeps.prior_is;
}

pub returns-in_default-clause-kept : goal.returns-in_default-clause-kept
returns-in_default-clause-kept c = λ g keeps here. record {
  pg_is = keeps.pg_is;
  intervals_are = keeps.intervals_are;
  infos_are = c.look.ensures.kept g here keeps.infos_are;
  reports_are = c.look-2.ensures.kept g here keeps.reports_are;
  named_are = keeps.named_are;
  prior_is = keeps.prior_is;
}
