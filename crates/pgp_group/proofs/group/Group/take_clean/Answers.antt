use Rattle.pgp_group.proofs.Common.{◌≡◌, ℕ, [], ◌∷◌, ◌++◌, append-nil, ap, sym, ◌∙◌, enough_of, is_by_place, AnyCode, History, Running, IsIntervalsOf, past_intervals, GroupLog, cleans, past, arith}
use Rattle.pgp_group.proofs.PriorLemmas.{KeepsPrior-grown, KeepsPrior-raised}
use Rattle.pgp_group.proofs.group.Group.take_clean.Goals as goal

-- the past intervals with one epoch more are those that are kept now
taken : (g after : GroupLog) (epoch : ℕ) (now : Running AnyCode) → after.history ≡ g.history → cleans after ≡ cleans g ++ epoch ∷ []
    → IsIntervalsOf enough_of is_by_place g.history (cleans g ++ epoch ∷ []) now → past after ≡ now.past
taken g after epoch now same told is = (λ i. past_intervals enough_of is_by_place (told i) (same i)) ∙ sym is.past_are

pub returns-in-Some-clause-prior : goal.returns-in-Some-clause-prior
returns-in-Some-clause-prior c = λ g after known are same told rises is.
    KeepsPrior-raised g after c.args.self.now.reckoned c.raise.new.self c.in-Some.place (ap (λ (h : History AnyCode). h.code) same)
    (grind (arith, taken g after c.args.epoch c.clean.new.self same told (c.clean.ensures.history g.history (cleans g) are))) rises c.raise.ensures is

pub returns-in_default-clause-prior : goal.returns-in_default-clause-prior
returns-in_default-clause-prior c = λ g after known are same told rises is.
    KeepsPrior-grown g after c.args.self.now.reckoned [] (ap (λ (h : History AnyCode). h.code) same)
    (grind (arith, taken g after c.args.epoch c.clean.new.self same told (c.clean.ensures.history g.history (cleans g) are), append-nil (past g))) rises is
