use Rattle.std.proofs.Common.{◌≡◌, List, [], ◌∷◌, ◌++◌, None, ap, sym, ◌∙◌, subst}
use Rattle.pgp_ids.specs.declared.entry.Entry.{Entry}
use Rattle.pgp_log.specs.Fits.{fits}
use Rattle.pgp_feed.specs.Receipts.{entries_of}
use Rattle.pgp_feed.specs.Feeds.{told_of}
use Rattle.pgp_engine.specs.kept.Members.{Follows}
use Rattle.pgp_engine.proofs.JudgeLemmas.{counts_no_less, took_or_not}
use Rattle.pgp_engine.proofs.intake.judging.publish.Goals as goal

pub returns-clause-follows : goal.returns-clause-follows
returns-clause-follows g c =
    let log : List Entry = entries_of (told_of c.args.feed.now) in
    let new : Entry = c.deref.result.now in
    let is : new ≡ c.args.entry = c.deref.ensures ∙ c.in-Ok.ensures.ok in
    let fit : fits log new ≡ None = subst (λ (e : Entry). fits log e ≡ None) (sym is) c.requires.fit in
    let told : entries_of (told_of c.publish_shared.new.self) ≡ log ++ new ∷ [] =
    ap entries_of (sym c.in_ok-told.ensures.published.0) ∙ (c.in_ok-told.ensures.published.1 ∙ ap (λ (e : Entry). log ++ e ∷ []) (c.in-Ok.ensures.ok ∙ sym is)) in
    subst (λ (l : List Entry). Follows l c.take.new.self) (sym told)
    (took_or_not c.take.result log new c.args.judge.now c.take.new.self c.requires.judge fit c.take.ensures.ok c.take.ensures.err)

pub returns-clause-judged : goal.returns-clause-judged
returns-clause-judged g c =
    let log : List Entry = entries_of (told_of c.args.feed.now) in
    let new : Entry = c.deref.result.now in
    let is : new ≡ c.args.entry = c.deref.ensures ∙ c.in-Ok.ensures.ok in
    let fit : fits log new ≡ None = subst (λ (e : Entry). fits log e ≡ None) (sym is) c.requires.fit in
    counts_no_less c.take.result log new c.args.judge.now c.take.new.self c.requires.judge fit c.take.ensures.ok c.take.ensures.err
