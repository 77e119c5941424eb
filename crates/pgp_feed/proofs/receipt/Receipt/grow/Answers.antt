use Rattle.std.proofs.Common.{◌≡◌, List, length, take, None, sym, ◌∙◌, ap, subst, arith}
use Rattle.pgp_ids.specs.declared.entry.Entry.{Entry}
use Rattle.pgp_log.specs.Fits.{fits}
use Rattle.pgp_feed.specs.Book.{turn_key}
use Rattle.pgp_feed.proofs.Lengths.{legal-room}
use Rattle.pgp_feed.proofs.Adding.{adds_moves, take-whole}
use Rattle.pgp_log.proofs.LogLemmas.{legal-short, legal-take}
use Rattle.pgp_feed.proofs.receipt.Receipt.grow.Goals as goal

pub overflow_add-len : goal.overflow_add-len
overflow_add-len c = let r = c.args.self.now in omega (arith, legal-short r.seen.log r.legal, r.within)

pub overflow_add-result : goal.overflow_add-result
overflow_add-result c = let r = c.args.self.now in omega (arith, legal-short r.seen.log r.legal, r.within)

pub compare_exchange-requires : goal.compare_exchange-requires
compare_exchange-requires c =
    let r = c.args.self.now in
    let h = c.requires.word in
    let seen = c.again-seen.ensures in
    let offer = c.plain-offer.ensures in
    let turn = c.requires.turn in
    let whole : r.len ≡ length r.seen.log = c.requires.whole in
    let fit : fits r.seen.log c.args.entry.now ≡ None = subst (λ (l : List Entry). fits l c.args.entry.now ≡ None) (take-whole r.len r.seen.log whole) c.requires.fit in (
      ap (λ w. w.tracked) h,
      ap (λ s. s.book) seen ∙ sym (ap (λ w. w.book) h),
      turn.book ∙ sym (ap (λ w. w.book) h),
      offer.0,
      rw (ap (λ w. w.key) h, offer.1, offer.3, ap (λ s. s.log) seen) (adds_moves r.seen.log c.args.turn.now.nib c.args.entry.now r.len (sym whole) turn.right turn.key fit),
    )

pub returns-clause-room : goal.returns-clause-room
returns-clause-room c =
    let r = c.args.self.now in legal-room (take r.len r.seen.log) c.args.entry.now (legal-take r.len r.seen.log r.legal) c.requires.fit
