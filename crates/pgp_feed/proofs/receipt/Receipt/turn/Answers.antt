use Rattle.std.proofs.Common.{◌≡◌, sym, ◌∙◌, ap, arith}
use Rattle.pgp_ids.specs.declared.entry.Entry.TheVariants.{Close}
use Rattle.pgp_feed.proofs.Adding.{takes_moves}
use Rattle.pgp_log.proofs.LogLemmas.{legal-short}
use Rattle.pgp_feed.proofs.receipt.Receipt.turn.Goals as goal

pub overflow_add-len : goal.overflow_add-len
overflow_add-len c = let r = c.args.self.now in omega (arith, legal-short r.seen.log r.legal, r.within)

pub compare_exchange-found-requires : goal.compare_exchange-found-requires
compare_exchange-found-requires c =
    let r = c.args.self.now in
    let h = c.requires in
    let seen = c.again-seen.ensures in
    let offer = c.plain-offer.ensures in
    let pen = c.no_pen-pen.ensures in (
      ap (λ w. w.tracked) h,
      ap (λ s. s.book) seen ∙ sym (ap (λ w. w.book) h),
      pen.0 ∙ (ap (λ s. s.book) seen ∙ sym (ap (λ w. w.book) h)),
      offer.0,
      rw (ap (λ w. w.key) h, pen.1, offer.3, ap (λ s. s.log) seen) (takes_moves r.seen.log Close r.len r.within),
    )
