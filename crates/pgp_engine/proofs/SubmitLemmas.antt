-- What an intake's answer says of the front that the caller's receipt names.
use Rattle.std.proofs.Common.{◌≡◌, List, [], ◌∷◌, ◌++◌, length, Some, Result, Ok, Err, MatchResult, ap, sym, ◌∙◌, subst, arith, append_assoc, length-append}
use Rattle.logbook.specs.Pages.{Book}
use Rattle.pgp_ids.specs.declared.entry.Entry.{Entry}
use Rattle.pgp_log.specs.Fits.{fits}
use Rattle.pgp_log.specs.Log.{IsFrontOf}
use Rattle.pgp_feed.specs.declared.receipt.Receipt.{Receipt}
use Rattle.pgp_feed.specs.Receipts.{entries_of, feed_of}
use Rattle.pgp_engine.specs.declared.fault.SubmitFault.{SubmitFault}
use Rattle.pgp_engine.specs.declared.answer.SubmitAnswer.{SubmitAnswer}
use Rattle.pgp_engine.specs.declared.fault.SubmitFault.TheVariants.{Refused, Memory, NoReader}
use Rattle.pgp_engine.specs.Fronts.{Names}
use Rattle.pgp_engine.specs.Intakes.{MayRefuse, MayFailToSubmit, IsSubmitted}
use Rattle.pgp_engine.proofs.FrontLemmas.{front_short, receipt_legal}

pub submitted : (r : Result SubmitAnswer SubmitFault) (feed : Book) (q : Receipt) (old new : List Entry) (entry : Entry)
    → feed_of q ≡ feed → IsFrontOf (entries_of q) old
    → MatchResult r (λ _. new ≡ old ++ entry ∷ []) (λ _. new ≡ old)
    → MatchResult r (λ s. Names feed new s.at) (MayRefuse feed old entry)
    → MatchResult r (λ s. IsSubmitted q entry s.at) (MayFailToSubmit q entry)
submitted (Ok s) feed q old new entry of f is named =
    let whole : entries_of s.at ≡ old ++ entry ∷ [] = named.entries ∙ is in
    record {
      holds = record {
        feed = of ∙ sym named.of_feed;
        front = record {
          rest = f.rest ++ entry ∷ [];
          whole = whole ∙ (ap (λ l. l ++ entry ∷ []) f.whole ∙ append_assoc (entries_of q) f.rest (entry ∷ []));
        };
      };
      longer = omega (arith, ap length whole, length-append old (entry ∷ []), front_short (entries_of q) old f);
      before = old;
      last = whole;
      legal = receipt_legal s.at;
    }
submitted (Err (Refused why at)) feed q old new entry of f is refused =
    let there : old ≡ entries_of at = sym refused.named.entries in
    record {
      holds = record {
        feed = of ∙ sym refused.named.of_feed;
        front = subst (λ (l : List Entry). IsFrontOf (entries_of q) l) there f;
      };
      refused = subst (λ (l : List Entry). fits l entry ≡ Some why) there refused.refused;
      legal = receipt_legal at;
    }
submitted (Err Memory) feed q old new entry of f is refused = tt
submitted (Err NoReader) feed q old new entry of f is refused = tt
