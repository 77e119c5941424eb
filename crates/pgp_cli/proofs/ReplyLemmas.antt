-- What an engine answers, as replies to commands by a front that holds the one that was handed in.
use Rattle.std.proofs.Common.{◌≡◌, ℕ, ◌+◌, ◌<◌, List, [], ◌∷◌, ◌++◌, length, true, false, Some, None, refl, ap, ap₂, sym, ◌∙◌, subst, arith, length-append}
use Rattle.pgp_ids.specs.declared.locate_refusal.LocateRefusal.TheVariants.{UnknownPool}
use Rattle.pgp_ids.specs.declared.refusal.Refusal.{Refusal}
use Rattle.pgp_ids.specs.declared.entry.Entry.{Entry}
use Rattle.pgp_ids.specs.declared.membership.Membership.{Membership}
use Rattle.pgp_ids.specs.declared.pg_id.PgId.{PgId}
use Rattle.pgp_map.specs.Pools.{pool}
use Rattle.pgp_group.specs.Entries.{incs_of}
use Rattle.pgp_lines.specs.declared.command.Command.TheVariants.{Submit, Locate}
use Rattle.pgp_text.specs.declared.reply.Reply.TheVariants.{Accepted, Located, Refused}
use Rattle.pgp_text.specs.declared.reply.line_refusal.LineRefusal.TheVariants as why
use Rattle.pgp_lines.specs.Op.{entry_op}
use Rattle.pgp_log.specs.Fits.{fits}
use Rattle.pgp_log.specs.Locate.{place_with, place_of_object}
use Rattle.pgp_log.specs.Log.{epoch_of, is_legal, IsFrontOf}
use Rattle.pgp_log.proofs.LogLemmas.{front-legal, legal-last}
use Rattle.pgp_core.specs.Answer.{located_reply, submitted_reply, log_with}
use Rattle.pgp_core.specs.Answerer.{Replies}
use Rattle.pgp_core.proofs.LocateLemmas.{located-there}
use Rattle.pgp_feed.specs.declared.receipt.Receipt.{Receipt}
use Rattle.pgp_feed.specs.Receipts.{entries_of}
use Rattle.pgp_engine.proofs.FrontLemmas.{receipt_legal}
use Rattle.pgp_engine.specs.Intakes.{IsSubmitted, IsRefusedAt}

-- a shorter front is one of all but the last entry
front-before : (front before rest : List Entry) (last : Entry) → before ++ last ∷ [] ≡ front ++ rest → length front < length (before ++ last ∷ [])
    → IsFrontOf front before
front-before [] before rest last same shorter = record { rest = before; whole = refl }
front-before (x ∷ front) [] rest last same shorter = absurd (omega (arith, shorter))
front-before (x ∷ front) (y ∷ before) rest last same shorter =
    let head : y ≡ x = cc in
    let tail : before ++ last ∷ [] ≡ front ++ rest = cc in
    let f = front-before front before rest last tail (omega (arith, shorter)) in
    record { rest = f.rest; whole = ap₂ (λ (e : Entry) (log : List Entry). e ∷ log) head f.whole }

pub submitted : (q r : Receipt) (entry : Entry) (count epoch : ℕ) → IsSubmitted q entry r → count ≡ length (entries_of r) → epoch ≡ epoch_of (entries_of r)
    → Replies false (entries_of q) (entries_of r) (Submit entry) (Accepted (entry_op entry) count epoch)
submitted q r entry count epoch s counts at =
    let fit : fits s.before entry ≡ None = legal-last s.before entry (subst (λ (log : List Entry). is_legal log ≡ true) s.last s.legal) in
    let one : length (entries_of r) ≡ length s.before + 1 = ap length s.last ∙ length-append s.before (entry ∷ []) in
    record {
      by = s.before;
      may = (
        front-before (entries_of q) s.before s.holds.front.rest entry (sym s.last ∙ s.holds.front.whole)
            (subst (λ (log : List Entry). length (entries_of q) < length log) s.last s.longer),
        λ _. front-legal s.before (entry ∷ []) (subst (λ (log : List Entry). is_legal log ≡ true) s.last s.legal),
      );
      is = ap₂ (Accepted (entry_op entry)) (counts ∙ one) (at ∙ ap epoch_of s.last) ∙ ap (submitted_reply s.before entry) (sym fit);
      log = s.last ∙ ap (log_with s.before entry) (sym fit);
    }

pub refused : (q at : Receipt) (entry : Entry) (reason : Refusal) → IsRefusedAt q entry reason at
    → Replies false (entries_of q) (entries_of at) (Submit entry) (Refused (why.Entry reason))
refused q at entry reason r = record {
  by = entries_of at;
  may = (r.holds.front, λ _. r.legal);
  is = ap (submitted_reply (entries_of at) entry) (sym r.refused);
  log = ap (log_with (entries_of at) entry) (sym r.refused);
}

-- ---- objects

-- the receipt that was found by holds the one that was learnt
pub located : (q at : Receipt) (id : ℕ) (name : List ℕ) (pg : PgId) (members : Membership) (now : ℕ) → IsFrontOf (entries_of q) (entries_of at)
    → place_of_object (incs_of (entries_of at)) id name ≡ Some (place_with pg members) → now ≡ epoch_of (entries_of at)
    → Replies false (entries_of q) (entries_of at) (Locate id name) (Located pg members now)
located q at id name pg members now later lies epoch = record {
  by = entries_of at;
  may = (later, λ _. receipt_legal at);
  is = located-there (entries_of at) id name (place_with pg members) now lies epoch;
  log = refl;
}

pub lies-nowhere : (q at : Receipt) (id : ℕ) (name : List ℕ) → IsFrontOf (entries_of q) (entries_of at) → pool (incs_of (entries_of at)) id ≡ None
    → Replies false (entries_of q) (entries_of at) (Locate id name) (Refused (why.Locate UnknownPool))
lies-nowhere q at id name later none = record {
  by = entries_of at;
  may = (later, λ _. receipt_legal at);
  is = ap (located_reply (entries_of at) id name) (sym none);
  log = refl;
}
