-- What becomes of a world's log.
use Rattle.pgp_shard.proofs.Common.{◌≡◌, ℕ, suc, ◌<◌, drop, if◌then◌else◌, Err, List, [], ◌∷◌, ◌++◌, inl, inr, Option, Some, None, Bool, true, false, refl, sym, ap, ap₂, ◌∙◌, append-nil, append_assoc, subst, arith, slice_index, alloc_error, length-take, list_any, or_parts, true≢false, Entry, Refusal, fits, is_legal, World, Step, Reply, after, after_absorb, after_all, after_submit, replies, reply_to, submit_reply, Submit, Absorb, Ask, Submitted, Absorbed, Asked, HasReadPart, IsTaken, IsWanting, MayReply, MayRun, IsFewer, IsDone, done_at, done_of, is_want, taken_at, taken_of}
use Rattle.pgp_ids.specs.declared.ask_refusal.AskRefusal.TheVariants as ask
use Rattle.pgp_ids.specs.declared.refusal.Refusal.TheVariants as refusal
use Rattle.pgp_shard.specs.WorldRun.{replies_at}
use Rattle.pgp_log.proofs.LogLemmas.{legal-snoc}

submit-legal : (w : World) (new : Entry) (why : Option Refusal) → fits w.log new ≡ why → is_legal w.log ≡ true → is_legal (after_submit w new why).log ≡ true
submit-legal w new None fit legal = legal-snoc w.log new legal fit
submit-legal w new (Some refused) fit legal = legal

pub step-legal : (w : World) (step : Step) → is_legal w.log ≡ true → is_legal (after w step).log ≡ true
step-legal w (Submit new) legal = submit-legal w new (fits w.log new) refl legal
step-legal w step legal = legal

-- ---- a step that may be out of memory

wanting-legal : (w next : World) (step : Step) (reply : Reply) → IsWanting w step reply next → is_legal w.log ≡ true → is_legal next.log ≡ true
wanting-legal w next (Absorb shard count) reply is legal = ap (λ (v : World). is_legal v.log) is.1.next_is ∙ legal
wanting-legal w next step reply is legal = ap (λ (v : World). is_legal v.log) is.1.0 ∙ legal

reply-legal : (w next : World) (step : Step) (reply : Reply) → MayReply w step reply next → is_legal w.log ≡ true → is_legal next.log ≡ true
reply-legal w next step reply (inl is) legal = ap (λ (v : World). is_legal v.log) is.next_is ∙ step-legal w step legal
reply-legal w next step reply (inr is) legal = wanting-legal w next step reply is legal

-- what it wants of memory, it says
wanting-says : (w next : World) (step : Step) (reply : Reply) → IsWanting w step reply next → is_want reply ≡ true
wanting-says w next (Submit new) reply is = ap is_want is.0
wanting-says w next step reply is = ap is_want is.0

-- the log grows by what it says to have taken
submit-log : (w : World) (new : Entry) (why : Option Refusal) → (after_submit w new why).log ≡ w.log ++ taken_at (Submit new) (Submitted (submit_reply w why))
submit-log w new None = refl
submit-log w new (Some refused) = sym (append-nil w.log)

step-log : (w : World) (step : Step) → (after w step).log ≡ w.log ++ taken_at step (reply_to w step)
step-log w (Submit new) = submit-log w new (fits w.log new)
step-log w step = sym (append-nil w.log)

wanting-log : (w next : World) (step : Step) (reply : Reply) → IsWanting w step reply next → next.log ≡ w.log ++ taken_at step reply
wanting-log w next (Submit new) reply is = ap (λ (v : World). v.log) is.1.0 ∙ sym (append-nil w.log) ∙ ap (λ r. w.log ++ taken_at (Submit new) r) (sym is.0)
wanting-log w next (Absorb shard count) reply is = ap (λ (v : World). v.log) is.1.next_is ∙ sym (append-nil w.log)
wanting-log w next (Ask pg) reply is = ap (λ (v : World). v.log) is.1.0 ∙ sym (append-nil w.log)

reply-log : (w next : World) (step : Step) (reply : Reply) → MayReply w step reply next → next.log ≡ w.log ++ taken_at step reply
reply-log w next step reply (inl is) = ap (λ (v : World). v.log) is.next_is ∙ step-log w step ∙ ap (λ r. w.log ++ taken_at step r) (sym is.reply_is)
reply-log w next step reply (inr is) = wanting-log w next step reply is

-- ---- runs

pub run-legal : (w last : World) (steps : List Step) (given : List Reply) → MayRun w steps given last → is_legal w.log ≡ true → is_legal last.log ≡ true
run-legal w last [] [] is legal = ap (λ (v : World). is_legal v.log) is ∙ legal
run-legal w last (step ∷ steps) (reply ∷ given) is legal = run-legal is.0 last steps given is.1.1 (reply-legal w is.0 step reply is.1.0 legal)
run-legal w last steps given is legal = absurd is

pub run-log : (w last : World) (steps : List Step) (given : List Reply) → MayRun w steps given last → last.log ≡ w.log ++ taken_of steps given
run-log w last [] [] is = ap (λ (v : World). v.log) is ∙ sym (append-nil w.log)
run-log w last (step ∷ steps) (reply ∷ given) is =
    run-log is.0 last steps given is.1.1 ∙ ap (λ l. l ++ taken_of steps given) (reply-log w is.0 step reply is.1.0)
    ∙ append_assoc w.log (taken_at step reply) (taken_of steps given)
run-log w last steps given is = absurd is

taken_if : (w next : World) (step : Step) (reply : Reply) → MayReply w step reply next → is_want reply ≡ false → IsTaken w step reply next
taken_if w next step reply (inl is) other = is
taken_if w next step reply (inr is) other = absurd (true≢false (sym (wanting-says w next step reply is) ∙ other))

pub run-answers : (w last : World) (steps : List Step) (given : List Reply) → MayRun w steps given last → list_any is_want given ≡ false
    → (given ≡ replies w steps) × (last ≡ after_all w steps)
run-answers w last [] [] is other = (refl, is)
run-answers w last (step ∷ steps) (reply ∷ given) is other =
    let parts = or_parts (is_want reply) (list_any is_want given) other in
    let first : IsTaken w step reply is.0 = taken_if w is.0 step reply is.1.0 parts.0 in
    let rest = run-answers is.0 last steps given is.1.1 parts.1 in (
      ap₂ (λ (r : Reply) (l : List Reply). r ∷ l) first.reply_is (rest.0 ∙ ap (λ (v : World). replies v steps) first.next_is),
      rest.1 ∙ ap (λ (v : World). after_all v steps) first.next_is,
    )
run-answers w last steps given is other = absurd is

-- ---- what was done in a run

replies-append : (w : World) (first later : List Step) → replies w (first ++ later) ≡ replies w first ++ replies (after_all w first) later
replies-append w [] later = refl
replies-append w (step ∷ first) later = ap (λ (l : List Reply). reply_to w step ∷ l) (replies-append (after w step) first later)

after_all-append : (w : World) (first later : List Step) → after_all w (first ++ later) ≡ after_all (after_all w first) later
after_all-append w [] later = refl
after_all-append w (step ∷ first) later = after_all-append (after w step) first later

-- what a step did, as far as there was memory for it
record Does (w : World) (step : Step) (reply : Reply) (next : World) : Type 0 where
  pub read : ℕ
  pub fewer : IsFewer step reply read
  pub told : replies_at step reply ≡ replies w (done_at step reply read)
  pub next_is : next ≡ after_all w (done_at step reply read)

told_if : (b : Bool) (w : World) (step : Step) → (if b then [] else reply_to w step ∷ []) ≡ replies w (if b then [] else step ∷ [])
told_if true w step = refl
told_if false w step = refl

next_if : (b : Bool) (w : World) (step : Step) → (b ≡ true → after w step ≡ w) → after w step ≡ after_all w (if b then [] else step ∷ [])
next_if true w step same = same refl
next_if false w step same = refl

-- a refused entry changes nothing
refused_same : (w : World) (new : Entry) (why : Option Refusal) → is_want (Submitted (submit_reply w why)) ≡ true → after_submit w new why ≡ w
refused_same w new None want = cc
refused_same w new (Some refused) want = refl

taken_does : (w : World) (step : Step) → Does w step (reply_to w step) (after w step)
taken_does w (Submit new) = record {
  read = 0;
  fewer = tt;
  told = told_if (is_want (reply_to w (Submit new))) w (Submit new);
  next_is = next_if (is_want (reply_to w (Submit new))) w (Submit new) (refused_same w new (fits w.log new));
}
taken_does w (Absorb shard count) = record { read = 0; fewer = tt; told = refl; next_is = refl }
taken_does w (Ask pg) = record {
  read = 0;
  fewer = tt;
  told = told_if (is_want (reply_to w (Ask pg))) w (Ask pg);
  next_is = next_if (is_want (reply_to w (Ask pg))) w (Ask pg) (λ _. refl);
}

does_along : (w : World) (step : Step) (reply other : Reply) (next same : World) → reply ≡ other → next ≡ same → Does w step other same → Does w step reply next
does_along w step reply other next same same_reply same_next does =
    subst (λ (r : Reply). Does w step r next) (sym same_reply) (subst (λ (v : World). Does w step other v) (sym same_next) does)

wanting_does : (w next : World) (step : Step) (reply : Reply) → IsWanting w step reply next → Does w step reply next
wanting_does w next (Submit new) reply is =
    does_along w (Submit new) reply (Submitted (Err refusal.Memory)) next w is.0 is.1.0 (record { read = 0; fewer = tt; told = refl; next_is = refl })
wanting_does w next (Absorb shard count) reply is =
    let part : HasReadPart w shard count next = is.1 in
    let fewer : part.read < count = omega (arith, part.fewer, length-take count (drop (slice_index w.read shard) w.log)) in
    does_along w (Absorb shard count) reply (Absorbed (Err alloc_error)) next (after_absorb w shard part.read) is.0 part.next_is
    (record { read = part.read; fewer = fewer; told = refl; next_is = refl })
wanting_does w next (Ask pg) reply is =
    does_along w (Ask pg) reply (Asked (Err ask.Memory)) next w is.0 is.1.0 (record { read = 0; fewer = tt; told = refl; next_is = refl })

reply_does : (w next : World) (step : Step) (reply : Reply) → MayReply w step reply next → Does w step reply next
reply_does w next step reply (inl is) = does_along w step reply (reply_to w step) next (after w step) is.reply_is is.next_is (taken_does w step)
reply_does w next step reply (inr is) = wanting_does w next step reply is

pub run-done : (w last : World) (steps : List Step) (given : List Reply) → MayRun w steps given last → IsDone w steps given last
run-done w last [] [] is = record { reads = []; each = refl; fewer = tt; replies_are = refl; last_is = is }
run-done w last (step ∷ steps) (reply ∷ given) is =
    let does = reply_does w is.0 step reply is.1.0 in
    let rest = run-done is.0 last steps given is.1.1 in
    let first = done_at step reply does.read in
    let later = done_of steps given rest.reads in
    record {
      reads = does.read ∷ rest.reads;
      each = ap suc rest.each;
      fewer = (does.fewer, rest.fewer);
      replies_are = ap₂ (λ (a b : List Reply). a ++ b) does.told (rest.replies_are ∙ ap (λ (v : World). replies v later) does.next_is) ∙ sym (replies-append w first later);
      last_is = rest.last_is ∙ ap (λ (v : World). after_all v later) does.next_is ∙ sym (after_all-append w first later);
    }
run-done w last steps given is = absurd is
