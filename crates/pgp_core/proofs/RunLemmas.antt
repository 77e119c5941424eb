-- How an answering goes on, and how it stops.
use Rattle.std.proofs.Common.{◌≡◌, ◌≢◌, ◌⊎◌, ℕ, ◌+◌, ◌-◌, ◌<◌, ◌≤◌, List, [], ◌∷◌, ◌++◌, Bool, true, false, Option, drop, length, take, refl, sym, ap, ◌∙◌, append_assoc, append-nil, arith, take-append-drop, take_all, nat_lt, inl, inr, subst, Result, Ok, Err}
use Rattle.std.specs.Result.{IsErrAnd, MatchResult}
use Rattle.std.proofs.lemmas.Bool.{cases_eq}
use Rattle.std.proofs.lemmas.Bool.Decides.{nat_tests}
use Rattle.std.proofs.Math.Seq.{drop-append_seam, take-append-add}
use Rattle.std.specs.List.{list_any}
use Rattle.std.proofs.lemmas.List.{length-append}
use Rattle.pgp_ids.specs.declared.entry.Entry.{Entry}
use Rattle.pgp_lines.specs.declared.command.format.Format.{Format}
use Rattle.pgp_core.specs.Lines.{is_line_feed, cut, last_line, lines_of}
use Rattle.pgp_core.specs.kept.Line.{HoldsLine}
use Rattle.pgp_core.specs.kept.Input.{HasRead}
use Rattle.pgp_core.specs.Output.{WrittenPart, FrontWent}
use Rattle.pgp_core.specs.Script.{IsBeyond, Within, whole_lines}
use Rattle.pgp_core.specs.WrittenFor.{IsWrittenFor, PutsLine, StartsLeft}
use Rattle.pgp_core.specs.Telling.{AreAnswered, RunStart, IsAnsweredWhole, WentBy, IsStopped, StoppedAtLast}
use Rattle.pgp_core.specs.kept.Progress.{IsAfterBytes, ChunkPart}
use Rattle.pgp_core.specs.declared.input.Bounds.{Bounds}
use Rattle.pgp_core.specs.declared.input.Input.{Input}
use Rattle.pgp_core.specs.declared.script.Script.{Script}
use Rattle.pgp_core.specs.declared.fault.ScriptFault.{ScriptFault}
use Rattle.pgp_core.specs.declared.fault.ScriptFault.TheVariants.{Read, Write, Gone}
use Rattle.pgp_core.proofs.OutputLemmas.{WrittenPart-longer, WrittenPart-on, WentBy-pending}
use Rattle.pgp_core.proofs.CutLemmas.{lines_after, cut-goes, lines-closed, some-line}
use Rattle.pgp_core.proofs.InputLemmas.{whole-piece, whole-line}
use Rattle.pgp_core.proofs.LineLemmas.{is-empty}
use Rattle.pgp_core.proofs.WrittenLemmas.{written-push}

-- ---- a fault

-- it is passed on
pub passed_on : {T : Type 0} (r : Result T ScriptFault) (fault : ScriptFault) (P : T → Type 0) (Q : ScriptFault → Type 0)
    → IsErrAnd r (λ f. f ≡ fault) → Q fault → MatchResult r P Q
passed_on (Ok x) fault P Q is holds = absurd is
passed_on (Err f) fault P Q is holds = subst Q (sym is) holds

-- ---- the lines that have ended are the first ones, whatever follows

take_within : {A : Type 0} (n : ℕ) (xs more : List A) → length xs ≤ n → take n (xs ++ more) ≡ xs ++ take (n - length xs) more
take_within n xs more within =
    let split : n ≡ length xs + (n - length xs) = omega arith in
    ap (λ k. take k (xs ++ more)) split ∙ take-append-add xs more (n - length xs)

-- the lines that end in the bytes after these, within the bounds
abbrev pub later_lines : RunStart → List ℕ → List ℕ → List (List ℕ)
later_lines start bytes more =
    take (start.bounds.lines - length (cut bytes).whole) (lines_after (cut bytes).rest (cut (take (start.bounds.bytes - length bytes) more)).whole)

front_of_cut : (start : RunStart) (bytes more : List ℕ) → length bytes ≤ start.bounds.bytes → length (cut bytes).whole ≤ start.bounds.lines
    → whole_lines start.bounds (bytes ++ more) ≡ (cut bytes).whole ++ later_lines start bytes more
front_of_cut start bytes more few_bytes few_lines =
    ap (λ b. take start.bounds.lines (cut b).whole) (take_within start.bounds.bytes bytes more few_bytes)
    ∙ ap (take start.bounds.lines) (cut-goes bytes (take (start.bounds.bytes - length bytes) more))
    ∙ take_within start.bounds.lines (cut bytes).whole (lines_after (cut bytes).rest (cut (take (start.bounds.bytes - length bytes) more)).whole) few_lines

-- all the lines that the bounds allow have ended
all_lines : (start : RunStart) (input : Input) (bytes more : List ℕ) → HasRead start.bounds input bytes → input.left.lines ≡ 0 → later_lines start bytes more ≡ []
all_lines start input bytes more read none =
    let no : start.bounds.lines - length (cut bytes).whole ≡ 0 = omega (arith, read.lines_left, none) in
    rw no refl

-- all the bytes that the bounds allow were read
all_bytes : (start : RunStart) (input : Input) (bytes more : List ℕ) → HasRead start.bounds input bytes → input.left.bytes ≡ 0 → later_lines start bytes more ≡ []
all_bytes start input bytes more read none =
    let no : start.bounds.bytes - length bytes ≡ 0 = omega (arith, read.bytes_left, none) in
    rw no (take_all (start.bounds.lines - length (cut bytes).whole) [] (omega arith))

-- the reader stopped within the bounds
pub all_read : (start : RunStart) (bytes : List ℕ) → later_lines start bytes [] ≡ []
all_read start bytes =
    rw (take_all {A = ℕ} (start.bounds.bytes - length bytes) [] (omega arith)) (take_all (start.bounds.lines - length (cut bytes).whole) [] (omega arith))

-- ---- lines

-- the text for one line more was put behind what is pending
pub told-line : (alone : Bool) (start : RunStart) (format : Format) (before after : List Entry) (lines : List (List ℕ)) (line pending put rest : List ℕ) (now : Option (List ℕ))
    → format ≡ start.format → AreAnswered alone start lines before now pending → PutsLine alone format before after line pending put rest
    → AreAnswered alone start (lines ++ line ∷ []) after now (put ++ rest)
told-line alone start format before after lines line pending put rest now same so_far puts = record {
  out = so_far.out ++ puts.text;
  told = written-push alone start.format start.log before after lines line so_far.out puts.text so_far.told
      (subst (λ f. IsWrittenFor alone f before after line puts.text) same puts.told);
  went = subst (WrittenPart start.written now (so_far.out ++ puts.text)) (sym puts.whole) (WrittenPart-longer start.written now so_far.out pending puts.text so_far.went);
}

-- a front of what was pending went out
pub went-on : (alone : Bool) (start : RunStart) (lines : List (List ℕ)) (log : List Entry) (now new : Option (List ℕ)) (pending still : List ℕ)
    → AreAnswered alone start lines log now pending → WrittenPart now new pending still → AreAnswered alone start lines log new still
went-on alone start lines log now new pending still so_far more =
    record { out = so_far.out; told = so_far.told; went = WrittenPart-on start.written now new so_far.out pending still so_far.went more }

-- the answering stops after these lines
pub stopped : (fault : ScriptFault) (alone : Bool) (start : RunStart) (lines others : List (List ℕ)) (log : List Entry) (now new : Option (List ℕ)) (pending : List ℕ)
    → AreAnswered alone start lines log now pending → WentBy fault now new pending → (fault ≡ Read → others ≡ []) → (fault ≡ Gone → StartsLeft alone start.format others)
    → IsStopped alone start fault new (lines ++ others)
stopped fault alone start lines others log now new pending so_far went all left = record {
  done = lines;
  others = others;
  parts = refl;
  log = log;
  out = so_far.out;
  told = so_far.told;
  went = WentBy-pending fault start.written now new so_far.out pending so_far.went went;
  all = all;
  left = left;
}

-- a write failed
pub cut_off : (alone : Bool) (start : RunStart) (lines others : List (List ℕ)) (log : List Entry) (now new : Option (List ℕ)) (pending : List ℕ)
    → AreAnswered alone start lines log now pending → FrontWent now new pending → IsStopped alone start Write new (lines ++ others)
cut_off alone start lines others log now new pending so_far front =
    stopped Write alone start lines others log now new pending so_far front (λ read. absurd cc) (λ gone. absurd cc)

-- ---- bytes

-- what was pending went out as far as the fault let it, after these bytes
pub stopped-after : (fault : ScriptFault) (alone : Bool) (start : RunStart) (script : Script) (log : List Entry) (now new : Option (List ℕ)) (bytes more : List ℕ)
    → IsAfterBytes alone start script log now bytes → fault ≢ Gone → WentBy fault now new script.output.pending.items
    → (fault ≡ Read → later_lines start bytes more ≡ []) → IsStopped alone start fault new (whole_lines start.bounds (bytes ++ more))
stopped-after fault alone start script log now new bytes more after known went all =
    subst (IsStopped alone start fault new) (sym (front_of_cut start bytes more (omega (arith, after.read.bytes_left)) (omega (arith, after.read.lines_left))))
    (stopped fault alone start (cut bytes).whole (later_lines start bytes more) log now new _ after.answered went all (λ gone. absurd (known gone)))

-- a piece more of the line that is being read
pub after-piece : (alone : Bool) (start : RunStart) (script : Script) (input : Input) (log : List Entry) (now : Option (List ℕ)) (bytes piece : List ℕ)
    → list_any is_line_feed piece ≡ false → ((bounds : Bounds) (bytes : List ℕ) → HasRead bounds script.input bytes → HasRead bounds input (bytes ++ piece))
    → IsAfterBytes alone start script log now bytes → IsAfterBytes alone start (record script { input = input }) log now (bytes ++ piece)
after-piece alone start script input log now bytes piece none step after =
    record { format = after.format; read = step start.bounds bytes after.read; answered = rw (whole-piece bytes piece none) after.answered }

-- a piece and a line feed behind the line that is being read, which was answered
pub after-line : (alone : Bool) (start : RunStart) (script mid : Script) (input : Input) (before after : List Entry) (was now : Option (List ℕ)) (bytes piece : List ℕ)
    → list_any is_line_feed piece ≡ false → mid.codec.reader.format ≡ script.codec.reader.format → mid.input.left ≡ script.input.left
    → ((bounds : Bounds) (old : Input) (bytes : List ℕ) → old.left ≡ mid.input.left → HasRead bounds old bytes → HasRead bounds input (bytes ++ (piece ++ 10 ∷ [])))
    → ((line : List ℕ) → HoldsLine script.input.line line → (start : RunStart) (lines : List (List ℕ)) → script.codec.reader.format ≡ start.format → AreAnswered alone start lines before was script.output.pending.items
    → AreAnswered alone start (lines ++ (line ++ piece) ∷ []) after now mid.output.pending.items)
    → IsAfterBytes alone start script before was bytes → IsAfterBytes alone start (record mid { input = input }) after now (bytes ++ (piece ++ 10 ∷ []))
after-line alone start script mid input before after was now bytes piece none format left step puts so_far = record {
  format = format ∙ so_far.format;
  read = step start.bounds script.input bytes (sym left) so_far.read;
  answered = rw (whole-line bytes piece none) (puts (cut bytes).rest so_far.read.line start (cut bytes).whole so_far.format so_far.answered);
}

-- the line that a piece and a line feed end is the next of the lines, where the bounds allow it
pub line_of_cut : (start : RunStart) (input : Input) (bytes piece more : List ℕ) → list_any is_line_feed piece ≡ false → 0 < input.left.lines
    → length piece < input.left.bytes → HasRead start.bounds input bytes
    → whole_lines start.bounds (bytes ++ (piece ++ 10 ∷ more)) ≡ (cut bytes).whole ++ ((cut bytes).rest ++ piece) ∷ later_lines start (bytes ++ (piece ++ 10 ∷ [])) more
line_of_cut start input bytes piece more none room fits read =
    let line = piece ++ 10 ∷ [] in
    let whole = whole-line bytes piece none in
    let many : length (cut (bytes ++ line)).whole ≡ length (cut bytes).whole + 1 = ap length whole ∙ length-append (cut bytes).whole (((cut bytes).rest ++ piece) ∷ []) in
    let few_bytes : length (bytes ++ line) ≤ start.bounds.bytes = omega (arith, fits, read.bytes_left, length-append bytes line, length-append piece (10 ∷ [])) in
    let few_lines : length (cut (bytes ++ line)).whole ≤ start.bounds.lines = omega (arith, many, room, read.lines_left) in
    let parts : bytes ++ (piece ++ 10 ∷ more) ≡ (bytes ++ line) ++ more = simp append_assoc in
    let later = later_lines start (bytes ++ line) more in
    ap (whole_lines start.bounds) parts ∙ front_of_cut start (bytes ++ line) more few_bytes few_lines ∙ ap (λ w. w ++ later) whole
    ∙ append_assoc (cut bytes).whole (((cut bytes).rest ++ piece) ∷ []) later

-- ---- the loop over a chunk

pub taken-more : (alone : Bool) (old mid new : Script) (before between after : List Entry) (was now then : Option (List ℕ)) (chunk rest piece others : List ℕ)
    → ChunkPart alone old mid before between was now chunk rest → rest ≡ piece ++ others
    → ((start : RunStart) (bytes : List ℕ) → IsAfterBytes alone start mid between now bytes → IsAfterBytes alone start new after then (bytes ++ piece))
    → ChunkPart alone old new before after was then chunk others
taken-more alone old mid new before between after was now then chunk rest piece others taken parts step = record {
  done = taken.done ++ piece;
  whole = append_assoc taken.done piece others ∙ ap (λ l. taken.done ++ l) (sym parts) ∙ taken.whole;
  goes = λ start bytes so_far. rw (← append_assoc) (step start (bytes ++ taken.done) (taken.goes start bytes so_far));
}

-- ---- more than the bounds allow

-- a byte stands after the last line that the bounds allow
beyond_lines : (start : RunStart) (input : Input) (bytes more : List ℕ) → HasRead start.bounds input bytes → input.left.lines ≡ 0 → 0 < length more → IsBeyond start.bounds (bytes ++ more)
beyond_lines start input bytes more read none some within =
    let lines = ap length (lines-closed bytes more (read.closed none)) in
    let both = length-append (cut bytes).whole (lines_of more) in
    absurd (omega (arith, read.lines_left, none, lines, both, some-line more some, within.few_lines))

-- a byte stands after the last one that the bounds allow
beyond_bytes : (start : RunStart) (input : Input) (bytes more : List ℕ) → HasRead start.bounds input bytes → input.left.bytes ≡ 0 → 0 < length more → IsBeyond start.bounds (bytes ++ more)
beyond_bytes start input bytes more read none some within =
    absurd (omega (arith, read.bytes_left, none, length-append bytes more, some, within.few_bytes))

-- where the bounds allow no byte more, no line ends in further bytes, and these are too many
pub full : (start : RunStart) (input : Input) (bytes more : List ℕ) → HasRead start.bounds input bytes → (input.left.lines ≡ 0) ⊎ (input.left.bytes ≡ 0) → 0 < length more
    → (later_lines start bytes more ≡ []) × IsBeyond start.bounds (bytes ++ more)
full start input bytes more read (inl none) some = (all_lines start input bytes more read none, beyond_lines start input bytes more read none some)
full start input bytes more read (inr none) some = (all_bytes start input bytes more read none, beyond_bytes start input bytes more read none some)

-- ---- one list of bytes, cut in other ways

pub regroup : (bytes done rest chunk : List ℕ) → done ++ rest ≡ chunk → (bytes ++ done) ++ rest ≡ bytes ++ chunk
regroup bytes done rest chunk whole = append_assoc bytes done rest ∙ ap (λ l. bytes ++ l) whole

pub regroup_line : (bytes done rest chunk piece more : List ℕ) → done ++ rest ≡ chunk → rest ≡ (piece ++ 10 ∷ []) ++ more
    → (bytes ++ done) ++ (piece ++ 10 ∷ more) ≡ bytes ++ chunk
regroup_line bytes done rest chunk piece more whole parts = rw (← whole, parts) (simp append_assoc)

-- a front, and the bytes behind it
front-behind : (front more rest : List ℕ) → front ++ more ≡ rest → rest ≡ front ++ drop (length front) rest
front-behind front more rest whole = sym whole ∙ ap (λ l. front ++ l) (sym (drop-append_seam front more) ∙ ap (drop (length front)) whole)

-- the front is as many bytes as are allowed
pub piece-front : (n : ℕ) (rest allowed : List ℕ) → allowed ≡ take n rest → rest ≡ allowed ++ drop (length allowed) rest
piece-front n rest allowed is = front-behind allowed (drop n rest) rest (ap (λ l. l ++ drop n rest) is ∙ take-append-drop n rest)

-- it is a piece that a line feed ends within these
pub line-front : (n : ℕ) (rest allowed piece others : List ℕ) → allowed ≡ take n rest → allowed ≡ piece ++ 10 ∷ others
    → rest ≡ (piece ++ 10 ∷ []) ++ drop (length piece + 1) rest
line-front n rest allowed piece others is parts =
    let line = piece ++ 10 ∷ [] in
    let whole : line ++ (others ++ drop n rest) ≡ rest =
    append_assoc piece (10 ∷ []) (others ++ drop n rest) ∙ sym (append_assoc piece (10 ∷ others) (drop n rest))
    ∙ ap (λ l. l ++ drop n rest) (sym parts ∙ is) ∙ take-append-drop n rest in
    front-behind line (others ++ drop n rest) rest whole ∙ ap (λ k. line ++ drop k rest) (length-append piece (10 ∷ []))

-- ---- the end of the script

-- a line that has a byte is the last line of the script
started_line : (bytes : List ℕ) → nat_lt 0 (length (cut bytes).rest) ≡ true → lines_of bytes ≡ (cut bytes).whole ++ ((cut bytes).rest ++ []) ∷ []
started_line bytes started = ap (λ l. (cut bytes).whole ++ l) (go (cut bytes).rest started) where
  go : (rest : List ℕ) → nat_lt 0 (length rest) ≡ true → last_line rest ≡ (rest ++ []) ∷ []
  go [] started = cc
  go (byte ∷ rest) started = ap (λ l. l ∷ []) (sym (append-nil (byte ∷ rest)))

no_line : (bytes : List ℕ) → nat_lt 0 (length (cut bytes).rest) ≡ false → lines_of bytes ≡ (cut bytes).whole
no_line bytes none = ap (λ rest. (cut bytes).whole ++ last_line rest) (is-empty (cut bytes).rest none) ∙ append-nil (cut bytes).whole

-- a line can only be open where the bounds allow another
within_started : (bounds : Bounds) (input : Input) (bytes : List ℕ) → nat_lt 0 (length (cut bytes).rest) ≡ true → HasRead bounds input bytes → Within bounds bytes
within_started bounds input bytes started read =
    let some : 0 < length (cut bytes).rest = grind (arith, nat_tests) in
    let room : 0 < input.left.lines = elim (cases_eq input.left.lines 0) [
      | inl none ↦ let empty : length (cut bytes).rest ≡ 0 = ap length (read.closed none) in absurd (omega arith)
      | inr other ↦ let ne : input.left.lines ≢ 0 = other in omega arith
    ] in
    record {
      few_lines = rw (started_line bytes started) (omega (arith, length-append (cut bytes).whole (((cut bytes).rest ++ []) ∷ []), read.lines_left, room));
      few_bytes = omega (arith, read.bytes_left);
    }

-- the last line was answered
pub done_started : (alone : Bool) (script : Script) (before after : List Entry) (now new : Option (List ℕ)) (still : List ℕ) → script.input.line.started ≡ true
    → ((line : List ℕ) → HoldsLine script.input.line line → (start : RunStart) (lines : List (List ℕ)) → script.codec.reader.format ≡ start.format → AreAnswered alone start lines before now script.output.pending.items
    → AreAnswered alone start (lines ++ (line ++ []) ∷ []) after new still)
    → (start : RunStart) (bytes : List ℕ) → IsAfterBytes alone start script before now bytes → IsAnsweredWhole alone start after new still bytes
done_started alone script before after now new still started puts start bytes so_far =
    let begun = sym so_far.read.line.started ∙ started in
    record {
      within = within_started start.bounds script.input bytes begun so_far.read;
      answered = rw (started_line bytes begun) (puts (cut bytes).rest so_far.read.line start (cut bytes).whole so_far.format so_far.answered);
    }

-- there is no last line
pub done_ended : (alone : Bool) (script : Script) (log : List Entry) (now : Option (List ℕ)) → script.input.line.started ≡ false
    → (start : RunStart) (bytes : List ℕ) → IsAfterBytes alone start script log now bytes → IsAnsweredWhole alone start log now script.output.pending.items bytes
done_ended alone script log now none start bytes after =
    let lines = no_line bytes (sym after.read.line.started ∙ none) in
    record {
      within = record {
        few_lines = rw lines (omega (arith, after.read.lines_left));
        few_bytes = omega (arith, after.read.bytes_left);
      };
      answered = rw lines after.answered;
    }

-- the answering stopped at the last line
pub stopped-at-last : (fault : ScriptFault) (alone : Bool) (script : Script) (before : List Entry) (now new : Option (List ℕ)) → script.input.line.started ≡ true
    → ((line : List ℕ) → HoldsLine script.input.line line → (start : RunStart) (lines others : List (List ℕ)) → script.codec.reader.format ≡ start.format → AreAnswered alone start lines before now script.output.pending.items
    → (fault ≢ Read) × IsStopped alone start fault new (lines ++ (line ++ []) ∷ others))
    → (start : RunStart) (bytes : List ℕ) → IsAfterBytes alone start script before now bytes → StoppedAtLast alone start fault new bytes
stopped-at-last fault alone script before now new started stops start bytes so_far =
    let begun = sym so_far.read.line.started ∙ started in
    let stop = stops (cut bytes).rest so_far.read.line start (cut bytes).whole [] so_far.format so_far.answered in
    record {
      other = stop.0;
      within = within_started start.bounds script.input bytes begun so_far.read;
      stopped = rw (started_line bytes begun) stop.1;
    }
