-- Whom a group has heard, entry by entry of a log.
use Rattle.std.proofs.Common.{◌≡◌, ℕ, List, [], ◌∷◌, ◌++◌, Bool, true, false, cond, ◌&&◌, ◌||◌, Option, Some, None, max, nat_le, refl, ap, sym, ◌∙◌, inl, inr, arith}
use Rattle.std.specs.HashMap as hash
use Rattle.std.specs.HashMap.{HashMap}
use Rattle.std.specs.List.{filter, list_any}
use Rattle.std.specs.Option.{option_map_or}
use Rattle.std.proofs.lemmas.Bool.{and_parts, cases_Bool}
use Rattle.std.proofs.lemmas.Bool.Decides.{nat_tests}
use Rattle.std.proofs.lemmas.List.Folds.{list_any-append}
use Rattle.pgp_ids.specs.Member.{is_same_member}
use Rattle.pgp_ids.specs.declared.entry.Entry.{Entry}
use Rattle.pgp_ids.specs.declared.entry.Entry.TheVariants as entry
use Rattle.pgp_ids.specs.declared.member.Member.{Member}
use Rattle.pgp_ids.specs.declared.report.Info.{Info}
use Rattle.pgp_interval.specs.Runs.{current_first}
use Rattle.pgp_map.specs.Devices.{is_up, up_from}
use Rattle.pgp_map.specs.Pools.{is_same_group}
use Rattle.pgp_tables.proofs.Common.{same_group}
use Rattle.pgp_group.specs.Entries.{infos_of}
use Rattle.pgp_group.specs.GroupLog.{GroupLog, incs}
use Rattle.pgp_group.specs.Heard.{has_member, heard, counted_infos, is_counted, last_of_each_member}
use Rattle.pgp_group.proofs.PeerLemmas.{same_member}
use Rattle.pgp_whole.specs.kept.Hearing.{AreStamps, hears, hears_by, is_same_source, source_of}
use Rattle.pgp_whole.specs.declared.stamps.Sender.{Sender}

-- ---- one info more

counted-later : (first from : ℕ) (up : Bool) (a b : ℕ)
    → nat_le first (max a b) && up && nat_le from (max a b) ≡ (nat_le first b && up && nat_le from b) || (nat_le first a && up && nat_le from a)
counted-later first from up a b = grind (arith, nat_tests)

-- the later one of two stamps counts, if one of them does
counted-kept : (g : GroupLog) (member : Member) (stamp : ℕ) (old : Option ℕ)
    → is_counted g member (option_map_or (λ other. max stamp other) old stamp) ≡ option_map_or (is_counted g member) old false || is_counted g member stamp
counted-kept g member stamp None = refl
counted-kept g member stamp (Some other) = counted-later (current_first g.history) (up_from (incs g) member.osd) (is_up (incs g) member.osd) stamp other

all-true : (a b c : Bool) → a ≡ true → c ≡ true → b ≡ a && (b && c)
all-true a b c one two = grind arith

none-true : (old a b c : Bool) → a && c ≡ false → old ≡ old || (a && (b && c))
none-true old a b c none = grind arith

pub info-more : {S : Type 0} (g : GroupLog) (member : Member) (info : Info) (old new : HashMap Sender ℕ S) (stamp : ℕ)
    → stamp ≡ option_map_or (λ other. max info.stamp other) (hash.get is_same_source old (source_of info.pg info.member)) info.stamp
    → hash.get is_same_source new (source_of g.pg member)
    ≡ cond (is_same_source (source_of info.pg info.member) (source_of g.pg member)) (Some stamp) (hash.get is_same_source old (source_of g.pg member))
    → option_map_or (is_counted g member) (hash.get is_same_source new (source_of g.pg member)) false
    ≡ option_map_or (is_counted g member) (hash.get is_same_source old (source_of g.pg member)) false || hears_by g member info
info-more g member info old new stamp is updated =
    let count : Option ℕ → Bool = λ found. option_map_or (is_counted g member) found false in
    let was : Option ℕ = hash.get is_same_source old (source_of g.pg member) in
    elim (cases_Bool (is_same_source (source_of info.pg info.member) (source_of g.pg member))) [
      | inl same ↦
          let both = and_parts (is_same_group info.pg g.pg) (is_same_member info.member member) same in
          let pg : info.pg ≡ g.pg = same_group info.pg g.pg both.0 in
          let who : info.member ≡ member = same_member info.member member both.1 in
          let here : is_counted g member info.stamp ≡ hears_by g member info =
          ap (λ m. is_counted g m info.stamp) (sym who) ∙ all-true (is_same_group info.pg g.pg) (is_counted g info.member info.stamp) (is_same_member info.member member) both.0 both.1 in
          ap count (updated ∙ ap (λ b. cond b (Some stamp) was) same)
          ∙ ap (is_counted g member) (is ∙ (λ i. option_map_or (λ other. max info.stamp other) (hash.get is_same_source old (source_of (pg i) (who i))) info.stamp))
          ∙ counted-kept g member info.stamp was
          ∙ ap (λ b. count was || b) here
      | inr other ↦
          ap count (updated ∙ ap (λ b. cond b (Some stamp) was) other)
          ∙ none-true (count was) (is_same_group info.pg g.pg) (is_counted g info.member info.stamp) (is_same_member info.member member) other
    ]

or-none : (b : Bool) → b || false ≡ b
or-none b = grind arith

-- the stamps with an entry more, which may change what is kept
pub stamps-more : {S : Type 0} (entries : List Entry) (e : Entry) (old new : HashMap Sender ℕ S)
    → ((g : GroupLog) (member : Member) → option_map_or (is_counted g member) (hash.get is_same_source new (source_of g.pg member)) false
    ≡ option_map_or (is_counted g member) (hash.get is_same_source old (source_of g.pg member)) false || hears g member e)
    → AreStamps entries old → AreStamps (entries ++ e ∷ []) new
stamps-more entries e old new more are = λ g member.
    more g member
    ∙ (λ i. are g member i || (sym (or-none (hears g member e))) i)
    ∙ sym (list_any-append (hears g member) entries (e ∷ []))

-- ---- all infos

-- the last infos are of the members that have infos
last-has : (member : Member) (infos : List Info) → has_member member (last_of_each_member infos) ≡ has_member member infos
last-has member [] = refl
last-has member (info ∷ later) =
    let rest : has_member member (last_of_each_member later) ≡ has_member member later = last-has member later in
    elim (cases_Bool (has_member info.member later)) [
      | inl more ↦ rw more (rest ∙ elim (cases_Bool (is_same_member info.member member)) [
        | inl same ↦ rw same (ap (λ m. has_member m later) (sym (same_member info.member member same)) ∙ more)
        | inr apart ↦ rw apart refl
      ])
      | inr once ↦ rw once (ap (λ b. is_same_member info.member member || b) rest)
    ]

pub any-filter : {X : Type 0} (test keep : X → Bool) (xs : List X) → list_any test (filter keep xs) ≡ list_any (λ x. keep x && test x) xs
any-filter test keep [] = refl
any-filter test keep (x ∷ xs) = elim (cases_Bool (keep x)) [
  | inl kept ↦ rw kept (ap (λ b. test x || b) (any-filter test keep xs))
  | inr left ↦ rw left (any-filter test keep xs)
]

any-entries : (g : GroupLog) (member : Member) (log : List Entry) → list_any (hears_by g member) (infos_of log) ≡ list_any (hears g member) log
any-entries g member [] = refl
any-entries g member (entry.Inc inc ∷ log) = any-entries g member log
any-entries g member (entry.Info info ∷ log) = ap (λ b. hears_by g member info || b) (any-entries g member log)
any-entries g member (entry.Entries report ∷ log) = any-entries g member log
any-entries g member (entry.Close ∷ log) = any-entries g member log

pub hears-all : (g : GroupLog) (member : Member) → list_any (hears g member) g.log ≡ has_member member (heard g)
hears-all g member =
    sym (any-entries g member g.log)
    ∙ sym (any-filter (λ info. is_counted g info.member info.stamp && is_same_member info.member member) (λ info. is_same_group info.pg g.pg) (infos_of g.log))
    ∙ sym (any-filter (λ info. is_same_member info.member member) (λ info. is_counted g info.member info.stamp) (filter (λ info. is_same_group info.pg g.pg) (infos_of g.log)))
    ∙ sym (last-has member (counted_infos g))
