-- What a list of devices in ascending order has, and of which devices a group speaks as its log grows.
use Rattle.pgp_group.proofs.Common.{◌≡◌, ℕ, ◌+◌, ◌<◌, List, [], ◌∷◌, Bool, true, false, ◌||◌, Option, Some, None, length, get_or, nat_eq, refl, ap, sym, ◌∙◌, arith, take, if◌then◌else◌, list_any, insert, nat_cmp, is_lt, ordering_reverse, Result, Ok, Err, IsOk, is_ok, option_eq, or-false, eq-eqb, false≢true, nat_cmp_total, list_any_more, list_any_at, list_any_none, IsAscending, with_item, or_assoc, IsAscending-with_item, searchable, has_osd, ◌++◌, or_comm, list_any-append, Past, Info, Report, GroupLog, infos, reports, KeepsNames, past, was_member, names, NamedDevices, nat_tests}
use Rattle.std.specs.List.Sorted.{IsSearchInRange, IsBinarySearchResult}
use Rattle.std.specs.declared.cmp.Ordering.{Ordering}
use Rattle.std.specs.declared.cmp.Ordering.TheVariants.{Less, Equal}
use Rattle.std.proofs.lemmas.Map.Lookups.{exact_unsigned}

-- the order of devices
abbrev pub before : ℕ → ℕ → Bool
before a b = is_lt (nat_cmp a b)

-- ---- the order

is_less : (r : Ordering) → is_lt r ≡ true → r ≡ Less
is_less r is = grind arith

is_equal : (r : Ordering) → is_lt r ≡ false → is_lt (ordering_reverse r) ≡ false → r ≡ Equal
is_equal r is back = grind arith

connected : (x y : ℕ) → before x y ≡ false → before y x ≡ false → x ≡ y
connected x y xy yx = exact_unsigned x y (is_equal (nat_cmp x y) xy (sym (ap is_lt (nat_cmp_total.antisymm y x)) ∙ yx))

transitive : (x y z : ℕ) → before x y ≡ true → before y z ≡ true → before x z ≡ true
transitive x y z xy yz = ap is_lt (nat_cmp_total.trans x y z (is_less _ xy) (is_less _ yz))

-- ---- a device more

pub or_swap : (a b c : Bool) → (a || (b || c)) ≡ (b || (a || c))
or_swap a b c = grind arith

pub with_item-ascends : (x : ℕ) (xs : List ℕ) → IsAscending before xs → IsAscending before (with_item before x xs)
with_item-ascends = IsAscending-with_item before transitive

-- a list with one device more has that one, and what it had
pub with_item-has : (q x : ℕ) (xs : List ℕ) → list_any (nat_eq q) (with_item before x xs) ≡ (nat_eq q x || list_any (nat_eq q) xs)
with_item-has q x [] = refl
with_item-has q x (y ∷ xs) = grind (arith, with_item-has q x xs, connected x y)

-- what an insert for which there is room leaves
pub inserted : {T E : Type 0} (r : Result T E) (new old : List ℕ) (place x : ℕ) → IsOk r → new ≡ (if is_ok r then insert old place x else old) → insert old place x ≡ with_item before x old → new ≡ with_item before x old
inserted (Ok done) new old place x ok is put = is ∙ put
inserted (Err e) new old place x ok is put = absurd (false≢true ok)

-- ---- the search

pub search-has : (r : Result ℕ ℕ) (xs : List ℕ) (x : ℕ) → IsAscending before xs → IsSearchInRange r (length xs) → IsBinarySearchResult (λ y. nat_cmp y x) xs r → is_ok r ≡ list_any (nat_eq x) xs
search-has (Ok place) xs x ascends within at = sym (list_any_at (nat_eq x) xs place 0 within (eq-eqb x _ (sym (exact_unsigned _ x (at 0)))))
search-has (Err place) xs x ascends within splits =
    let point = splits (searchable nat_cmp_total xs x ascends) in
    sym (list_any_none (nat_eq x) xs (grind arith))

-- ---- the places of a list

place-more : (q i : ℕ) (places : List (Option ℕ)) (place : Option ℕ) → i < length places → place ≡ get_or places i place → has_osd q (take (i + 1) places) ≡ (has_osd q (take i places) || option_eq nat_eq (Some q) place)
place-more q i places place within item = grind (arith, list_any_more (option_eq nat_eq (Some q)) places i place within)

-- the device of the next place is put in
pub place-put : (q i : ℕ) (places : List (Option ℕ)) (place : Option ℕ) (osd : ℕ) (new mid old : List ℕ) → i < length places → place ≡ get_or places i place → place ≡ Some osd → new ≡ with_item before osd mid
    → list_any (nat_eq q) mid ≡ (has_osd q (take i places) || list_any (nat_eq q) old)
    → list_any (nat_eq q) new ≡ (has_osd q (take (i + 1) places) || list_any (nat_eq q) old)
place-put q i places place osd new mid old within item is put had =
    let more : has_osd q (take (i + 1) places) ≡ (has_osd q (take i places) || nat_eq q osd) = grind (arith, nat_tests, place-more q i places place within item) in
    ap (list_any (nat_eq q)) put ∙ with_item-has q osd mid ∙ ap (λ b. nat_eq q osd || b) had
    ∙ or_swap (nat_eq q osd) (has_osd q (take i places)) (list_any (nat_eq q) old)
    ∙ or_assoc (has_osd q (take i places)) (nat_eq q osd) (list_any (nat_eq q) old)
    ∙ ap (λ b. b || list_any (nat_eq q) old) (sym more)

-- the next place is empty
pub place-empty : (q i : ℕ) (places : List (Option ℕ)) (place : Option ℕ) (mid old : List ℕ) → i < length places → place ≡ get_or places i place → place ≡ None
    → list_any (nat_eq q) mid ≡ (has_osd q (take i places) || list_any (nat_eq q) old)
    → list_any (nat_eq q) mid ≡ (has_osd q (take (i + 1) places) || list_any (nat_eq q) old)
place-empty q i places place mid old within item is had = grind (arith, place-more q i places place within item, or-false (has_osd q (take i places)))

-- the device sent one of these
abbrev sent_info : ℕ → List Info → Bool
sent_info osd infos = list_any (λ info. nat_eq info.member.osd osd) infos

abbrev sent_report : ℕ → List Report → Bool
sent_report osd reports = list_any (λ report. nat_eq report.member.osd osd) reports

abbrev stood : ℕ → List Past → Bool
stood osd past = list_any (was_member osd) past

names-by : (osd : ℕ) (g : GroupLog) (past' : List Past) (infos' : List Info) (reports' : List Report) → past g ≡ past' → infos g ≡ infos' → reports g ≡ reports' → names osd g ≡ (stood osd past' || sent_info osd infos' || sent_report osd reports')
names-by osd g past' infos' reports' stands told sent = λ i. stood osd (stands i) || sent_info osd (told i) || sent_report osd (sent i)

-- ---- one more in one of the lists

more : {X : Type 0} (test : X → Bool) (xs : List X) (x : X) → list_any test (xs ++ x ∷ []) ≡ (list_any test xs || test x)
more test xs x = list_any-append test xs (x ∷ []) ∙ ap (λ b. list_any test xs || b) (or-false (test x))

second_out : (x a b c : Bool) → ((a || (b || x)) || c) ≡ (x || ((a || b) || c))
second_out x a b c = ap (λ e. e || c) (or_assoc a b x ∙ or_comm (a || b) x) ∙ sym (or_assoc x (a || b) c)

third_out : (x a b c : Bool) → ((a || b) || (c || x)) ≡ (x || ((a || b) || c))
third_out x a b c = or_assoc (a || b) c x ∙ or_comm (a || b || c) x

-- ---- what is kept

pub KeepsNames-begun : (g : GroupLog) (kept : NamedDevices) → past g ≡ [] → infos g ≡ [] → reports g ≡ [] → kept.osds.items ≡ [] → KeepsNames g kept
KeepsNames-begun g kept stands told sent none osd = ap (list_any (nat_eq osd)) none ∙ sym (names-by osd g [] [] [] stands told sent)

pub KeepsNames-same : (g after : GroupLog) (old new : NamedDevices) → past after ≡ past g → infos after ≡ infos g → reports after ≡ reports g → new.osds.items ≡ old.osds.items → KeepsNames g old → KeepsNames after new
KeepsNames-same g after old new stands told sent same is osd = ap (list_any (nat_eq osd)) same ∙ is osd ∙ sym (names-by osd after (past g) (infos g) (reports g) stands told sent)

pub KeepsNames-info : (g after : GroupLog) (old new : NamedDevices) (info : Info) → ((osd : ℕ) → list_any (was_member osd) (past after) ≡ list_any (was_member osd) (past g)) → infos after ≡ infos g ++ info ∷ [] → reports after ≡ reports g → new.osds.items ≡ with_item before info.member.osd old.osds.items → KeepsNames g old → KeepsNames after new
KeepsNames-info g after old new info stands told sent put is osd = grind (arith, nat_tests, names-by, more, second_out, with_item-has)

pub KeepsNames-report : (g after : GroupLog) (old new : NamedDevices) (report : Report) → past after ≡ past g → infos after ≡ infos g → reports after ≡ reports g ++ report ∷ [] → new.osds.items ≡ with_item before report.member.osd old.osds.items → KeepsNames g old → KeepsNames after new
KeepsNames-report g after old new report stands told sent put is osd = grind (arith, nat_tests, names-by, more, third_out, with_item-has)

-- an interval is over: the devices of its up went in, and then those of its acting
pub KeepsNames-ended : (g after : GroupLog) (old mid new : NamedDevices) (ended : Past) → past after ≡ past g ++ ended ∷ [] → infos after ≡ infos g → reports after ≡ reports g
    → ((osd : ℕ) → list_any (nat_eq osd) mid.osds.items ≡ (has_osd osd ended.members.up || list_any (nat_eq osd) old.osds.items))
    → ((osd : ℕ) → list_any (nat_eq osd) new.osds.items ≡ (has_osd osd ended.members.acting || list_any (nat_eq osd) mid.osds.items))
    → KeepsNames g old → KeepsNames after new
KeepsNames-ended g after old mid new ended stands told sent up acting is osd =
    grind (arith, names-by osd after (past g ++ ended ∷ []) (infos g) (reports g) stands told sent, more (was_member osd) (past g) ended)
