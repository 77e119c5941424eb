-- The tests of two reports, or of two past intervals, decide whether these are the same.
use Rattle.std.proofs.Common.{◌≡◌, List, Bool, ◌&&◌, Decides, nat_eq, ap, sym, refl, map, subst, Bor, ◌∙◌, [], ◌∷◌, ◌++◌, Option, Some, None, filter_map, option_map, option_to_list}
use Rattle.std.proofs.Math.Bool.{beq}
use Rattle.std.proofs.lemmas.List.{map-append}
use Rattle.std.proofs.lemmas.List.Elements.{filter_map-append}
use Rattle.std.specs.List.{cons_option}
use Rattle.std.specs.Cmp.{booleans_Decides, unsigned_Decides}
use Rattle.std.specs.Cmp.Derive.Mapped.{pointwise-map}
use Rattle.std.specs.Cmp.Lexicographic.{bytes_decides, pointwise, pointwise_decides}
use Rattle.pgp_ids.specs.Member.{is_same_member}
use Rattle.pgp_ids.specs.Version.{is_same_version}
use Rattle.pgp_ids.specs.declared.log_entry.Change.{Change}
use Rattle.pgp_ids.specs.declared.log_entry.Change.TheVariants.{Modify, Delete}
use Rattle.pgp_ids.specs.declared.log_entry.LogEntry.{LogEntry}
use Rattle.pgp_ids.specs.declared.member.Member.{Member}
use Rattle.pgp_ids.specs.declared.past.Past.{Past}
use Rattle.pgp_ids.specs.declared.report.Info.{Info}
use Rattle.pgp_ids.specs.declared.report.Report.{Report}
use Rattle.pgp_ids.specs.declared.version.Version.{Version}
use Rattle.pgp_interval.specs.SameMembers.{is_same}
use Rattle.pgp_interval.proofs.Same.{eq-is_same, is_same-eq}
use Rattle.pgp_map.specs.Pools.{is_same_group}
use Rattle.pgp_map.proofs.AlikeLemmas.{both_Decide, groups_Decides}
use Rattle.pgp_join.proofs.Same.{is_same_change, is_same_entry, is_same_info, is_same_past, is_same_report}

pub member_Decides : (a b : Member) → Decides (is_same_member a b) (a ≡ b)
member_Decides a b =
    let s1 = both_Decide (nat_eq a.osd b.osd) (nat_eq a.slot b.slot) (unsigned_Decides a.osd b.osd) (unsigned_Decides a.slot b.slot) in (
      λ passed. let h = s1.0 passed in λ i. record { osd = h.0 i; slot = h.1 i },
      λ equal. s1.1 (ap (λ (x : Member). x.osd) equal, ap (λ (x : Member). x.slot) equal),
    )

pub version_Decides : (a b : Version) → Decides (is_same_version a b) (a ≡ b)
version_Decides a b =
    let s1 = both_Decide (nat_eq a.epoch b.epoch) (nat_eq a.v b.v) (unsigned_Decides a.epoch b.epoch) (unsigned_Decides a.v b.v) in (
      λ passed. let h = s1.0 passed in λ i. record { epoch = h.0 i; v = h.1 i },
      λ equal. s1.1 (ap (λ (x : Version). x.epoch) equal, ap (λ (x : Version). x.v) equal),
    )

pub info_Decides : (a b : Info) → Decides (is_same_info a b) (a ≡ b)
info_Decides a b =
    let s1 = both_Decide (is_same_group a.pg b.pg) (is_same_member a.member b.member) (groups_Decides a.pg b.pg) (member_Decides a.member b.member) in
    let s2 = both_Decide (is_same_group a.pg b.pg && is_same_member a.member b.member) (nat_eq a.stamp b.stamp) s1 (unsigned_Decides a.stamp b.stamp) in
    let s3 = both_Decide (is_same_group a.pg b.pg && is_same_member a.member b.member && nat_eq a.stamp b.stamp) (nat_eq a.les b.les) s2 (unsigned_Decides a.les b.les) in
    let s4 = both_Decide (is_same_group a.pg b.pg && is_same_member a.member b.member && nat_eq a.stamp b.stamp && nat_eq a.les b.les) (nat_eq a.history_les b.history_les) s3 (unsigned_Decides a.history_les b.history_les) in
    let s5 = both_Decide (is_same_group a.pg b.pg && is_same_member a.member b.member && nat_eq a.stamp b.stamp && nat_eq a.les b.les && nat_eq a.history_les b.history_les) (nat_eq a.last_epoch_clean b.last_epoch_clean) s4 (unsigned_Decides a.last_epoch_clean b.last_epoch_clean) in
    let s6 = both_Decide (is_same_group a.pg b.pg && is_same_member a.member b.member && nat_eq a.stamp b.stamp && nat_eq a.les b.les && nat_eq a.history_les b.history_les && nat_eq a.last_epoch_clean b.last_epoch_clean) (is_same_version a.last_update b.last_update) s5 (version_Decides a.last_update b.last_update) in
    let s7 = both_Decide (is_same_group a.pg b.pg && is_same_member a.member b.member && nat_eq a.stamp b.stamp && nat_eq a.les b.les && nat_eq a.history_les b.history_les && nat_eq a.last_epoch_clean b.last_epoch_clean && is_same_version a.last_update b.last_update) (is_same_version a.log_tail b.log_tail) s6 (version_Decides a.log_tail b.log_tail) in
    let s8 = both_Decide (is_same_group a.pg b.pg && is_same_member a.member b.member && nat_eq a.stamp b.stamp && nat_eq a.les b.les && nat_eq a.history_les b.history_les && nat_eq a.last_epoch_clean b.last_epoch_clean && is_same_version a.last_update b.last_update && is_same_version a.log_tail b.log_tail) (beq a.complete b.complete) s7 (booleans_Decides a.complete b.complete) in (
      λ passed. let h = s8.0 passed in λ i. record { pg = h.0.0.0.0.0.0.0.0 i; member = h.0.0.0.0.0.0.0.1 i; stamp = h.0.0.0.0.0.0.1 i; les = h.0.0.0.0.0.1 i; history_les = h.0.0.0.0.1 i; last_epoch_clean = h.0.0.0.1 i; last_update = h.0.0.1 i; log_tail = h.0.1 i; complete = h.1 i },
      λ equal. s8.1 ((((((((ap (λ (x : Info). x.pg) equal, ap (λ (x : Info). x.member) equal), ap (λ (x : Info). x.stamp) equal), ap (λ (x : Info). x.les) equal), ap (λ (x : Info). x.history_les) equal), ap (λ (x : Info). x.last_epoch_clean) equal), ap (λ (x : Info). x.last_update) equal), ap (λ (x : Info). x.log_tail) equal), ap (λ (x : Info). x.complete) equal),
    )

change_Decides : (a b : Change) → Decides (is_same_change a b) (a ≡ b)
change_Decides Modify Modify = (λ passed. refl, λ equal. refl)
change_Decides Modify Delete = (λ passed. cc, λ equal. cc)
change_Decides Delete Modify = (λ passed. cc, λ equal. cc)
change_Decides Delete Delete = (λ passed. refl, λ equal. refl)

pub entry_Decides : (a b : LogEntry) → Decides (is_same_entry a b) (a ≡ b)
entry_Decides a b =
    let s1 = both_Decide (is_same_version a.version b.version) (is_same_change a.change b.change) (version_Decides a.version b.version) (change_Decides a.change b.change) in
    let s2 = both_Decide (is_same_version a.version b.version && is_same_change a.change b.change) (pointwise nat_eq a.object b.object) s1 (bytes_decides a.object b.object) in (
      λ passed. let h = s2.0 passed in λ i. record { version = h.0.0 i; change = h.0.1 i; object = h.1 i },
      λ equal. s2.1 ((ap (λ (x : LogEntry). x.version) equal, ap (λ (x : LogEntry). x.change) equal), ap (λ (x : LogEntry). x.object) equal),
    )

pub report_Decides : (a b : Report) → Decides (is_same_report a b) (a ≡ b)
report_Decides a b =
    let s1 = both_Decide (is_same_group a.pg b.pg) (is_same_member a.member b.member) (groups_Decides a.pg b.pg) (member_Decides a.member b.member) in
    let s2 = both_Decide (is_same_group a.pg b.pg && is_same_member a.member b.member) (nat_eq a.stamp b.stamp) s1 (unsigned_Decides a.stamp b.stamp) in
    let s3 = both_Decide (is_same_group a.pg b.pg && is_same_member a.member b.member && nat_eq a.stamp b.stamp) (pointwise is_same_entry a.log b.log) s2 (pointwise_decides entry_Decides a.log b.log) in (
      λ passed. let h = s3.0 passed in λ i. record { pg = h.0.0.0 i; member = h.0.0.1 i; stamp = h.0.1 i; log = h.1 i },
      λ equal. s3.1 (((ap (λ (x : Report). x.pg) equal, ap (λ (x : Report). x.member) equal), ap (λ (x : Report). x.stamp) equal), ap (λ (x : Report). x.log) equal),
    )

pub past_Decides : (a b : Past) → Decides (is_same_past a b) (a ≡ b)
past_Decides a b =
    let s1 = both_Decide (nat_eq a.first b.first) (nat_eq a.last b.last) (unsigned_Decides a.first b.first) (unsigned_Decides a.last b.last) in
    let s2 = both_Decide (nat_eq a.first b.first && nat_eq a.last b.last) (is_same a.members b.members) s1 (is_same-eq a.members b.members, eq-is_same a.members b.members) in
    let s3 = both_Decide (nat_eq a.first b.first && nat_eq a.last b.last && is_same a.members b.members) (beq a.rw b.rw) s2 (booleans_Decides a.rw b.rw) in (
      λ passed. let h = s3.0 passed in λ i. record { first = h.0.0.0 i; last = h.0.0.1 i; members = h.0.1 i; rw = h.1 i },
      λ equal. s3.1 (((ap (λ (x : Past). x.first) equal, ap (λ (x : Past). x.last) equal), ap (λ (x : Past). x.members) equal), ap (λ (x : Past). x.rw) equal),
    )

-- lists of lent values are equal, by a test that decides whether two values are the same, exactly where the lists of the values are
pub lists_Decide : {A : Type 0} {F : Bor A → Bor A → Bool} (same : A → A → Bool) → ((a b : A) → Decides (same a b) (a ≡ b)) → (xs ys : List (Bor A)) (r : Bool)
    → r ≡ pointwise F xs ys → ((x y : Bor A) → F x y ≡ same x.now y.now) → Decides r (map (λ x. x.now) xs ≡ map (λ x. x.now) ys)
lists_Decide {A = A} same decides xs ys r answers is =
    let values = sym (pointwise-map (λ (x : Bor A). x.now) same xs ys) in
    subst (λ t. Decides t (map (λ x. x.now) xs ≡ map (λ x. x.now) ys)) (sym (answers ∙ (λ i. pointwise (λ x y. is x y i) xs ys) ∙ values))
    (pointwise_decides decides (map (λ x. x.now) xs) (map (λ x. x.now) ys))

one : {C D : Type 0} (value : D → C) (got : Option D) → map value (option_to_list got) ≡ cons_option (option_map value got) []
one value None = refl
one value (Some y) = refl

-- what is picked from a list with one item more, where the values of a list are what was picked before
pub picked-more : {A B C D : Type 0} (pick : B → Option C) (f : A → B) (value : D → C) (before after : List A) (x : A) (got : Option D) (now next : List D)
    → after ≡ before ++ x ∷ [] → pick (f x) ≡ option_map value got → next ≡ now ++ option_to_list got → map value now ≡ filter_map pick (map f before)
    → map value next ≡ filter_map pick (map f after)
picked-more pick f value before after x got now next more is put has =
    ap (map value) put ∙ map-append value now (option_to_list got) ∙ (λ i. has i ++ (one value got ∙ ap (λ o. cons_option o []) (sym is)) i)
    ∙ sym (ap (λ l. filter_map pick (map f l)) more ∙ ap (filter_map pick) (map-append f before (x ∷ [])) ∙ filter_map-append pick (map f before) (f x ∷ []))
