-- What is known of any view.
use Rattle.pgp_group.proofs.Common.{◌≡◌, List, Option, Some, None, Bool, true, false, is_some, nat_lt, refl, ◌∙◌, if◌then◌else◌, option_map, option_map_or, is_by_place, AnyCode, Entry, Member, Incremental, PgId, IsPreference, newest_first, oldest_first, some_mapped, pool, has_group, incs_of, group_in, group_with, group_history, history_of, view_of, scratch}
use Rattle.pgp_info.specs.PreferenceLaws.{newest_is_preference, oldest_is_preference}
use Rattle.pgp_group.specs.Prefers.{prefers}

pub prefers_is_preference : (c : AnyCode) (leader : Option Member) → IsPreference (prefers c leader)
prefers_is_preference c leader = elim (is_by_place c) as (λ b. IsPreference (if b then oldest_first leader else newest_first leader)) [
  | true ↦ oldest_is_preference leader
  | false ↦ newest_is_preference leader
]

-- ---- a view is there exactly where its group is

there_if : {X : Type 0} (b : Bool) (x : X) → is_some (if b then Some x else None) ≡ b
there_if true x = refl
there_if false x = refl

there_with : {X Y : Type 0} (found : Option X) (test : X → Bool) (make : X → Y) → is_some (if option_map_or test found false then option_map make found else None) ≡ option_map_or test found false
there_with None test make = refl
there_with (Some x) test make = there_if (test x) (make x)

pub history_there : (incs : List Incremental) (pg : PgId) → is_some (group_history incs pg) ≡ has_group incs pg
history_there incs pg = there_with (pool incs pg.pool) (λ made. nat_lt pg.pg made.pg_num) (history_of incs pg)

pub scratch_there : (log : List Entry) (pg : PgId) → is_some (scratch log pg) ≡ has_group (incs_of log) pg
scratch_there log pg = some_mapped view_of (group_in log pg) ∙ some_mapped (group_with log pg) (group_history (incs_of log) pg) ∙ history_there (incs_of log) pg
