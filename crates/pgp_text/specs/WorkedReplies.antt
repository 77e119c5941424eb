-- The answers of the worked laws, and what they are written of.
use Rattle.std.specs.Prelude.{ℕ, List, [], ◌∷◌, ◌++◌, codes, true, Some, None}
use Rattle.pgp_ids.specs.declared.membership.Membership.{Membership}
use Rattle.pgp_ids.specs.declared.past.Past.{Past}
use Rattle.pgp_ids.specs.declared.peer.PeerState.TheVariants.{Missing, Backfill, Diverged}
use Rattle.pgp_ids.specs.declared.verdict.Verdict.TheVariants.{NeedUpThru}
use Rattle.pgp_ids.specs.declared.view.View.{View}

-- a membership with an empty place in its acting list and no device in its up list
abbrev pub members_with_holes : Membership
members_with_holes = record {
  up = None ∷ [];
  up_primary = None;
  acting = None ∷ Some 5 ∷ [];
  acting_primary = Some 5;
  size = 2;
  min_size = 1;
}

-- an interval of it
abbrev pub interval_with_holes : Past
interval_with_holes = record { first = 4; last = 8; members = members_with_holes; rw = true }

-- the answer of a trace with that past interval, whose current one begins at epoch 9
abbrev pub traced_answer : List ℕ
traced_answer =
    codes "{\"first\":9,\"intervals\":[{\"acting\":[null,5],\"acting_primary\":5,\"first\":4,\"last\":8,\"min_"
    ++ codes "size\":1,\"rw\":true,\"size\":2,\"up\":[null],\"up_primary\":null}],\"ok\":\"trace\"}"

-- the answer that a group lies so
abbrev pub located_answer : List ℕ
located_answer =
    codes "{\"acting\":[null,5],\"acting_primary\":5,\"epoch\":3,\"ok\":\"locate\",\"pg\":[255,1023],\"up\":[nu"
    ++ codes "ll],\"up_primary\":null}"

-- what may be known of a group; the names of missing objects stand in no order
abbrev pub known_view : View
known_view = record {
  count = 5;
  epoch = 9;
  up = [];
  up_primary = None;
  acting = Some 1 ∷ None ∷ [];
  acting_primary = Some 1;
  first = 9;
  intervals = [];
  les = 2;
  probe = record { osd = 0; slot = 0 } ∷ record { osd = 1; slot = 0 } ∷ [];
  blocked_by = 3 ∷ 4 ∷ [];
  verdict = NeedUpThru;
  best = Some (record { osd = 1; slot = 0 });
  missing = record {
    member = record { osd = 0; slot = 0 };
    state = Missing (
        record { object = codes "b"; version = record { epoch = 1; v = 2 } }
        ∷ record { object = codes "a"; version = record { epoch = 1; v = 1 } }
        ∷ []);
  }
      ∷ record { member = record { osd = 2; slot = 0 }; state = Backfill }
      ∷ record { member = record { osd = 2; slot = 1 }; state = Diverged }
      ∷ [];
}

-- the answer that says so
abbrev pub asked_answer : List ℕ
asked_answer =
    codes "{\"acting\":[1,null],\"acting_primary\":1,\"best\":[1,0],\"blocked_by\":[3,4],\"count\":5,\"epoch"
    ++ codes "\":9,\"first\":9,\"intervals\":[],\"les\":2,\"missing\":[{\"member\":[0,0],\"objects\":{\"a\":[1,1],\""
    ++ codes "b\":[1,2]},\"state\":\"missing\"},{\"member\":[2,0],\"state\":\"backfill\"},{\"member\":[2,1],\"stat"
    ++ codes "e\":\"diverged\"}],\"ok\":\"ask\",\"pg\":[1,0],\"probe\":[[0,0],[1,0]],\"up\":[],\"up_primary\":null,"
    ++ codes "\"verdict\":\"NeedUpThru\"}"
