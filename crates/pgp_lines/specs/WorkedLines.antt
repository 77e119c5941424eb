-- The lines of the worked laws, and what they say.
use Rattle.std.specs.Prelude.{◌≡◌, ℕ, ◌-◌, pos, negsuc, List, [], ◌∷◌, ◌++◌, length, map, replicate, codes, true, false, Option, Some, None, Err, ⊤, refl}
use Rattle.std.specs.Fmt.{digits}
use Rattle.std.specs.Str.{is_utf8, chars}
use Rattle.serde_json.proofs.OnLiterals.{serde_json_on_literals}
use Rattle.pgp_ids.specs.declared.bucket.BucketAlg.TheVariants.{Uniform, List as Weighed, Straw2}
use Rattle.pgp_ids.specs.declared.bucket.BucketSpec.{BucketSpec}
use Rattle.pgp_ids.specs.declared.entry.Entry.TheVariants.{Inc}
use Rattle.pgp_ids.specs.declared.incremental.DeviceWeight.{DeviceWeight}
use Rattle.pgp_ids.specs.declared.incremental.Incremental.{Incremental}
use Rattle.pgp_ids.specs.declared.incremental.TempList.{TempList}
use Rattle.pgp_ids.specs.declared.log_entry.Change.TheVariants.{Modify, Delete}
use Rattle.pgp_ids.specs.declared.part.Part.{Part}
use Rattle.pgp_ids.specs.declared.pool.PoolKind.{PoolKind}
use Rattle.pgp_ids.specs.declared.pool.PoolKind.TheVariants.{Replicated, Erasure, Grouped}
use Rattle.pgp_ids.specs.declared.report.Info.{Info}
use Rattle.pgp_ids.specs.declared.report.Report.{Report}
use Rattle.pgp_ids.specs.Incremental.{no_change}
use Rattle.pgp_lines.specs.LineFault.{bad_field}
use Rattle.pgp_lines.specs.MadeBucket.{sound_bucket}
use Rattle.pgp_lines.specs.Command.{command_of}
use Rattle.pgp_lines.specs.Trace.{epoch_state}
use Rattle.pgp_lines.specs.declared.command.Command.{Command}
use Rattle.pgp_lines.specs.declared.command.Command.TheVariants.{Submit, Trace}
use Rattle.pgp_lines.specs.declared.command.format.Format.TheVariants.{Two}

-- nothing but a name for the list below: a proof that unfolds it sees lines and answers computed
unfoldable pub text_computed : ⊤
unfolding is_utf8 chars digits serde_json_on_literals
text_computed = tt

-- each of these texts makes a line that is refused for the value at this key
abbrev pub AreBad : (List ℕ → List ℕ) → List ℕ → List (List ℕ) → Type 0
AreBad line key texts = map (λ text. command_of Two (line text)) texts ≡ replicate (length texts) (Err (bad_field key))

-- this many lists, each in the one before it, all of them closed
abbrev pub nested : ℕ → List ℕ
nested n = replicate n 91 ++ replicate n 93

-- the end of the log, with one more key
abbrev pub close_with : List ℕ → List ℕ
close_with key = codes "{\"op\":\"close\",\"" ++ key ++ codes "\":0}"

-- the end of the log, with this for its version
abbrev pub close_of : List ℕ → List ℕ
close_of v = codes "{\"op\":\"close\",\"v\":" ++ v ++ codes "}"

-- a trace of one epoch in a replicated pool
abbrev pub trace_line : List ℕ
trace_line =
    codes "{\"op\":\"trace\",\"code\":{\"kind\":\"replicated\"},\"epochs\":[{\"up\":[3],\"acting\":[1,3],\"size\":2"
    ++ codes ",\"min_size\":1,\"up_from\":7,\"up_thru\":0}]}"

-- what that line says
abbrev pub trace_command : Command
trace_command = Trace Replicated (epoch_state (Some 3 ∷ []) (Some 1 ∷ Some 3 ∷ []) 2 1 7 0 ∷ [])

-- a trace of one epoch in an erasure pool, each number at the end of its range
abbrev pub erasure_line : List ℕ
erasure_line =
    codes "{\"op\":\"trace\",\"code\":{\"kind\":\"erasure\",\"k\":16},\"epochs\":[{\"up\":[null,3],\"acting\":[null"
    ++ codes "],\"size\":16,\"min_size\":16,\"up_from\":0,\"up_thru\":4294967295}]}"

-- what that line says
abbrev pub erasure_command : Command
erasure_command = Trace (Erasure 16) (epoch_state (None ∷ Some 3 ∷ []) (None ∷ []) 16 16 0 4294967295 ∷ [])

-- a part with these slots, none of which was twice in its list
abbrev pub worked_part : List ℕ → ℕ → Option Part
worked_part slots least = Some (record { slots = slots; least = least; twice = false })

-- the 16 places of a code that wants one of the slots 0 and 1, and slot 2
abbrev pub pair_and_single : List (Option Part)
pair_and_single = worked_part (0 ∷ 1 ∷ []) 1 ∷ worked_part (2 ∷ []) 1 ∷ replicate 14 None

-- a trace of one epoch by this code, with more keys; one of its places is empty
abbrev pub trace_with : List ℕ → List ℕ → List ℕ
trace_with keys code =
    codes "{\"op\":\"trace\"," ++ keys ++ codes "\"code\":" ++ code ++ codes ",\"epochs\":[{\"up\":[null,3],\"acting\":[1],\"size\":"
    ++ codes "2,\"min_size\":1,\"up_from\":7,\"up_thru\":0}]}"

-- that trace in version 2, by a grouped code with these parts
abbrev pub grouped_trace_line : List ℕ → List ℕ
grouped_trace_line groups =
    trace_with (codes "\"v\":2,") (codes "{\"kind\":\"grouped\",\"groups\":" ++ groups ++ codes "}")

-- what that line says where its code has these places
abbrev pub grouped_trace : List (Option Part) → Command
grouped_trace groups = Trace (Grouped groups) (epoch_state (None ∷ Some 3 ∷ []) (Some 1 ∷ []) 2 1 7 0 ∷ [])

-- an incremental of this epoch
abbrev pub inc_of_epoch : List ℕ → List ℕ
inc_of_epoch epoch = codes "{\"op\":\"inc\",\"epoch\":" ++ epoch ++ codes "}"

-- an incremental of epoch 1, with more keys
abbrev pub inc_with : List ℕ → List ℕ
inc_with keys = codes "{\"op\":\"inc\",\"epoch\":1," ++ keys ++ codes "}"

-- an incremental of version 3 with these keys
abbrev pub inc_of_three : List ℕ → List ℕ
inc_of_three keys = codes "{\"op\":\"inc\",\"v\":3," ++ keys ++ codes "}"

-- an incremental that does nothing
abbrev pub empty_inc : ℕ → Incremental
empty_inc epoch = no_change (epoch - 1) epoch

-- devices whose weight becomes 0
abbrev pub out_of : List ℕ → List DeviceWeight
out_of [] = []
out_of (osd ∷ osds) = record { osd = osd; weight = 0 } ∷ out_of osds

-- the first incremental of a small cluster: a root over all devices, some of which are out, and one pool of one group
abbrev pub opening : List ℕ → List ℕ → BucketSpec → ℕ → PoolKind → List TempList → Command
opening up out root pool kind temp = Submit (Inc (record (empty_inc 1) {
  up = up;
  weight = out_of out;
  pools = record { id = pool; pg_num = 1; kind = kind; size = 3; min_size = 2; leaf = 0 } ∷ [];
  temp = temp;
  crush = Some (root ∷ []);
}))

-- a replicated pool of one group, with more keys
abbrev pub copies_with : List ℕ → List ℕ
copies_with keys =
    codes "{\"op\":\"inc\",\"epoch\":1,\"up\":[0,1,2],\"weight\":[[1,0],[2,0]],\"crush\":[{\"id\":-1,\"type\":1,\""
    ++ codes "alg\":\"uniform\",\"items\":[0,1,2]}],\"pools\":[{\"id\":1,\"pg_num\":1,\"kind\":\"replicated\",\"size"
    ++ codes "\":3,\"min_size\":2,\"leaf\":0}]" ++ keys ++ codes "}"

-- the same with its group placed by pg_temp
abbrev pub replicated_line : List ℕ
replicated_line = copies_with (codes ",\"temp\":[[1,0,[0,1,2]]]")

-- what that line says
abbrev pub replicated_command : List TempList → Command
replicated_command temp =
    opening (0 ∷ 1 ∷ 2 ∷ []) (1 ∷ 2 ∷ []) (sound_bucket (negsuc 0) 1 Uniform (pos 0 ∷ pos 1 ∷ pos 2 ∷ []) [] refl) 1 Replicated temp

-- the list of devices 0, 1 and 2 for the first group of a pool
abbrev pub first_three : ℕ → TempList
first_three pool = record { pg = record { pool = pool; pg = 0 }; osds = Some 0 ∷ Some 1 ∷ Some 2 ∷ [] }

-- a pool of this kind, whose one group is placed by pg_temp, since all devices are out; with more keys
abbrev pub coded_with : List ℕ → List ℕ → List ℕ
coded_with keys kind =
    codes "{\"op\":\"inc\"," ++ keys ++ codes "\"epoch\":1,\"up\":[0,1,2,3,4,5],\"weight\":[[0,0],[1,0],[2,0],[3,0],[4,0],[5,0]"
    ++ codes "],\"crush\":[{\"id\":-1,\"type\":1,\"alg\":\"uniform\",\"items\":[0,1,2,3,4,5]}],\"pools\":[{\"id\":2,"
    ++ codes "\"pg_num\":1,\"kind\":" ++ kind ++ codes ",\"size\":3,\"min_size\":2,\"leaf\":0}],\"temp\":[[2,0,[0,1,2]]]}"

-- an erasure pool
abbrev pub erasure_pool_line : List ℕ
erasure_pool_line = coded_with [] (codes "\"erasure\",\"k\":2")

-- a grouped pool in version 2
abbrev pub grouped_pool_line : List ℕ
grouped_pool_line = coded_with (codes "\"v\":2,") (codes "\"grouped\",\"groups\":[[[0,1],1],[[2],1]]")

-- what such a line says
abbrev pub coded_command : PoolKind → Command
coded_command kind =
    opening (0 ∷ 1 ∷ 2 ∷ 3 ∷ 4 ∷ 5 ∷ []) (0 ∷ 1 ∷ 2 ∷ 3 ∷ 4 ∷ 5 ∷ []) (sound_bucket (negsuc 0) 1 Uniform (pos 0 ∷ pos 1 ∷ pos 2 ∷ pos 3 ∷ pos 4 ∷ pos 5 ∷ []) [] refl) 2 kind (first_three 2 ∷ [])

-- an incremental that makes one pool, whose kind and data are these keys, with more keys of its own
abbrev pub pool_line : List ℕ → List ℕ → List ℕ
pool_line keys kind =
    inc_with (keys ++ codes "\"pools\":[{\"id\":2,\"pg_num\":1," ++ kind ++ codes ",\"size\":3,\"min_size\":2,\"leaf\":0}]")

-- the kind of a grouped pool, and its parts
abbrev pub grouped_with : List ℕ → List ℕ
grouped_with groups = codes "\"kind\":\"grouped\",\"groups\":" ++ groups

-- an incremental of version 2 that makes one grouped pool with these parts
abbrev pub parts_line : List ℕ → List ℕ
parts_line groups = pool_line (codes "\"v\":2,") (grouped_with groups)

-- what that line says where its pool has these places
abbrev pub made_of_parts : List (Option Part) → Command
made_of_parts groups = Submit (Inc (record (empty_inc 1) {
  pools = record { id = 2; pg_num = 1; kind = Grouped groups; size = 3; min_size = 2; leaf = 0 } ∷ [];
}))

-- an incremental with each of the other keys, and numbers at the ends of their ranges
abbrev pub edges_line : List ℕ
edges_line =
    codes "{\"op\":\"inc\",\"epoch\":4294967295,\"down\":[4095],\"gone\":[0],\"lost\":[[7,3]],\"up_thru\":[[7,4"
    ++ codes "294967295]],\"sizes\":[[255,0,255]],\"temp\":[[255,1023,[null,4095,null]],[1,0,[]]],\"crush"
    ++ codes "\":[{\"id\":-65536,\"type\":0,\"alg\":\"list\",\"items\":[-65536,65535],\"weights\":[0,4294967295]}"
    ++ codes "],\"pools\":[{\"id\":255,\"pg_num\":65535,\"kind\":\"erasure\",\"k\":0,\"size\":255,\"min_size\":0,\"le"
    ++ codes "af\":255}]}"

-- what that line says
abbrev pub edges_command : Command
edges_command = Submit (Inc (record (empty_inc 4294967295) {
  down = 4095 ∷ [];
  gone = 0 ∷ [];
  lost = record { osd = 7; epoch = 3 } ∷ [];
  up_thru = record { osd = 7; epoch = 4294967295 } ∷ [];
  sizes = record { pool = 255; size = 0; min_size = 255 } ∷ [];
  temp = record { pg = record { pool = 255; pg = 1023 }; osds = None ∷ Some 4095 ∷ None ∷ [] } ∷ record { pg = record { pool = 1; pg = 0 }; osds = [] } ∷ [];
  pools = record { id = 255; pg_num = 65535; kind = Erasure 0; size = 255; min_size = 0; leaf = 255 } ∷ [];
  crush = Some (sound_bucket (negsuc 65535) 0 Weighed (negsuc 65535 ∷ pos 65535 ∷ []) (0 ∷ 4294967295 ∷ []) refl ∷ []);
}))

-- an incremental whose tree is this bucket, with more keys
abbrev pub root_line : List ℕ → List ℕ → List ℕ
root_line keys bucket = inc_with (keys ++ codes "\"crush\":[{\"id\":-1,\"type\":1," ++ bucket ++ codes "}]")

-- a straw2 bucket of two devices
abbrev pub straw2_bucket : List ℕ
straw2_bucket = codes "\"alg\":\"straw2\",\"items\":[0,1],\"weights\":[4294967295,0]"

-- what a line says whose tree is that bucket
abbrev pub straw2_command : Command
straw2_command = Submit (Inc (record (empty_inc 1) {
  crush = Some (sound_bucket (negsuc 0) 1 Straw2 (pos 0 ∷ pos 1 ∷ []) (4294967295 ∷ 0 ∷ []) refl ∷ []);
}))

-- the info of device 2 with nothing written yet, with more keys
abbrev pub info_with : List ℕ → List ℕ
info_with keys =
    codes "{\"op\":\"info\",\"pg\":[1,0],\"from\":[2,0],\"stamp\":1,\"les\":0,\"history_les\":0,\"last_update\":["
    ++ codes "0,0],\"log_tail\":[0,0],\"complete\":true" ++ keys ++ codes "}"

-- that info alone
abbrev pub info_line : List ℕ
info_line = info_with []

-- what that line says
abbrev pub first_info : Info
first_info = record {
  pg = record { pool = 1; pg = 0 };
  member = record { osd = 2; slot = 0 };
  stamp = 1;
  les = 0;
  history_les = 0;
  last_epoch_clean = 0;
  last_update = record { epoch = 0; v = 0 };
  log_tail = record { epoch = 0; v = 0 };
  complete = true;
}

-- an info with each number at the end of its range, and no two of one kind alike
abbrev pub edges_of_info_line : List ℕ
edges_of_info_line =
    codes "{\"op\":\"info\",\"pg\":[255,1023],\"from\":[4095,15],\"stamp\":4294967295,\"les\":4294967294,\"his"
    ++ codes "tory_les\":4294967293,\"last_update\":[4294967292,4294967295],\"log_tail\":[0,1],\"complete\":"
    ++ codes "false,\"last_epoch_clean\":4294967291}"

-- what that line says
abbrev pub edges_of_info : Info
edges_of_info = record {
  pg = record { pool = 255; pg = 1023 };
  member = record { osd = 4095; slot = 15 };
  stamp = 4294967295;
  les = 4294967294;
  history_les = 4294967293;
  last_epoch_clean = 4294967291;
  last_update = record { epoch = 4294967292; v = 4294967295 };
  log_tail = record { epoch = 0; v = 1 };
  complete = false;
}

-- two entries of the log of device 0
abbrev pub entries_line : List ℕ
entries_line =
    codes "{\"op\":\"entries\",\"pg\":[1,0],\"from\":[0,0],\"stamp\":1,\"log\":[[1,1,\"modify\",\"a\"],[1,2,\"dele"
    ++ codes "te\",\"b\"]]}"

-- what that line says
abbrev pub two_entries : Report
two_entries = record {
  pg = record { pool = 1; pg = 0 };
  member = record { osd = 0; slot = 0 };
  stamp = 1;
  log = record { version = record { epoch = 1; v = 1 }; change = Modify; object = codes "a" }
      ∷ record { version = record { epoch = 1; v = 2 }; change = Delete; object = codes "b" }
      ∷ [];
}
