-- Lines of small scripts.
use Rattle.std.specs.Prelude.{ℕ, List, ◌++◌, replicate, codes, Option, None}
use Rattle.pgp_core.specs.declared.want.Want.{Want}

-- none of this many lines was out of memory
abbrev pub without_want : ℕ → List (Option Want)
without_want lines = replicate lines None

-- the answer where an object of the pool of `replicated_line` lies
abbrev pub copies_located : List ℕ
copies_located =
    codes "{\"acting\":[0,1,2],\"acting_primary\":0,\"epoch\":1,\"ok\":\"locate\",\"pg\":[1,0],\"up\":[0],"
    ++ codes "\"up_primary\":0}\n"

-- the answer to a question about the one group of that pool, of which nothing was reported
abbrev pub copies_asked : List ℕ
copies_asked =
    codes "{\"acting\":[0,1,2],\"acting_primary\":0,\"best\":null,\"blocked_by\":[],\"count\":1,\"epoch\":1,"
    ++ codes "\"first\":1,\"intervals\":[],\"les\":0,\"missing\":[],\"ok\":\"ask\",\"pg\":[1,0],"
    ++ codes "\"probe\":[[0,0],[1,0],[2,0]],\"up\":[0],\"up_primary\":0,\"verdict\":\"Waiting\"}\n"
