-- The hashes of two, three and four words with which CRUSH chooses: `crush_hash32_2`, `_3` and
-- `_4` of Ceph's src/crush/hash.c, in its kind `rjenkins1`.
use Rattle.std.specs.Prelude.{ℕ, bit_xor}
use Rattle.pgp_hash.specs.Mix.{mixed}

-- what each hash starts from, and the two further words that it mixes in
abbrev pub seed : ℕ
seed = 1315423911

abbrev pub x_word : ℕ
x_word = 231232

abbrev pub y_word : ℕ
y_word = 1232

-- Each mixing below is named for its first two words. A word that is mixed again enters as the
-- mixing before has left it, and so does the hash, which is the last word of each.

-- two words, and with them the two further ones
unfoldable pub hash2 : ℕ → ℕ → ℕ
hash2 a b =
    let ab = mixed a b (bit_xor (bit_xor seed a) b) in
    let xa = mixed x_word ab.a ab.c in
    let by = mixed ab.b y_word xa.c in
    by.c

-- three words
unfoldable pub hash3 : ℕ → ℕ → ℕ → ℕ
hash3 a b c =
    let ab = mixed a b (bit_xor (bit_xor (bit_xor seed a) b) c) in
    let cx = mixed c x_word ab.c in
    let ya = mixed y_word ab.a cx.c in
    let bx = mixed ab.b cx.b ya.c in
    let yc = mixed ya.a cx.a bx.c in
    yc.c

-- four words
unfoldable pub hash4 : ℕ → ℕ → ℕ → ℕ → ℕ
hash4 a b c d =
    let ab = mixed a b (bit_xor (bit_xor (bit_xor (bit_xor seed a) b) c) d) in
    let cd = mixed c d ab.c in
    let ax = mixed ab.a x_word cd.c in
    let yb = mixed y_word ab.b ax.c in
    let cx = mixed cd.a ax.b yb.c in
    let yd = mixed yb.a cd.b cx.c in
    yd.c
