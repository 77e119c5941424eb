use Rattle.std.proofs.Common.{◌≡◌, ◌==◌, false, length, map, ap, sym, ◌∙◌}
use Rattle.std.proofs.lemmas.List.{length-map}
use Rattle.std.proofs.lemmas.Simd.{map-map}
use Rattle.pgp_group_words.specs.Lags.{laggard_name}
use Rattle.pgp_group_words.specs.Sentence.{behind_part}
use Rattle.pgp_group_words.proofs.page.Page.put_behind.Goals as goal

pub returns : goal.returns
unfolding behind_part
returns c =
    let peers = map (λ peer. peer.now) c.args.laggards.now in
    let some : (length peers == 0) ≡ false =
    ap (λ n. n == 0) (length-map c.args.laggards.now (λ peer. peer.now)) ∙ sym c.if-is_empty.ensures in
    rw (some, map-map (laggard_name c.args.self.now.naming) (λ peer. peer.now) c.args.laggards.now) (rw c.in_ok-names.ensures at c.write.ensures)
