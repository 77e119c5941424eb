use Rattle.std.proofs.Common.{◌≡◌, ◌++◌, drop, map}
use Rattle.json.specs.Tree.{items_tokens}
use Rattle.serde_json.specs.View.{items_of}
use Rattle.serde_json.specs.Written.{items_outline}
use Rattle.pgp_text.proofs.reply.parts.write_list.Given as goal

-- what is written, with the rest of the list, is the whole list
abbrev pub invariant-loop-item : goal.invariant-loop-item
invariant-loop-item g l =
    (l.out.tokens ++ items_tokens (items_outline (items_of (map (g.T.Json.value l.numbers) (drop l.item-index l.items))))
    ≡ l.initial.out.tokens ++ items_tokens (items_outline (items_of (map (g.T.Json.value l.numbers) l.items))))
    × (l.out.before ≡ l.initial.out.before)
