use Rattle.std.proofs.Common.{[], ◌∷◌, ◌++◌, List, String, Global, refl, sym, ap, ◌∙◌, append_assoc}
use Rattle.std.proofs.lemmas.Result.{on_ok_weaker}
use Rattle.json.specs.Token.{Token, begin_object}
use Rattle.json.specs.Tree.{members_tokens}
use Rattle.serde_json.specs.Written.{members_outline}
use Rattle.pgp_ids.specs.declared.version.Version.{Version}
use Rattle.pgp_text.specs.Versions.{versions_members}
use Rattle.pgp_text.proofs.Tokens.{field_of_members}
use Rattle.pgp_text.proofs.reply.peers.BTreeMapStringVersionJsonGlobal.write.Goals as goal

-- what is written, and behind it these members
abbrev followed_by : List Token → List (String Global × Version) → List Token
followed_by old es = old ++ members_tokens (members_outline (versions_members es))

pub loop-name-init : goal.loop-name-init
loop-name-init c =
    (ap (followed_by c.begin_object.new.self.tokens) (c.into_iter-name-iterator.ensures.into_iter_gives ∙ c.iter-name-items.ensures.rest), refl)

pub loop-name-preserved : goal.loop-name-preserved
loop-name-preserved c =
    let now = c.loop-name.invariant in
    let out = c.loop-name.out.tokens in
    (rw (c.in_ok-write_field.ensures.ok, c.as_str.ensures.value) (field_of_members out _ _ _ ∙ ap (followed_by out) (sym c.in-Some.ensures.steps) ∙ now.0), c.in_ok-write_field.ensures.before ∙ now.1)

pub returns-clause-ok : goal.returns-clause-ok
returns-clause-ok c =
    let all = c.args.self.now.entries in
    let done = ap (followed_by c.loop-name.out.tokens) (sym c.in-None.ensures.steps.0) ∙ c.loop-name.invariant.0 in
    let begun = ap (λ ts. followed_by ts all) c.in_ok-begin_object.ensures.ok ∙ append_assoc _ (begin_object ∷ []) _ in
    on_ok_weaker c.end_object.result (λ e. e ∙ done ∙ begun) c.end_object.ensures.ok
