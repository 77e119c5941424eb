use Rattle.std.proofs.Common.{◌++◌, ap, ap₂, ◌∙◌}
use Rattle.std.proofs.lemmas.Result.{on_ok_weaker}
use Rattle.json.specs.Print.{print}
use Rattle.serde_json.proofs.Texts.{print-outline}
use Rattle.pgp_text.specs.Reply.{reply_data}
use Rattle.pgp_text.specs.Written.{tokens_of}
use Rattle.pgp_text.specs.declared.reply.Reply.TheVariants.{Asked}
use Rattle.pgp_text.proofs.reply.ReplyWriter.put_asked.Goals as goal

pub returns-clause-ok : goal.returns-clause-ok
returns-clause-ok c =
    let d = reply_data (Asked c.args.pg (record c.args.view.now { count = c.args.count; epoch = c.args.epoch })) in
    let before = c.in_ok-write_asked.ensures.before ∙ c.begin-out.ensures.before in
    let joined = c.in_ok-write_asked.ensures.ok ∙ ap (λ ts. ts ++ tokens_of d) c.begin-out.ensures.tokens in
    on_ok_weaker c.end.result
    (λ e. e ∙ ap (λ s. c.args.text.now.items ++ s) (ap₂ (λ b ts. b ++ print ts) before joined ∙ print-outline d)) c.end.ensures.ok
