use Rattle.std.proofs.Common.{◌≡◌, ℕ, List, [], ◌∷◌, ◌++◌, codes, decimal, ap, ◌∙◌, append_assoc}
use Rattle.serde_json.proofs.OnLiterals.{serde_json_on_literals}
use Rattle.pgp_text.specs.Reply.{reply_text}
use Rattle.pgp_lines.specs.Op.{op_name}
use Rattle.pgp_text.specs.declared.reply.Reply.TheVariants.{Accepted}
use Rattle.pgp_lines.specs.declared.command.op.Op.{Op}
use Rattle.pgp_lines.specs.declared.command.op.Op.TheVariants.{Ask, Close, Entries, Inc, Info, Locate, Trace}
use Rattle.pgp_core.proofs.accepted.put_accepted.Goals as goal

text_is : (op : Op) (count epoch : ℕ)
    → codes "{\"count\":" ++ (decimal count ++ (codes ",\"epoch\":" ++ (decimal epoch ++ (codes ",\"ok\":\"" ++ (op_name op ++ codes "\"}\n")))))
    ≡ reply_text (Accepted op count epoch) ++ 10 ∷ []
unfolding serde_json_on_literals
text_is Ask count epoch = simp append_assoc
text_is Inc count epoch = simp append_assoc
text_is Info count epoch = simp append_assoc
text_is Entries count epoch = simp append_assoc
text_is Close count epoch = simp append_assoc
text_is Locate count epoch = simp append_assoc
text_is Trace count epoch = simp append_assoc

-- seven pieces, one put behind the other
seven : (t t1 t2 t3 t4 t5 t6 t7 a b c d e f h : List ℕ) → t1 ≡ t ++ a → t2 ≡ t1 ++ b → t3 ≡ t2 ++ c → t4 ≡ t3 ++ d → t5 ≡ t4 ++ e → t6 ≡ t5 ++ f → t7 ≡ t6 ++ h
    → t7 ≡ t ++ (a ++ (b ++ (c ++ (d ++ (e ++ (f ++ h))))))
seven t t1 t2 t3 t4 t5 t6 t7 a b c d e f h e1 e2 e3 e4 e5 e6 e7 = simp (e1, e2, e3, e4, e5, e6, e7, append_assoc)

pub returns-clause-ok : goal.returns-clause-ok
returns-clause-ok c =
    let text = c.args.text.now.items in
    let epoch : c.from.result ≡ c.args.epoch = cc (c.from.ensures, c.number.ensures) in
    let name : c.as_bytes.result.now ≡ op_name c.args.op = cc (c.as_bytes.ensures.value, c.name.ensures) in
    seven text _ _ _ _ _ _ _ (codes "{\"count\":") (decimal c.args.count) (codes ",\"epoch\":") (decimal c.args.epoch) (codes ",\"ok\":\"") (op_name c.args.op) (codes "\"}\n")
    (c.put.ensures.items ∙ ap (λ l. l ++ codes "{\"count\":") c.in_ok-reserve.ensures.items)
    c.put_number.ensures.items
    c.put-2.ensures.items
    (c.put_number-2.ensures.items ∙ ap (λ n. c.put-2.new.text.items ++ decimal n) epoch)
    c.put-3.ensures.items
    (c.put-4.ensures.items ∙ ap (λ l. c.put-3.new.text.items ++ l) name)
    c.put-5.ensures.items
    ∙ ap (λ l. text ++ l) (text_is c.args.op c.args.count c.args.epoch)
