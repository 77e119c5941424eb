use Rattle.std.proofs.Common.{◌≢◌, ℕ, true, refl}
use Rattle.pgp_text.specs.declared.reply.Reply.{Reply}
use Rattle.pgp_text.specs.declared.reply.Reply.TheVariants.{Accepted, Asked, Located, Traced, Refused}
use Rattle.pgp_lines.specs.declared.command.op.Op.{Op}
use Rattle.pgp_core.specs.Answerer.{says_accepted}
use Rattle.pgp_core.proofs.answer.put_reply.Goals as goal

-- only the answer to an entry that was taken is one
not_accepted : (reply : Reply) → ((op : Op) (count epoch : ℕ) → reply ≢ Accepted op count epoch) → says_accepted reply ≢ true
not_accepted (Accepted op count epoch) other is = other op count epoch refl
not_accepted (Asked pg view) other is = cc
not_accepted (Located pg members epoch) other is = cc
not_accepted (Traced first past) other is = cc
not_accepted (Refused refused) other is = cc

pub returns-in_err-put-in_default-clause-sure : goal.returns-in_err-put-in_default-clause-sure
returns-in_err-put-in_default-clause-sure c = λ is room. absurd (not_accepted c.args.reply.now c.in_default.not-Accepted is)

pub returns-in_ok-put-in_default-clause-sure : goal.returns-in_ok-put-in_default-clause-sure
returns-in_ok-put-in_default-clause-sure c = λ is room. absurd (not_accepted c.args.reply.now c.in_default.not-Accepted is)
