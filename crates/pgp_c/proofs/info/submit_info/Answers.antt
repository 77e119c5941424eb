use Rattle.std.proofs.Common.{rules, subst}
use Rattle.pgp_ids.specs.declared.entry.Entry.TheVariants as entry
use Rattle.pgp_c.specs.Submit.{TellsEntry}
use Rattle.pgp_c.proofs.info.submit_info.Goals as goal

pub returns : goal.returns
returns c = record {
  bad = λ no. absurd (no (search rules));
  good = λ is. subst (λ info. TellsEntry c.args.session.now c.tell.new.session (entry.Info info) c.tell.result)
      c.in-Some.ensures.value c.tell.ensures;
}
