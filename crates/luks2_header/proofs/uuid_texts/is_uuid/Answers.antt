use Rattle.std.proofs.Common.{sym, ◌∙◌}
use Rattle.luks1_header.proofs.UuidTextFacts.{read_from, reads_as}
use Rattle.luks2_header.proofs.uuid_texts.is_uuid.Goals as goal

pub returns-then-text-eq36 : goal.returns-then-text-eq36
returns-then-text-eq36 c = (
  (λ fits. let read = c.try_parse.ensures.ok.0 (sym c.is_ok.ensures.value ∙ fits) in reads_as _ read.0 c.if-text-eq36.true read.1),
  (λ good. c.is_ok.ensures.value ∙ c.try_parse.ensures.ok.1 (_, sym (read_from c.args.text.now good))),
)
