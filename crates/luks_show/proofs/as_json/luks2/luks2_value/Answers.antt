use Rattle.std.proofs.Common.{ap, ◌∙◌}
use Rattle.serde_json.specs.Data.{object}
use Rattle.luks_show.specs.Luks2Value.{header_members, with_objects}
use Rattle.luks_show.proofs.as_json.luks2.luks2_value.Goals as goal

pub returns : goal.returns
returns c = record {
  config = c.config-config.result;
  texts = c.in_ok-texts.texts;
  objects = c.in_ok-objects.objects;
  told_sizes = c.config-config.ensures;
  told_texts = c.in_ok-texts.ensures;
  told_objects = c.in_ok-objects.ensures;
  is =
      c.from.ensures
      ∙ ap object (c.in_ok-put_objects.ensures
      ∙ ap (with_objects c.in_ok-objects.objects) (c.in_ok-members.ensures
      ∙ ap (λ sizes. header_members c.args.copy sizes c.in_ok-texts.texts) c.in_ok-sizes.ensures));
}
