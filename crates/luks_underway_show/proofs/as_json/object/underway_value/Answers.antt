use Rattle.std.proofs.Common.{ap, ◌∙◌, codes}
use Rattle.serde_json.specs.Data.{object, put}
use Rattle.serde_json.specs.View.{view}
use Rattle.luks_show.specs.Luks2Value.{with_objects}
use Rattle.luks_underway_show.specs.UnderwayValue.{copy_members}
use Rattle.luks_underway_show.proofs.as_json.object.underway_value.Goals as goal

pub returns : goal.returns
returns c = record {
  config = c.config-config.result;
  texts = c.in_ok-texts.texts;
  objects = c.in_ok-objects.objects;
  under_way = view c.in_ok-under_way.under_way;
  told_sizes = c.config-config.ensures;
  told_texts = c.in_ok-texts.ensures;
  told_objects = c.in_ok-objects.ensures;
  told_under_way = c.in_ok-under_way.ensures;
  is =
      c.from.ensures
      ∙ ap object (c.in_ok-put.ensures.ok
      ∙ ap (put (codes "under_way") (view c.in_ok-under_way.under_way)) (c.in_ok-put_objects.ensures
      ∙ ap (with_objects c.in_ok-objects.objects) (c.in_ok-members.ensures
      ∙ ap (λ sizes. copy_members c.args.copy.header c.args.copy.copies sizes c.in_ok-texts.texts) c.in_ok-sizes.ensures)));
}
