use Rattle.std.proofs.Common.{rules, ap, ◌∙◌, not}
use Rattle.std.proofs.lemmas.Fn.{filter_same}
use Rattle.serde_json.specs.View.{view, items_view}
use Rattle.luks_json.specs.Arrays.{is_text}
use Rattle.luks_making.proofs.MapFacts.{kept_items}
use Rattle.luks_making.proofs.without.without_text.Goals as goal

pub returns : goal.returns
returns c =
    ap items_view (filter_same _ (λ v. not (is_text c.args.text.now (view v))) _ (λ x b f' k. search rules) _ _ c.retain.ensures.filtered)
    ∙ kept_items c.args.text.now c.args.items.items
