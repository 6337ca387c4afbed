use Rattle.std.proofs.Common.{arith, below_more, sym, true, ◌≡◌, ◌∙◌}
use Rattle.std.proofs.lemmas.Bool.{false≢true}
use Rattle.serde_json.specs.View.{view}
use Rattle.luks_commands.specs.Reencrypting.{is_reencrypting_slot}
use Rattle.luks_commands.proofs.ReencryptionFacts.{no_slot}
use Rattle.luks_commands.proofs.reencrypting.has_reencrypting_slot.Goals as goal

pub loop-n-preserved : goal.loop-n-preserved
loop-n-preserved c =
    below_more (λ k. is_reencrypting_slot (view c.args.value.now) k ≡ true → ⊥) _ c.loop-n.invariant
    (λ is. false≢true (sym c.if-is_reencrypting_slot.false ∙ (c.is_reencrypting_slot.ensures ∙ is)))

pub returns : goal.returns
returns c = no_slot (view c.args.value.now) c.loop-n.n (omega arith) c.loop-n.invariant
