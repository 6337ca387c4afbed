use Rattle.std.proofs.Common.{◌∙◌, sym, ap, subst, inl, inr, arith}
use Rattle.std.proofs.lemmas.Bool.{cases_eq}
use Rattle.luks_making.specs.Conversions.{FitsSourceSlot}
use Rattle.luks_making.specs.Converted.{source_members, source_slot_members}
use Rattle.luks_making.proofs.MemberFacts.{no_some, some_same}
use Rattle.luks_making.proofs.SourceFacts.{slot_found, slot_missing}
use Rattle.luks_making.proofs.source_volume.slots_fit.Goals.{in-Some, in_default}
use Rattle.luks_making.proofs.source_volume.slots_fit.Goals as goal

pub loop-slot-init : goal.loop-slot-init
loop-slot-init c = λ n s low is. absurd (omega (arith, low))

pub loop-slot-preserved : goal.loop-slot-preserved
loop-slot-preserved c = λ n s low is. elim (cases_eq n c.loop-slot.slot-index) [
  | inr other ↦ c.loop-slot.invariant n s (omega (arith, low, other)) is
  | inl same ↦ elim c.match-slot.branch [
    | in-Some w ↦ subst FitsSourceSlot (some_same (source_slot_members w.in-Some.slot) s (sym (slot_found c.args.volume.now c.loop-slot.slot-index w.in-Some.slot w.in-Some.is) ∙ ap (source_members c.args.volume.now).slot (sym same) ∙ is)) w.slot_fits.ensures
    | in_default w ↦ absurd (no_some s (sym (slot_missing c.args.volume.now c.loop-slot.slot-index w.in_default.is) ∙ ap (source_members c.args.volume.now).slot (sym same) ∙ is))
  ]
]

pub returns : goal.returns
returns c = λ n s low is. let all = c.loop-slot-test.false in c.loop-slot.invariant n s (omega (arith, low, all)) is
