use Rattle.std.proofs.Common.{ℕ, get_or, sym, subst, ◌∙◌}
use Rattle.std.proofs.lemmas.Result.{err_from_is_err_and}
use Rattle.luks_area.specs.declared.area.AreaName.TheVariants.{Head1}
use Rattle.luks_area.specs.declared.areas.Entry.{Entry}
use Rattle.luks_area.specs.Area.{IsInside}
use Rattle.luks2_editing.proofs.WipingFacts.{front_more, item_has, rest_more, torn_item, wiped_more}
use Rattle.luks2_editing.proofs.wiping.wipe_keyslots.Goals as goal

-- what a place past the list reads as
abbrev past : Entry
past = record { name = Head1; area = record { start = 0; len = 0 } }

pub wipe_keyslot-requires-clause-inside : goal.wipe_keyslot-requires-clause-inside
wipe_keyslot-requires-clause-inside g c = λ n named.
    let es = c.args.areas.now in
    let i = c.loop-entry.entry-index in
    subst (λ (m : ℕ). IsInside (get_or es i past).area m) (sym c.loop-entry.invariant.size)
    (c.requires.inside n (get_or es i past).area (item_has es i past c.requires.increasing c.loop-entry-test.true n named))

pub returns-in_err-wipe_keyslot-clause-rest : goal.returns-in_err-wipe_keyslot-clause-rest
returns-in_err-wipe_keyslot-clause-rest g c = λ tells.
    rest_more c.args.areas.now c.loop-entry.entry-index past c.requires.increasing c.loop-entry-test.true
    (g.D.Device.bytes c.loop-entry.device) (g.D.Device.bytes c.wipe_keyslot.new.device) (c.wipe_keyslot.ensures.rest tells)
    (g.D.Device.bytes c.args.device.now) (c.loop-entry.invariant.rest tells)

pub returns-in_err-wipe_keyslot-clause-torn : goal.returns-in_err-wipe_keyslot-clause-torn
returns-in_err-wipe_keyslot-clause-torn g c = λ tells apart.
    let p = err_from_is_err_and c.from_residual.result c.from_residual.ensures.1 in
    let slot = c.in_err-wipe_keyslot.ensures.slot in
    rw p.1
    (torn_item c.args.areas.now c.loop-entry.entry-index past c.requires.increasing c.loop-entry-test.true
    (g.D.Device.bytes c.loop-entry.device) (g.D.Device.bytes c.wipe_keyslot.new.device) (c.wipe_keyslot.ensures.rest tells)
    (g.D.Device.bytes c.args.device.now) apart (c.loop-entry.invariant.wiped tells apart) (c.loop-entry.invariant.rest tells) slot.0 slot.1)

pub loop-entry-preserved : goal.loop-entry-preserved
loop-entry-preserved g c =
    let now = c.loop-entry.invariant in
    let count = c.in_ok-wipe_keyslot.ensures.settles.count in
    record {
      size = c.wipe_keyslot.ensures.settles.size ∙ now.size;
      count = count ∙ now.count;
      settled = λ tells. c.wipe_keyslot.ensures.settles.settled tells count;
      wiped = λ tells apart. wiped_more c.args.areas.now c.loop-entry.entry-index past c.requires.increasing c.loop-entry-test.true
          (g.D.Device.bytes c.loop-entry.device) (g.D.Device.bytes c.wipe_keyslot.new.device) (c.wipe_keyslot.ensures.rest tells)
          apart (now.wiped tells apart) (c.in_ok-wipe_keyslot.ensures.wiped tells);
      rest = λ tells. front_more c.args.areas.now c.loop-entry.entry-index past c.requires.increasing c.loop-entry-test.true
          (g.D.Device.bytes c.loop-entry.device) (g.D.Device.bytes c.wipe_keyslot.new.device) (c.wipe_keyslot.ensures.rest tells)
          (g.D.Device.bytes c.args.device.now) (now.rest tells);
    }
