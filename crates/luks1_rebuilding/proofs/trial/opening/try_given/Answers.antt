use Rattle.std.proofs.Common.{◌≡◌, ◌∙◌, ℕ, length, IfNone, IfSome, refl, subst, sym}
use Rattle.luks1_mending.specs.Made.{IsMade}
use Rattle.luks1_rebuilding.specs.KeyAreas.{header_of}
use Rattle.luks1_rebuilding.proofs.RebuiltFacts.{moved}
use Rattle.luks1_mending.specs.declared.given.Given.{Given}
use Rattle.luks1_rebuilding.specs.Openings.{IsFirstSlot, OpensNone}
use Rattle.luks1_rebuilding.specs.Tried.{IsMadeOf}
use Rattle.luks1_rebuilding.proofs.trial.opening.try_given.Goals as goal

pub returns-in-Some-clause-opens : goal.returns-in-Some-clause-opens
returns-in-Some-clause-opens g c = λ tells.
    let v = g.D.Device.bytes c.args.source.now in
    let given = c.args.given.now in
    let sized : length v ≡ c.len.result = g.met.D.Device.sized c.args.source.now tells ∙ sym c.len.ensures in
    let made : IsMadeOf v given c.in-Ok.made =
    moved (λ h n. IsMade h n given c.in-Ok.made) c.args.header.now (header_of v) c.len.result (length v) (c.requires.header tells) (sym sized) c.in-Ok.ensures.made in
    record { given = refl; made = made; written = c.write-bytes.ensures.written; opens = subst (λ o. IfSome o (λ n. (g' : Given) → IsMadeOf v g' c.in-Ok.made → IsFirstSlot v g' c.args.passphrase.now n)) c.in-Some.is (c.in_ok-slot.ensures.opens tells) given made }

pub returns-in-None-clause-none : goal.returns-in-None-clause-none
returns-in-None-clause-none g c = λ tells.
    let v = g.D.Device.bytes c.args.source.now in
    let given = c.args.given.now in
    let sized : length v ≡ c.len.result = g.met.D.Device.sized c.args.source.now tells ∙ sym c.len.ensures in
    let made : IsMadeOf v given c.in-Ok.made =
    moved (λ h n. IsMade h n given c.in-Ok.made) c.args.header.now (header_of v) c.len.result (length v) (c.requires.header tells) (sym sized) c.in-Ok.ensures.made in
    subst (λ o. IfNone o ((g' : Given) → IsMadeOf v g' c.in-Ok.made → OpensNone v g' c.args.passphrase.now)) c.in-None.is (c.in_ok-slot.ensures.none tells) given made

pub first_slot-requires-clause-made : goal.first_slot-requires-clause-made
first_slot-requires-clause-made g c = record {
  bytes = c.args.header.now;
  given = c.args.given.now;
  made = subst (λ (n : ℕ). IsMade c.args.header.now n c.args.given.now c.in-Ok.made) c.len.ensures c.in-Ok.ensures.made;
  as_written = c.write-bytes.result;
  written = c.write-bytes.ensures.written;
}
