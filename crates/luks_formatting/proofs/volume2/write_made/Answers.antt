use Rattle.std.proofs.Common.{◌≡◌, ℕ, List, length, arith, ap, sym, subst, ◌∙◌, inl}
use Rattle.std.specs.Prelude.{IfSome}
use Rattle.luks_making.specs.Derivations.{IsMakeable}
use Rattle.luks_slot.specs.declared.allowed.Allowed.{Allowed}
use Rattle.luks_formatting.specs.NewPlan.{IsSealableWithin, IsSealedAhead}
use Rattle.luks_area.specs.Ranges.{IsAt}
use Rattle.luks_area.proofs.RangeFacts.{same_but-same}
use Rattle.luks_formatting.specs.Given.{key_of}
use Rattle.luks_formatting.proofs.EncryptingFacts.{sizes}
use Rattle.luks_formatting.proofs.GivenFacts.{length-key_of}
use Rattle.luks_formatting.proofs.volume2.write_made.Goals as goal

pub sealed_ahead-requires-clause-sealable : goal.sealed_ahead-requires-clause-sealable
sealed_ahead-requires-clause-sealable g c =
    let volume = c.args.volume.now in
    let counted = c.requires.long in
    let allowed : Allowed = c.judged.result.allowed in
    let long : length c.key_of-key.result.now ≡ volume.given.now.key_bytes = ap length c.key_of-key.ensures ∙ length-key_of volume.given.now volume.random.now c.requires.sound.key (omega (arith, counted)) in
    let can : IfSome volume.chosen (IsMakeable allowed.memory) = subst (λ (memory : ℕ). IfSome volume.chosen (IsMakeable memory)) (sym c.judged.ensures.memory) c.requires.makeable in
    subst (λ (k : ℕ). IsSealableWithin allowed k c.slot_plan-plan.result) (sym long) (c.slot_plan-plan.ensures.sealable allowed c.judged.ensures.older can)

pub write_volume-requires-2-clause-sealable : goal.write_volume-requires-2-clause-sealable
write_volume-requires-2-clause-sealable g c =
    let volume = c.args.volume.now in
    let given = volume.given.now in
    let counted = c.requires.long in
    let plan = c.slot_plan-plan.result in
    let words : List ℕ = c.judged.result.bytes.now in
    let key : List ℕ = c.key_of-key.result.now in
    let stripes : List ℕ = c.random_stripes-stripes.result.now in
    let area : List ℕ = c.contents.result.now in
    let long : length key ≡ given.key_bytes = ap length c.key_of-key.ensures ∙ length-key_of given volume.random.now c.requires.sound.key (omega (arith, counted)) in
    let held : IsSealedAhead (length key) plan words key stripes area = rw c.contents.ensures c.in-Ok.ensures in
    let counts : IsSealedAhead given.key_bytes plan words key stripes area = subst (λ (k : ℕ). IsSealedAhead k plan words key stripes area) long held in
    let by_words : IsSealedAhead given.key_bytes plan volume.passphrase.bytes.now key stripes area = subst (λ (w : List ℕ). IsSealedAhead given.key_bytes plan w key stripes area) c.judged.ensures.bytes counts in
    let of_key : IsSealedAhead given.key_bytes plan volume.passphrase.bytes.now (key_of given volume.random.now) stripes area = subst (λ (k : List ℕ). IsSealedAhead given.key_bytes plan volume.passphrase.bytes.now k stripes area) c.key_of-key.ensures by_words in
    subst (λ (s : List ℕ). IsSealedAhead given.key_bytes plan volume.passphrase.bytes.now (key_of given volume.random.now) s area) c.random_stripes-stripes.ensures.value of_key

pub sealed_ahead-requires-clause-some_key : goal.sealed_ahead-requires-clause-some_key
sealed_ahead-requires-clause-some_key g c =
    let volume = c.args.volume.now in
    let counted = c.requires.long in
    let long = ap length c.key_of-key.ensures ∙ length-key_of volume.given.now volume.random.now c.requires.sound.key (omega (arith, counted)) in
    let low = (sizes volume.given.now.cipher volume.given.now.key_bytes c.requires.sound.takes).low in
    omega (arith, long, low)

pub sealed_ahead-requires-clause-short_key : goal.sealed_ahead-requires-clause-short_key
sealed_ahead-requires-clause-short_key g c =
    let volume = c.args.volume.now in
    let counted = c.requires.long in
    let long = ap length c.key_of-key.ensures ∙ length-key_of volume.given.now volume.random.now c.requires.sound.key (omega (arith, counted)) in
    let high = (sizes volume.given.now.cipher volume.given.now.key_bytes c.requires.sound.takes).high in
    omega (arith, long, high)

pub sealed_ahead-requires-clause-random_length : goal.sealed_ahead-requires-clause-random_length
sealed_ahead-requires-clause-random_length g c =
    let volume = c.args.volume.now in
    let counted = c.requires.long in
    let long = ap length c.key_of-key.ensures ∙ length-key_of volume.given.now volume.random.now c.requires.sound.key (omega (arith, counted)) in
    let stripes = c.random_stripes-stripes.ensures.length in
    omega (arith, long, stripes)

pub returns-in_default-clause-order : goal.returns-in_default-clause-order
returns-in_default-clause-order g c tells = inl (same_but-same (IsAt 0 512) (g.D.Device.bytes c.args.device.now))
