use Rattle.std.proofs.Common.{inl, inr}
use Rattle.luks1_header.specs.Header1.{header_text}
use Rattle.luks1_header.specs.declared.fault.TextField.TheVariants.{CipherName, HashSpec}
use Rattle.luks1_mending.specs.Signs.{HasPlausibleEntry, HasUsualIterations, IsKnownCipher, IsKnownHash}
use Rattle.luks1_mending.proofs.SignFacts.{two_by}
use Rattle.luks1_mending.proofs.signs.has_signs.Goals as goal

pub returns : goal.returns
returns c =
    let h = c.args.header.now in
    let two = two_by (IsKnownCipher (header_text h CipherName)) (IsKnownHash (header_text h HashSpec)) (HasUsualIterations h) (HasPlausibleEntry h c.args.total)
    c.has_known_cipher.result c.has_known_hash.result c.has_usual_iterations.result c.has_plausible_entry.result c.are_two.result
    c.has_known_cipher.ensures c.has_known_hash.ensures c.has_usual_iterations.ensures c.has_plausible_entry.ensures c.are_two.ensures in (
      λ yes. inr (two.0 yes),
      λ x. elim x [
        | inl magic ↦ (let yes = c.has_magic.ensures.1 magic in let no = c.if-has_magic.false in absurd (cc))
        | inr signs ↦ two.1 signs
      ],
    )
