use Rattle.std.proofs.Common.{None, refl}
use Rattle.luks_kdf.specs.Names.{name_of}
use Rattle.luks_slot.specs.Allowance.{without_memory}
use Rattle.std.specs.Prelude.{true}
use Rattle.luks_formatting.proofs.EncryptingFacts.{opens1}
use Rattle.luks_formatting.proofs.NewPlanFacts.{pbkdf2_within, unrefused_by}
use Rattle.luks_formatting.specs.NewHeader1.{IsNewCipher1}
use Rattle.luks_formatting.proofs.luks1.slot_plan.Goals as goal

pub returns-clause-sealable : goal.returns-clause-sealable
returns-clause-sealable c =
    let given = c.args.given.now in
    let format = c.args.format.now in
    let plan = c.new_plan.result in
    let new = c.new_plan.ensures.plan in
    let cipher : IsNewCipher1 given.cipher plan.cipher = rw c.new_plan.ensures.cipher (refl, c.mode.ensures.value) in
    record {
      within = record {
        unrefused = unrefused_by format None given.cipher given.key_bytes _ _ _ _ plan new (opens1 given.cipher plan.cipher cipher) c.requires.takes (without_memory true) (λ is. refl)
            (pbkdf2_within 0 (name_of format.hash) format.iterations _ plan.derivation new.derivation);
        iterations = c.new_plan.ensures.iterations c.requires.iterations;
        key_bytes = new.key_bytes;
        stripes = new.stripes;
      };
      here = c.new_plan.ensures.here;
    }
