use Rattle.std.proofs.Common.{refl}
use Rattle.std.proofs.lemmas.Bool.{false≢true}
use Rattle.luks_finding.proofs.HeadFacts.{made-usable, usable-faultless}
use Rattle.luks_finding.proofs.luks1_headers.is_usable_head.Goals as goal

pub returns-in-Ok : goal.returns-in-Ok
returns-in-Ok c = (
  λ yes. made-usable c.args.header.now c.args.total _ _ (record { cipher_name = refl; cipher_mode = refl; hash = refl; key_bytes = refl; payload = refl; uuid = refl }) c.in-Ok.ensures.made,
  λ usable. refl,
)

pub returns-in-Err : goal.returns-in-Err
returns-in-Err c = (
  λ f. absurd (false≢true f),
  λ usable. absurd (usable-faultless c.args.header.now _ _ (record { cipher_name = refl; cipher_mode = refl; hash = refl; key_bytes = refl; payload = refl; uuid = refl }) usable c.in-Err.ensures.fault.0),
)
