use Rattle.std.proofs.Common.{rules}
use Rattle.luks_json.proofs.Encodings.{too_long, refused, kept}
use Rattle.luks_json.proofs.encoded.base64_bytes.Goals as goal

pub returns-then-text-gt172 : goal.returns-then-text-gt172
returns-then-text-gt172 c = too_long c.args.text.now c.if-text-gt172.true

pub returns-in-Err : goal.returns-in-Err
returns-in-Err c = refused c.args.text.now c.in-Err.field-0 (rw c.as_bytes.ensures.value at c.in-Err.ensures.err)

pub returns-in-Ok : goal.returns-in-Ok
returns-in-Ok c = kept c.args.text.now _ _ (search rules) c.in_place.ensures.are_bytes (rw c.as_bytes.ensures.value at c.in-Ok.ensures.ok.0) c.in_place.ensures.few
