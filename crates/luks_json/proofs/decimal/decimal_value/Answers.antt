use Rattle.std.proofs.Common.{refl}
use Rattle.luks_json.proofs.Decimals.{not_plain, parsed, not_parsed}
use Rattle.luks_json.proofs.decimal.decimal_value.Goals as goal

pub returns-then-not-is_plain : goal.returns-then-not-is_plain
returns-then-not-is_plain c = not_plain c.args.text.now (λ p. let t = c.if-not-is_plain.ensures.1 p in cc)

pub returns-in-Ok : goal.returns-in-Ok
returns-in-Ok c = parsed c.args.text.now c.in-Ok.n (c.if-not-is_plain.ensures.0 refl) c.in-Ok.ensures.value.0

pub returns-in-Err : goal.returns-in-Err
returns-in-Err c = not_parsed c.args.text.now c.in-Err.field-0 c.in-Err.ensures.value.0
