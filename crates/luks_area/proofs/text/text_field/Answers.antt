use Rattle.std.proofs.Common.{sym}
use Rattle.std.proofs.lemmas.Str.{IsUtf8-from_ascii}
use Rattle.luks_area.proofs.Cutting.{plain-ascii}
use Rattle.luks_area.proofs.text.text_field.Goals as goal

pub returns-in-Err : goal.returns-in-Err
returns-in-Err c = absurd (c.in-Err.ensures.cases.0 (IsUtf8-from_ascii _ (plain-ascii _ (sym c.if-not-is_plain.ensures))))
