use Rattle.std.proofs.Common.{sym}
use Rattle.luks_show.proofs.as_json.luks1.cipher_text.Goals as goal

pub returns : goal.returns
returns c = rw (sym c.as_str-name.ensures.value, sym c.as_str-mode.ensures.value) c.format.ensures.ok
