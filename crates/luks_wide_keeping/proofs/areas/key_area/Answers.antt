use Rattle.std.proofs.Common.{refl}
use Rattle.luks_wider.specs.Underways.{content}
use Rattle.luks_wide_keeping.proofs.LayoutFacts.{luks2_area, no_area, reencrypt_area}
use Rattle.luks_wide_keeping.proofs.areas.key_area.Goals as goal

pub returns-in-Some-Luks2 : goal.returns-in-Some-Luks2
returns-in-Some-Luks2 c = luks2_area (content c.args.meta.now) c.args.n _ c.in-Some-Luks2.slot c.requires c.in-Some-Luks2.ensures.some c.in-Some-Luks2.field-0-is

pub returns-in-Some-Reencrypt : goal.returns-in-Some-Reencrypt
returns-in-Some-Reencrypt c = reencrypt_area (content c.args.meta.now) c.args.n _ c.in-Some-Reencrypt.slot c.requires c.in-Some-Reencrypt.ensures.some c.in-Some-Reencrypt.field-0-is

pub returns-in-None : goal.returns-in-None
returns-in-None c = λ a is. no_area (content c.args.meta.now) c.args.n a (c.in-None.ensures.none refl) is
