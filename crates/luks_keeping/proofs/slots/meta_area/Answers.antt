use Rattle.std.proofs.Common.{refl}
use Rattle.luks_meta.specs.Content.{content}
use Rattle.luks_keeping.proofs.SlotFacts.{no_slot}
use Rattle.luks_keeping.proofs.slots.meta_area.Goals as goal

pub returns-in-None : goal.returns-in-None
returns-in-None c = λ a is. no_slot (content c.args.meta.now) c.args.n a (c.in-None.ensures.none refl c.requires) is
