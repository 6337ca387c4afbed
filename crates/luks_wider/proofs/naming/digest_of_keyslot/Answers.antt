use Rattle.std.proofs.Common.{refl}
use Rattle.serde_json.specs.View.{view}
use Rattle.luks_meta.proofs.Namings.{no_digest}
use Rattle.luks_wider.proofs.WideNamings.{digest_only, digest_some, digest_there}
use Rattle.luks_wider.proofs.naming.digest_of_keyslot.Goals as goal

pub returns-in-Some-clause-some : goal.returns-in-Some-clause-some
returns-in-Some-clause-some c =
    digest_some (view c.args.value.now) c.args.number (view c.in-Some.field-0.now) c.in-Some.ensures.some.0 c.in-Some.ensures.some.1 c.first_naming.result c.first_naming.ensures

pub returns-in-Some-clause-only : goal.returns-in-Some-clause-only
returns-in-Some-clause-only c =
    digest_only (view c.args.value.now) c.requires c.args.number (view c.in-Some.field-0.now) c.in-Some.ensures.some.0 c.in-Some.ensures.some.1 c.first_naming.result c.first_naming.ensures

pub returns-in-Some-clause-there : goal.returns-in-Some-clause-there
returns-in-Some-clause-there c = λ small slot.
    digest_there (view c.args.value.now) c.requires c.args.number (view c.in-Some.field-0.now) c.in-Some.ensures.some.0 c.in-Some.ensures.some.1 c.first_naming.result c.first_naming.ensures

pub returns-in-None-clause-only : goal.returns-in-None-clause-only
returns-in-None-clause-only c = λ m d. absurd (no_digest (view c.args.value.now) c.args.number (c.in-None.ensures.none refl) m d)
