use Rattle.std.proofs.Common.{refl}
use Rattle.serde_json.specs.View.{view}
use Rattle.luks_rules.specs.declared.table.Section.TheVariants.{Digests}
use Rattle.luks_meta.specs.Says.{TellsDigest}
use Rattle.luks_wider.proofs.WideListed.{digest_keyslots, digest_segments}
use Rattle.luks_meta.proofs.ObjectsRead.{told, not_missing, held}
use Rattle.luks_wider.proofs.objects.digest_in.Goals as goal

pub returns-in-Some-clause-some : goal.returns-in-Some-clause-some
returns-in-Some-clause-some c =
    told TellsDigest (view c.args.value.now) Digests c.args.number (view c.in-Some.object.now) _ c.in-Some.ensures.some.1 c.read_digest.ensures.tells

pub returns-in-Some-clause-none : goal.returns-in-Some-clause-none
returns-in-Some-clause-none c =
    not_missing _ (view c.args.value.now) Digests c.args.number
    (c.read_digest.ensures.there (c.requires.rules.digests c.args.number _ (held (view c.args.value.now) Digests c.args.number (view c.in-Some.object.now) refl c.in-Some.ensures.some)) (digest_keyslots c.requires.len (view c.args.value.now) c.requires.rules c.args.number _ (held (view c.args.value.now) Digests c.args.number (view c.in-Some.object.now) refl c.in-Some.ensures.some)) (digest_segments c.requires.len (view c.args.value.now) c.requires.rules c.args.number _ (held (view c.args.value.now) Digests c.args.number (view c.in-Some.object.now) refl c.in-Some.ensures.some)))
