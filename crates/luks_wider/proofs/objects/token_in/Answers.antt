use Rattle.std.proofs.Common.{refl}
use Rattle.serde_json.specs.View.{view}
use Rattle.luks_rules.specs.declared.table.Section.TheVariants.{Tokens}
use Rattle.luks_meta.specs.Says.{TellsToken}
use Rattle.luks_wider.proofs.WideListed.{token_keyslots}
use Rattle.luks_meta.proofs.ObjectsRead.{told, not_missing, held}
use Rattle.luks_wider.proofs.objects.token_in.Goals as goal

pub returns-in-Some-clause-some : goal.returns-in-Some-clause-some
returns-in-Some-clause-some c =
    told TellsToken (view c.args.value.now) Tokens c.args.number (view c.in-Some.object.now) _ c.in-Some.ensures.some.1 c.read_token.ensures.tells

pub returns-in-Some-clause-none : goal.returns-in-Some-clause-none
returns-in-Some-clause-none c =
    not_missing _ (view c.args.value.now) Tokens c.args.number
    (c.read_token.ensures.there (c.requires.rules.tokens c.args.number _ (held (view c.args.value.now) Tokens c.args.number (view c.in-Some.object.now) refl c.in-Some.ensures.some)) (token_keyslots c.requires.len (view c.args.value.now) c.requires.rules c.args.number _ (held (view c.args.value.now) Tokens c.args.number (view c.in-Some.object.now) refl c.in-Some.ensures.some)))
