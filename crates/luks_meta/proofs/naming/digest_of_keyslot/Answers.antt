use Rattle.std.proofs.Common.{refl}
use Rattle.serde_json.specs.View.{view, members_view}
use Rattle.luks_meta.proofs.Namings.{all_unique, named_by, digest_some, digest_only, digest_there, no_digest}
use Rattle.luks_meta.proofs.naming.digest_of_keyslot.Goals as goal

pub returns-in-Some-clause-some : goal.returns-in-Some-clause-some
returns-in-Some-clause-some c = digest_some (view c.args.value.now) c.args.number (members_view c.digests_of.result.now.entries) c.first_naming.result
    (named_by c.requires.len (view c.args.value.now) c.args.number (view c.in-Some.field-0.now) (members_view c.digests_of.result.now.entries) c.requires.content c.in-Some.ensures.some c.digests_of.ensures c.first_naming.ensures.unique) (rw c.number_text.ensures at c.first_naming.ensures.first)

pub returns-in-Some-clause-only : goal.returns-in-Some-clause-only
returns-in-Some-clause-only c = digest_only (view c.args.value.now) c.args.number (members_view c.digests_of.result.now.entries) c.first_naming.result
    (named_by c.requires.len (view c.args.value.now) c.args.number (view c.in-Some.field-0.now) (members_view c.digests_of.result.now.entries) c.requires.content c.in-Some.ensures.some c.digests_of.ensures c.first_naming.ensures.unique) (rw c.number_text.ensures at c.first_naming.ensures.first)

pub returns-in-Some-clause-there : goal.returns-in-Some-clause-there
returns-in-Some-clause-there c = λ small slot. digest_there (view c.args.value.now) c.args.number (members_view c.digests_of.result.now.entries) c.first_naming.result
    (named_by c.requires.len (view c.args.value.now) c.args.number (view c.in-Some.field-0.now) (members_view c.digests_of.result.now.entries) c.requires.content c.in-Some.ensures.some c.digests_of.ensures c.first_naming.ensures.unique) (rw c.number_text.ensures at c.first_naming.ensures.first)

pub returns-in-None-clause-only : goal.returns-in-None-clause-only
returns-in-None-clause-only c = λ m d. absurd (no_digest (view c.args.value.now) c.args.number (c.in-None.ensures.none refl) m d)

pub returns-in-Some-clause-unique : goal.returns-in-Some-clause-unique
returns-in-Some-clause-unique c = all_unique (view c.args.value.now) (members_view c.digests_of.result.now.entries) c.first_naming.result c.digests_of.ensures c.first_naming.ensures.unique
