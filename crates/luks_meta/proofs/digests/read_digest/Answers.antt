use Rattle.std.proofs.lemmas.Bool.{false≢true}
use Rattle.std.proofs.Common.{◌∷◌, [], codes, refl}
use Rattle.serde_json.specs.View.{view}
use Rattle.luks_rules.specs.declared.table.Outer.TheVariants as outer
use Rattle.luks_rules.specs.declared.table.Member.TheVariants as name
use Rattle.luks_rules.specs.Table.{digest_rows}
use Rattle.luks_rules.specs.Faults.{type_at}
use Rattle.luks_rules.specs.Reading.{whole, text, bytes}
use Rattle.luks_meta.proofs.RowsRead.{lost, at_top, unlisted}
use Rattle.luks_meta.proofs.digests.read_digest.Goals as goal

pub returns-then-not-has_type-clause-there : goal.returns-then-not-has_type-clause-there
returns-then-not-has_type-clause-there c = λ read keyslots segments.
    absurd (unlisted (type_at (view c.args.object.now) outer.Top) (codes "pbkdf2" ∷ []) (c.if-not-has_type.ensures, tt) (at_top digest_rows (view c.args.object.now) name.Kind _ read refl refl refl))

pub returns-in_err-keyslots-clause-there : goal.returns-in_err-keyslots-clause-there
returns-in_err-keyslots-clause-there c = λ read keyslots segments. absurd (false≢true (c.in_err-keyslots.ensures.there keyslots))

pub returns-in_err-segments-clause-there : goal.returns-in_err-segments-clause-there
returns-in_err-segments-clause-there c = λ read keyslots segments. absurd (false≢true (c.in_err-segments.ensures.there segments))

pub returns-in_err-hash-clause-there : goal.returns-in_err-hash-clause-there
returns-in_err-hash-clause-there c = λ read keyslots segments. absurd (lost text _ c.in_err-hash.ensures (at_top digest_rows (view c.args.object.now) name.Hash _ read refl refl refl))

pub returns-in_err-iterations-clause-there : goal.returns-in_err-iterations-clause-there
returns-in_err-iterations-clause-there c = λ read keyslots segments. absurd (lost whole _ c.in_err-iterations.ensures (at_top digest_rows (view c.args.object.now) name.Iterations _ read refl refl refl))

pub returns-in_err-salt-clause-there : goal.returns-in_err-salt-clause-there
returns-in_err-salt-clause-there c = λ read keyslots segments. absurd (lost bytes _ c.in_err-salt.ensures (at_top digest_rows (view c.args.object.now) name.Salt _ read refl refl refl))

pub returns-in_err-digest-clause-there : goal.returns-in_err-digest-clause-there
returns-in_err-digest-clause-there c = λ read keyslots segments. absurd (lost bytes _ c.in_err-digest.ensures (at_top digest_rows (view c.args.object.now) name.Digest _ read refl refl refl))
