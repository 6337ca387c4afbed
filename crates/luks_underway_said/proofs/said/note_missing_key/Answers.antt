use Rattle.std.proofs.Common.{◌≡◌, ◌++◌, ap₂, codes, subst}
use Rattle.std.proofs.KnownBytes.{Appends-trans}
use Rattle.std.proofs.lemmas.Result.{on_ok_weaker}
use Rattle.std.specs.Io.KnownBytes.{Appends}
use Rattle.luks_underway.proofs.Sided.{one_side}
use Rattle.luks_wider.specs.Underways.{content}
use Rattle.luks_underway_said.specs.Said.{is_missing, missing_as, missing_text}
use Rattle.luks_underway_said.proofs.said.note_missing_key.Goals as goal

pub returns : goal.returns
returns g c old new a b =
    let j = content c.args.meta.now in
    let opened = c.args.opened.now in
    let was = one_side j (codes "backup-previous") c.sides-sides.result.old old c.sides-sides.ensures.old a in
    let will = one_side j (codes "backup-final") c.sides-sides.result.new new c.sides-sides.ensures.new b in
    let first : c.is_missing-old.result ≡ is_missing j opened old = subst (λ side. c.is_missing-old.result ≡ is_missing j opened side) was c.is_missing-old.ensures in
    let other : c.is_missing-new.result ≡ is_missing j opened new = subst (λ side. c.is_missing-new.result ≡ is_missing j opened side) will c.is_missing-new.ensures in
    let said : missing_as c.is_missing-old.result (codes "old") ++ missing_as c.is_missing-new.result (codes "new") ≡ missing_text j opened old new =
    ap₂ (λ p q. missing_as p (codes "old") ++ missing_as q (codes "new")) first other in
    on_ok_weaker c.note_missing-2.result
    (λ second. subst (Appends (g.E.Write.contents c.args.err.now) (g.E.Write.contents c.note_missing-2.new.err)) said (Appends-trans _ _ _ _ _ c.in_ok-note_missing.ensures second))
    c.note_missing-2.ensures
