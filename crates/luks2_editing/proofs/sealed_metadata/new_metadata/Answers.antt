use Rattle.std.proofs.Common.{◌≡◌, ◌≤◌, ℕ, List, length, sym, ◌∙◌, subst}
use Rattle.std.proofs.lemmas.Bool.{false≢true}
use Rattle.std.proofs.lemmas.Result.{err_from_is_err_and}
use Rattle.luks_meta.specs.Content.{area_len, content}
use Rattle.luks2_edit_laws.specs.Edited.{keyslot_salt, members_of}
use Rattle.luks2_edit_laws.specs.declared.like.Like.{Like}
use Rattle.luks2_judging.specs.Keys.{IsThereLike as IsThereForNeed}
use Rattle.luks2_edit_laws.specs.Refused.{NeedsLike}
use Rattle.luks2_editing.specs.MadeMetadata.{like_of, IsMadeBy, IsThereLike}
use Rattle.luks2_editing.specs.Prepared.{AreCopiesWithin, IsPrepared, IsUnprepared}
use Rattle.luks2_editing.proofs.MadeMetadataFacts.{asked_there, enough_random, placed_suits, placed_there}
use Rattle.luks2_editing.proofs.RenewalFacts.{copy_within}
use Rattle.luks2_editing.proofs.SealedRowFacts.{edited_by, sealing_unrefused, unprepared_ends}
use Rattle.luks2_editing.proofs.sealed_metadata.new_metadata.Goals as goal

-- what it is made like is there
pub returns-then-not-is_there_like-clause-refused : goal.returns-then-not-is_there_like-clause-refused
returns-then-not-is_there_like-clause-refused c = λ v payload e x total.
    let copy = c.args.copy in
    let sealing = c.args.sealing.now in
    let there = asked_there (area_len copy.meta) (content copy.meta) c.args.total sealing.area e sealing.keyslot sealing.derivation x.asked c.requires.placed in
    absurd (false≢true (sym c.if-not-is_there_like.true ∙ c.is_there_like.ensures.1 (subst (λ (l : Like). IsThereLike (content copy.meta) l) (sym c.like-like.ensures) there)))

pub made_metadata-requires-clause-suits : goal.made_metadata-requires-clause-suits
made_metadata-requires-clause-suits c =
    let copy = c.args.copy in
    let sealing = c.args.sealing.now in
    let there = subst (λ (l : Like). IsThereLike (content copy.meta) l) c.like-like.ensures (c.is_there_like.ensures.0 c.if-not-is_there_like.false) in
    placed_suits (area_len copy.meta) (content copy.meta) c.args.total (like_of sealing.keyslot) sealing.area sealing.derivation c.keyslot_salt-salt.result
    c.requires.placed there c.requires.positive c.keyslot_salt-salt.ensures.long

pub returns-in_err-json-clause-refused : goal.returns-in_err-json-clause-refused
returns-in_err-json-clause-refused c = λ v payload e x total.
    let copy = c.args.copy in
    let sealing = c.args.sealing.now in
    let random = c.args.random.now in
    let new = content c.in_ok-meta.meta in
    let len : area_len c.in_ok-meta.meta ≡ area_len copy.meta = c.in_ok-meta.ensures.length in
    let used = placed_there (area_len copy.meta) (content copy.meta) c.args.total (like_of sealing.keyslot) sealing.area c.requires.placed in
    let needs = subst (λ (l : Like). IsThereForNeed (content copy.meta) l → NeedsLike (content copy.meta) c.sealed_need-need.result l) c.like-like.ensures c.sealed_need-need.ensures used in
    let within : AreCopiesWithin copy.header (area_len c.in_ok-meta.meta) c.args.total =
    subst (λ (n : ℕ). AreCopiesWithin copy.header n c.args.total) (sym len)
    (subst (λ (n : ℕ). AreCopiesWithin copy.header (area_len copy.meta) n) total (copy_within v payload copy x.chosen x.well)) in
    let p = err_from_is_err_and c.from_residual-in_err-json.result c.from_residual-in_err-json.ensures.1 in
    rw (p.1, p.2)
    (unprepared_ends v payload e random copy sealing x c.keyslot_salt-salt.result c.new_fits.ensures.salt c.keyslot_salt-salt.ensures.long new c.in_ok-meta.ensures.made
    c.sealed_need-need.result needs c.in_err-json.field-0.0
    (subst (λ (n : ℕ). IsUnprepared copy.header.seqid n new random c.sealed_need-need.result c.in_err-json.field-0.0) len (c.in_err-json.ensures.refused within)))

pub returns-clause-unrefused : goal.returns-clause-unrefused
returns-clause-unrefused c = λ v payload e x total.
    let copy = c.args.copy in
    let sealing = c.args.sealing.now in
    let random = c.args.random.now in
    let new = content c.in_ok-meta.meta in
    let len : area_len c.in_ok-meta.meta ≡ area_len copy.meta = c.in_ok-meta.ensures.length in
    let used = placed_there (area_len copy.meta) (content copy.meta) c.args.total (like_of sealing.keyslot) sealing.area c.requires.placed in
    let needs = subst (λ (l : Like). IsThereForNeed (content copy.meta) l → NeedsLike (content copy.meta) c.sealed_need-need.result l) c.like-like.ensures c.sealed_need-need.ensures used in
    sealing_unrefused v payload e random copy sealing x c.keyslot_salt-salt.result c.new_fits.ensures.salt c.keyslot_salt-salt.ensures.long new c.in_ok-meta.ensures.made
    c.sealed_need-need.result needs
    (subst (λ (n : ℕ). IsPrepared copy.header.seqid n new random c.sealed_need-need.result) len c.in_ok-json.ensures.ready)

pub returns-clause-edited : goal.returns-clause-edited
returns-clause-edited c = λ v payload e x total.
    let copy = c.args.copy in
    let sealing = c.args.sealing.now in
    let random = c.args.random.now in
    let used = placed_there (area_len copy.meta) (content copy.meta) c.args.total (like_of sealing.keyslot) sealing.area c.requires.placed in
    let needs = subst (λ (l : Like). IsThereForNeed (content copy.meta) l → NeedsLike (content copy.meta) c.sealed_need-need.result l) c.like-like.ensures c.sealed_need-need.ensures used in
    let enough : 160 ≤ length random = subst (λ (n : ℕ). 160 ≤ n) (sym c.in_ok-json.ensures.ready.counted) (enough_random (content copy.meta) (like_of sealing.keyslot) c.sealed_need-need.result needs) in
    edited_by v payload e random copy sealing x (keyslot_salt random) (content c.in_ok-meta.meta)
    (subst (λ (s : List ℕ). IsMadeBy sealing.keyslot (members_of sealing.derivation s sealing.area) (content copy.meta) (content c.in_ok-meta.meta)) (c.keyslot_salt-salt.ensures.salt enough) c.in_ok-meta.ensures.made)
