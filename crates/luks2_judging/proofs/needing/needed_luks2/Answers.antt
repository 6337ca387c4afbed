use Rattle.std.proofs.Common.{[], Some, ap, refl, sym, ◌∙◌}
use Rattle.std.proofs.lemmas.Result.{err_from_is_err_and}
use Rattle.luks_meta.specs.Content.{content}
use Rattle.luks_edit.specs.declared.deed.Place.TheVariants.{New, Opened}
use Rattle.luks2_judging.proofs.ChosenFacts.{metadata_of}
use Rattle.luks2_judging.proofs.DeedFacts.{opener_is, sealed_as}
use Rattle.luks2_judging.proofs.KeyslotFacts.{sealable_of, sealed_opens, there_of, usable_of, used_of}
use Rattle.luks2_judging.proofs.NeedFacts.{erased_need, four_here, need_added, need_again, need_first, need_unnumbered, new_keyed, new_unkeyed, removed_need, rewritten_need}
use Rattle.luks2_judging.proofs.needing.needed_luks2.Goals as goal

pub returns-in_err-judge_without_key-clause-tells : goal.returns-in_err-judge_without_key-clause-tells
returns-in_err-judge_without_key-clause-tells c = λ v is size.
    let p = err_from_is_err_and c.from_residual.result c.from_residual.ensures.1 in
    rw (p.1, p.2)
    (need_first v c.args.payload c.args.edit.now c.in_err-judge_without_key.field-0.0 c.in_err-judge_without_key.ensures.early (c.in_err-judge_without_key.ensures.refused v [] is size))

pub returns-in_err-like-in-New-clause-tells : goal.returns-in_err-like-in-New-clause-tells
returns-in_err-like-in-New-clause-tells c = λ v is size.
    let copy = c.args.copy.now in
    let e = c.args.edit.now in
    let s = c.in-Seal.sealed in
    let place = New c.in-New.opener c.in-New.to in
    let four = four_here (c.in_ok-judge_without_key.ensures.passed v [] is size) in
    let p = err_from_is_err_and c.from_residual-in_err-like-in-New.result c.from_residual-in_err-like-in-New.ensures.1 in
    rw (p.1, p.2)
    (new_unkeyed v c.args.payload copy.header.hdr_offset (content copy.meta) (metadata_of v copy is) e c.in-New.opener c.in-New.to s.passphrase s.derivation
    (sealed_as e s place s.derivation (sym c.in-Seal.ensures) c.in-New.is refl) four (c.in_ok-judge_without_key.ensures.well v is size)
    c.in_err-like-in-New.field-0.0 c.in_err-like-in-New.ensures.refused)

pub returns-in_err-new_number-in-New-clause-tells : goal.returns-in_err-new_number-in-New-clause-tells
returns-in_err-new_number-in-New-clause-tells c = λ v is size.
    let copy = c.args.copy.now in
    let e = c.args.edit.now in
    let s = c.in-Seal.sealed in
    let place = New c.in-New.opener c.in-New.to in
    let deed_is = sealed_as e s place s.derivation (sym c.in-Seal.ensures) c.in-New.is refl in
    let m = metadata_of v copy is in
    let four = four_here (c.in_ok-judge_without_key.ensures.passed v [] is size) in
    let keyed = new_keyed v c.args.payload copy.header.hdr_offset (content copy.meta) m e c.in-New.opener c.in-New.to s.passphrase s.derivation deed_is four (c.in_ok-judge_without_key.ensures.well v is size)
    c.in_ok-like-in-New.like c.in_ok-like-in-New.ensures.is c.in_ok-like-in-New.ensures.accepted in
    let p = err_from_is_err_and c.from_residual-in_err-new_number-in-New.result c.from_residual-in_err-new_number-in-New.ensures.1 in
    rw (p.1, p.2)
    (need_unnumbered v c.args.payload copy.header.hdr_offset (content copy.meta) m e c.in-New.opener c.in-New.to s.passphrase s.derivation deed_is four keyed
    c.in_err-new_number-in-New.field-0.0 c.in_err-new_number-in-New.ensures)

pub returns-in_ok-new_number-in-New-clause-tells : goal.returns-in_ok-new_number-in-New-clause-tells
returns-in_ok-new_number-in-New-clause-tells c = λ v is size.
    let copy = c.args.copy.now in
    let e = c.args.edit.now in
    let j = content copy.meta in
    let s = c.in-Seal.sealed in
    let place = New c.in-New.opener c.in-New.to in
    let deed_is = sealed_as e s place s.derivation (sym c.in-Seal.ensures) c.in-New.is refl in
    let m = metadata_of v copy is in
    let four = four_here (c.in_ok-judge_without_key.ensures.passed v [] is size) in
    let keyed = new_keyed v c.args.payload copy.header.hdr_offset j m e c.in-New.opener c.in-New.to s.passphrase s.derivation deed_is four (c.in_ok-judge_without_key.ensures.well v is size)
    c.in_ok-like-in-New.like c.in_ok-like-in-New.ensures.is c.in_ok-like-in-New.ensures.accepted in
    let used = usable_of j e c.in-New.opener (sealed_opens e s (sym c.in-Seal.ensures) ∙ ap Some (opener_is s place c.in-New.is)) c.in_ok-judge_without_key.ensures.accepted.there in
    let like = c.in_ok-like-in-New.like in
    let is_like = c.in_ok-like-in-New.ensures.is in
    need_added v c.args.payload copy.header.hdr_offset j m e c.in-New.opener c.in-New.to s.passphrase s.derivation deed_is four keyed
    c.in_ok-new_number-in-New.field-0 c.in_ok-new_number-in-New.ensures like is_like c.sealed_need.result (c.sealed_need.ensures (there_of j like (sealable_of j c.in-New.opener like used is_like)))

pub returns-in-Opened-clause-tells : goal.returns-in-Opened-clause-tells
returns-in-Opened-clause-tells c = λ v is size.
    let copy = c.args.copy.now in
    let e = c.args.edit.now in
    let s = c.in-Seal.sealed in
    let place = Opened c.in-Opened.slot c.in-Opened.secret in
    let used = used_of (content copy.meta) e c.in-Opened.slot c.in-Opened.secret (sealed_opens e s (sym c.in-Seal.ensures) ∙ ap Some (opener_is s place c.in-Opened.is)) c.in_ok-judge_without_key.ensures.accepted.there in
    need_again v c.args.payload copy.header.hdr_offset (content copy.meta) (metadata_of v copy is) e c.in-Opened.slot c.in-Opened.secret s.passphrase s.derivation
    (sealed_as e s place s.derivation (sym c.in-Seal.ensures) c.in-Opened.is refl) (four_here (c.in_ok-judge_without_key.ensures.passed v [] is size))
    c.sealed_need-in-Opened.result (c.sealed_need-in-Opened.ensures used)

pub returns-in-Remove-clause-tells : goal.returns-in-Remove-clause-tells
returns-in-Remove-clause-tells c = λ v is size.
    removed_need (c.in_ok-judge_without_key.ensures.passed v [] is size) (sym c.in-Remove.ensures)

pub returns-in-Rewrite-clause-tells : goal.returns-in-Rewrite-clause-tells
returns-in-Rewrite-clause-tells c = λ v is size.
    rw c.rewritten_need.ensures (rewritten_need (c.in_ok-judge_without_key.ensures.passed v [] is size) (sym c.in-Rewrite.ensures))

pub returns-in-Erase-clause-tells : goal.returns-in-Erase-clause-tells
returns-in-Erase-clause-tells c = λ v is size. erased_need (c.in_ok-judge_without_key.ensures.passed v [] is size) (sym c.in-Erase.ensures)
