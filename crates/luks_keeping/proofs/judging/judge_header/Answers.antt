use Rattle.std.proofs.Common.{List, ℕ, subst, sym, ◌∙◌, Result, Ok, Err, IfErr}
use Rattle.std.proofs.lemmas.Bool.{false≢true}
use Rattle.std.proofs.lemmas.Result.{err_from_is_err_and}
use Rattle.luks_area.specs.Area.{Fit}
use Rattle.luks2_header.proofs.ChoiceFacts.{uuid_sound}
use Rattle.luks2_header.specs.Selection.{luks1, luks2}
use Rattle.luks_rules.proofs.Deciding.{metadata_faultless}
use Rattle.luks_meta.specs.Content.{content}
use Rattle.luks_reading.proofs.CheckFacts.{on_ok}
use Rattle.luks_reading.specs.Checked.{IsLuks1Volume}
use Rattle.luks_reading.specs.Header.{json_at, IsAcceptedHeader, IsHeader}
use Rattle.luks_reading.specs.Reported.{HeaderArea}
use Rattle.luks_keeping.specs.Judged.{HasFields}
use Rattle.luks_keeping.proofs.JudgedFacts.{first_on1, first_on2, formed_on1, formed_on2}
use Rattle.luks_keeping.proofs.VolumeFacts.{on_chosen}
use Rattle.luks_keeping.proofs.judging.judge_header.Goals as goal

pub judge_luks1-requires : goal.judge_luks1-requires
judge_luks1-requires c = rw c.as_slice.ensures (subst IsAcceptedHeader c.in-Luks1.is c.requires)

pub returns-in_err-judge_luks1-in-Luks1-clause-refused : goal.returns-in_err-judge_luks1-in-Luks1-clause-refused
returns-in_err-judge_luks1-in-Luks1-clause-refused c = λ v is.
    let chosen = subst (IsHeader v) c.in-Luks1.is is in
    let p = err_from_is_err_and c.from_residual.result c.from_residual.ensures.1 in
    rw (p.1, p.2) (first_on1 v _ c.args.payload c.args.total c.in_err-judge_luks1-in-Luks1.field-0.0 chosen.0 (c.as_slice.ensures ∙ chosen.1) c.in_err-judge_luks1-in-Luks1.ensures.refused)

pub returns-in_ok-judge_luks1-in-Luks1-clause-fields : goal.returns-in_ok-judge_luks1-in-Luks1-clause-fields
returns-in_ok-judge_luks1-in-Luks1-clause-fields c =
    subst HasFields (sym c.in-Luks1.is) (subst (λ (b : List ℕ). IsLuks1Volume b c.args.payload c.args.total) c.as_slice.ensures c.in_ok-judge_luks1-in-Luks1.ensures.accepted).header

pub returns-in_ok-judge_luks1-in-Luks1-clause-fits : goal.returns-in_ok-judge_luks1-in-Luks1-clause-fits
returns-in_ok-judge_luks1-in-Luks1-clause-fits c =
    subst (λ h. Fit (HeaderArea h c.args.payload c.args.total) c.args.total) (sym c.in-Luks1.is)
    (subst (λ (b : List ℕ). IsLuks1Volume b c.args.payload c.args.total) c.as_slice.ensures c.in_ok-judge_luks1-in-Luks1.ensures.accepted).fit

pub returns-in_ok-judge_luks1-in-Luks1-clause-formed : goal.returns-in_ok-judge_luks1-in-Luks1-clause-formed
returns-in_ok-judge_luks1-in-Luks1-clause-formed c = λ v is.
    let chosen = subst (IsHeader v) c.in-Luks1.is is in
    formed_on1 v _ c.args.payload c.args.total chosen.0 (c.as_slice.ensures ∙ chosen.1) c.in_ok-judge_luks1-in-Luks1.ensures.accepted

pub returns-in-Luks2-clause-fields : goal.returns-in-Luks2-clause-fields
returns-in-Luks2-clause-fields c = on_ok c.judge_luks2.result (λ fits. subst HasFields (sym c.in-Luks2.is) tt) c.judge_luks2.ensures.fits

pub returns-in-Luks2-clause-fits : goal.returns-in-Luks2-clause-fits
returns-in-Luks2-clause-fits c = on_ok c.judge_luks2.result (λ fits. subst (λ h. Fit (HeaderArea h c.args.payload c.args.total) c.args.total) (sym c.in-Luks2.is) fits) c.judge_luks2.ensures.fits

pub returns-in-Luks2-clause-formed : goal.returns-in-Luks2-clause-formed
returns-in-Luks2-clause-formed c = λ v is.
    let copy = subst (IsHeader v) c.in-Luks2.is is in
    let h = c.in-Luks2.copy.header in
    on_ok c.judge_luks2.result (λ layout. formed_on2 v h.hdr_offset c.in-Luks2.copy.copies c.args.payload c.args.total copy.chosen (record { uuid = copy.uuid; layout = (content c.in-Luks2.copy.meta, layout) }))
    (c.judge_luks2.ensures.accepted _ (json_at v h.hdr_offset) copy.header (record { accepted = copy.metadata; len = copy.area_len }))

if_err : {A F : Type 0} {P Q : F → Type 0} (r : Result A F) → ((f : F) → P f → Q f) → IfErr r P → IfErr r Q
if_err (Ok x) h p = tt
if_err (Err f) h p = h f p

pub returns-in-Luks2-clause-refused : goal.returns-in-Luks2-clause-refused
returns-in-Luks2-clause-refused c = λ v is.
    let copy = subst (IsHeader v) c.in-Luks2.is is in
    let h = c.in-Luks2.copy.header in
    let json = json_at v h.hdr_offset in
    if_err c.judge_luks2.result (λ f least. first_on2 v h.hdr_offset c.in-Luks2.copy.copies c.args.payload c.args.total f copy.chosen least)
    (c.judge_luks2.ensures.refused _ json copy.header (record { accepted = copy.metadata; len = copy.area_len }) (record {
      uuid = uuid_sound _ copy.uuid;
      metadata = (metadata_faultless json).1 (content c.in-Luks2.copy.meta, copy.metadata);
    }))

pub returns-in_err-judge_luks1-in-Luks1-clause-only : goal.returns-in_err-judge_luks1-in-Luks1-clause-only
returns-in_err-judge_luks1-in-Luks1-clause-only c = λ v is formed.
    let chosen = subst (IsHeader v) c.in-Luks1.is is in
    let own = on_chosen v c.args.payload c.args.total luks1 chosen.0 formed in
    absurd (false≢true (c.in_err-judge_luks1-in-Luks1.ensures.only (subst (λ (b : List ℕ). IsLuks1Volume b c.args.payload c.args.total) (sym (c.as_slice.ensures ∙ chosen.1)) own)))

pub returns-in-Luks2-clause-only : goal.returns-in-Luks2-clause-only
returns-in-Luks2-clause-only c = λ v is formed.
    let copy = subst (IsHeader v) c.in-Luks2.is is in
    let h = c.in-Luks2.copy.header in
    let own = on_chosen v c.args.payload c.args.total (luks2 h.hdr_offset c.in-Luks2.copy.copies) copy.chosen formed in
    c.judge_luks2.ensures.only _ (json_at v h.hdr_offset) own.layout.0 copy.header (record { accepted = copy.metadata; len = copy.area_len }) own.layout.1
