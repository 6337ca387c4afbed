-- What was judged of the copy that counts holds of the volume.
use Rattle.std.proofs.lemmas.Result.{err_from_is_err_and}
use Rattle.luks2_header.proofs.ChoiceFacts.{uuid_sound}
use Rattle.luks_rules.proofs.Deciding.{metadata_faultless}
use Rattle.luks_meta.specs.Content.{content}
use Rattle.luks_reading.specs.Header.{json_at}
use Rattle.luks_reading.proofs.CheckFacts.{luks2_accepted, luks2_areas_are, luks2_first}
use Rattle.luks_reading.proofs.checking.check_copy.Goals as goal

pub returns-in_err-areas-clause-refused : goal.returns-in_err-areas-clause-refused
returns-in_err-areas-clause-refused c = λ v copy long.
    let h = c.args.copy.now.header in
    let json = json_at v h.hdr_offset in
    let p = err_from_is_err_and c.from_residual.result c.from_residual.ensures.1 in
    rw (p.1, p.2)
    (luks2_first v c.args.payload h.hdr_offset c.args.copy.now.copies _ c.in_err-areas.field-0.0 copy.chosen long
    (c.in_err-areas.ensures.refused _ json copy.header (record { accepted = copy.metadata; len = copy.area_len }) (record {
      uuid = uuid_sound _ copy.uuid;
      metadata = (metadata_faultless json).1 (content c.args.copy.now.meta, copy.metadata);
    })))

pub returns-clause-accepted : goal.returns-clause-accepted
returns-clause-accepted c = λ v copy long.
    let h = c.args.copy.now.header in
    luks2_accepted v c.args.payload h.hdr_offset c.args.copy.now.copies _ copy.chosen long
    (record {
      uuid = copy.uuid;
      layout = (
        content c.args.copy.now.meta,
        c.in_ok-areas.ensures.accepted _ (json_at v h.hdr_offset) copy.header (record { accepted = copy.metadata; len = copy.area_len }),
      );
    })

pub returns-clause-report : goal.returns-clause-report
returns-clause-report c = λ v copy long.
    let h = c.args.copy.now.header in
    record {
      version = (h.hdr_offset, (copy.chosen, copy.header.seqid));
      areas = luks2_areas_are v c.args.payload h.hdr_offset c.args.copy.now.copies _ _ copy.chosen long
          (c.in_ok-areas.ensures.areas _ (json_at v h.hdr_offset) copy.header (record { accepted = copy.metadata; len = copy.area_len }));
    }
