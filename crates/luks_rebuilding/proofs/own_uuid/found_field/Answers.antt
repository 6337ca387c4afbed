use Rattle.std.proofs.Common.{◌≡◌, ℕ, List, ◌++◌, replicate, refl, sym, ap, subst, ◌∙◌}
use Rattle.luks_area.specs.Text.{text_of}
use Rattle.luks2_header.specs.Header2.{header_at, uuid_field, IsUuidField}
use Rattle.luks_rebuilding.proofs.own_uuid.found_field.Goals as goal

pub returns-in-Ok-clause-found : goal.returns-in-Ok-clause-found
returns-in-Ok-clause-found g c = λ tells.
    let v : List ℕ = g.D.Device.bytes c.args.source.now in
    let bytes : c.read_at.new.into ≡ header_at v c.args.at = c.in_ok-read_at.ensures.read tells in
    let field_ : uuid_field (header_at v c.args.at) ≡ c.read.result.uuid = ap uuid_field (sym bytes) ∙ c.read.ensures.uuid in (
      subst IsUuidField (sym field_) (c.in-Ok.ensures.accepted.0 refl),
      c.uuid_field.ensures ∙ ap (λ (t : List ℕ). t ++ replicate 4 0) (c.in-Ok.ensures.text ∙ ap text_of (sym field_)),
    )
