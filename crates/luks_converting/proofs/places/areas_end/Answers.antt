use Rattle.std.proofs.Common.{◌≡◌, ap, ◌∙◌}
use Rattle.luks_making.specs.Converted.{area_start}
use Rattle.luks_converting.specs.Source.{encryption_of}
use Rattle.luks_converting.proofs.MemberFacts.{encryption_is}
use Rattle.luks_converting.proofs.places.areas_end.Goals as goal

pub returns : goal.returns
returns c = λ h is.
    let text : c.as_str.result.now ≡ encryption_of h = c.as_str.ensures.value ∙ c.encryption-encryption.ensures ∙ encryption_is h c.args.header.now is in
    c.area_start.ensures.start ∙ ap (λ m. area_start m 8) (c.source_volume-volume.ensures h is text)
