use Rattle.std.proofs.Common.{◌≡◌, ap, ◌∙◌}
use Rattle.luks1_header.specs.Header1.{entry}
use Rattle.luks_making.specs.Converted.{area_size, area_start, source_slot_members}
use Rattle.luks_converting.specs.Source.{encryption_of, header_members}
use Rattle.luks_converting.proofs.MemberFacts.{encryption_is}
use Rattle.luks_converting.proofs.places.new_area.Goals as goal

pub returns-clause-start : goal.returns-clause-start
returns-clause-start c = λ h is.
    let text : c.as_str.result.now ≡ encryption_of h = c.as_str.ensures.value ∙ c.encryption-encryption.ensures ∙ encryption_is h c.args.header.now is in
    c.area_start.ensures.start ∙ ap (λ m. area_start m c.args.n) (c.source_volume-volume.ensures h is text)

pub returns-clause-size : goal.returns-clause-size
returns-clause-size c = λ h is.
    let text : c.as_str.result.now ≡ encryption_of h = c.as_str.ensures.value ∙ c.encryption-encryption.ensures ∙ encryption_is h c.args.header.now is in
    c.area_size.ensures.size ∙ ap (λ m. area_size m (source_slot_members c.source_slot-slot.result)) (c.source_volume-volume.ensures h is text)
    ∙ ap (area_size (header_members h)) (c.source_slot-slot.ensures (entry h c.args.n) (is.slots.each c.args.n _ c.requires.numbered))
