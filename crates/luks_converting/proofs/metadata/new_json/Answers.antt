use Rattle.std.proofs.Common.{◌≡◌, ℕ, List, arith, sym, ◌∙◌, subst, rules, IsNone}
use Rattle.luks_making.specs.Conversions.{CanConvert}
use Rattle.luks_converting.specs.Source.{encryption_of}
use Rattle.luks_converting.proofs.MemberFacts.{encryption_is}
use Rattle.luks_converting.proofs.SourceFacts.{can, source_of}
use Rattle.luks_converting.proofs.metadata.new_json.Goals as goal

pub converted-requires : goal.converted-requires
converted-requires c =
    let h : List ℕ = c.args.header.now.bytes in
    let source = source_of h c.args.header.now.fields c.are_bytes.ensures c.requires.read.long c.requires.read.fields c.requires.room in
    let text : c.as_str.result.now ≡ encryption_of h = c.as_str.ensures.value ∙ c.encryption-encryption.ensures ∙ encryption_is h c.args.header.now.fields c.requires.read.fields in
    subst CanConvert (sym (c.source_volume-volume.ensures h c.requires.read.fields text)) (can h source)

pub unreachable-requires : goal.unreachable-requires
unreachable-requires c =
    let empty : IsNone c.in_ok-area.field-0 = rw c.in-None.is (search rules) in
    let full = c.in_ok-area.ensures.full empty in
    let short = c.in_ok-meta.ensures.short in
    let long = c.in_ok-meta.ensures.length in
    absurd (omega (arith, full, short, long))
