use Rattle.std.proofs.Common.{◌≡◌, ℕ, List, true, false, sym, ◌∙◌, arith}
use Rattle.std.proofs.lemmas.Bool.{true≢false}
use Rattle.luks_converting.specs.Source.{is_enabled, source_size}
use Rattle.luks_converting.proofs.AreaFacts.{has_copied, of_area}
use Rattle.luks_converting.proofs.PlaceFacts.{ends, holds_sectors}
use Rattle.luks_converting.proofs.SourceFacts.{disabled_read, enabled_read, source_size_read, source_start_read}
use Rattle.luks_converting.proofs.areas.copy_keyslot.Goals as goal

pub copy_area-requires-clause-within : goal.copy_area-requires-clause-within
copy_area-requires-clause-within g c =
    let h : List ℕ = c.args.header.now.bytes in
    let on : is_enabled h c.args.n ≡ true = enabled_read h c.args.header.now.fields c.args.n _ c.requires.read.fields c.requires.numbered c.in-Enabled.is in
    let end = ends h c.args.n on c.requires.room in
    let start = c.new_area-to.ensures.start h c.requires.read.fields in
    let size = c.new_area-to.ensures.size h c.requires.read.fields in
    let within = c.requires.within in
    omega (arith, end, start, size, within)

pub copy_area-requires-clause-large : goal.copy_area-requires-clause-large
copy_area-requires-clause-large g c =
    let h : List ℕ = c.args.header.now.bytes in
    let len : c.luks1_area-from.result.len ≡ source_size h c.args.n = c.luks1_area-from.ensures.len ∙ source_size_read h c.args.header.now.fields c.args.n _ c.requires.read.fields c.requires.numbered in
    let size = c.new_area-to.ensures.size h c.requires.read.fields in
    let large = holds_sectors h c.args.n in
    omega (arith, len, size, large)

pub returns-in-Enabled-clause-copied : goal.returns-in-Enabled-clause-copied
returns-in-Enabled-clause-copied g c = λ source tells.
    let h : List ℕ = c.args.header.now.bytes in
    has_copied c.copy_area.result h (g.S.Device.bytes c.args.source.now) (g.T.Device.bytes c.copy_area.new.target) c.args.n
    c.luks1_area-from.result.start c.luks1_area-from.result.len c.new_area-to.result.start c.new_area-to.result.len
    (c.luks1_area-from.ensures.start ∙ source_start_read h c.args.header.now.fields c.args.n _ c.requires.read.fields c.requires.numbered)
    (c.luks1_area-from.ensures.len ∙ source_size_read h c.args.header.now.fields c.args.n _ c.requires.read.fields c.requires.numbered)
    (c.new_area-to.ensures.start h c.requires.read.fields) (c.new_area-to.ensures.size h c.requires.read.fields)
    (c.copy_area.ensures.copied source tells)

pub returns-in-Enabled-clause-rest : goal.returns-in-Enabled-clause-rest
returns-in-Enabled-clause-rest g c = λ tells.
    let h : List ℕ = c.args.header.now.bytes in
    let on : is_enabled h c.args.n ≡ true = enabled_read h c.args.header.now.fields c.args.n _ c.requires.read.fields c.requires.numbered c.in-Enabled.is in
    of_area h c.args.n c.new_area-to.result.start c.new_area-to.result.len on (c.new_area-to.ensures.start h c.requires.read.fields) (c.new_area-to.ensures.size h c.requires.read.fields)
    (c.copy_area.ensures.rest tells)

pub returns-in-Disabled-clause-copied : goal.returns-in-Disabled-clause-copied
returns-in-Disabled-clause-copied g c = λ source tells on.
    let off : is_enabled c.args.header.now.bytes c.args.n ≡ false = disabled_read c.args.header.now.bytes c.args.header.now.fields c.args.n _ c.requires.read.fields c.requires.numbered c.in-Disabled.is in
    absurd (true≢false (sym on ∙ off))
