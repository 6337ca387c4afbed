use Rattle.std.proofs.Common.{◌≡◌, ◌*◌, ◌≤◌, refl, subst, sym}
use Rattle.luks_meta.specs.Content.{content}
use Rattle.luks2_edit_laws.specs.declared.like.Like.TheVariants.{Keyslot, Digest}
use Rattle.luks2_edit_laws.specs.Metadata.{HasStripes}
use Rattle.luks2_edit_laws.specs.Places.{rounded_to_blocks}
use Rattle.luks2_judging.specs.Room.{IsSealableLike, TakesBlocks}
use Rattle.luks2_judging.proofs.StripeFacts.{keyslot_stripes, some_blocks_like}
use Rattle.luks2_judging.proofs.room.blocks_of.Goals as goal

pub returns-in-Some : goal.returns-in-Some
returns-in-Some c =
    let j = content c.args.meta.now in
    let n = c.in-Keyslot.n in
    let k = c.in-Some.keyslot in
    let there = subst (IsSealableLike j) c.in-Keyslot.is c.requires in
    let slot : HasStripes j n k.key_size k.af.stripes = keyslot_stripes j n k there c.in-Some.ensures.some in
    let is : c.rounded_to_blocks.result ≡ rounded_to_blocks (k.key_size * k.af.stripes) = (cc) in
    subst (λ l. TakesBlocks j l c.rounded_to_blocks.result) (sym c.in-Keyslot.is)
    (record { can = there; key_bytes = k.key_size; stripes = k.af.stripes; slot = slot; is = is; some = subst (λ n. 4096 ≤ n) (sym is) (some_blocks_like j (Keyslot n) k.key_size k.af.stripes there slot) })

pub returns-in-Digest : goal.returns-in-Digest
returns-in-Digest c =
    let j = content c.args.meta.now in
    let len = c.in-Digest.key_bytes in
    let can = subst (IsSealableLike j) c.in-Digest.is c.requires in
    let is : c.rounded_to_blocks-in-Digest.result ≡ rounded_to_blocks (len * 4000) = (cc) in
    subst (λ l. TakesBlocks j l c.rounded_to_blocks-in-Digest.result) (sym c.in-Digest.is)
    (record { can = can; key_bytes = len; stripes = 4000; slot = (refl, refl); is = is; some = subst (λ n. 4096 ≤ n) (sym is) (some_blocks_like j (Digest c.in-Digest.number len) len 4000 can (refl, refl)) })
