-- What one digest says of the segments that it names.
use Rattle.std.proofs.Common.{◌≡◌, ◌<◌, ℕ, [], ◌∙◌, subst}
use Rattle.serde_json.specs.Data.{Data}
use Rattle.luks_rules.specs.declared.table.Section.TheVariants.{Digests}
use Rattle.luks_meta.specs.declared.digests.Digest.{Digest}
use Rattle.luks_meta.specs.Naming.{IsDigestOf}
use Rattle.luks_meta.specs.Objects.{IsMissing, IsObject}
use Rattle.luks_meta.specs.Says.{TellsDigest}
use Rattle.luks_notes.specs.Unbound.{IsUnboundIn}

-- two readings of one object name the same segments
same_segments : (j : Data) (m : ℕ) (a b : Digest) → IsObject TellsDigest j Digests m a → IsObject TellsDigest j Digests m b → a.segments.items ≡ b.segments.items
same_segments j m a b x y =
    let one : x.object ≡ y.object = (let first = x.is in let second = y.is in cc) in
    let told = subst (λ d. TellsDigest d a) one x.tells_members in
    let here = told.6 in
    let there = y.tells_members.6 in
    cc

-- the digest that names the keyslot names no segment, if that is said of one
pub names_none : (j : Data) (n m : ℕ) (k : Digest) → ((l : ℕ) → IsDigestOf j n l → l ≡ m) → IsObject TellsDigest j Digests m k → IsUnboundIn j n → k.segments.items ≡ []
names_none j n m k only told x =
    same_segments j m k x.digest told (subst (λ l. IsObject TellsDigest j Digests l x.digest) (only x.number x.names) x.told) ∙ x.none

-- and it is there
pub is_there : (j : Data) (n m : ℕ) → ((l : ℕ) → IsDigestOf j n l → l ≡ m) → IsMissing j Digests m → IsUnboundIn j n → ⊥
is_there j n m only missing x =
    let same = only x.number x.names in
    let low : m < 32 = subst (λ l. l < 32) same x.names.numbered in
    let gone = missing low in
    let told = subst (λ l. IsObject TellsDigest j Digests l x.digest) same x.told in
    let is = told.is in
    cc
