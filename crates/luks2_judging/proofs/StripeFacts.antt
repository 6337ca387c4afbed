-- The stripes of a keyslot that is told, and the blocks that they take.
use Rattle.std.proofs.Common.{ℕ, ◌*◌, ◌≤◌, refl, sym, subst, codes, arith}
use Rattle.std.proofs.Math.Nat.{mul-le-mul_left}
use Rattle.serde_json.specs.Data.{Data as Value}
use Rattle.luks_rules.specs.declared.table.Outer.TheVariants as outer
use Rattle.luks_rules.specs.declared.table.Section.TheVariants.{Keyslots}
use Rattle.luks_rules.specs.Sizes.{inside_at}
use Rattle.luks_meta.specs.declared.keyslots.Keyslot.{Keyslot}
use Rattle.luks_meta.specs.Objects.{IsObject}
use Rattle.luks_meta.specs.Says.{TellsKeyslot}
use Rattle.luks2_edit_laws.specs.declared.like.Like.{Like}
use Rattle.luks2_edit_laws.specs.declared.like.Like.TheVariants as made_like
use Rattle.luks2_edit_laws.specs.Likes.{HasStripesLike}
use Rattle.luks2_edit_laws.specs.Metadata.{HasStripes, IsInUse}
use Rattle.luks2_edit_laws.specs.Places.{rounded_to_blocks}
use Rattle.luks2_edit_laws.proofs.ToldFacts.{in_between}
use Rattle.luks2_judging.specs.Room.{IsSealableLike}

-- ---- the stripes of a keyslot that is told

pub keyslot_stripes : (j : Value) (n : ℕ) (k : Keyslot) → IsInUse j n → IsObject TellsKeyslot j Keyslots n k → HasStripes j n k.key_size k.af.stripes
keyslot_stripes j n k used told = record {
  object = told.object;
  there = record { numbered = refl; named = used.0; is = told.is };
  key_bytes_are = told.tells_members.1;
  stripes_are = told.tells_members.3.2;
}

some_bytes : (a b : ℕ) → 1 ≤ a → 1 ≤ b → 1 ≤ a * b
some_bytes a b one also = let more = mul-le-mul_left a also in omega (arith, more, one)

-- they take a block
some_blocks : (j : Value) (n a b : ℕ) → HasStripes j n a b → 4096 ≤ rounded_to_blocks (a * b)
some_blocks j n a b x =
    let one = some_bytes a b (in_between 1 128 a (inside_at outer.Top (codes "key_size") x.object) x.key_bytes_are).from
    (in_between 1 4294967295 b (inside_at outer.Af (codes "stripes") x.object) x.stripes_are).from in
    omega (arith, one)

-- so do those of any that can be sealed
pub some_blocks_like : (j : Value) (it : Like) (a b : ℕ) → IsSealableLike j it → HasStripesLike j it a b → 4096 ≤ rounded_to_blocks (a * b)
some_blocks_like j (made_like.Keyslot n) a b can x = some_blocks j n a b x
some_blocks_like j (made_like.Digest number key_bytes) a b can x =
    let one = some_bytes a b (subst (λ n. 1 ≤ n) (sym x.0) can.0) (subst (λ n. 1 ≤ n) (sym x.1) (omega arith)) in
    omega (arith, one)
