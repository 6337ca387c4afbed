-- The LUKS1 header that is made of the 592 bytes `h` of a volume of `total` bytes and of what is given.
use Rattle.std.specs.Prelude.{◌≡◌, ℕ, ◌<◌, ◌≤◌, List, length, slice_index_or}
use Rattle.luks1_header.specs.Header1.{mk_digest_iterations_of, mk_digest_of, mk_digest_salt_of}
use Rattle.luks1_header.specs.Written.{common_text}
use Rattle.luks1_header.specs.declared.fault.TextField.{TextField}
use Rattle.luks1_header.specs.declared.luks1.Luks1.{Luks1}
use Rattle.luks1_header.specs.declared.luks1.Luks1Common.{Luks1Common}
use Rattle.luks1_header.specs.declared.luks1.Luks1Slot.{Luks1Slot}
use Rattle.luks1_mending.specs.Mended.{IsMadeSlot}
use Rattle.luks1_mending.specs.Taken.{taken_key_bytes, taken_payload, taken_text, IsUsable}
use Rattle.luks1_mending.specs.declared.given.Given.{Given}

-- the fields before the keyslots: what is given, else what stands; the digest as it stands
pub record IsMadeCommon (h : List ℕ) (g : Given) (c : Luks1Common) : Type 0 where
  pub texts : (t : TextField) → common_text c t ≡ taken_text h g t
  pub usable : (t : TextField) → IsUsable t (taken_text h g t)
  pub payload_offset : c.payload_offset ≡ taken_payload h g
  pub key_bytes : c.key_bytes ≡ taken_key_bytes h g
  pub key_at_least : 1 ≤ taken_key_bytes h g
  pub key_at_most : taken_key_bytes h g ≤ 128
  pub mk_digest : c.mk_digest ≡ mk_digest_of h
  pub mk_digest_salt : c.mk_digest_salt ≡ mk_digest_salt_of h
  pub mk_digest_iterations : c.mk_digest_iterations ≡ mk_digest_iterations_of h
  pub iterated : 1 ≤ mk_digest_iterations_of h

-- the whole header
pub record IsMade (h : List ℕ) (total : ℕ) (g : Given) (d : Luks1) : Type 0 where
  pub common : IsMadeCommon h g d.common
  pub eight : length d.slots ≡ 8
  pub slots : (n : ℕ) (s : Luks1Slot) → n < 8 → IsMadeSlot h (taken_key_bytes h g) total n (slice_index_or d.slots n s)
