-- The metadata without a keyslot, and without any.
use Rattle.std.specs.Prelude.{ℕ, List, codes}
use Rattle.serde_json.specs.Data.{Data, no_items, no_members}
use Rattle.luks_json.specs.Number.{number_text}
use Rattle.luks_making.specs.Changing.{at_member, drop_member, drop_text, each_member, in_array, in_object}

-- the digest or token without the name in its array of keyslots, the other names in their order
abbrev pub without_name : List ℕ → Data → Data
without_name t = at_member (codes "keyslots") (in_array (drop_text t))

-- the value without the keyslot `n`, and without its name in the arrays of digests and tokens
-- (LUKS2 On-Disk Format 1.1, 3.3 and 3.6); all else as it was
abbrev pub without_slot : ℕ → Data → Data
without_slot n j =
    at_member (codes "keyslots") (in_object (drop_member (number_text n)))
    (at_member (codes "digests") (in_object (each_member (without_name (number_text n))))
    (at_member (codes "tokens") (in_object (each_member (without_name (number_text n)))) j))

-- the digest or token with no name in its array of keyslots
abbrev pub without_names : Data → Data
without_names = at_member (codes "keyslots") (in_array (λ _. no_items))

-- the value without any keyslot, and with none named by digests and tokens (LUKS2 On-Disk Format 1.1,
-- 3.2, 3.3 and 3.5); all else as it was
abbrev pub without_slots : Data → Data
without_slots j =
    at_member (codes "keyslots") (in_object (λ _. no_members))
    (at_member (codes "digests") (in_object (each_member without_names))
    (at_member (codes "tokens") (in_object (each_member without_names)) j))
