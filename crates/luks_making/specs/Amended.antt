-- The metadata with a keyslot's priority, with a token, and without one.
use Rattle.std.specs.Prelude.{ℕ, List, codes, Option, Some, None}
use Rattle.serde_json.specs.Data.{Data, number, put, unsigned}
use Rattle.luks_json.specs.Number.{number_text}
use Rattle.luks_making.specs.declared.amended.Priority.{Priority}
use Rattle.luks_making.specs.declared.amended.Priority.TheVariants.{Ignore, Normal, Prefer}
use Rattle.luks_making.specs.Changing.{at_member, drop_member, in_object}

-- the number that says the priority; where a keyslot has none, the priority is normal (LUKS2 On-Disk
-- Format 1.1, 3.2)
abbrev pub priority_number : Priority → Option ℕ
priority_number Ignore = Some 0
priority_number Normal = None
priority_number Prefer = Some 2

-- the keyslot with the number as its priority, or without one
abbrev pub with_priority_number : Option ℕ → Data → Data
with_priority_number None = in_object (drop_member (codes "priority"))
with_priority_number (Some p) = in_object (put (codes "priority") (number (unsigned p)))

-- the value with the priority in the keyslot `n`; all else as it was
abbrev pub with_priority : ℕ → Priority → Data → Data
with_priority n p =
    at_member (codes "keyslots")
    (at_member (number_text n) (with_priority_number (priority_number p)))

-- the value with the token `n`, in the place of one that has this number (LUKS2 On-Disk Format 1.1,
-- 3.5); all else as it was
abbrev pub with_token : ℕ → Data → Data → Data
with_token n t = at_member (codes "tokens") (in_object (put (number_text n) t))

-- the value without the token `n`; all else as it was
abbrev pub without_token : ℕ → Data → Data
without_token n = at_member (codes "tokens") (in_object (drop_member (number_text n)))
