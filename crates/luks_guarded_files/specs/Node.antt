-- The numbers of a block device, and the file that stands for it.
use Rattle.std.specs.Prelude.{◌≡◌, ℕ, ◌+◌, ◌*◌, ◌/◌, ◌%◌, List, ◌++◌, codes}
use Rattle.std.specs.Fmt.{decimal}
use Rattle.luks_guarded_files.specs.declared.node.Node.{Node}

-- Linux keeps both numbers in one of 64 bits (sysmacros.h): from the lowest digit on, in hexadecimal
-- digits, two of the minor one, three of the major one, the other six of the minor, the other five of the major
abbrev pub IsNumberOf : Node → ℕ → Type 0
IsNumberOf node number =
    number ≡ node.minor % 0x100 + node.major % 0x1000 * 0x100 + node.minor / 0x100 * 0x100000 + node.major / 0x1000 * 0x100000000000

-- L_MAJOR:MINOR
abbrev pub name_of : Node → List ℕ
name_of node = codes "L_" ++ decimal node.major ++ codes ":" ++ decimal node.minor
