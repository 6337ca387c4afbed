-- The kind of a file, and what holds something.
use Rattle.std.specs.Prelude.{◌≡◌, ◌≢◌, ◌⊎◌, ℕ, bit_and}
use Rattle.luks_guarded_files.specs.declared.system.Found.{Found}
use Rattle.luks_guarded_files.specs.declared.system.Kind.{Kind}
use Rattle.luks_guarded_files.specs.declared.system.Kind.TheVariants.{Regular, Block, Folder, Link, Other}

-- the bits of a file's mode that say its kind are these (inode(7): S_IFMT, S_IFREG, S_IFBLK, S_IFDIR, S_IFLNK)
abbrev pub HasType : ℕ → ℕ → Type 0
HasType mode type = bit_and mode 0o170000 ≡ type

-- a file of this mode is of this kind
abbrev pub IsOfMode : ℕ → Kind → Type 0
IsOfMode mode Regular = HasType mode 0o100000
IsOfMode mode Block = HasType mode 0o060000
IsOfMode mode Folder = HasType mode 0o040000
IsOfMode mode Link = HasType mode 0o120000
IsOfMode mode Other =
    (HasType mode 0o100000 → ⊥) × (HasType mode 0o060000 → ⊥) × (HasType mode 0o040000 → ⊥) × (HasType mode 0o120000 → ⊥)

-- A file of this kind has bytes at places, so that it may be a volume: a block device as well as a regular file.
abbrev pub HasBytes : Kind → Type 0
HasBytes kind = (kind ≡ Regular) ⊎ (kind ≡ Block)

-- It holds something: a block device always, a regular file unless it is empty.
abbrev pub HoldsSomething : Found → Type 0
HoldsSomething found = (found.kind ≡ Block) ⊎ ((found.kind ≡ Regular) × (found.len ≢ 0))

-- what was told is of no volume
abbrev pub IsNoVolume : Found → Type 0
IsNoVolume found = HasBytes found.kind → ⊥
