-- What is said of a file that can't be read everywhere.
use Rattle.std.specs.Prelude.{◌≡◌, ℕ, ◌+◌, ◌-◌, ◌*◌, List, [], ◌∷◌, ◌++◌, Option, Some, None, codes, min, if◌then◌else◌}
use Rattle.std.specs.Fmt.{decimal}
use Rattle.luks_finding.specs.declared.passed.Passed.{Passed}
use Rattle.luks_find_command.specs.declared.unread.Unread.{Unread}

-- how the bytes are named
abbrev pub unread_text : Unread → List ℕ
unread_text u =
    if u.is_read
    then codes "what may begin at byte " ++ decimal u.first ++ codes " can't be judged, since not all of it can be read"
    else codes "bytes " ++ decimal u.first ++ codes " to " ++ decimal u.last ++ codes " couldn't be read, the search goes on behind them"

-- the bytes of these sectors, of a device of `total` bytes that begins at the byte `offset` of its file
abbrev pub named : ℕ → ℕ → Passed → Unread
named offset total x = record {
  first = offset + 512 * x.from;
  last = offset + (min (512 * x.to) total - 1);
  is_read = x.is_read;
}

abbrev pub all_named : ℕ → ℕ → List Passed → List Unread
all_named offset total [] = []
all_named offset total (x ∷ xs) = named offset total x ∷ all_named offset total xs

-- who had heard of some, where that is known, has heard of these too, in their order
abbrev pub Hears : {A : Type 0} → Option (List A) → Option (List A) → List A → Type 0
Hears {A} (Some us) hears more = hears ≡ Some (us ++ more)
Hears {A} None hears more = hears ≡ None
