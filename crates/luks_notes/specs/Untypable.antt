-- Passphrases that nobody types: a prompt ends what is typed at the key that would give a newline or a carriage return.
use Rattle.std.specs.Prelude.{◌≡◌, ℕ, ◌-◌, List, [], ◌∷◌, ◌++◌, codes, drop, length}
use Rattle.luks_notes.specs.declared.untypable.Untypable.{Untypable}
use Rattle.luks_notes.specs.declared.untypable.Untypable.TheVariants.{Empty, Newline, CarriageReturn, CarriageReturnNewline}

-- the last bytes of the passphrase are these
abbrev pub EndsIn : List ℕ → List ℕ → Type 0
EndsIn p end = drop (length p - length end) p ≡ end

-- what the passphrase is, or ends in: at most one of these
abbrev pub IsUntypable : List ℕ → Untypable → Type 0
IsUntypable p Empty = p ≡ []
IsUntypable p Newline = EndsIn p (10 ∷ []) × (EndsIn p (13 ∷ 10 ∷ []) → ⊥)
IsUntypable p CarriageReturn = EndsIn p (13 ∷ [])
IsUntypable p CarriageReturnNewline = EndsIn p (13 ∷ 10 ∷ [])

-- ---- the lines

abbrev pub line_alone_text : List ℕ → List ℕ
line_alone_text line_option = line_option ++ codes " FILE takes the line alone"

-- of a new passphrase, of which this option takes the first line of its file alone
abbrev pub new_line : List ℕ → Untypable → List ℕ
new_line line_option Empty = codes "luks: the new passphrase is empty: it keeps nobody out" ++ 10 ∷ []
new_line line_option Newline =
    codes "luks: the new passphrase ends in a newline: a prompt at boot can't type it; " ++ line_alone_text line_option ++ 10 ∷ []
new_line line_option CarriageReturn =
    codes "luks: the new passphrase ends in a carriage return: a prompt at boot can't type it; tr -d '\\r' leaves it out" ++ 10 ∷ []
new_line line_option CarriageReturnNewline =
    codes "luks: the new passphrase ends in a carriage return and a newline: a prompt at boot can't type them; tr -d '\\r\\n' leaves them out" ++ 10 ∷ []

-- of one that opened nothing
abbrev pub tried_line : Untypable → List ℕ
tried_line Empty = codes "luks: the passphrase is empty" ++ 10 ∷ []
tried_line Newline =
    codes "luks: the passphrase's file ends in a newline, which was taken as part of it; --passphrase-line leaves it out" ++ 10 ∷ []
tried_line CarriageReturn =
    codes "luks: the passphrase ends in a carriage return, which was taken as part of it; tr -d '\\r' leaves it out" ++ 10 ∷ []
tried_line CarriageReturnNewline =
    codes "luks: the passphrase's file ends in a carriage return and a newline, which were taken as part of it; tr -d '\\r\\n' leaves them out" ++ 10 ∷ []
