-- The lines of objects of LUKS2 metadata.
use Rattle.std.specs.Prelude.{ℕ, List, [], ◌∷◌, ◌++◌, codes, Option, Some, None}
use Rattle.std.specs.Fmt.{decimal}
use Rattle.std.specs.List.{flat_map}
use Rattle.luks_meta.specs.declared.digests.Digest.{Digest}
use Rattle.luks_meta.specs.declared.keyslots.Cost.{Cost}
use Rattle.luks_meta.specs.declared.keyslots.Cost.TheVariants.{Pbkdf2, Argon2i, Argon2id}
use Rattle.luks_meta.specs.declared.keyslots.Keyslot.{Keyslot}
use Rattle.luks_meta.specs.declared.tokens.Token.{Token}
use Rattle.luks_show.specs.Texts.{escaped, line}

-- a number behind another one
abbrev pub number_behind : ℕ → List ℕ
number_behind n = codes "," ++ decimal n

-- numbers joined by commas, or a hyphen where there is none
abbrev pub numbers_text : List ℕ → List ℕ
numbers_text [] = codes "-"
numbers_text (n ∷ ns) = decimal n ++ flat_map number_behind ns

-- the derivation
abbrev pub kdf_text : Cost → List ℕ
kdf_text (Pbkdf2 c) = codes "pbkdf2"
kdf_text (Argon2i c) = codes "argon2i"
kdf_text (Argon2id c) = codes "argon2id"

-- the digest that names it, where one does
abbrev pub digest_text : Option ℕ → List ℕ
digest_text None = []
digest_text (Some n) = codes " digest " ++ decimal n

-- the key of the keyslot n, and where its area lies
abbrev pub key_text : ℕ → Keyslot → List ℕ
key_text n k = codes "keyslot " ++ decimal n ++ codes " key-bytes " ++ decimal k.key_size ++ codes " kdf " ++ kdf_text k.kdf.cost

abbrev pub area_text : Keyslot → Option ℕ → List ℕ
area_text k digest =
    codes " area " ++ decimal k.area.offset ++ codes " " ++ decimal k.area.size ++ codes " " ++ escaped k.area.encryption.now ++ line (digest_text digest)

-- the keyslot n, which is of this digest
abbrev pub keyslot_line : ℕ → Keyslot → Option ℕ → List ℕ
keyslot_line n k digest = key_text n k ++ area_text k digest

abbrev pub token_line : ℕ → Token → List ℕ
token_line n t = codes "token " ++ decimal n ++ codes " " ++ escaped t.kind.now ++ codes " keyslots " ++ line (numbers_text t.keyslots.items)

abbrev pub digest_line : ℕ → Digest → List ℕ
digest_line n d =
    codes "digest " ++ decimal n ++ codes " " ++ escaped d.hash.now ++ codes " keyslots " ++ numbers_text d.keyslots.items ++ codes " segments "
    ++ line (numbers_text d.segments.items)
