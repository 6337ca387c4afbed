-- The uuid that an edit sets, in both versions of the header: a text that is given, or one of version 4 that random
-- bytes make (RFC 9562, 4 and 5.4).
use Rattle.std.specs.Prelude.{ℕ, List, ◌++◌, ◌≤◌, length, replicate, take, Option, Some, None, ⊤}
use Rattle.luks1_header.specs.Bytes.{IsUuid}
use Rattle.luks2_header.specs.NewUuid.{uuid_text}
use Rattle.luks_edit.specs.Asked.{uuid_by}
use Rattle.luks_edit.specs.declared.edit.Edit.{Edit}
use Rattle.luks_edit.specs.declared.new_uuid.NewUuid.{NewUuid}
use Rattle.luks_edit.specs.declared.new_uuid.NewUuid.TheVariants.{Text, Random}

-- its text, by the random bytes that are its own
abbrev pub new_uuid_text : NewUuid → List ℕ → List ℕ
new_uuid_text (Text text) random = text.now
new_uuid_text Random random = uuid_text (take 16 random)

-- how many random bytes are its own
abbrev pub uuid_need : Option NewUuid → ℕ
uuid_need None = 0
uuid_need (Some (Text text)) = 0
uuid_need (Some Random) = 16

-- the text that is given is none of a uuid
abbrev pub IsBadUuid : Option NewUuid → Type 0
IsBadUuid None = ⊥
IsBadUuid (Some (Text text)) = IsUuid text.now → ⊥
IsBadUuid (Some Random) = ⊥

abbrev pub HasBadUuid : Edit → Type 0
HasBadUuid e = IsBadUuid (uuid_by e)

-- the field of 40 bytes: the text and zeros, or what was there
abbrev pub uuid_field_after : Option NewUuid → List ℕ → List ℕ → List ℕ
uuid_field_after None random field_ = field_
uuid_field_after (Some uuid) random field_ = new_uuid_text uuid random ++ replicate 4 0
