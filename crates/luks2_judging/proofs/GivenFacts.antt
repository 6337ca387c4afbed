-- What the volume key answers, where it is a result.
use Rattle.std.proofs.Common.{◌≡◌, List, ℕ, length, Some, None, Result, Ok, Err, IfOk}
use Rattle.serde_json.specs.Data.{Data as Value}
use Rattle.luks_meta.specs.Content.{content}
use Rattle.luks_reading.specs.declared.header.ChosenCopy.{ChosenCopy}
use Rattle.luks_reading.specs.Header.{IsChosenCopy}
use Rattle.luks_edit.specs.declared.edit.Edit.{Edit}
use Rattle.luks_edit.specs.declared.edit.Opener.TheVariants as opener
use Rattle.luks_edit.specs.declared.edit.VolumeKey.{VolumeKey}
use Rattle.luks_edit.specs.declared.edit_fault.EditFault.{EditFault}
use Rattle.luks_edit.specs.Asked.{deed_of, opener_in}
use Rattle.luks2_edit_laws.specs.Likes.{HasRefusal, IsLikeByKey}
use Rattle.luks2_judging.specs.declared.keys.Given.{Given}
use Rattle.luks2_judging.specs.Opened.{HasKeyBytesLike, Opens}
use Rattle.luks2_judging.proofs.KeyFacts.{own_bytes, own_given}

-- it has as many bytes as what a new keyslot is made like says
pub given_length : (key : VolumeKey) (j : Value) (r : Result Given EditFault) → IfOk r (λ g. g.key ≡ key.bytes.now)
    → IfOk r (λ g. IsLikeByKey key.allowed.older j key.bytes.now g.like) → IfOk r (λ g. HasKeyBytesLike j g.like (length g.key))
given_length key j (Ok g) same is = rw same (own_bytes key.allowed.older j key.bytes.now g.like is)
given_length key j (Err f) same is = tt

-- and it gives itself
pub given_opens : (v : List ℕ) (copy : ChosenCopy) (x : IsChosenCopy v copy) (e : Edit) (key : VolumeKey) → opener_in (deed_of e) ≡ Some (opener.Key key) → (r : Result Given EditFault)
    → IfOk r (λ g. g.key ≡ key.bytes.now) → IfOk r (λ g. IsLikeByKey key.allowed.older (content copy.meta) key.bytes.now g.like)
    → IfOk r (λ g. HasRefusal key.allowed.older (content copy.meta) g.like None) → IfOk r (λ g. Opens v e g.key)
given_opens v copy x e key asked (Ok g) same is accepted = own_given v copy x e key asked g.key g.like same is accepted
given_opens v copy x e key asked (Err f) same is accepted = tt
