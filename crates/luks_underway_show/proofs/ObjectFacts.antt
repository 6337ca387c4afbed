-- The lines of tokens and digests, by their records; and what is listed of an object that is there, or isn't.
use Rattle.std.proofs.Common.{◌≡◌, ℕ, List, [], Some, None, refl}
use Rattle.serde_json.specs.Data.{Data}
use Rattle.luks_rules.specs.declared.table.Section.{Section}
use Rattle.luks_rules.specs.Faults.{object_at}
use Rattle.luks_meta.specs.declared.digests.Digest.{Digest}
use Rattle.luks_meta.specs.declared.tokens.Token.{Token}
use Rattle.luks_meta.specs.Says.{TellsDigest, TellsToken}
use Rattle.luks_show.specs.Luks2Lines.{digest_line, token_line}
use Rattle.luks_underway_show.specs.Shown.{object_listed}
use Rattle.luks_underway_show.specs.UnderwayLines.{digest_listed, token_listed}

pub token_told : (n : ℕ) (d : Data) (t : Token) → TellsToken d t → token_line n t ≡ token_listed n d
token_told n d t tells = rw (tells.0, tells.1) refl

pub digest_told : (n : ℕ) (d : Data) (k : Digest) → TellsDigest d k → digest_line n k ≡ digest_listed n d
digest_told n d k tells = rw (tells.1, tells.5, tells.6) refl

pub object_there : (listed : ℕ → Data → List ℕ) (j : Data) (s : Section) (n : ℕ) (d : Data) → object_at j s n ≡ Some d
    → listed n d ≡ object_listed listed j s n
object_there listed j s n d is = rw is refl

pub object_missing : (listed : ℕ → Data → List ℕ) (j : Data) (s : Section) (n : ℕ) → object_at j s n ≡ None → [] ≡ object_listed listed j s n
object_missing listed j s n is = rw is refl
