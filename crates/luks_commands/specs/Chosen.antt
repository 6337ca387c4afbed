-- By what a new keyslot derives and a new volume is encrypted, of what the command line asks for.
use Rattle.std.specs.Prelude.{Option, None, Some}
use Rattle.luks_making.specs.declared.derivation.Argon2Costs.{Argon2Costs}
use Rattle.luks_making.specs.declared.derivation.NewDerivation.{NewDerivation}
use Rattle.luks_making.specs.declared.derivation.NewDerivation.TheVariants as by
use Rattle.luks_request.specs.declared.derivation.AskedArgon2.{AskedArgon2}
use Rattle.luks_request.specs.declared.derivation.AskedKdf.{AskedKdf}
use Rattle.luks_request.specs.declared.derivation.AskedKdf.TheVariants.{Pbkdf2, Argon2}
use Rattle.luks_request.specs.declared.derivation.AskedKind.{AskedKind}
use Rattle.luks_request.specs.declared.derivation.AskedKind.TheVariants.{Argon2i, Argon2id}
use Rattle.luks_formatting.specs.declared.new_cipher.NewCipher.{NewCipher}
use Rattle.luks_formatting.specs.declared.new_cipher.NewCipher.TheVariants as new_cipher
use Rattle.luks_request.specs.declared.cipher.AskedCipher.{AskedCipher}
use Rattle.luks_request.specs.declared.cipher.AskedCipher.TheVariants as asked_cipher
use Rattle.luks_commands.specs.OpenAnswers.{kib_of}

-- Argon2 that is asked for, whose memory the command line gives in MiB
abbrev pub costs_of : AskedArgon2 → Argon2Costs
costs_of asked = record { time = asked.passes; memory = kib_of asked.memory; cpus = asked.lanes }

abbrev pub of_kind : AskedKind → Argon2Costs → NewDerivation
of_kind Argon2i costs = by.Argon2i costs
of_kind Argon2id costs = by.Argon2id costs

abbrev pub derivation_of : AskedKdf → NewDerivation
derivation_of (Pbkdf2 iterations) = by.Pbkdf2 iterations
derivation_of (Argon2 asked) = of_kind asked.kind (costs_of asked)

-- the derivation that is chosen, if one is asked for
abbrev pub chosen_of : Option AskedKdf → Option NewDerivation
chosen_of None = None
chosen_of (Some asked) = Some (derivation_of asked)

-- the cipher that is asked for
abbrev pub cipher_of : AskedCipher → NewCipher
cipher_of asked_cipher.XtsPlain64 = new_cipher.XtsPlain64
cipher_of asked_cipher.XtsPlain = new_cipher.XtsPlain
cipher_of asked_cipher.CbcEssiv = new_cipher.CbcEssiv
cipher_of asked_cipher.CbcPlain64 = new_cipher.CbcPlain64
cipher_of asked_cipher.CbcPlain = new_cipher.CbcPlain
