-- What a turned bit leaves of a LUKS1 header.
use Rattle.std.proofs.Common.{◌≡◌, ◌⊎◌, ℕ, ◌+◌, ◌≤◌, List, inl, inr, ap, ◌∙◌, arith}
use Rattle.std.proofs.Math.ListN.{length-set}
use Rattle.std.proofs.lemmas.List.{get_or-set_other}
use Rattle.luks_area.specs.Ranges.{IsAt, SameBut}
use Rattle.luks_area.proofs.RangeFacts.{part-same_but_at}
use Rattle.luks1_header.specs.Header1.{mk_digest_of}
use Rattle.luks_searching.specs.Fields1.{IsOfField}
use Rattle.luks_searching.specs.Found1.{IsBitTurned}
use Rattle.luks_trials.specs.Turned.{turned}
use Rattle.luks_searching.specs.declared.fields1.Field.{Field}
use Rattle.luks_searching.specs.declared.fields1.Field.TheVariants.{KeyBytes, DigestSalt, State, SaltAndArea, DigestIterations, Iterations}

turned_same_but : (h : List ℕ) (place bit : ℕ) → SameBut (IsAt place 1) h (turned h place bit)
turned_same_but h place bit = record {
  length_same = simp length-set;
  each = λ p apart. get_or-set_other h place p _ 0 (λ e. apart (omega (arith, e), omega (arith, e)));
}

-- no field that is turned meets the digest
apart_of : (field : Field) (n place : ℕ) → IsOfField field n place → (112 + 20 ≤ place) ⊎ (place + 1 ≤ 112)
apart_of KeyBytes n place x = inr (let high = x.1 in omega (arith, high))
apart_of DigestSalt n place x = inl (let low = x.0 in omega (arith, low))
apart_of DigestIterations n place x = inl (let low = x.0 in omega (arith, low))
apart_of State n place x = inl (let low = x.0 in omega (arith, low))
apart_of Iterations n place x = inl (let low = x.0 in omega (arith, low))
apart_of SaltAndArea n place x = inl (let low = x.0 in omega (arith, low))

pub bit_turned_digest : (h new : List ℕ) (n place bit : ℕ) → IsBitTurned h n place bit new → mk_digest_of new ≡ mk_digest_of h
bit_turned_digest h new n place bit x =
    ap mk_digest_of x.is
    ∙ part-same_but_at {v = h} {w = turned h place bit} place 1 112 20 (turned_same_but h place bit) (apart_of x.searched.0 n place x.searched.1)
