use Rattle.std.proofs.Common.{rules, ◌≡◌, arith, sym, ◌∙◌}
use Rattle.std.proofs.lemmas.List.{take_all}
use Rattle.std.proofs.lemmas.Slice.{overwrites}
use Rattle.luks_argon2.specs.Blake2b.{digest_bytes}
use Rattle.luks_argon2.proofs.Blake2bFacts.{digest_more}
use Rattle.luks_argon2.proofs.tag.bytes_of.Goals as goal

pub copy-init : goal.copy-init
unfolding digest_bytes
copy-init c = search rules

pub copy-preserved : goal.copy-preserved
copy-preserved c = (
  search (rules, overwrites),
  digest_more c.copy.bytes c.args.words.now _ c.copy.i _ c.copy.invariant.1 (omega arith)
      (c.copy_from_slice.ensures.after ∙ c.to_le_bytes.ensures),
)

pub returns : goal.returns
returns c =
    let done : c.copy.i ≡ 128 = omega (arith, c.copy.auto.i-end) in
    sym (take_all 1024 c.copy.bytes (omega arith)) ∙ rw done at c.copy.invariant.1
