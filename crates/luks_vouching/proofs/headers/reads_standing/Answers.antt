use Rattle.std.proofs.Common.{◌≡◌, ℕ, ◌*◌, ◌≤◌, List, ◌++◌, ◌⊎◌, length, drop, refl, sym, ap, ◌∙◌, arith, subst}
use Rattle.std.proofs.lemmas.Bool.{false≢true}
use Rattle.luks_area.specs.Ranges.{part}
use Rattle.luks2_header.specs.Header2.{hdr_size, header_at, magic_of, IsFormed}
use Rattle.luks2_header.specs.Sizes.{IsListed}
use Rattle.luks_vouching.specs.Vouched.{mended_header, Stands}
use Rattle.luks_vouching.proofs.headers.reads_standing.Goals as goal

pub returns-then-not-are_both_inside-clause-stands : goal.returns-then-not-are_both_inside-clause-stands
returns-then-not-are_both_inside-clause-stands g c = λ t. (
  λ is. absurd (false≢true is),
  λ stands.
      let total : length (g.D.Device.bytes c.args.source.now) ≡ c.len-total.result = g.met.D.Device.sized c.args.source.now t ∙ sym c.len-total.ensures in
      let both = stands.both_inside in
      c.if-not-are_both_inside.ensures.1 (omega (arith, total, both)),
)

-- what the tests say of the header that was read and mended
standing : (v head read : List ℕ) (size o total : ℕ) → IsListed size → (o ≡ 0) ⊎ (o ≡ size) → total ≡ length v → 2 * size ≤ total
    → read ≡ header_at v o → head ≡ magic_of o ++ drop 6 read → IsFormed head o total → hdr_size head ≡ size → Stands v size o
standing v head read size o total listed half all both read_is head_is form own =
    let mended : head ≡ mended_header v o = head_is ∙ ap (λ l. magic_of o ++ drop 6 l) read_is in
    record {
      listed = listed;
      first_or_second = half;
      both_inside = omega (arith, all, both);
      form = subst (λ (n : ℕ). IsFormed (mended_header v o) o n) all (subst (λ (l : List ℕ). IsFormed l o total) mended form);
      own_size = subst (λ (l : List ℕ). hdr_size l ≡ size) mended own;
    }

-- and the reverse
standing_tests : (v head : List ℕ) (size o total : ℕ) → total ≡ length v → head ≡ mended_header v o → Stands v size o → IsFormed head o total × (hdr_size head ≡ size)
standing_tests v head size o total all mended stands = (
  subst (λ (l : List ℕ). IsFormed l o total) (sym mended) (subst (λ (n : ℕ). IsFormed (mended_header v o) o n) (sym all) stands.form),
  ap hdr_size mended ∙ stands.own_size,
)

-- as many bytes as a binary header has were read
whole_header : (v read : List ℕ) (o n : ℕ) → n ≡ 4096 → read ≡ part v o n → read ≡ header_at v o
whole_header v read o n long is = is ∙ ap (part v o) long

pub returns-clause-stands : goal.returns-clause-stands
returns-clause-stands g c = λ t.
    let v : List ℕ = g.D.Device.bytes c.args.source.now in
    let total : c.len-total.result ≡ length v = c.len-total.ensures ∙ sym (g.met.D.Device.sized c.args.source.now t) in
    let read : c.read_at.new.into ≡ header_at v c.args.at = whole_header v c.read_at.new.into c.args.at (length c.args.head.now) c.requires.long (c.in_ok-read_at.ensures.read t) in
    let mended : c.mend.new.head ≡ mended_header v c.args.at = c.mend.ensures ∙ ap (λ l. magic_of c.args.at ++ drop 6 l) read in (
      λ is.
          let said = c.is_standing.ensures.0 is in
          standing v c.mend.new.head c.read_at.new.into c.args.size c.args.at c.len-total.result c.requires.listed c.requires.half total
          (c.if-not-are_both_inside.ensures.0 refl) read c.mend.ensures said.0 said.1,
      λ stands. c.is_standing.ensures.1 (standing_tests v c.mend.new.head c.args.size c.args.at c.len-total.result total mended stands),
    )

pub returns-clause-head : goal.returns-clause-head
returns-clause-head g c = λ t is.
    let v : List ℕ = g.D.Device.bytes c.args.source.now in
    let read : c.read_at.new.into ≡ header_at v c.args.at = whole_header v c.read_at.new.into c.args.at (length c.args.head.now) c.requires.long (c.in_ok-read_at.ensures.read t) in
    c.mend.ensures ∙ ap (λ l. magic_of c.args.at ++ drop 6 l) read
