-- Objects of a part of a volume are objects of the volume.
use Rattle.std.proofs.Common.{◌≡◌, ℕ, ◌+◌, ◌<◌, ◌≤◌, List, length, ap, subst, ◌∙◌, arith}
use Rattle.luks_area.proofs.RangeFacts.{part-part}
use Rattle.luks_area.specs.Ranges.{part}
use Rattle.luks_fragments.specs.Kinds.{HasKind}
use Rattle.luks_fragments.specs.Objects.{IsObjectAt, closed, opened}
use Rattle.luks_fragments.specs.declared.kinds.Kind.{Kind}
use Rattle.luks_piecing.specs.Pieced.{IsTextAt}

same_part : (v : List ℕ) (at len k : ℕ) → k ≤ len → part (part v at len) 0 k ≡ part v at k
same_part v at len k few = part-part v at len 0 k (omega (arith, few)) ∙ ap (λ p. part v p k) (omega arith)

-- what is an object of the whole part is one of the volume at its place
pub object_there : (v : List ℕ) (at len : ℕ) → at + len ≤ length v → IsObjectAt (part v at len) 0 len → IsObjectAt v at len
object_there v at len inside x = record {
  some = x.some;
  short = x.short;
  inside = inside;
  whole = subst (λ p. opened p ≤ closed p) (same_part v at len len (omega arith)) x.whole;
  unclosed = λ k some few. subst (λ p. closed p < opened p) (same_part v at len k (omega (arith, few))) (x.unclosed k some few);
  shallow = λ k few. subst (λ p. opened p ≤ closed p + 2) (same_part v at len k few) (x.shallow k few);
}

-- a text that was read, and is an object of the kind
pub text_there : (v : List ℕ) (at len : ℕ) (kind : Kind) (text : List ℕ) → at + len ≤ length v → text ≡ part v at len
    → IsObjectAt text 0 len → HasKind text kind → IsTextAt v at kind text
text_there v at len kind text inside is object has = record {
  len = len;
  is = is;
  fragment = record {
    object = object_there v at len inside (subst (λ t. IsObjectAt t 0 len) is object);
    is = subst (λ t. HasKind t kind) is has;
  };
}
