-- Requirements, by how many members an object has.
use Rattle.std.proofs.Common.{◌≡◌, ◌≢◌, ◌≤◌, List, [], ◌∷◌, length, false, refl, arith}
use Rattle.std.specs.Prelude.{codes, String}
use Rattle.std.specs.Option.{option_map_or}
use Rattle.std.specs.declared.alloc.Global.{Global}
use Rattle.serde_json.specs.Data.{array, object}
use Rattle.serde_json.specs.Find.{get_member}
use Rattle.serde_json.specs.View.{items_view, members_view}
use Rattle.serde_json.specs.declared.value.Value.{Value}
use Rattle.luks_meta.specs.Requirements.{asks_nothing, is_empty_array}

pub one_member : (es : List (String Global × Value)) → length es ≡ 1
    → asks_nothing (object (members_view es)) ≡ option_map_or is_empty_array (get_member (codes "mandatory") (members_view es)) false
one_member [] e = absurd (omega arith)
one_member (m ∷ []) e = refl
one_member (m ∷ n ∷ es) e = absurd (omega arith)

pub more_members : (es : List (String Global × Value)) → length es ≢ 0 → length es ≢ 1 → asks_nothing (object (members_view es)) ≡ false
more_members [] a b = absurd (a refl)
more_members (m ∷ []) a b = absurd (b refl)
more_members (m ∷ n ∷ es) a b = refl

pub some_item : (vs : List Value) → 1 ≤ length vs → is_empty_array (array (items_view vs)) ≡ false
some_item [] h = absurd (omega arith)
some_item (v ∷ vs) h = refl

pub some_asks : (vs : List Value) → 1 ≤ length vs → asks_nothing (array (items_view vs)) ≡ false
some_asks [] h = absurd (omega arith)
some_asks (v ∷ vs) h = refl
