-- Edits of members and items keep what holds of each of them: that its numbers are whole, how deep it
-- nests, and that its name is that of a number.
use Rattle.std.proofs.Common.{◌≡◌, ℕ, suc, ◌≤◌, Bool, true, false, Ordering, Less, Equal, Greater, bytes_eq, List, Option, Some, option_map, option_and_then, refl, arith, inl, inr}
use Rattle.std.specs.Prelude.{◌||◌}
use Rattle.std.specs.Cmp.Lexicographic.{slice_cmp}
use Rattle.std.specs.Option.{option_map_or}
use Rattle.std.specs.Ordering.{nat_cmp, match_ordering}
use Rattle.std.proofs.lemmas.Bool.{cases_Bool, and_from, and_parts}
use Rattle.serde_json.specs.Data.{Data, array, object, Items, no_items, item, Members, no_members, member, put, depth, items_depth, members_depth}
use Rattle.serde_json.specs.Find.{as_object}
use Rattle.serde_json.specs.Written.{has_float, items_have_float, members_have_float}
use Rattle.luks_json.specs.Arrays.{all_named, is_text}
use Rattle.luks_json.specs.Number.{is_name}
use Rattle.luks_making.specs.Changing.{add_text, at_member, change_member, drop_member, drop_text, each_member, in_array, in_object, set_member}

-- both tests fail
pub neither : (a b : Bool) → (a || b) ≡ false → (a ≡ false) × (b ≡ false)
neither true b e = absurd (cc)
neither false b e = (refl, e)

pub or_off : (a b : Bool) → a ≡ false → b ≡ false → (a || b) ≡ false
or_off true b e f = absurd (cc)
or_off false b e f = f

-- ---- what holds of each member, by its name and value

abbrev pub Each : (List ℕ → Data → Type 0) → Members → Type 0
Each P no_members = Unit {0}
Each P (member k d ms) = P k d × Each P ms

abbrev pub KeepsEach : (List ℕ → Data → Type 0) → (Members → Members) → Type 0
KeepsEach P f = (ms : Members) → Each P ms → Each P (f ms)

-- a changed member, each changed, one left out, one put
pub each_changed : (P : List ℕ → Data → Type 0) (k : List ℕ) (f : Data → Data) → ((l : List ℕ) (d : Data) → P l d → P l (f d)) → KeepsEach P (change_member k f)
each_changed P k f h no_members e = tt
each_changed P k f h (member l d ms) e = elim (cases_Bool (bytes_eq k l)) [
  | inl same ↦ rw same (h l d e.0, e.1)
  | inr off ↦ rw off (e.0, each_changed P k f h ms e.1)
]

pub each_each : (P : List ℕ → Data → Type 0) (f : Data → Data) → ((l : List ℕ) (d : Data) → P l d → P l (f d)) → KeepsEach P (each_member f)
each_each P f h no_members e = tt
each_each P f h (member l d ms) e = (h l d e.0, each_each P f h ms e.1)

pub each_left : (P : List ℕ → Data → Type 0) (k : List ℕ) → KeepsEach P (drop_member k)
each_left P k no_members e = tt
each_left P k (member l d ms) e = elim (cases_Bool (bytes_eq k l)) [
  | inl same ↦ rw same (each_left P k ms e.1)
  | inr off ↦ rw off (e.0, each_left P k ms e.1)
]

put_by : (P : List ℕ → Data → Type 0) (o : Ordering) (k l : List ℕ) (d x : Data) (ms : Members) → P k d → P l d → P l x → Each P ms → Each P (put k d ms)
    → Each P (match_ordering o (member k d (member l x ms)) (member l d ms) (member l x (put k d ms)))
put_by P Less k l d x ms h i p rest later = (h, (p, rest))
put_by P Equal k l d x ms h i p rest later = (i, rest)
put_by P Greater k l d x ms h i p rest later = (p, later)

pub each_put : (P : List ℕ → Data → Type 0) (k : List ℕ) (d : Data) → P k d → ((l : List ℕ) (x : Data) → P l x → P l d) → KeepsEach P (put k d)
each_put P k d h i no_members e = (h, tt)
each_put P k d h i (member l x ms) e = put_by P (slice_cmp nat_cmp k l) k l d x ms h (i l x e.0) e.0 e.1 (each_put P k d h i ms e.1)

-- ---- maps whose members are named by numbers

abbrev pub Named : List ℕ → Data → Type 0
Named k d = is_name k ≡ true

-- the test of all names says it of each
each_named : (ms : Members) → all_named ms ≡ true → Each Named ms
each_named no_members h = tt
each_named (member k d ms) h = let p = and_parts _ _ h in (p.0, each_named ms p.1)

named_each : (ms : Members) → Each Named ms → all_named ms ≡ true
named_each no_members e = refl
named_each (member k d ms) e = and_from _ _ e.0 (named_each ms e.1)

-- the edited section is one again
pub named_map : (f : Members → Members) (v : Option Data) → KeepsEach Named f
    → option_map_or all_named (option_and_then as_object v) false ≡ true → option_map_or all_named (option_and_then as_object (option_map (in_object f) v)) false ≡ true
named_map f (Some (object ms)) h e = named_each (f ms) (h ms (each_named ms e))
named_map f d h e = e

-- ---- whole numbers and nesting

-- the value's numbers are whole, and it nests no deeper
pub record IsFine (n : ℕ) (d : Data) : Type 0 where
  pub whole : has_float d ≡ false
  pub nests : depth d ≤ n

abbrev pub KeepsFine : ℕ → (Data → Data) → Type 0
KeepsFine n f = (d : Data) → IsFine n d → IsFine n (f d)

abbrev Fine : ℕ → List ℕ → Data → Type 0
Fine n k d = IsFine n d

-- of a map it says it of each value
each_fine : (n : ℕ) (ms : Members) → members_have_float ms ≡ false → members_depth ms ≤ n → Each (Fine n) ms
each_fine n no_members h less = tt
each_fine n (member k d ms) h less = let p = neither _ _ h in (record { whole = p.0; nests = omega (arith, less) }, each_fine n ms p.1 (omega (arith, less)))

fine_each : (n : ℕ) (ms : Members) → Each (Fine n) ms → (members_have_float ms ≡ false) × (members_depth ms ≤ n)
fine_each n no_members e = (refl, omega arith)
fine_each n (member k d ms) e =
    let first = e.0.nests in
    let rest = fine_each n ms e.1 in
    let later = rest.1 in
    (or_off _ _ e.0.whole rest.0, omega (arith, first, later))

-- so of the object
in_fine : (n : ℕ) (f : Members → Members) → KeepsEach (Fine n) f → KeepsFine (suc n) (in_object f)
in_fine n f h (object ms) x =
    let nests : suc (members_depth ms) ≤ suc n = x.nests in
    let after = fine_each n (f ms) (h ms (each_fine n ms x.whole (omega (arith, nests)))) in
    let less = after.1 in
    record { whole = after.0; nests = (let deep : suc (members_depth (f ms)) ≤ suc n = omega (arith, less) in deep) }
in_fine n f h d x = x

-- with a changed member, with each changed, with one less, with none, with one more
pub fine_at : (n : ℕ) (k : List ℕ) (f : Data → Data) → KeepsFine n f → KeepsFine (suc n) (at_member k f)
fine_at n k f h = in_fine n (change_member k f) (each_changed (Fine n) k f (λ l d x. h d x))

pub fine_set : (n : ℕ) (k : List ℕ) (v : Data) → IsFine n v → KeepsFine (suc n) (set_member k v)
fine_set n k v h = fine_at n k (λ _. v) (λ d x. h)

pub fine_all : (n : ℕ) (f : Data → Data) → KeepsFine n f → KeepsFine (suc n) (in_object (each_member f))
fine_all n f h = in_fine n (each_member f) (each_each (Fine n) f (λ l d x. h d x))

pub fine_left : (n : ℕ) (k : List ℕ) → KeepsFine (suc n) (in_object (drop_member k))
fine_left n k = in_fine n (drop_member k) (each_left (Fine n) k)

pub fine_emptied : (n : ℕ) → KeepsFine (suc n) (in_object (λ _. no_members))
fine_emptied n = in_fine n (λ _. no_members) (λ ms e. tt)

pub fine_put : (n : ℕ) (k : List ℕ) (v : Data) → IsFine n v → KeepsFine (suc n) (in_object (put k v))
fine_put n k v h = in_fine n (put k v) (each_put (Fine n) k v h (λ l d x. h))

-- of an array with a text less, with none, and with one more
abbrev FineItems : ℕ → Items → Type 0
FineItems n ds = (items_have_float ds ≡ false) × (items_depth ds ≤ n)

array_fine : (n : ℕ) (f : Items → Items) → ((ds : Items) → FineItems n ds → FineItems n (f ds)) → KeepsFine (suc n) (in_array f)
array_fine n f h (array ds) x =
    let nests : suc (items_depth ds) ≤ suc n = x.nests in
    let after = h ds (x.whole, omega (arith, nests)) in
    let less = after.1 in
    record { whole = after.0; nests = (let deep : suc (items_depth (f ds)) ≤ suc n = omega (arith, less) in deep) }
array_fine n f h d x = x

items_dropped : (n : ℕ) (t : List ℕ) (ds : Items) → FineItems n ds → FineItems n (drop_text t ds)
items_dropped n t no_items h = h
items_dropped n t (item d ds) h =
    let p = neither _ _ h.0 in
    let low = h.1 in
    let rest = items_dropped n t ds (p.1, omega (arith, low)) in
    elim (cases_Bool (is_text t d)) [
      | inl same ↦ rw same rest
      | inr off ↦ (let later = rest.1 in rw off (or_off _ _ p.0 rest.0, omega (arith, low, later)))
    ]

items_added : (n : ℕ) (t : List ℕ) (ds : Items) → FineItems n ds → FineItems n (add_text t ds)
items_added n t no_items h = h
items_added n t (item d ds) h =
    let p = neither _ _ h.0 in
    let low = h.1 in
    let rest = items_added n t ds (p.1, omega (arith, low)) in
    let later = rest.1 in
    (or_off _ _ p.0 rest.0, omega (arith, low, later))

pub fine_dropped : (n : ℕ) (t : List ℕ) → KeepsFine (suc n) (in_array (drop_text t))
fine_dropped n t = array_fine n (drop_text t) (items_dropped n t)

pub fine_unnamed : (n : ℕ) → KeepsFine (suc n) (in_array (λ _. no_items))
fine_unnamed n = array_fine n (λ _. no_items) (λ ds h. (refl, omega arith))

pub fine_added : (n : ℕ) (t : List ℕ) → KeepsFine (suc n) (in_array (add_text t))
fine_added n t = array_fine n (add_text t) (items_added n t)
