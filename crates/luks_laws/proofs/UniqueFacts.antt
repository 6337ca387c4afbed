-- An object that was read has each name once: its members are in the order of their names.
use Rattle.std.proofs.Common.{◌≡◌, ℕ, List, Option, Some, None, option_map, option_and_then, Ordering, Less, Equal, Greater, nat_cmp, refl, ap, subst, ◌∙◌}
use Rattle.std.proofs.lemmas.Cmp.{nat_list_cmp_total}
use Rattle.std.specs.Cmp.Lexicographic.{slice_cmp}
use Rattle.std.specs.Ordering.{match_ordering, ordering_reverse}
use Rattle.json.specs.Lex.{tokens}
use Rattle.json.specs.Json as json
use Rattle.serde_json.specs.Data.{Data, null, boolean, number, string, array, object, Members, no_members, member, put}
use Rattle.serde_json.specs.Find.{get, get_member}
use Rattle.serde_json.specs.Read.{number_of, of_json, of_items, of_members, max_depth, read}
use Rattle.luks_making.specs.Naming.{IsUnique}

-- ---- order

-- the name comes before those of the members
abbrev pub AllAfter : List ℕ → Members → Type 0
AllAfter k no_members = Unit {0}
AllAfter k (member l e ms) = (slice_cmp nat_cmp k l ≡ Less) × AllAfter k ms

-- the members of each object are in the order of their names
abbrev mutual
  pub IsTidy : Data → Type 0
  IsTidy null = Unit {0}
  IsTidy (boolean b) = Unit {0}
  IsTidy (number n) = Unit {0}
  IsTidy (string s) = Unit {0}
  IsTidy (array ds) = Unit {0}
  IsTidy (object ms) = AreTidy ms

  pub AreTidy : Members → Type 0
  AreTidy no_members = Unit {0}
  AreTidy (member k d ms) = AllAfter k ms × IsTidy d × AreTidy ms

before_all : (k l : List ℕ) (ms : Members) → slice_cmp nat_cmp k l ≡ Less → AllAfter l ms → AllAfter k ms
before_all k l no_members low all = tt
before_all k l (member q e ms) low all = (nat_list_cmp_total.trans k l q low all.0, before_all k l ms low all.1)

after_put : (q k : List ℕ) (d : Data) (ms : Members) → slice_cmp nat_cmp q k ≡ Less → AllAfter q ms → AllAfter q (put k d ms)
after_put q k d no_members low all = (low, tt)
after_put q k d (member l e ms) low all = by_order (slice_cmp nat_cmp k l) (after_put q k d ms low all.1)
  where
    by_order : (o : Ordering) → AllAfter q (put k d ms) → AllAfter q (match_ordering o (member k d (member l e ms)) (member l d ms) (member l e (put k d ms)))
    by_order Less later = (low, all)
    by_order Equal later = all
    by_order Greater later = (all.0, later)

later : (k l : List ℕ) → slice_cmp nat_cmp k l ≡ Greater → slice_cmp nat_cmp l k ≡ Less
later k l is = nat_list_cmp_total.antisymm l k ∙ ap ordering_reverse is

tidy_put : (k : List ℕ) (d : Data) (ms : Members) → IsTidy d → AreTidy ms → AreTidy (put k d ms)
tidy_put k d no_members new tidy = (tt, new, tt)
tidy_put k d (member l e ms) new tidy = by_order (slice_cmp nat_cmp k l) refl (tidy_put k d ms new tidy.2)
  where
    by_order : (o : Ordering) → slice_cmp nat_cmp k l ≡ o → AreTidy (put k d ms)
        → AreTidy (match_ordering o (member k d (member l e ms)) (member l d ms) (member l e (put k d ms)))
    by_order Less is rest = ((is, before_all k l ms is tidy.0), new, tidy)
    by_order Equal is rest = (tidy.0, new, tidy.2)
    by_order Greater is rest = (after_put l k d ms (later k l is) tidy.0, tidy.1, rest)

-- ---- reading

abbrev Holds : {A : Type 0} → (A → Type 0) → Option A → Type 0
Holds P None = Unit {0}
Holds P (Some a) = P a

mapped : {A B : Type 0} (P : A → Type 0) (Q : B → Type 0) (f : A → B) → ((a : A) → P a → Q (f a)) → (o : Option A) → Holds P o → Holds Q (option_map f o)
mapped P Q f keeps None x = tt
mapped P Q f keeps (Some a) x = keeps a x

then_holds : {A B : Type 0} (P : A → Type 0) (Q : B → Type 0) (f : A → Option B) → ((a : A) → P a → Holds Q (f a)) → (o : Option A) → Holds P o → Holds Q (option_and_then f o)
then_holds P Q f keeps None x = tt
then_holds P Q f keeps (Some a) x = keeps a x

any_holds : {A : Type 0} (o : Option A) → Holds (λ _. Unit {0}) o
any_holds None = tt
any_holds (Some a) = tt

mutual
  tidy_json : (j : json.Json) → Holds IsTidy (of_json j)
  tidy_json json.null = tt
  tidy_json (json.boolean b) = tt
  tidy_json (json.number s) = mapped (λ _. Unit {0}) IsTidy number (λ a x. tt) (number_of s) (any_holds (number_of s))
  tidy_json (json.string s) = tt
  tidy_json (json.array js) = mapped (λ _. Unit {0}) IsTidy array (λ a x. tt) (of_items js) (any_holds (of_items js))
  tidy_json (json.object ms) = mapped AreTidy IsTidy object (λ a x. x) (of_members ms no_members) (tidy_members ms no_members tt)

  tidy_members : (ms : json.Members) (found : Members) → AreTidy found → Holds AreTidy (of_members ms found)
  tidy_members json.no_members found tidy = tidy
  tidy_members (json.member name j ms) found tidy =
      then_holds IsTidy AreTidy (λ d. of_members ms (put name d found)) (λ d x. tidy_members ms (put name d found) (tidy_put name d found x tidy)) (of_json j) (tidy_json j)

pub tidy_read : (text : List ℕ) (d : Data) → read text ≡ Some d → IsTidy d
tidy_read text d is = subst (Holds IsTidy) is
    (then_holds (λ _. Unit {0}) IsTidy of_json (λ j x. tidy_json j) (option_and_then (λ p. json.if_last p.0 p.1) (json.value max_depth (tokens text)))
    (any_holds (option_and_then (λ p. json.if_last p.0 p.1) (json.value max_depth (tokens text)))))

-- ---- looking into a value

some_same : {A : Type 0} (x y : A) → Some x ≡ Some y → x ≡ y
some_same x y e = cc

tidy_member : (k : List ℕ) (ms : Members) (d : Data) → AreTidy ms → get_member k ms ≡ Some d → IsTidy d
tidy_member k no_members d tidy is = absurd (cc)
tidy_member k (member l e ms) d tidy is = by_order (slice_cmp nat_cmp k l) (λ found. tidy_member k ms d tidy.2 found) is
  where
    by_order : (o : Ordering) → (get_member k ms ≡ Some d → IsTidy d) → match_ordering o (get_member k ms) (Some e) (get_member k ms) ≡ Some d → IsTidy d
    by_order Less rest found = rest found
    by_order Equal rest found = subst IsTidy (some_same e d found) tidy.1
    by_order Greater rest found = rest found

pub tidy_get : (k : List ℕ) (j d : Data) → IsTidy j → get k j ≡ Some d → IsTidy d
tidy_get k null d tidy is = absurd (cc)
tidy_get k (boolean b) d tidy is = absurd (cc)
tidy_get k (number n) d tidy is = absurd (cc)
tidy_get k (string s) d tidy is = absurd (cc)
tidy_get k (array ds) d tidy is = absurd (cc)
tidy_get k (object ms) d tidy is = tidy_member k ms d tidy is

none_of : (k : List ℕ) (ms : Members) → AllAfter k ms → get_member k ms ≡ None
none_of k no_members all = refl
none_of k (member l e ms) all = rw all.0 (none_of k ms all.1)

-- no name stands twice
pub unique : (ms : Members) → AreTidy ms → IsUnique ms
unique no_members tidy = tt
unique (member k d ms) tidy = (none_of k ms tidy.0, unique ms tidy.2)
