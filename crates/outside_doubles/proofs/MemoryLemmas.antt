-- The files that a map of texts has, and what its calls do to them.
use Rattle.std.proofs.Common.{◌≡◌, ℕ, List, [], ◌∷◌, ◌++◌, map, refl, sym, ap, ◌∙◌, Option, Some, None, Bool, true}
use Rattle.std.proofs.Common.{false, cond, IsSome, unwrap_or, Vec, String, string_bytes, is_some, is_ok, Result, Ok}
use Rattle.std.proofs.Common.{Err, OnOk, OnErr, if◌then◌else◌}
use Rattle.std.specs.Option.{option_map}
use Rattle.std.specs.declared.alloc.Global.{Global}
use Rattle.std.specs.Ordering.{nat_cmp, eq_by_cmp, is_eq}
use Rattle.std.specs.Cmp.{eq_by_cmp_equiv}
use Rattle.std.specs.Cmp.Lexicographic.{slice_cmp, nat_list_cmp_total}
use Rattle.std.specs.Str.{bytes_eq}
use Rattle.std.specs.String.{string_cmp}
use Rattle.std.specs.Map.{lookup}
use Rattle.std.specs.BTreeMap.{BTreeMap, is_at, get_by_text, UpdatesBy}
use Rattle.std.specs.FinMap.{get, insert, get-from_entries, find}
use Rattle.std.proofs.lemmas.Map.Text.{btree_map_updates_text, is_eq-slice_cmp}
use Rattle.outside.specs.Outside.{Grows}
use Rattle.outside_doubles.specs.Memory.{files_of}
use Rattle.outside.proofs.FilesLemmas.{same_files, get_set, set_same}

abbrev pub Texts : Type 0
Texts = BTreeMap (String Global) (Vec ℕ Global)

abbrev pub items_of : Vec ℕ Global → List ℕ
items_of v = v.items

turn : (b : Bool) (v : Vec ℕ Global) (o : Option (Vec ℕ Global))
    → option_map items_of (cond b (Some v) o) ≡ cond b (Some v.items) (option_map items_of o)
turn true v o = refl
turn false v o = refl

find_text : (es : List (String Global × Vec ℕ Global)) (q : List ℕ)
    → get (files_of es) q ≡ option_map items_of (lookup (is_at (λ k. slice_cmp nat_cmp q (string_bytes k))) es)
find_text es q = get-from_entries nat_list_cmp_total _ q ∙ found es
  where
    found : (fs : List (String Global × Vec ℕ Global))
        → find (slice_cmp nat_cmp) q (map (λ e. (string_bytes e.0, e.1.items)) fs)
        ≡ option_map items_of (lookup (is_at (λ k. slice_cmp nat_cmp q (string_bytes k))) fs)
    found [] = refl
    found (e ∷ fs) = ap (cond (is_eq (slice_cmp nat_cmp q (string_bytes e.0))) (Some e.1.items)) (found fs)
        ∙ sym (turn (is_eq (slice_cmp nat_cmp q (string_bytes e.0))) e.1 _)

-- what a map of texts has under some bytes
pub get_text : (m : Texts) (q : List ℕ) → get (files_of m.entries) q ≡ option_map items_of (get_by_text m q)
get_text m q = find_text m.entries q

-- a map that was changed at one name
pub set_of_updates : (m n : Texts) (name : List ℕ) (v : Vec ℕ Global)
    → UpdatesBy string_cmp (λ k. slice_cmp nat_cmp name (string_bytes k)) m n (Some v)
    → files_of n.entries ≡ insert (files_of m.entries) name v.items
set_of_updates m n name v updates = same_files _ _ (λ q.
    get_text n q ∙ ap (option_map items_of) (btree_map_updates_text name m n (Some v) updates q)
    ∙ turn (bytes_eq name q) v _
    ∙ ap (λ b. cond b (Some v.items) (option_map items_of (get_by_text m q)))
    (sym (is_eq-slice_cmp name q) ∙ (eq_by_cmp_equiv nat_list_cmp_total).symm name q)
    ∙ sym (get_set (files_of m.entries) name v.items q
    ∙ ap (cond (eq_by_cmp (slice_cmp nat_cmp) q name) (Some v.items)) (get_text m q)))

-- what a file that is there holds
get_of_text : (m : Texts) (name : List ℕ) (old : Vec ℕ Global) → Some old ≡ get_by_text m name
    → get (files_of m.entries) name ≡ Some old.items
get_of_text m name old e = get_text m name ∙ ap (option_map items_of) (sym e)

pub grown_of_updates : (m n : Texts) (name bytes : List ℕ) (old new : Vec ℕ Global) → Some old ≡ get_by_text m name
    → UpdatesBy string_cmp (λ k. slice_cmp nat_cmp name (string_bytes k)) m n (Some new)
    → new.items ≡ old.items ++ bytes → Grows name bytes (files_of m.entries) (files_of n.entries)
grown_of_updates m n name bytes old new e updates grown =
    set_of_updates m n name new updates
    ∙ ap (insert (files_of m.entries) name) (grown ∙ ap (λ o. unwrap_or o [] ++ bytes) (sym (get_of_text m name old e)))

pub same_of_updates : (m n : Texts) (name : List ℕ) (old new : Vec ℕ Global) → Some old ≡ get_by_text m name
    → UpdatesBy string_cmp (λ k. slice_cmp nat_cmp name (string_bytes k)) m n (Some new) → new.items ≡ old.items
    → files_of n.entries ≡ files_of m.entries
same_of_updates m n name old new e updates same =
    set_of_updates m n name new updates ∙ ap (insert (files_of m.entries) name) same
    ∙ set_same (files_of m.entries) name old.items (get_of_text m name old e)

pub no_text : (m : Texts) (name : List ℕ) → None ≡ get_by_text m name → IsSome (get (files_of m.entries) name) → ⊥
no_text m name e held =
    let none : get (files_of m.entries) name ≡ None = get_text m name ∙ ap (option_map items_of) (sym e) in
    let h : is_some {T = List ℕ} None ≡ true = rw none at held in cc

pub at_ok : {T E : Type 0} (r : Result T E) (new a b : List ℕ) (P : Type 0) → new ≡ (if is_ok r then a else b)
    → (new ≡ a → P) → OnOk r P
at_ok (Ok v) new a b P e f = f e
at_ok (Err v) new a b P e f = tt

pub at_err : {T E : Type 0} (r : Result T E) (new a b : List ℕ) (P : Type 0) → new ≡ (if is_ok r then a else b)
    → (new ≡ b → P) → OnErr r P
at_err (Ok v) new a b P e f = tt
at_err (Err v) new a b P e f = f e
