-- Files that one call after another changes.
use Rattle.std.proofs.Common.{◌≡◌, ℕ, ◌+◌, ◌≤◌, List, [], ◌++◌, length, take, drop, refl, sym, ap, ◌∙◌, arith}
use Rattle.std.proofs.Common.{append_assoc, Option, Some, None, Bool, true, false, cond, IsSome, unwrap_or}
use Rattle.std.proofs.Math.Seq.{take-add}
use Rattle.std.proofs.lemmas.List.{append-nil, take_all, length-drop}
use Rattle.std.proofs.Common.{◌-◌}
use Rattle.std.specs.Ordering.{nat_cmp, eq_by_cmp, is_eq}
use Rattle.std.specs.declared.cmp.Ordering.{Ordering}
use Rattle.std.specs.declared.cmp.Ordering.TheVariants.{Less, Equal, Greater}
use Rattle.std.specs.Cmp.{eq_by_cmp_equiv}
use Rattle.std.specs.Cmp.Lexicographic.{slice_cmp, nat_list_cmp_total}
use Rattle.std.specs.FinMap.{get, insert, get-insert, same_map, get_tied, slice_cmp-IsAntisymmetric}
use Rattle.std.specs.FinMap.{nat_cmp-IsAntisymmetric}
use Rattle.outside.specs.Outside.{Files, WhereTold, Gains, Grows, Creates, IsHeld, bytes_of}
use Rattle.outside.specs.Transfer.{Holds}
use Rattle.outside.proofs.Told.{told_then, told_map, gains_twice}

pub same_files : (m n : Files) → ((q : List ℕ) → get m q ≡ get n q) → m ≡ n
same_files m n is = same_map nat_list_cmp_total (slice_cmp-IsAntisymmetric nat_cmp-IsAntisymmetric) m n is

pub get_set : (m : Files) (k v q : List ℕ)
    → get (insert m k v) q ≡ cond (eq_by_cmp (slice_cmp nat_cmp) q k) (Some v) (get m q)
get_set m k v q = get-insert nat_list_cmp_total m k v q

tied : (r : Ordering) → is_eq r ≡ true → r ≡ Equal
tied Less e = cc
tied Equal e = refl
tied Greater e = cc

self_tied : (k : List ℕ) → eq_by_cmp (slice_cmp nat_cmp) k k ≡ true
self_tied k = (eq_by_cmp_equiv nat_list_cmp_total).refl k

pub get_set_same : (m : Files) (k v : List ℕ) → get (insert m k v) k ≡ Some v
get_set_same m k v = get_set m k v k ∙ ap (λ b. cond b (Some v) (get m k)) (self_tied k)

twice : (b : Bool) (v w : List ℕ) (o : Option (List ℕ)) → cond b (Some w) (cond b (Some v) o) ≡ cond b (Some w) o
twice true v w o = refl
twice false v w o = refl

pub set_set : (m : Files) (k v w : List ℕ) → insert (insert m k v) k w ≡ insert m k w
set_set m k v w = same_files _ _ (λ q.
    get_set (insert m k v) k w q ∙ ap (cond (eq_by_cmp (slice_cmp nat_cmp) q k) (Some w)) (get_set m k v q)
    ∙ twice (eq_by_cmp (slice_cmp nat_cmp) q k) v w (get m q) ∙ sym (get_set m k w q))

stays : (m : Files) (k v q : List ℕ) → get m k ≡ Some v → (b : Bool) → eq_by_cmp (slice_cmp nat_cmp) q k ≡ b
    → cond b (Some v) (get m q) ≡ get m q
stays m k v q e true t = sym e ∙ get_tied nat_list_cmp_total m q k (tied _ t)
stays m k v q e false t = refl

pub set_same : (m : Files) (k v : List ℕ) → get m k ≡ Some v → insert m k v ≡ m
set_same m k v e = same_files _ _ (λ q. get_set m k v q ∙ stays m k v q e _ refl)

held_bytes : (o : Option (List ℕ)) → IsSome o → o ≡ Some (unwrap_or o [])
held_bytes None h = cc
held_bytes (Some v) h = refl

-- a file that gains nothing stays
pub grows_nothing : (name : List ℕ) (x : Option Files) → IsHeld x name → WhereTold (Grows name []) x x
grows_nothing name None h = tt
grows_nothing name (Some m) h = sym (ap (insert m name) (append-nil _) ∙ set_same m name _ (held_bytes _ h))

pub bytes_of_set : (m : Files) (k v : List ℕ) → bytes_of (insert m k v) k ≡ v
bytes_of_set m k v = ap (λ o. unwrap_or o []) (get_set_same m k v)

grow_twice : (k a b : List ℕ) (x y z : Files) → Grows k a x y → Grows k b y z → Grows k (a ++ b) x z
grow_twice k a b x y z e f =
    f ∙ ap (λ m. insert m k (bytes_of m k ++ b)) e ∙ set_set x k _ _
    ∙ ap (insert x k) (ap (λ v. v ++ b) (bytes_of_set x k _) ∙ append_assoc _ a b)

-- what `&text[at..]` is
pub rest_of : (text : List ℕ) (at : ℕ) → take (length text - at) (drop at text) ≡ drop at text
rest_of text at = take_all _ _ (omega (arith, length-drop at text))

pub piece_fits : (text : List ℕ) (at n : ℕ) → at ≤ length text → n ≤ length (take (length text - at) (drop at text))
    → at + n ≤ length text
piece_fits text at n le fits = let h : n ≤ length (drop at text) = rw rest_of at fits in
    omega (arith, length-drop at text)

-- one piece after those before it
pub grows_piece : (name text : List ℕ) (at n : ℕ) (x y z : Option Files) → WhereTold (Grows name (take at text)) x y
    → WhereTold (Grows name (take n (take (length text - at) (drop at text)))) y z
    → WhereTold (Grows name (take (at + n) text)) x z
grows_piece name text at n x y z p q =
    told_then _ _ _ x y z
    (λ a b c e f. rw (take-add, ← rest_of text at)
    (grow_twice name (take at text) (take n (take (length text - at) (drop at text))) a b c e f)) p q

pub gains_piece : (text : List ℕ) (at n : ℕ) (x y z : Option (List ℕ)) → WhereTold (Gains (take at text)) x y
    → WhereTold (Gains (take n (take (length text - at) (drop at text)))) y z
    → WhereTold (Gains (take (at + n) text)) x z
gains_piece text at n x y z p q =
    rw (take-add, ← rest_of text at)
    (gains_twice (take at text) (take n (take (length text - at) (drop at text))) x y z p q)

-- a file that grew or was made is held
pub held_set : (name v : List ℕ) (x y : Option Files)
    → WhereTold (λ old new. (w : List ℕ) × (new ≡ insert old name w)) x y → IsHeld y name
held_set name v x None w = tt
held_set name v None (Some n) w = absurd w
held_set name v (Some m) (Some n) w = rw (w.1, get_set_same) refl

pub held_grown : (name bytes : List ℕ) (x y : Option Files) → WhereTold (Grows name bytes) x y → IsHeld y name
held_grown name bytes x y w = held_set name [] x y (told_map _ _ x y (λ a b e. (_, e)) w)

pub held_created : (name : List ℕ) (x y : Option Files) → WhereTold (Creates name) x y → IsHeld y name
held_created name x y w = held_set name [] x y (told_map _ _ x y (λ a b e. (_, e)) w)

-- a file that was made and then grew holds what it gained
pub holds_created : (name bytes : List ℕ) (x y z : Option Files) → WhereTold (Creates name) x y
    → WhereTold (Grows name bytes) y z → WhereTold (Holds name bytes) x z
holds_created name bytes x y z p q = told_then _ _ _ x y z (λ a b c e f.
    f ∙ ap (λ m. insert m name (bytes_of m name ++ bytes)) e ∙ set_set a name _ _
    ∙ ap (λ v. insert a name (v ++ bytes)) (bytes_of_set a name [])) p q
