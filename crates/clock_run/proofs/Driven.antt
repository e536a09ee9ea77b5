-- Nodes that are set to what drives them.
use Rattle.std.proofs.Common.{◌≡◌, ◌⊎◌, inl, inr, ◌∙◌, ℕ, zero, suc, ◌+◌, ◌<◌, List, [], ◌∷◌, ◌++◌, length, get_or, set}
use Rattle.std.proofs.Common.{take, refl, sym, ap, subst, arith, Option, Some, None}
use Rattle.std.specs.Prelude.{Contains, flat_map}
use Rattle.std.specs.List.{AllZip}
use Rattle.std.proofs.lemmas.Bool.{cases_eq}
use Rattle.std.proofs.lemmas.List.{get_or-set_same, get_or-set_other}
use Rattle.std.proofs.lemmas.List.Elements.{Contains-append_cases}
use Rattle.std.proofs.lemmas.Grind.{flat_map-append}
use Rattle.mp_base.specs.declared.value.Trit.{Trit}
use Rattle.switch_net.specs.Values.{driver_at}
use Rattle.mp_base.proofs.Zips.{zip_at}
use Rattle.clock_run.specs.Driving.{IsDriven, AreDriven, AreSet}
use Rattle.clock_run.proofs.Naming.{take_push}

pub set_none : (driver : ℕ → Option Trit) (drive : List (Option Trit)) → AreSet driver [] drive drive
set_none driver drive = record { these = λ n c. absurd (omega (arith, c.1)); others = λ n. inl refl }

-- setting more nodes after some
pub set_then : (driver : ℕ → Option Trit) (ns ms : List ℕ) (a b c : List (Option Trit)) → AreSet driver ns a b
    → AreSet driver ms b c
    → AreSet driver (ns ++ ms) a c
set_then driver ns ms a b c h k = record {
  these = λ n m. these n (Contains-append_cases ns ms n m);
  others = λ n. either n (k.others n) (h.others n);
}
  where
    kept : (n : ℕ) → driver_at b n ≡ driver n → (driver_at c n ≡ driver_at b n) ⊎ (driver_at c n ≡ driver n)
        → driver_at c n ≡ driver n
    kept n e (inl s) = s ∙ e
    kept n e (inr s) = s

    these : (n : ℕ) → Contains ns n ⊎ Contains ms n → driver_at c n ≡ driver n
    these n (inl m) = kept n (h.these n m) (k.others n)
    these n (inr m) = k.these n m

    either : (n : ℕ) → (driver_at c n ≡ driver_at b n) ⊎ (driver_at c n ≡ driver n)
        → (driver_at b n ≡ driver_at a n) ⊎ (driver_at b n ≡ driver n)
        → (driver_at c n ≡ driver_at a n) ⊎ (driver_at c n ≡ driver n)
    either n (inr e) _ = inr e
    either n (inl e) (inl f) = inl (e ∙ f)
    either n (inl e) (inr f) = inr (e ∙ f)

pub set_one : (driver : ℕ → Option Trit) (n : ℕ) (b : Trit) (a : List (Option Trit)) → n < length a → driver n ≡ Some b
    → AreSet driver (n ∷ []) a (set a n (Some b))
set_one driver n b a lt e = record { these = λ m c. these m c; others = λ m. others m (cases_eq m n) }
  where
    here : driver_at (set a n (Some b)) n ≡ driver n
    here = get_or-set_same a n (Some b) None lt ∙ sym e

    these : (m : ℕ) → Contains (n ∷ []) m → driver_at (set a n (Some b)) m ≡ driver m
    these m (zero, l, is) = subst (λ x. driver_at (set a n (Some b)) x ≡ driver x) is here
    these m (suc k, l, is) = absurd (omega (arith, l))

    others : (m : ℕ) → (m ≡ n) ⊎ (m ≡ n → ⊥)
        → (driver_at (set a n (Some b)) m ≡ driver_at a m) ⊎ (driver_at (set a n (Some b)) m ≡ driver m)
    others m (inl is) = inr (subst (λ x. driver_at (set a n (Some b)) x ≡ driver x) (sym is) here)
    others m (inr d) = inl (get_or-set_other a n m (Some b) None d)

-- one more node of a list
pub set_more : (driver : ℕ → Option Trit) (nodes : List ℕ) (bits : List Trit) (k n : ℕ) (b : Trit)
    (first a : List (Option Trit))
    → k < length nodes → n ≡ get_or nodes k n
    → b ≡ get_or bits k b → n < length a → AllZip (IsDriven driver) nodes bits → AreSet driver (take k nodes) first a
    → AreSet driver (take (k + 1) nodes) first (set a n (Some b))
set_more driver nodes bits k n b first a lt is ib inside z h =
    let d : driver (get_or nodes k n) ≡ Some (get_or bits k b) = zip_at (IsDriven driver) nodes bits z k n b lt in
    let e : driver n ≡ Some b = ap driver is ∙ d ∙ ap (λ x. Some x) (sym ib) in
    subst (λ ns. AreSet driver ns first (set a n (Some b))) (sym (take_push nodes k n lt is))
    (set_then driver (take k nodes) (n ∷ []) first a (set a n (Some b)) h (set_one driver n b a inside e))

pub set_more_words : (driver : ℕ → Option Trit) (nodes : List (List ℕ)) (words : List ℕ) (k : ℕ) (ns : List ℕ)
    (word : ℕ)
    (first a b : List (Option Trit)) → k < length nodes
    → ns ≡ get_or nodes k ns → word ≡ get_or words k word → AllZip (AreDriven driver) nodes words
    → (AreDriven driver ns word → AreSet driver ns a b)
    → AreSet driver (flat_map (λ xs. xs) (take k nodes)) first a
    → AreSet driver (flat_map (λ xs. xs) (take (k + 1) nodes)) first b
set_more_words driver nodes words k ns word first a b lt is iw z f h =
    let d : AreDriven driver (get_or nodes k ns) (get_or words k word) =
    zip_at (AreDriven driver) nodes words z k ns word lt in
    let d2 : AreDriven driver ns word = subst (λ x. AreDriven driver x word) (sym is)
    (subst (λ x. AreDriven driver (get_or nodes k ns) x) (sym iw) d) in
    let all : AreSet driver (flat_map (λ xs. xs) (take k nodes) ++ ns) first b =
    set_then driver (flat_map (λ xs. xs) (take k nodes)) ns
    first a b h (f d2) in
    let flat : flat_map (λ xs. xs) (take k nodes) ++ ns ≡ flat_map (λ xs. xs) (take (k + 1) nodes) =
    ap (λ xs. flat_map (λ ys. ys) (take k nodes) ++ xs) (sym (one_list ns))
    ∙ sym (flat_map-append (λ xs. xs) (take k nodes) (ns ∷ []))
    ∙ ap (λ xs. flat_map (λ ys. ys) xs) (sym (take_push nodes k ns lt is)) in
    subst (λ xs. AreSet driver xs first b) flat all
  where
    one_list : (xs : List ℕ) → xs ++ [] ≡ xs
    one_list [] = refl
    one_list (x ∷ xs) = ap (λ ys. x ∷ ys) (one_list xs)
