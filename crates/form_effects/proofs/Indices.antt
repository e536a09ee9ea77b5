-- The indices of the definitions of a kind, with one definition more.
use Rattle.std.proofs.Common.{◌≡◌, ℕ, suc, ◌+◌, ◌<◌, List, [], ◌∷◌, ◌++◌, Bool, true, false, cond, refl, sym, ◌∙◌, ap}
use Rattle.std.proofs.Common.{length, map, take, arith, get_or}
use Rattle.std.proofs.lemmas.List.{append-nil, map-append, length-take-le, take_more}
use Rattle.mp_program.specs.declared.program.What.{What}
use Rattle.mp_program.specs.declared.program.Def.{Def}
use Rattle.form_effects.specs.Linked.{indices_where}

sucs : (b : Bool) (n : ℕ) → map suc (cond b (n ∷ []) []) ≡ cond b (suc n ∷ []) []
sucs true n = refl
sucs false n = refl

put : (b : Bool) (all front back : List ℕ) → all ≡ front ++ back
    → cond b (0 ∷ all) all ≡ cond b (0 ∷ front) front ++ back
put true all front back e = ap (λ zs. 0 ∷ zs) e
put false all front back e = e

indices_more : (f : What → Bool) (xs : List Def) (x : Def)
    → indices_where f (xs ++ x ∷ []) ≡ indices_where f xs ++ cond (f x.what) (length xs ∷ []) []
indices_more f [] x = refl
indices_more f (y ∷ ys) x =
    let before : List ℕ = indices_where f ys in
    let more : map suc (indices_where f (ys ++ x ∷ [])) ≡ map suc before ++ cond (f x.what) (suc (length ys) ∷ []) [] =
    ap (map suc) (indices_more f ys x) ∙ map-append suc before (cond (f x.what) (length ys ∷ []) [])
    ∙ ap (λ zs. map suc before ++ zs) (sucs (f x.what) (length ys)) in
    put (f y.what) (map suc (indices_where f (ys ++ x ∷ []))) (map suc before)
    (cond (f x.what) (suc (length ys) ∷ []) []) more

-- with one more definition
indices_next : (f : What → Bool) (defs : List Def) (i : ℕ) (x : Def) → i < length defs → x ≡ get_or defs i x
    → indices_where f (take (i + 1) defs) ≡ indices_where f (take i defs) ++ cond (f x.what) (i ∷ []) []
indices_next f defs i x lt is =
    ap (indices_where f) (take_more defs i x lt ∙ ap (λ y. take i defs ++ y ∷ []) (sym is))
    ∙ indices_more f (take i defs) x
    ∙ ap (λ n. indices_where f (take i defs) ++ cond (f x.what) (n ∷ []) []) (length-take-le i defs (omega (arith, lt)))

pub indices_same : (f : What → Bool) (defs : List Def) (list : List ℕ) (i : ℕ) (x : Def) → i < length defs
    → x ≡ get_or defs i x → f x.what ≡ false → list ≡ indices_where f (take i defs)
    → list ≡ indices_where f (take (i + 1) defs)
indices_same f defs list i x lt is test so_far =
    so_far ∙ sym (append-nil (indices_where f (take i defs)))
    ∙ sym (indices_next f defs i x lt is ∙ ap (λ b. indices_where f (take i defs) ++ cond b (i ∷ []) []) test)

pub indices_push : (f : What → Bool) (defs : List Def) (list : List ℕ) (i : ℕ) (x : Def) → i < length defs
    → x ≡ get_or defs i x → f x.what ≡ true → list ≡ indices_where f (take i defs)
    → list ++ i ∷ [] ≡ indices_where f (take (i + 1) defs)
indices_push f defs list i x lt is test so_far =
    ap (λ zs. zs ++ i ∷ []) so_far
    ∙ sym (indices_next f defs i x lt is ∙ ap (λ b. indices_where f (take i defs) ++ cond b (i ∷ []) []) test)
