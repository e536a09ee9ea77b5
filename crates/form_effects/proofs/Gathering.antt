-- What is gathered of a form, of a list of forms and of branches.
use Rattle.std.proofs.Common.{◌≡◌, ℕ, zero, suc, ◌+◌, ◌<◌, List, [], ◌∷◌, ◌++◌, Bool, true, false, cond, refl, sym, ◌∙◌}
use Rattle.std.proofs.Common.{ap, subst, length, drop, arith, get_or}
use Rattle.std.specs.Prelude.{◌==◌, Option, Some, None}
use Rattle.std.specs.List.{flat_map}
use Rattle.mp_base.specs.Merge.{join, merged}
use Rattle.mp_base.proofs.Values.{join_assoc}
use Rattle.mp_program.specs.declared.program.Branch.{Branch}
use Rattle.mp_program.specs.declared.program.Def.{Def}
use Rattle.mp_program.specs.declared.program.Program.{Program}
use Rattle.mp_program.specs.Sound.{AllBetween, BranchesFit}
use Rattle.mp_program.specs.Names.{index_of}
use Rattle.mp_program.specs.Effects.{Effect, Writes, Goes, Calls, Returns, effects_of}
use Rattle.form_effects.specs.Written.{written_at}

pub join_none : (a : Option ℕ) → join a None ≡ a
join_none None = refl
join_none (Some a) = refl

pub merged-append : (xs ys : List ℕ) → merged (xs ++ ys) ≡ join (merged xs) (merged ys)
merged-append [] ys = refl
merged-append (x ∷ xs) ys =
    ap (λ z. join (Some x) z) (merged-append xs ys) ∙ sym (join_assoc (Some x) (merged xs) (merged ys))

pub written_at-append : (defs : List Def) (d : ℕ) (es fs : List Effect)
    → written_at defs d (es ++ fs) ≡ written_at defs d es ++ written_at defs d fs
written_at-append defs d [] fs = refl
written_at-append defs d (Writes y v ∷ es) fs =
    first_write (index_of defs y == d) _ _ _ (written_at-append defs d es fs)
  where
    first_write : (b : Bool) (ps qs rs : List ℕ) → ps ≡ qs ++ rs → cond b (v ∷ ps) ps ≡ cond b (v ∷ qs) qs ++ rs
    first_write true ps qs rs h = ap (λ z. v ∷ z) h
    first_write false ps qs rs h = h
written_at-append defs d (Goes l ∷ es) fs = written_at-append defs d es fs
written_at-append defs d (Calls l ∷ es) fs = written_at-append defs d es fs
written_at-append defs d (Returns ∷ es) fs = written_at-append defs d es fs

-- of one form more
pub more : (p : Program) (env : List ℕ) (d : ℕ) (fs : List ℕ) (i : ℕ) (sum total : Option ℕ) → i < length fs
    → total ≡ join sum (merged (written_at p.defs d (flat_map (effects_of p env) (drop i fs))))
    → total ≡ join (join sum (merged (written_at p.defs d (effects_of p env (get_or fs i 0)))))
    (merged (written_at p.defs d (flat_map (effects_of p env) (drop (i + 1) fs))))
more p env d fs i sum total lt h =
    let e : suc i ≡ i + 1 = omega arith in
    h ∙ ap (λ z. join sum z) (first fs i lt) ∙ sym (join_assoc sum _ _)
    ∙ ap (λ k. join (join sum (merged (written_at p.defs d (effects_of p env (get_or fs i 0)))))
    (merged (written_at p.defs d (flat_map (effects_of p env) (drop k fs))))) e
  where
    first : (gs : List ℕ) (j : ℕ) → j < length gs
        → merged (written_at p.defs d (flat_map (effects_of p env) (drop j gs)))
        ≡ join (merged (written_at p.defs d (effects_of p env (get_or gs j 0))))
        (merged (written_at p.defs d (flat_map (effects_of p env) (drop (suc j) gs))))
    first [] j l = absurd (omega (arith, l))
    first (g ∷ gs) zero l =
        ap merged (written_at-append p.defs d (effects_of p env g) (flat_map (effects_of p env) gs))
        ∙ merged-append (written_at p.defs d (effects_of p env g))
        (written_at p.defs d (flat_map (effects_of p env) gs))
    first (g ∷ gs) (suc j) l = first gs j (omega (arith, l))

-- what branches say at a place
pub branch_at : (e i n : ℕ) (bs : List Branch) (k : ℕ) (b : Branch) → BranchesFit e i n bs → k < length bs
    → b ≡ get_or bs k b → (b.guard < e) × AllBetween i n b.body
branch_at e i n [] k b fit lt is = absurd (omega (arith, lt))
branch_at e i n (x ∷ xs) zero b fit lt is = subst (λ (z : Branch). (z.guard < e) × AllBetween i n z.body) (sym is) fit.0
branch_at e i n (x ∷ xs) (suc k) b fit lt is = branch_at e i n xs k b fit.1 (omega (arith, lt)) is

-- a `setq`, by whether it sets the definition
pub set_merged : (b c : Bool) (v : ℕ) → c ≡ b → cond b (Some v) None ≡ merged (cond c (v ∷ []) [])
set_merged true c v h = ap (λ z. merged (cond z (v ∷ []) [])) (sym h)
set_merged false c v h = ap (λ z. merged (cond z (v ∷ []) [])) (sym h)
