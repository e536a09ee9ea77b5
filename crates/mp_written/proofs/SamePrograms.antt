-- Programs without functions are the same where their parts are.
use Rattle.std.proofs.Common.{◌≡◌, ◌∙◌, ℕ, Bool, true, List, ap, subst}
use Rattle.std.proofs.Math.Bool.{Bool-set}
use Rattle.mp_base.specs.declared.refusal.Place.{Place}
use Rattle.mp_program.specs.Fits as fits
use Rattle.mp_program.specs.Tree.{is_tree}
use Rattle.mp_program.specs.declared.program.Def.{Def}
use Rattle.mp_program.specs.declared.program.Expr.{Expr}
use Rattle.mp_program.specs.declared.program.Form.{Form}
use Rattle.mp_program.specs.declared.program.Process.{Process}
use Rattle.mp_program.specs.declared.program.Program.{Program}

-- a program, but for what its type says
abbrev pub Parts : Type 0
Parts = Place × List ℕ × ℕ × List Def × List Expr × List Form × List ℕ × List Process

-- what its type says
abbrev pub Fit : Parts → Type 0
Fit t = (fits.program_fits t.2 t.1 t.3 t.4 t.5 t.6 t.7 ≡ true) × (is_tree t.4 t.5 t.6 t.7 ≡ true)

abbrev made : (t : Parts) → Fit t → Program
made t h =
    record {
      place = t.0;
      name = t.1;
      width = t.2;
      defs = t.3;
      exprs = t.4;
      forms = t.5;
      always = t.6;
      processes = t.7;
      fits = h.0;
      tree = h.1;
    }

one_proof : (b : Bool) → IsProp (b ≡ true)
one_proof b = hlevel (Bool-set)

same_made : (s t : Parts) → s ≡ t → (h : Fit s) (g : Fit t) → made s h ≡ made t g
same_made s t e =
    let P : Parts → Type 0 = λ x. (h : Fit s) (g : Fit x) → made s h ≡ made x g in
    subst P e one_made
  where
    one_made : (h g : Fit s) → made s h ≡ made s g
    one_made h g =
        let first : Fit s → (fits.program_fits s.2 s.1 s.3 s.4 s.5 s.6 s.7 ≡ true) → Fit s = λ x y. (y, x.1) in
        let second : Fit s → (is_tree s.4 s.5 s.6 s.7 ≡ true) → Fit s = λ x y. (x.0, y) in
        ap (λ y. made s (first h y)) (one_proof (fits.program_fits s.2 s.1 s.3 s.4 s.5 s.6 s.7) h.0 g.0)
        ∙ ap (λ y. made s (second g y)) (one_proof (is_tree s.4 s.5 s.6 s.7) h.1 g.1)

pub same_parts : (s t : Parts) → s.0 ≡ t.0 → s.1 ≡ t.1 → s.2 ≡ t.2 → s.3 ≡ t.3 → s.4 ≡ t.4 → s.5 ≡ t.5 → s.6 ≡ t.6
    → s.7 ≡ t.7 → s ≡ t
same_parts s t e0 e1 e2 e3 e4 e5 e6 e7 =
    let f0 : Place → Parts = λ x. (x, s.1, s.2, s.3, s.4, s.5, s.6, s.7) in
    let f1 : List ℕ → Parts = λ x. (t.0, x, s.2, s.3, s.4, s.5, s.6, s.7) in
    let f2 : ℕ → Parts = λ x. (t.0, t.1, x, s.3, s.4, s.5, s.6, s.7) in
    let f3 : List Def → Parts = λ x. (t.0, t.1, t.2, x, s.4, s.5, s.6, s.7) in
    let f4 : List Expr → Parts = λ x. (t.0, t.1, t.2, t.3, x, s.5, s.6, s.7) in
    let f5 : List Form → Parts = λ x. (t.0, t.1, t.2, t.3, t.4, x, s.6, s.7) in
    let f6 : List ℕ → Parts = λ x. (t.0, t.1, t.2, t.3, t.4, t.5, x, s.7) in
    let f7 : List Process → Parts = λ x. (t.0, t.1, t.2, t.3, t.4, t.5, t.6, x) in
    ap f0 e0 ∙ ap f1 e1 ∙ ap f2 e2 ∙ ap f3 e3 ∙ ap f4 e4 ∙ ap f5 e5 ∙ ap f6 e6 ∙ ap f7 e7

abbrev pub parts : Program → Parts
parts p = (p.place, p.name, p.width, p.defs, p.exprs, p.forms, p.always, p.processes)

pub same_program : (p q : Program) → parts p ≡ parts q → p ≡ q
same_program p q e = same_made (parts p) (parts q) e (p.fits, p.tree) (q.fits, q.tree)
