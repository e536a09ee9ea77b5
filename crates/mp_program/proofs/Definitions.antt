-- Lemmas of names, definitions and their values, for crates above too.
use Rattle.std.proofs.Common.{◌≡◌, ℕ, zero, suc, ◌<◌, List, [], ◌∷◌, Bool, true, false, cond, refl, sym, ◌∙◌, ap, subst}
use Rattle.std.proofs.Common.{length, arith, get_or}
use Rattle.std.proofs.lemmas.Slice.Eq.{bytes_eq-Decides}
use Rattle.mp_base.proofs.Induction.{by_test}
use Rattle.mp_program.specs.declared.program.Def.{Def}
use Rattle.mp_program.specs.declared.program.Way.TheVariants.{Input, Output, Internal}
use Rattle.mp_program.specs.declared.program.What.{What}
use Rattle.mp_program.specs.declared.program.What.TheVariants.{Power, Ground, Phia, Phib, Phic, Constant, Register}
use Rattle.mp_program.specs.declared.program.What.TheVariants.{Flag, Port, Signal}
use Rattle.mp_program.specs.Environment.{what_value}
use Rattle.mp_program.specs.Names.{index_of, is_driven, is_same}

pub same_is : (x y : List ℕ) → is_same x y ≡ true → x ≡ y
same_is x y h = (bytes_eq-Decides x y).0 h

pub is_same_of : (x y : List ℕ) → x ≡ y → is_same x y ≡ true
is_same_of x y e = (bytes_eq-Decides x y).1 e

-- the definition that a name has
pub named : (ds : List Def) (n : List ℕ) (d : Def) → index_of ds n < length ds → d ≡ get_or ds (index_of ds n) d
    → d.name ≡ n
named [] n d lt is = absurd (omega (arith, lt))
named (x ∷ xs) n d lt is =
    by_test (is_same x.name n)
    (λ h. ap (λ (z : Def). z.name) (is ∙ ap (λ k. get_or (x ∷ xs) k d) (ap (λ b. cond b 0 (suc (index_of xs n))) h)) ∙
    (bytes_eq-Decides x.name n).0 h)
    (λ h.
    let at : index_of (x ∷ xs) n ≡ suc (index_of xs n) = ap (λ b. cond b 0 (suc (index_of xs n))) h in
    let there : suc (index_of xs n) < suc (length xs) = subst (λ k. k < suc (length xs)) at lt in
    named xs n d (omega (arith, there)) (is ∙ ap (λ k. get_or (x ∷ xs) k d) at))

-- a definition's name has a first definition
pub first_inside : (ds : List Def) (d : ℕ) (x : Def) → d < length ds → x ≡ get_or ds d x
    → index_of ds x.name < length ds
first_inside [] d x lt is = absurd (omega (arith, lt))
first_inside (y ∷ ys) zero x lt is =
    let same : is_same y.name x.name ≡ true = (bytes_eq-Decides y.name x.name).1 (ap (λ (z : Def). z.name) (sym is)) in
    subst (λ b. cond b 0 (suc (index_of ys x.name)) < suc (length ys)) (sym same) (omega arith)
first_inside (y ∷ ys) (suc d) x lt is = either (is_same y.name x.name) (first_inside ys d x (omega (arith, lt)) is)
  where
    either : (b : Bool) → index_of ys x.name < length ys → cond b 0 (suc (index_of ys x.name)) < suc (length ys)
    either true h = omega arith
    either false h = omega (arith, h)

-- a definition that isn't driven has a value that no write changes
pub what_value-given : (w : What) (a b c c' : ℕ) → is_driven w ≡ false → what_value w a b c ≡ what_value w a b c'
what_value-given Power a b c c' h = refl
what_value-given Ground a b c c' h = refl
what_value-given Phia a b c c' h = refl
what_value-given Phib a b c c' h = refl
what_value-given Phic a b c c' h = refl
what_value-given (Constant n) a b c c' h = refl
what_value-given Register a b c c' h = refl
what_value-given Flag a b c c' h = refl
what_value-given (Port Input) a b c c' h = refl
what_value-given (Port Output) a b c c' h = absurd (cc)
what_value-given (Port Internal) a b c c' h = absurd (cc)
what_value-given (Signal Input) a b c c' h = refl
what_value-given (Signal Output) a b c c' h = absurd (cc)
what_value-given (Signal Internal) a b c c' h = absurd (cc)

-- a driven definition has what is driven to it
pub what_value-driven : (w : What) (a b c : ℕ) → is_driven w ≡ true → what_value w a b c ≡ c
what_value-driven Power a b c h = absurd (cc)
what_value-driven Ground a b c h = absurd (cc)
what_value-driven Phia a b c h = absurd (cc)
what_value-driven Phib a b c h = absurd (cc)
what_value-driven Phic a b c h = absurd (cc)
what_value-driven (Constant n) a b c h = absurd (cc)
what_value-driven Register a b c h = absurd (cc)
what_value-driven Flag a b c h = absurd (cc)
what_value-driven (Port Input) a b c h = absurd (cc)
what_value-driven (Port Output) a b c h = refl
what_value-driven (Port Internal) a b c h = refl
what_value-driven (Signal Input) a b c h = absurd (cc)
what_value-driven (Signal Output) a b c h = refl
what_value-driven (Signal Internal) a b c h = refl
