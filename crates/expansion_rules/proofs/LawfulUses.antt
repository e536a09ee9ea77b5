-- Where E21 and E37 aren't broken, all uses are lawful.
use Rattle.std.proofs.Common.{◌≡◌, ◌∙◌, inr, ℕ, zero, suc, ◌<◌, ◌≤◌, List, [], ◌∷◌, refl, sym, ap, subst, arith, length}
use Rattle.std.proofs.Common.{true, false, take}
use Rattle.std.specs.Prelude.{Contains, slice_get, Some, None, Option, ⊤, if◌then◌else◌, ◌==◌}
use Rattle.std.proofs.lemmas.Option.{none-some, same_Some, slice_get_within}
use Rattle.std.proofs.lemmas.Slice.Eq.{bytes_eq-Decides}
use Rattle.std.proofs.lemmas.Bool.{eqb-true, eq-eqb}
use Rattle.mp_base.specs.declared.refusal.Place.{Place}
use Rattle.mp_base.specs.Apply.{takes}
use Rattle.mp_base.specs.Entries.{IsAt}
use Rattle.mp_base.proofs.Entries.{some_entry}
use Rattle.mp_base.proofs.Induction.{downward, by_test}
use Rattle.mp_base.proofs.Contents.{holds_of_contained}
use Rattle.mp_program.specs.Names.{is_same}
use Rattle.mp_program.specs.Fits.{is_symbol}
use Rattle.mp_written.specs.declared.program.ExprKind.{ExprKind}
use Rattle.mp_written.specs.declared.program.ExprKind.TheVariants.{Number, Named, True, False, Apply, Use}
use Rattle.mp_written.specs.declared.program.Expr.{Expr}
use Rattle.mp_written.specs.declared.program.Program.{Program}
use Rattle.mp_written.specs.Functions.{Function, functions, function_index}
use Rattle.mp_written.specs.Tree.{operands}
use Rattle.mp_written.specs.Sound.{AreBehind, InBody, Under, itself}
use Rattle.expansion_laws.specs.Lawful.{IsLawfulKind, IsLawful, lawful, AreLawfulBodies}
use Rattle.expansion_laws.proofs.ClosedClaims.{under_more}
use Rattle.written_rules.specs.Naming.{MayUse}
use Rattle.written_rules.specs.Rules.{E21, E37}
use Rattle.mp_written.specs.Sound.{FitsAsWritten}
use Rattle.mp_written.specs.Expansion.{form_exprs}
use Rattle.mp_written.proofs.Soundness.{sound}
use Rattle.expansion_laws.specs.Lawful.{IsLawfulProgram}
use Rattle.expansion_laws.proofs.Types.{inside}
use Rattle.mp_written.proofs.Roots.{one_body, in_no_body, is_guard}

-- what a written program's type says of its kinds
abbrev pub FitsType : ExprKind → Type 0
FitsType (Named x) = is_symbol x ≡ true
FitsType (Apply op k os) = takes op (length os) ≡ true
FitsType k = ⊤

-- ---- the first function of a name

same_name : (x y : List ℕ) → is_same x y ≡ true → x ≡ y
same_name x y h = (bytes_eq-Decides x y).0 h

is_itself : (x : List ℕ) → is_same x x ≡ true
is_itself x = (bytes_eq-Decides x x).1 refl

index_here : (f : Function) (fs : List Function) (x : List ℕ) → is_same f.name x ≡ true → function_index (f ∷ fs) x ≡ 0
index_here f fs x h = ap (λ b. if b then 0 else suc (function_index fs x)) h

index_next : (f : Function) (fs : List Function) (x : List ℕ) → is_same f.name x ≡ false
    → function_index (f ∷ fs) x ≡ suc (function_index fs x)
index_next f fs x h = ap (λ b. if b then 0 else suc (function_index fs x)) h

-- what stands at the index has the name
named_at : (fs : List Function) (x : List ℕ) (g : Function) → slice_get fs (function_index fs x) ≡ Some g → g.name ≡ x
named_at [] x g is = absurd (none-some g is)
named_at (f ∷ fs) x g is = by_test (is_same f.name x)
    (λ yes. (let e = index_here f fs x yes in
    let first = same_Some f g (subst (λ k. slice_get (f ∷ fs) k ≡ Some g) e is) in
    ap (λ (h : Function). h.name) (sym first) ∙ same_name f.name x yes))
    (λ no. named_at fs x g (subst (λ k. slice_get (f ∷ fs) k ≡ Some g) (index_next f fs x no) is))

-- it is no further than any function of the name
index_least : (fs : List Function) (x : List ℕ) (j : ℕ) (g : Function) → IsAt fs j g → g.name ≡ x → function_index fs x ≤ j
index_least [] x j g at same = absurd (none-some g at)
index_least (f ∷ fs) x zero g at same =
    let first = same_Some f g at in
    let yes : is_same f.name x ≡ true =
    subst (λ n. is_same f.name n ≡ true) (ap (λ (h : Function). h.name) first ∙ same) (is_itself f.name) in
    let e = index_here f fs x yes in omega (arith, e)
index_least (f ∷ fs) x (suc k) g at same = by_test (is_same f.name x)
    (λ yes. (let e = index_here f fs x yes in omega (arith, e)))
    (λ no. (let e = index_next f fs x no in let le = index_least fs x k g at same in omega (arith, e, le)))

-- ---- the front of a list

pub get_take : {X : Type 0} (xs : List X) (k j : ℕ) (x : X) → slice_get (take k xs) j ≡ Some x
    → (j < k) × (slice_get xs j ≡ Some x)
get_take xs zero j x is = absurd (none-some x is)
get_take [] (suc k) j x is = absurd (none-some x is)
get_take (y ∷ ys) (suc k) zero x is = (omega arith, is)
get_take (y ∷ ys) (suc k) (suc j) x is = let (lt, there) = get_take ys k j x is in (omega (arith, lt), there)

pub take_get : {X : Type 0} (xs : List X) (k j : ℕ) (x : X) → j < k → slice_get xs j ≡ Some x → slice_get (take k xs) j ≡ Some x
take_get xs zero j x lt is = absurd (omega (arith, lt))
take_get [] (suc k) j x lt is = absurd (none-some x is)
take_get (y ∷ ys) (suc k) zero x lt is = is
take_get (y ∷ ys) (suc k) (suc j) x lt is = take_get ys k j x (omega (arith, lt)) is

by_option : {X A : Type 0} (o : Option X) → (o ≡ None → A) → ((z : X) → o ≡ Some z → A) → A
by_option None f g = f refl
by_option (Some z) f g = g z refl

-- a list that has the name at j has something at the index of the name
found : (fs : List Function) (x : List ℕ) (j : ℕ) (g : Function) → IsAt fs j g → g.name ≡ x
    → slice_get fs (function_index fs x) ≡ None → ⊥
found fs x j g at same none =
    let le = index_least fs x j g at same in
    let lt = slice_get_within fs j g at in
    let (h, is) = some_entry fs (function_index fs x) (omega (arith, le, lt)) in
    none-some h (sym none ∙ is)

-- ---- lawful expressions

-- by claims on uses alone
module _ (exprs : List Expr) (fs : List Function) (sound : AreBehind exprs) (R : ℕ → Type 0)
    (typed : (e : ℕ) (x : Expr) → IsAt exprs e x → FitsType x.kind)
    (next : (e a : ℕ) (x : Expr) → R e → IsAt exprs e x → Contains (operands x.kind) a → R a)
    (uses : (e : ℕ) (x : Expr) (at : Place) (name os : List ℕ) → R e → IsAt exprs e x → x.kind ≡ Use at name os
    → IsLawfulKind fs (Use at name os)) where
  lawful_kind : (e : ℕ) (x : Expr) → R e → IsAt exprs e x → (k : ExprKind) → x.kind ≡ k → FitsType k → IsLawfulKind fs k
  lawful_kind e x reached there (Number n) is fit = tt
  lawful_kind e x reached there (Named name) is fit = fit
  lawful_kind e x reached there True is fit = tt
  lawful_kind e x reached there False is fit = tt
  lawful_kind e x reached there (Apply op k os) is fit = fit
  lawful_kind e x reached there (Use at name os) is fit = uses e x at name os reached there is

  pub lawful_at : (e : ℕ) → e < length exprs → R e → IsLawful exprs fs e
  lawful_at = downward (λ e. R e → IsLawful exprs fs e) (length exprs) (λ e lt below reached.
      let (x, there) = some_entry exprs e lt in
      lawful e x there (lawful_kind e x reached there x.kind refl (typed e x there))
      (λ a c. (let (low, high) = holds_of_contained (λ k. (e < k) × (k < length exprs)) (operands x.kind) a (sound e x there) c in
      below a low high (next e a x reached there c))))

-- what a written program's type says of its places: an expression stands in one body at most
abbrev pub OneBody : Program → Type 0
OneBody w = (k l : ℕ) (f g : Function) (e : ℕ) → InBody w k f e → InBody w l g e → k ≡ l

module _ (w : Program) (one : OneBody w) (keeps21 : (at : Place) → ¬ E21 w at) (keeps37 : (at : Place) → ¬ E37 w at) where
  -- a use in the body of function k
  use_in_body : (k : ℕ) (f : Function) → IsAt (functions w) k f → (e : ℕ) (x : Expr) (at : Place) (name os : List ℕ)
      → Under w.exprs f.body e → IsAt w.exprs e x → x.kind ≡ Use at name os
      → IsLawfulKind (take k (functions w)) (Use at name os)
  use_in_body k f here e x at name os under there is =
      let fs = take k (functions w) in
      by_option (slice_get fs (function_index fs name))
      (λ none. absurd (keeps21 at (inr (inr (
        e,
        x,
        name,
        os,
        there,
        is,
        λ j g may.
            found fs name j g (take_get (functions w) k j g (may.2 k f (here, under)) may.0) may.1 none,
      )))))
      (λ g got. (let (below, real) = get_take (functions w) k (function_index fs name) g got in
      let may : MayUse w e name (function_index fs name) g = (
        real,
        named_at fs name g got,
        λ l h inside.
            subst (λ n. function_index fs name < n) (one k l f h e (here, under) inside) below,
      ) in
      (g, got, same_count e x at name os (function_index fs name) g there is may)))
    where
      same_count : (e2 : ℕ) (x2 : Expr) (at2 : Place) (name2 os2 : List ℕ) (j : ℕ) (g : Function) → IsAt w.exprs e2 x2
          → x2.kind ≡ Use at2 name2 os2 → MayUse w e2 name2 j g → length os2 ≡ length g.args
      same_count e2 x2 at2 name2 os2 j g there2 is2 may = by_test (length os2 == length g.args)
          (λ yes. eqb-true (length os2) (length g.args) yes)
          (λ no. absurd (keeps37 x2.place (
            e2,
            x2,
            at2,
            name2,
            os2,
            j,
            g,
            there2,
            is2,
            may,
            (λ same. let yes = eq-eqb (length os2) (length g.args) same in let bad : true ≡ false = sym yes ∙ no in cc),
            refl,
          )))

  pub bodies_lawful : AreBehind w.exprs → ((e : ℕ) (x : Expr) → IsAt w.exprs e x → FitsType x.kind)
      → ((k : ℕ) (f : Function) → IsAt (functions w) k f → f.body < length w.exprs)
      → AreLawfulBodies w.exprs (functions w)
  bodies_lawful sound typed have k f here =
      lawful_at w.exprs (take k (functions w)) sound (Under w.exprs f.body) typed
      (λ e a x. under_more w.exprs f.body e a x) (use_in_body k f here) f.body (have k f here) itself

-- outside of bodies
module _ (w : Program) (keeps21 : (at : Place) → ¬ E21 w at) (keeps37 : (at : Place) → ¬ E37 w at) (t : ℕ)
    (free : (k : ℕ) (f : Function) (e : ℕ) → Under w.exprs t e → ¬ InBody w k f e) where
  use_outside : (e : ℕ) (x : Expr) (at : Place) (name os : List ℕ) → Under w.exprs t e → IsAt w.exprs e x
      → x.kind ≡ Use at name os → IsLawfulKind (functions w) (Use at name os)
  use_outside e x at name os under there is =
      by_option (slice_get (functions w) (function_index (functions w) name))
      (λ none. absurd (keeps21 at (inr (inr (
        e,
        x,
        name,
        os,
        there,
        is,
        λ j g may.
            found (functions w) name j g may.0 may.1 none,
      )))))
      (λ g got. (let may : MayUse w e name (function_index (functions w) name) g =
      (got, named_at (functions w) name g got, λ l h inside. absurd (free l h e under inside)) in (
        g,
        got,
        by_test (length os == length g.args)
            (λ yes. eqb-true (length os) (length g.args) yes)
            (λ no. absurd (keeps37 x.place (
              e,
              x,
              at,
              name,
              os,
              function_index (functions w) name,
              g,
              there,
              is,
              may,
              (λ same. let yes = eq-eqb (length os) (length g.args) same in let bad : true ≡ false = sym yes ∙ no in cc),
              refl,
            ))),
      )))

  pub top_lawful : AreBehind w.exprs → ((e : ℕ) (x : Expr) → IsAt w.exprs e x → FitsType x.kind)
      → t < length w.exprs → IsLawful w.exprs (functions w) t
  top_lawful sound typed lt =
      lawful_at w.exprs (functions w) sound (Under w.exprs t) typed (λ e a x. under_more w.exprs t e a x) use_outside t lt
      itself

typed_kind : (k : ExprKind) → FitsAsWritten k → FitsType k
typed_kind (Number n) h = tt
typed_kind (Named x) h = h
typed_kind True h = tt
typed_kind False h = tt
typed_kind (Apply op k os) h = h
typed_kind (Use at x os) h = tt

pub uses_are_lawful : (w : Program) → ((at : Place) → ¬ E21 w at) → ((at : Place) → ¬ E37 w at) → IsLawfulProgram w
uses_are_lawful w keeps21 keeps37 =
    let typed : (e : ℕ) (x : Expr) → IsAt w.exprs e x → FitsType x.kind = λ e x at.
    typed_kind x.kind ((sound w).exprs e x at) in
    record {
      bodies = bodies_lawful w (one_body w) keeps21 keeps37 (sound w).behind typed
          (λ k f at. ((sound w).defs k f at).body);
      tops = λ t c. top_lawful w keeps21 keeps37 t (in_no_body w t (is_guard w t c)) (sound w).behind typed
          (holds_of_contained (λ u. u < length w.exprs) (form_exprs w.forms) t (inside w) (is_guard w t c));
    }
