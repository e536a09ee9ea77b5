-- Sorts that are wanted, and sorts that expressions have: decided.
use Rattle.std.proofs.Common.{◌≡◌, ◌≢◌, ◌⊎◌, inl, inr, ℕ, List, [], Option, Some, map, refl, sym, ◌∙◌, ap, subst, length, take}
use Rattle.std.specs.Prelude.{Contains}
use Rattle.mp_base.specs.declared.refusal.Place.{Place}
use Rattle.mp_base.specs.declared.op.Op.{Op}
use Rattle.mp_base.proofs.Decisions.{Decided, same_claim, both_of, one_of, is_number}
use Rattle.mp_program.specs.declared.program.FormKind.{FormKind}
use Rattle.mp_program.specs.declared.program.FormKind.TheVariants.{Set, Cond, Par, Go, Call, Return}
use Rattle.mp_program.specs.declared.program.Branch.{Branch}
use Rattle.mp_rules.specs.Sorts.{Sort, IsWord, IsBit, operand_sort}
use Rattle.mp_verdict.proofs.Deciding.{some_at, is_in}
use Rattle.mp_verdict.proofs.Words.{is_sort}
use Rattle.mp_written.specs.declared.program.ExprKind.{ExprKind}
use Rattle.mp_written.specs.declared.program.ExprKind.TheVariants.{Number, Named, True, False, Apply, Use}
use Rattle.mp_written.specs.declared.program.Def.{Def}
use Rattle.mp_written.specs.declared.program.Expr.{Expr}
use Rattle.mp_written.specs.declared.program.Program.{Program}
use Rattle.mp_written.specs.Functions.{functions}
use Rattle.written_rules.specs.Sorts.{name_sort, expr_sort, function_sorts, IsWanted, HasSort}
use Rattle.written_verdict.proofs.Bodies.{around, is_outside}

by_operator : (kind : ExprKind) (e : ℕ) (s : Option Sort)
    → Decided ((op : Op) × (k : ℕ) × (os : List ℕ) × (kind ≡ Apply op k os) × Contains os e
    × (s ≡ Some (operand_sort op)))
by_operator (Apply op k os) e s = same_claim (both_of (is_in os e (λ y. is_number y e))
    (is_sort s (Some (operand_sort op)))) (λ (c, h). (op, k, os, refl, c, h)) back
  where
    back : (o : Op) × (j : ℕ) × (others : List ℕ) × (Apply op k os ≡ Apply o j others) × Contains others e
        × (s ≡ Some (operand_sort o)) → Contains os e × (s ≡ Some (operand_sort op))
    back (o, j, others, is, c, h) =
        let same : op ≡ o = cc in
        let list : os ≡ others = cc in
        (subst (λ xs. Contains xs e) (sym list) c, h ∙ ap (λ x. Some (operand_sort x)) (sym same))
by_operator (Named y) e s = inr (λ (o, j, others, is, c, h). absurd (cc))
by_operator (Number n) e s = inr (λ (o, j, others, is, c, h). absurd (cc))
by_operator True e s = inr (λ (o, j, others, is, c, h). absurd (cc))
by_operator False e s = inr (λ (o, j, others, is, c, h). absurd (cc))
by_operator (Use head y ps) e s = inr (λ (o, j, others, is, c, h). absurd (cc))

by_use : (kind : ExprKind) (e : ℕ) (s : Option Sort)
    → Decided ((at : Place) × (name os : List ℕ) × (kind ≡ Use at name os) × Contains os e × (s ≡ Some IsWord))
by_use (Use head y ps) e s = same_claim (both_of (is_in ps e (λ v. is_number v e)) (is_sort s (Some IsWord)))
    (λ (c, h). (head, y, ps, refl, c, h)) back
  where
    back : (at : Place) × (name os : List ℕ) × (Use head y ps ≡ Use at name os) × Contains os e × (s ≡ Some IsWord)
        → Contains ps e × (s ≡ Some IsWord)
    back (at, name, os, is, c, h) = let list : ps ≡ os = cc in (subst (λ xs. Contains xs e) (sym list) c, h)
by_use (Named y) e s = inr (λ (at, name, os, is, c, h). absurd (cc))
by_use (Number n) e s = inr (λ (at, name, os, is, c, h). absurd (cc))
by_use True e s = inr (λ (at, name, os, is, c, h). absurd (cc))
by_use False e s = inr (λ (at, name, os, is, c, h). absurd (cc))
by_use (Apply op k ps) e s = inr (λ (at, name, os, is, c, h). absurd (cc))

by_cond : (kind : FormKind) (e : ℕ) (s : Option Sort)
    → Decided ((bs : List Branch) × (kind ≡ Cond bs) × Contains (map (λ (b : Branch). b.guard) bs) e × (s ≡ Some IsBit))
by_cond (Cond bs) e s = same_claim (both_of (is_in (map (λ (b : Branch). b.guard) bs) e (λ y. is_number y e))
    (is_sort s (Some IsBit))) (λ (c, h). (bs, refl, c, h)) back
  where
    back : (cs : List Branch) × (Cond bs ≡ Cond cs) × Contains (map (λ (b : Branch). b.guard) cs) e × (s ≡ Some IsBit)
        → Contains (map (λ (b : Branch). b.guard) bs) e × (s ≡ Some IsBit)
    back (cs, is, c, h) = let same : bs ≡ cs = cc in
        (subst (λ xs. Contains (map (λ (b : Branch). b.guard) xs) e) (sym same) c, h)
by_cond (Set x at v) e s = inr (λ (cs, is, c, h). absurd (cc))
by_cond (Par fs) e s = inr (λ (cs, is, c, h). absurd (cc))
by_cond (Go l) e s = inr (λ (cs, is, c, h). absurd (cc))
by_cond (Call l) e s = inr (λ (cs, is, c, h). absurd (cc))
by_cond Return e s = inr (λ (cs, is, c, h). absurd (cc))

by_set : (defs : List Def) (kind : FormKind) (e : ℕ) (s : Option Sort)
    → Decided ((x : List ℕ) × (at : Place) × (kind ≡ Set x at e) × (s ≡ name_sort defs x))
by_set defs (Set x at v) e s = same_claim (both_of (is_number v e) (is_sort s (name_sort defs x)))
    (λ (same, h). (x, at, ap (λ w. Set x at w) same, h)) back
  where
    back : (y : List ℕ) × (there : Place) × (Set x at v ≡ Set y there e) × (s ≡ name_sort defs y) → (v ≡ e)
        × (s ≡ name_sort defs x)
    back (y, there, is, h) = let same : x ≡ y = cc in let value : v ≡ e = cc in
        (value, h ∙ ap (name_sort defs) (sym same))
by_set defs (Cond bs) e s = inr (λ (y, there, is, h). absurd (cc))
by_set defs (Par fs) e s = inr (λ (y, there, is, h). absurd (cc))
by_set defs (Go l) e s = inr (λ (y, there, is, h). absurd (cc))
by_set defs (Call l) e s = inr (λ (y, there, is, h). absurd (cc))
by_set defs Return e s = inr (λ (y, there, is, h). absurd (cc))

pub is_wanted : (w : Program) (e : ℕ) (s : Option Sort) → Decided (IsWanted w e s)
is_wanted w e s = one_of
    (same_claim (some_at w.exprs (λ i x. (op : Op) × (k : ℕ) × (os : List ℕ) × (x.kind ≡ Apply op k os)
    × Contains os e × (s ≡ Some (operand_sort op))) (λ i x at. by_operator x.kind e s))
    (λ (i, x, at, (op, k, os, kind, c, h)). (i, x, op, k, os, at, kind, c, h))
    (λ (i, x, op, k, os, at, kind, c, h). (i, x, at, (op, k, os, kind, c, h))))
    (one_of
    (same_claim (some_at w.exprs (λ i x. (there : Place) × (name os : List ℕ) × (x.kind ≡ Use there name os)
    × Contains os e × (s ≡ Some IsWord)) (λ i x at. by_use x.kind e s))
    (λ (i, x, at, (there, name, os, kind, c, h)). (i, x, there, name, os, at, kind, c, h))
    (λ (i, x, there, name, os, at, kind, c, h). (i, x, at, (there, name, os, kind, c, h))))
    (one_of
    (same_claim (some_at w.forms (λ f y. (bs : List Branch) × (y.kind ≡ Cond bs)
    × Contains (map (λ (b : Branch). b.guard) bs) e × (s ≡ Some IsBit)) (λ f y at. by_cond y.kind e s))
    (λ (f, y, at, (bs, kind, c, h)). (f, y, bs, at, kind, c, h))
    (λ (f, y, bs, at, kind, c, h). (f, y, at, (bs, kind, c, h))))
    (same_claim (some_at w.forms (λ f y. (x : List ℕ) × (there : Place) × (y.kind ≡ Set x there e)
    × (s ≡ name_sort w.defs x)) (λ f y at. by_set w.defs y.kind e s))
    (λ (f, y, at, (x, there, kind, h)). (f, y, x, there, at, kind, h))
    (λ (f, y, x, there, at, kind, h). (f, y, at, (x, there, kind, h))))))

pub has_sort : (w : Program) (e : ℕ) (x : Expr) (s : Sort) → Decided (HasSort w e x s)
has_sort w e x s = one_of
    (around w e (λ k f. expr_sort w.defs (take k (functions w)) (function_sorts w k) f.args x.kind ≡ Some s)
    (λ k f. is_sort (expr_sort w.defs (take k (functions w)) (function_sorts w k) f.args x.kind) (Some s)))
    (both_of (is_outside w e)
    (is_sort (expr_sort w.defs (functions w) (function_sorts w (length (functions w))) [] x.kind) (Some s)))

-- an expression of another sort than the one that is wanted
pub is_amiss : (w : Program) (e : ℕ) (x : Expr)
    → Decided ((s t : Sort) × IsWanted w e (Some s) × HasSort w e x t × (s ≢ t))
is_amiss w e x = same_claim
    (one_of (both_of (is_wanted w e (Some IsBit)) (has_sort w e x IsWord))
    (both_of (is_wanted w e (Some IsWord)) (has_sort w e x IsBit)))
    (λ h. elim h [
      | inl (wanted, has) ↦ (IsBit, IsWord, wanted, has, (λ e. absurd (cc)))
      | inr (wanted, has) ↦ (IsWord, IsBit, wanted, has, (λ e. absurd (cc)))
    ])
    back
  where
    back : (s t : Sort) × IsWanted w e (Some s) × HasSort w e x t × (s ≢ t)
        → (IsWanted w e (Some IsBit) × HasSort w e x IsWord) ⊎ (IsWanted w e (Some IsWord) × HasSort w e x IsBit)
    back (IsBit, IsWord, wanted, has, other) = inl (wanted, has)
    back (IsWord, IsBit, wanted, has, other) = inr (wanted, has)
    back (IsBit, IsBit, wanted, has, other) = absurd (other refl)
    back (IsWord, IsWord, wanted, has, other) = absurd (other refl)
