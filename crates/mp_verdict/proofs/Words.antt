-- Names, kinds and sorts: what stands where, decided.
use Rattle.std.proofs.Common.{◌≡◌, ◌≢◌, ◌⊎◌, inl, inr, ℕ, List, true, Option, Some, None, map, refl, sym, ◌∙◌, ap}
use Rattle.std.proofs.Common.{subst, arith}
use Rattle.std.specs.Prelude.{Contains}
use Rattle.mp_base.specs.declared.refusal.Place.{Place}
use Rattle.mp_base.specs.declared.op.Op.{Op}
use Rattle.mp_base.specs.declared.op.Op.TheVariants.{Bit}
use Rattle.mp_base.proofs.Decisions.{Decided, same_claim, both_of, one_of, not_so, is_number, is_name}
use Rattle.mp_program.specs.declared.program.ExprKind.{ExprKind}
use Rattle.mp_program.specs.declared.program.ExprKind.TheVariants.{Number, Named, True, False, Apply}
use Rattle.mp_program.specs.declared.program.FormKind.{FormKind}
use Rattle.mp_program.specs.declared.program.FormKind.TheVariants.{Set, Cond, Par, Go, Call, Return}
use Rattle.mp_program.specs.declared.program.What.{What}
use Rattle.mp_program.specs.declared.program.What.TheVariants.{Power, Ground, Phia, Phib, Phic, Constant, Register}
use Rattle.mp_program.specs.declared.program.What.TheVariants.{Flag, Port, Signal}
use Rattle.mp_program.specs.declared.program.Way.TheVariants.{Input, Output}
use Rattle.mp_program.specs.declared.program.Branch.{Branch}
use Rattle.mp_program.specs.declared.program.Def.{Def}
use Rattle.mp_program.specs.declared.program.Expr.{Expr}
use Rattle.mp_program.specs.declared.program.Program.{Program}
use Rattle.mp_program.specs.Names.{is_supply}
use Rattle.mp_base.specs.Entries.{IsAt}
use Rattle.mp_rules.specs.Naming.{Naming, namings, Uses}
use Rattle.mp_rules.specs.Sorts.{Sort, IsWord, IsBit, operand_sort, name_sort, expr_sort, IsWanted}
use Rattle.mp_verdict.proofs.Deciding.{some_at, is_in, First, nowhere, earliest, same_places, either_place, this_place}
use Rattle.mp_verdict.proofs.Deciding.{first_of_all}

-- ---- kinds

pub named_in : (kind : ExprKind) (x : List ℕ) → Decided (kind ≡ Named x)
named_in (Named y) x = same_claim (is_name y x) (λ e. ap Named e) (λ e. let same : y ≡ x = cc in same)
named_in (Number n) x = inr (λ e. absurd (cc))
named_in True x = inr (λ e. absurd (cc))
named_in False x = inr (λ e. absurd (cc))
named_in (Apply op k args) x = inr (λ e. absurd (cc))

-- where a form of this kind sets a name
pub set_in : (kind : FormKind) (x : List ℕ) → First (λ at. (v : ℕ) × (kind ≡ Set x at v))
set_in (Set y place v) x = by (is_name y x)
  where
    by : Decided (y ≡ x) → First (λ at. (w : ℕ) × (Set y place v ≡ Set x at w))
    by (inl same) = earliest place (v, ap (λ n. Set n place v) same)
        (λ there (w, e). let same_place : place ≡ there = cc in let o = ap Place.offset same_place in omega (arith, o))
    by (inr other) = nowhere (λ at (w, e). other (let same : y ≡ x = cc in same))
set_in (Cond bs) x = nowhere (λ at (w, e). absurd (cc))
set_in (Par fs) x = nowhere (λ at (w, e). absurd (cc))
set_in (Go l) x = nowhere (λ at (w, e). absurd (cc))
set_in (Call l) x = nowhere (λ at (w, e). absurd (cc))
set_in Return x = nowhere (λ at (w, e). absurd (cc))

pub is_bit_op : (op : Op) → Decided (op ≡ Bit)
is_bit_op Bit = inl refl
is_bit_op op = inr (λ e. absurd (cc))

-- w is power, ground or a phase, and v is the same
pub same_supply : (w v : What) → Decided ((is_supply w ≡ true) × (w ≡ v))
same_supply Power Power = inl (refl, refl)
same_supply Ground Ground = inl (refl, refl)
same_supply Phia Phia = inl (refl, refl)
same_supply Phib Phib = inl (refl, refl)
same_supply Phic Phic = inl (refl, refl)
same_supply Power v = inr (λ (h, e). absurd (cc))
same_supply Ground v = inr (λ (h, e). absurd (cc))
same_supply Phia v = inr (λ (h, e). absurd (cc))
same_supply Phib v = inr (λ (h, e). absurd (cc))
same_supply Phic v = inr (λ (h, e). absurd (cc))
same_supply (Constant c) v = inr (λ (h, e). absurd (cc))
same_supply Register v = inr (λ (h, e). absurd (cc))
same_supply Flag v = inr (λ (h, e). absurd (cc))
same_supply (Port way) v = inr (λ (h, e). absurd (cc))
same_supply (Signal way) v = inr (λ (h, e). absurd (cc))

pub is_pad_port : (w : What) → Decided ((w ≡ Port Input) ⊎ (w ≡ Port Output))
is_pad_port (Port Input) = inl (inl refl)
is_pad_port (Port Output) = inl (inr refl)
is_pad_port w = inr (λ h. elim h [ inl e ↦ absurd (cc) | inr e ↦ absurd (cc) ])

-- ---- names

pub is_unnamed : (p : Program) (x : List ℕ) → Decided ((k : ℕ) (n : Naming) → IsAt (namings p) k n → n.name ≢ x)
is_unnamed p x = same_claim (not_so (some_at (namings p) (λ k n. n.name ≡ x) (λ k n at. is_name n.name x)))
    (λ none k n at e. none (k, n, at, e)) (λ none (k, n, at, e). none k n at e)

pub first_use : (p : Program) (x : List ℕ) → First (Uses p x)
first_use p x = either_place
    (same_places (first_of_all p.exprs (λ e y at. (y.kind ≡ Named x) × (at ≡ y.place))
    (λ e y is. this_place (y.kind ≡ Named x) y.place (named_in y.kind x)))
    (λ at (e, y, is, (kind, same)). (e, y, is, kind, same)) (λ at (e, y, is, kind, same). (e, y, is, (kind, same))))
    (same_places (first_of_all p.forms (λ f y at. (v : ℕ) × (y.kind ≡ Set x at v)) (λ f y is. set_in y.kind x))
    (λ at (f, y, is, (v, kind)). (f, y, v, is, kind)) (λ at (f, y, v, is, kind). (f, y, is, (v, kind))))

-- ---- sorts

pub is_sort : (s t : Option Sort) → Decided (s ≡ t)
is_sort None None = inl refl
is_sort (Some IsWord) (Some IsWord) = inl refl
is_sort (Some IsBit) (Some IsBit) = inl refl
is_sort None (Some t) = inr (λ e. absurd (cc))
is_sort (Some s) None = inr (λ e. absurd (cc))
is_sort (Some IsWord) (Some IsBit) = inr (λ e. absurd (cc))
is_sort (Some IsBit) (Some IsWord) = inr (λ e. absurd (cc))

wanted_by_expr : (kind : ExprKind) (e : ℕ) (s : Option Sort)
    → Decided ((op : Op) × (k : ℕ) × (args : List ℕ) × (kind ≡ Apply op k args) × Contains args e
    × (s ≡ Some (operand_sort op)))
wanted_by_expr (Apply op k args) e s = same_claim (both_of (is_in args e (λ y. is_number y e))
    (is_sort s (Some (operand_sort op)))) (λ (c, h). (op, k, args, refl, c, h)) back
  where
    back : (o : Op) × (j : ℕ) × (others : List ℕ) × (Apply op k args ≡ Apply o j others) × Contains others e
        × (s ≡ Some (operand_sort o)) → Contains args e × (s ≡ Some (operand_sort op))
    back (o, j, others, is, c, h) =
        let same : op ≡ o = cc in
        let list : args ≡ others = cc in
        (subst (λ xs. Contains xs e) (sym list) c, h ∙ ap (λ x. Some (operand_sort x)) (sym same))
wanted_by_expr (Named y) e s = inr (λ (o, j, others, is, c, h). absurd (cc))
wanted_by_expr (Number n) e s = inr (λ (o, j, others, is, c, h). absurd (cc))
wanted_by_expr True e s = inr (λ (o, j, others, is, c, h). absurd (cc))
wanted_by_expr False e s = inr (λ (o, j, others, is, c, h). absurd (cc))

wanted_by_cond : (kind : FormKind) (e : ℕ) (s : Option Sort)
    → Decided ((bs : List Branch) × (kind ≡ Cond bs) × Contains (map (λ (b : Branch). b.guard) bs) e × (s ≡ Some IsBit))
wanted_by_cond (Cond bs) e s = same_claim (both_of (is_in (map (λ (b : Branch). b.guard) bs) e (λ y. is_number y e))
    (is_sort s (Some IsBit))) (λ (c, h). (bs, refl, c, h)) back
  where
    back : (cs : List Branch) × (Cond bs ≡ Cond cs) × Contains (map (λ (b : Branch). b.guard) cs) e × (s ≡ Some IsBit)
        → Contains (map (λ (b : Branch). b.guard) bs) e × (s ≡ Some IsBit)
    back (cs, is, c, h) = let same : bs ≡ cs = cc in (
      subst (λ xs. Contains (map (λ (b : Branch). b.guard) xs) e)
          (sym same) c,
      h,
    )
wanted_by_cond (Set x at v) e s = inr (λ (cs, is, c, h). absurd (cc))
wanted_by_cond (Par fs) e s = inr (λ (cs, is, c, h). absurd (cc))
wanted_by_cond (Go l) e s = inr (λ (cs, is, c, h). absurd (cc))
wanted_by_cond (Call l) e s = inr (λ (cs, is, c, h). absurd (cc))
wanted_by_cond Return e s = inr (λ (cs, is, c, h). absurd (cc))

wanted_by_set : (defs : List Def) (kind : FormKind) (e : ℕ) (s : Option Sort)
    → Decided ((x : List ℕ) × (at : Place) × (kind ≡ Set x at e) × (s ≡ name_sort defs x))
wanted_by_set defs (Set x at v) e s = same_claim (both_of (is_number v e) (is_sort s (name_sort defs x)))
    (λ (same, h). (x, at, ap (λ w. Set x at w) same, h)) back
  where
    back : (y : List ℕ) × (there : Place) × (Set x at v ≡ Set y there e) × (s ≡ name_sort defs y) → (v ≡ e)
        × (s ≡ name_sort defs x)
    back (y, there, is, h) = let same : x ≡ y = cc in let value : v ≡ e = cc in
        (value, h ∙ ap (name_sort defs) (sym same))
wanted_by_set defs (Cond bs) e s = inr (λ (y, there, is, h). absurd (cc))
wanted_by_set defs (Par fs) e s = inr (λ (y, there, is, h). absurd (cc))
wanted_by_set defs (Go l) e s = inr (λ (y, there, is, h). absurd (cc))
wanted_by_set defs (Call l) e s = inr (λ (y, there, is, h). absurd (cc))
wanted_by_set defs Return e s = inr (λ (y, there, is, h). absurd (cc))

pub is_wanted : (p : Program) (e : ℕ) (s : Option Sort) → Decided (IsWanted p e s)
is_wanted p e s = one_of
    (same_claim (some_at p.exprs (λ i x. (op : Op) × (k : ℕ) × (args : List ℕ) × (x.kind ≡ Apply op k args)
    × Contains args e × (s ≡ Some (operand_sort op))) (λ i x at. wanted_by_expr x.kind e s))
    (λ (i, x, at, (op, k, args, kind, c, h)). (i, x, op, k, args, at, kind, c, h))
    (λ (i, x, op, k, args, at, kind, c, h). (i, x, at, (op, k, args, kind, c, h))))
    (one_of
    (same_claim (some_at p.forms (λ f y. (bs : List Branch) × (y.kind ≡ Cond bs)
    × Contains (map (λ (b : Branch). b.guard) bs) e × (s ≡ Some IsBit)) (λ f y at. wanted_by_cond y.kind e s))
    (λ (f, y, at, (bs, kind, c, h)). (f, y, bs, at, kind, c, h))
    (λ (f, y, bs, at, kind, c, h). (f, y, at, (bs, kind, c, h))))
    (same_claim (some_at p.forms (λ f y. (x : List ℕ) × (there : Place) × (y.kind ≡ Set x there e)
    × (s ≡ name_sort p.defs x)) (λ f y at. wanted_by_set p.defs y.kind e s))
    (λ (f, y, at, (x, there, kind, h)). (f, y, x, there, at, kind, h))
    (λ (f, y, x, there, at, kind, h). (f, y, at, (x, there, kind, h)))))

-- an expression of another sort than the one that is wanted
pub is_amiss : (p : Program) (e : ℕ) (x : Expr) → Decided
    ((s t : Sort) × IsWanted p e (Some s) × (expr_sort p.defs x.kind ≡ Some t) × (s ≢ t))
is_amiss p e x = by (expr_sort p.defs x.kind)
  where
    by : (o : Option Sort) → Decided ((s t : Sort) × IsWanted p e (Some s) × (o ≡ Some t) × (s ≢ t))
    by None = inr (λ (s, t, w, h, other). absurd (cc))
    by (Some IsWord) = same_claim (is_wanted p e (Some IsBit)) (λ w. (IsBit, IsWord, w, refl, (λ e. absurd (cc)))) back
      where
        back : (s t : Sort) × IsWanted p e (Some s) × (Some IsWord ≡ Some t) × (s ≢ t) → IsWanted p e (Some IsBit)
        back (IsBit, t, w, h, other) = w
        back (IsWord, t, w, h, other) = absurd (other (let same : IsWord ≡ t = cc in same))
    by (Some IsBit) = same_claim (is_wanted p e (Some IsWord)) (λ w. (IsWord, IsBit, w, refl, (λ e. absurd (cc)))) back
      where
        back : (s t : Sort) × IsWanted p e (Some s) × (Some IsBit ≡ Some t) × (s ≢ t) → IsWanted p e (Some IsWord)
        back (IsWord, t, w, h, other) = w
        back (IsBit, t, w, h, other) = absurd (other (let same : IsBit ≡ t = cc in same))
