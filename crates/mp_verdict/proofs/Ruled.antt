-- The earliest place where a rule is broken, for each rule.
use Rattle.std.proofs.Common.{◌≡◌, ◌≢◌, ◌⊎◌, inl, inr, ℕ, zero, suc, ◌<◌, ◌≤◌, ◌^◌, List, [], ◌∷◌, true, false}
use Rattle.std.proofs.Common.{Some, length, refl, sym, ap, subst}
use Rattle.std.specs.Prelude.{All, Contains}
use Rattle.std.proofs.lemmas.Option.{none-some, same_Some}
use Rattle.mp_base.specs.declared.refusal.Place.{Place}
use Rattle.mp_base.specs.declared.op.Op.TheVariants.{Bit}
use Rattle.mp_base.proofs.Decisions.{Decided, same_claim, both_of, one_of, not_so, is_false, is_true, is_number}
use Rattle.mp_base.proofs.Decisions.{decided_below, is_within, is_name, holds_of_all}
use Rattle.mp_program.specs.declared.program.ExprKind.{ExprKind}
use Rattle.mp_program.specs.declared.program.ExprKind.TheVariants.{Number, Named, True, False, Apply}
use Rattle.mp_program.specs.declared.program.FormKind.{FormKind}
use Rattle.mp_program.specs.declared.program.FormKind.TheVariants.{Set, Cond, Par, Go, Call, Return}
use Rattle.mp_program.specs.declared.program.What.{What}
use Rattle.mp_program.specs.declared.program.What.TheVariants.{Constant, Port}
use Rattle.mp_program.specs.declared.program.Way.TheVariants.{Input, Output}
use Rattle.mp_program.specs.declared.program.Pin.{Pin}
use Rattle.mp_program.specs.declared.program.Def.{Def}
use Rattle.mp_program.specs.declared.program.Expr.{Expr}
use Rattle.mp_program.specs.declared.program.Form.{Form}
use Rattle.mp_program.specs.declared.program.Label.{Label}
use Rattle.mp_program.specs.declared.program.Process.{Process}
use Rattle.mp_program.specs.declared.program.Program.{Program}
use Rattle.mp_program.specs.Names.{is_stored, is_supply, is_reset}
use Rattle.mp_program.specs.Reads.{Chain}
use Rattle.mp_program.specs.Sound.{IsSound}
use Rattle.mp_program.specs.Weight.{weight}
use Rattle.mp_base.specs.Entries.{IsAt}
use Rattle.mp_base.specs.declared.limits.TheConstants.{WEIGHT_LIMIT}
use Rattle.mp_base.proofs.Entries.{get_from_contains}
use Rattle.mp_rules.specs.Naming.{Naming, namings, is_reserved, supplies, Uses}
use Rattle.mp_rules.specs.Rules.{E20, E21, E22, E23, E24, E25, E26, E27, E28, E29, E30, E31, E32, E33, E34, E35, E36}
use Rattle.mp_rules.specs.Rules.{E40, E41, E42, E43, E44, E45, pins, is_unset, namings_up_to}
use Rattle.mp_rules.specs.declared.limits.TheConstants.{NAMING_LIMIT, PROCESS_LIMIT, FORM_LIMIT}
use Rattle.mp_rules.specs.declared.limits.TheConstants.{DEPTH_LIMIT, EXPR_LIMIT}
use Rattle.mp_rules.specs.Sorts.{Sort, expr_sort, IsWanted}
use Rattle.mp_rules.specs.Standing.{StandsIn, is_transfer, uses_stack, label_of, IsLater}
use Rattle.mp_verdict.proofs.Deciding.{some_at, some_in, First, nowhere, same_places, either_place, this_place}
use Rattle.mp_verdict.proofs.Deciding.{where_so, first_of_all, first_of_entry}
use Rattle.mp_verdict.proofs.Forms.{stands_in, is_later, label_named}
use Rattle.mp_verdict.proofs.Words.{is_bit_op, same_supply, is_pad_port, is_unnamed, first_use, is_amiss}

module _ (p : Program) where
  -- another naming, which doesn't stand after n, has its name
  abbrev Repeats : ℕ → Naming → Type 0
  Repeats k n = (is_reserved n.name ≡ true) ⊎ ((j : ℕ) × (m : Naming) × IsAt (namings p) j m × (j ≢ k)
      × (m.name ≡ n.name) × ((m.place).offset ≤ (n.place).offset))

  repeats : (k : ℕ) (n : Naming) → Decided (Repeats k n)
  repeats k n = one_of (is_true (is_reserved n.name))
      (same_claim (some_at (namings p) (λ j m. (j ≢ k) × ((m.name ≡ n.name) × ((m.place).offset ≤ (n.place).offset)))
      (λ j m at. both_of (not_so (is_number j k)) (both_of (is_name m.name n.name)
      (is_within (m.place).offset (n.place).offset))))
      (λ (j, m, at, (other, (same, le))). (j, m, at, other, same, le))
      (λ (j, m, at, other, same, le). (j, m, at, (other, (same, le)))))

  pub rule20 : First (E20 p)
  rule20 = either_place
      (same_places (first_of_all (namings p) (λ k n at. Repeats k n × (at ≡ n.place))
      (λ k n is. this_place (Repeats k n) n.place (repeats k n)))
      (λ at (k, n, is, (again, same)). (k, n, is, same, again))
      (λ at (k, n, is, same, again). (k, n, is, (again, same))))
      (same_places (first_of_all p.defs (λ k b at. ((j : ℕ) × (a : Def) × IsAt p.defs j a
      × ((j < k) × ((is_supply a.what ≡ true) × (a.what ≡ b.what)))) × (at ≡ b.place))
      (λ k b is. this_place ((j : ℕ) × (a : Def) × IsAt p.defs j a
      × ((j < k) × ((is_supply a.what ≡ true) × (a.what ≡ b.what)))) b.place
      (some_at p.defs (λ j a. (j < k) × ((is_supply a.what ≡ true) × (a.what ≡ b.what)))
      (λ j a at. both_of (decided_below j k) (same_supply a.what b.what)))))
      (λ at (k, b, at_b, ((j, a, at_a, (lt, (supply, what))), same)). (j, k, a, b, at_a, at_b, lt, supply, what, same))
      (λ at (j, k, a, b, at_a, at_b, lt, supply, what, same). (k, b, at_b, ((j, a, at_a, (lt, (supply, what))), same))))

  abbrev Unnamed : List ℕ → Type 0
  Unnamed x = (k : ℕ) (n : Naming) → IsAt (namings p) k n → n.name ≢ x

  -- where an expression of this kind at a place, or a form, has a name that nothing has
  expr_unnamed : (kind : ExprKind) (place : Place) → First
      (λ at. (x : List ℕ) × (kind ≡ Named x) × (at ≡ place) × Unnamed x)
  expr_unnamed (Named x) place = same_places (this_place (Unnamed x) place (is_unnamed p x))
      (λ at (none, same). (x, refl, same, none))
      (λ at (y, is, same, none). ((let e : x ≡ y = cc in subst (λ n. Unnamed n) (sym e) none), same))
  expr_unnamed (Number n) place = nowhere (λ at (y, is, same, none). absurd (cc))
  expr_unnamed True place = nowhere (λ at (y, is, same, none). absurd (cc))
  expr_unnamed False place = nowhere (λ at (y, is, same, none). absurd (cc))
  expr_unnamed (Apply op k args) place = nowhere (λ at (y, is, same, none). absurd (cc))

  form_unnamed : (kind : FormKind) → First (λ at. (x : List ℕ) × (v : ℕ) × (kind ≡ Set x at v) × Unnamed x)
  form_unnamed (Set x place v) = same_places (this_place (Unnamed x) place (is_unnamed p x))
      (λ at (none, same). (x, v, ap (λ there. Set x there v) (sym same), none))
      (λ at (y, w, is, none). let e : x ≡ y = cc in let same : place ≡ at = cc in
      (subst (λ n. Unnamed n) (sym e) none, sym same))
  form_unnamed (Cond bs) = nowhere (λ at (y, w, is, none). absurd (cc))
  form_unnamed (Par fs) = nowhere (λ at (y, w, is, none). absurd (cc))
  form_unnamed (Go l) = nowhere (λ at (y, w, is, none). absurd (cc))
  form_unnamed (Call l) = nowhere (λ at (y, w, is, none). absurd (cc))
  form_unnamed Return = nowhere (λ at (y, w, is, none). absurd (cc))

  abbrev Mentioned : ℕ → Expr → Place → Type 0
  Mentioned e y at = (x : List ℕ) × (y.kind ≡ Named x) × (at ≡ y.place) × Unnamed x

  abbrev Targeted : ℕ → Form → Place → Type 0
  Targeted f y at = (x : List ℕ) × (v : ℕ) × (y.kind ≡ Set x at v) × Unnamed x

  abbrev Unmeant : Place → Type 0
  Unmeant at = ((e : ℕ) × (y : Expr) × IsAt p.exprs e y × Mentioned e y at)
      ⊎ ((f : ℕ) × (y : Form) × IsAt p.forms f y × Targeted f y at)

  pub rule21 : First (E21 p)
  rule21 = same_places (either_place (first_of_all p.exprs Mentioned (λ e y is. expr_unnamed y.kind y.place))
      (first_of_all p.forms Targeted (λ f y is. form_unnamed y.kind))) fore back
    where
      fore : (at : Place) → Unmeant at → E21 p at
      fore at (inl (e, y, is, (x, kind, same, none))) = (x, inl (e, y, is, kind, same), none)
      fore at (inr (f, y, is, (x, v, kind, none))) = (x, inr (f, y, v, is, kind), none)

      back : (at : Place) → E21 p at → Unmeant at
      back at (x, inl (e, y, is, kind, same), none) = inl (e, y, is, (x, kind, same, none))
      back at (x, inr (f, y, v, is, kind), none) = inr (f, y, is, (x, v, kind, none))

  pub rule22 : First (E22 p)
  rule22 = either_place
      (same_places (first_of_all p.exprs (λ e x at. ((s t : Sort) × IsWanted p e (Some s)
      × (expr_sort p.defs x.kind ≡ Some t) × (s ≢ t)) × (at ≡ x.place))
      (λ e x is. this_place ((s t : Sort) × IsWanted p e (Some s) × (expr_sort p.defs x.kind ≡ Some t) × (s ≢ t))
      x.place (is_amiss p e x)))
      (λ at (e, x, is, ((s, t, wanted, sort, other), same)). (e, x, s, t, is, wanted, sort, other, same))
      (λ at (e, x, s, t, is, wanted, sort, other, same). (e, x, is, ((s, t, wanted, sort, other), same))))
      (first_of_all p.processes (λ k q at. Uses p q.name at) (λ k q is. first_use p q.name))

  -- where a constant of this kind is too great
  constant_over : (w : What) (place : Place) → First (λ at. (c : ℕ) × (w ≡ Constant c) × (2 ^ p.width ≤ c)
      × (at ≡ place))
  constant_over (Constant c) place = same_places (this_place (2 ^ p.width ≤ c) place (is_within (2 ^ p.width) c))
      (λ at (over, same). (c, refl, over, same))
      (λ at (d, is, over, same). ((let e : c ≡ d = cc in subst (λ n. 2 ^ p.width ≤ n) (sym e) over), same))
  constant_over w place = nowhere (λ at (d, is, over, same). absurd (cc))

  number_over : (kind : ExprKind) (place : Place) → First
      (λ at. (n : ℕ) × (kind ≡ Number n) × (2 ^ p.width ≤ n) × (at ≡ place))
  number_over (Number c) place = same_places (this_place (2 ^ p.width ≤ c) place (is_within (2 ^ p.width) c))
      (λ at (over, same). (c, refl, over, same))
      (λ at (d, is, over, same). ((let e : c ≡ d = cc in subst (λ n. 2 ^ p.width ≤ n) (sym e) over), same))
  number_over (Named x) place = nowhere (λ at (d, is, over, same). absurd (cc))
  number_over True place = nowhere (λ at (d, is, over, same). absurd (cc))
  number_over False place = nowhere (λ at (d, is, over, same). absurd (cc))
  number_over (Apply op k args) place = nowhere (λ at (d, is, over, same). absurd (cc))

  pub rule23 : First (E23 p)
  rule23 = either_place
      (same_places (first_of_all p.defs (λ d x at. (c : ℕ) × (x.what ≡ Constant c) × (2 ^ p.width ≤ c)
      × (at ≡ x.place)) (λ d x is. constant_over x.what x.place))
      (λ at (d, x, is, (c, what, over, same)). (d, x, c, is, what, over, same))
      (λ at (d, x, c, is, what, over, same). (d, x, is, (c, what, over, same))))
      (same_places (first_of_all p.exprs (λ e x at. (n : ℕ) × (x.kind ≡ Number n) × (2 ^ p.width ≤ n) × (at ≡ x.place))
      (λ e x is. number_over x.kind x.place))
      (λ at (e, x, is, (n, kind, over, same)). (e, x, n, is, kind, over, same))
      (λ at (e, x, n, is, kind, over, same). (e, x, is, (n, kind, over, same))))

  bit_over : (kind : ExprKind) (place : Place) → First (λ at. (k : ℕ) × (args : List ℕ) × (kind ≡ Apply Bit k args)
      × (p.width ≤ k) × (at ≡ place))
  bit_over (Apply op k args) place = same_places (this_place ((op ≡ Bit) × (p.width ≤ k)) place
      (both_of (is_bit_op op) (is_within p.width k)))
      (λ at ((is, over), same). (k, args, ap (λ o. Apply o k args) is, over, same))
      (λ at (j, others, is, over, same). (
        (
          (let o : op ≡ Bit = cc in o),
          (let e : k ≡ j = cc in subst (λ n. p.width ≤ n) (sym e) over),
        ),
        same,
      ))
  bit_over (Named x) place = nowhere (λ at (k, args, is, over, same). absurd (cc))
  bit_over (Number n) place = nowhere (λ at (k, args, is, over, same). absurd (cc))
  bit_over True place = nowhere (λ at (k, args, is, over, same). absurd (cc))
  bit_over False place = nowhere (λ at (k, args, is, over, same). absurd (cc))

  pub rule24 : First (E24 p)
  rule24 = same_places (first_of_all p.exprs (λ e x at. (k : ℕ) × (args : List ℕ) × (x.kind ≡ Apply Bit k args)
      × (p.width ≤ k) × (at ≡ x.place)) (λ e x is. bit_over x.kind x.place))
      (λ at (e, x, is, (k, args, kind, over, same)). (e, x, k, args, is, kind, over, same))
      (λ at (e, x, k, args, is, kind, over, same). (e, x, is, (k, args, kind, over, same)))

  pub rule25 : First (E25 p)
  rule25 = same_places (first_of_all (pins p) (λ k b at.
      ((j : ℕ) × (a : Pin) × IsAt (pins p) j a × ((j < k) × (a.number ≡ b.number))) × (at ≡ b.place))
      (λ k b is. this_place ((j : ℕ) × (a : Pin) × IsAt (pins p) j a × ((j < k) × (a.number ≡ b.number))) b.place
      (some_at (pins p) (λ j a. (j < k) × (a.number ≡ b.number))
      (λ j a at. both_of (decided_below j k) (is_number a.number b.number)))))
      (λ at (k, b, at_b, ((j, a, at_a, (lt, number)), same)). (j, k, a, b, at_a, at_b, lt, number, same))
      (λ at (j, k, a, b, at_a, at_b, lt, number, same). (k, b, at_b, ((j, a, at_a, (lt, number)), same)))

  pub rule26 : First (E26 p)
  rule26 = same_places (first_of_all p.defs (λ d x at. (((x.what ≡ Port Input) ⊎ (x.what ≡ Port Output))
      × (length x.pins ≢ p.width)) × ((first : Pin) × IsAt x.pins 0 first × (at ≡ first.place)))
      (λ d x is. where_so (both_of (is_pad_port x.what) (not_so (is_number (length x.pins) p.width)))
      (first_of_entry x.pins 0 (λ first at. at ≡ first.place)
      (λ first here. same_places (this_place (Unit {0}) first.place (inl tt)) (λ at (u, same). same)
      (λ at same. (tt, same))))))
      (λ at (d, x, is, ((port, size), (first, here, same))). (d, x, first, is, port, size, here, same))
      (λ at (d, x, first, is, port, size, here, same). (d, x, is, ((port, size), (first, here, same))))

  -- an input or a constant has this name
  abbrev Unset : List ℕ → Type 0
  Unset x = (d : ℕ) × (z : Def) × IsAt p.defs d z × ((z.name ≡ x) × (is_unset z.what ≡ true))

  set_unset : (kind : FormKind) → First (λ at. (x : List ℕ) × (v : ℕ) × (kind ≡ Set x at v) × Unset x)
  set_unset (Set x place v) = same_places (this_place (Unset x) place
      (some_at p.defs (λ d z. (z.name ≡ x) × (is_unset z.what ≡ true))
      (λ d z at. both_of (is_name z.name x) (is_true (is_unset z.what)))))
      (λ at (wrong, same). (x, v, ap (λ there. Set x there v) (sym same), wrong))
      (λ at (y, w, is, wrong). let e : x ≡ y = cc in let same : place ≡ at = cc in
      (subst (λ n. Unset n) (sym e) wrong, sym same))
  set_unset (Cond bs) = nowhere (λ at (y, w, is, wrong). absurd (cc))
  set_unset (Par fs) = nowhere (λ at (y, w, is, wrong). absurd (cc))
  set_unset (Go l) = nowhere (λ at (y, w, is, wrong). absurd (cc))
  set_unset (Call l) = nowhere (λ at (y, w, is, wrong). absurd (cc))
  set_unset Return = nowhere (λ at (y, w, is, wrong). absurd (cc))

  pub rule27 : First (E27 p)
  rule27 = same_places (first_of_all p.forms (λ f y at. (x : List ℕ) × (v : ℕ) × (y.kind ≡ Set x at v) × Unset x)
      (λ f y is. set_unset y.kind))
      (λ at (f, y, is, (x, v, kind, (d, z, at_d, (name, unset)))). (f, y, x, v, d, z, is, kind, at_d, name, unset))
      (λ at (f, y, x, v, d, z, is, kind, at_d, name, unset). (f, y, is, (x, v, kind, (d, z, at_d, (name, unset)))))

  pub rule29 : First (E29 p)
  rule29 = same_places (first_of_all p.processes (λ k q at. (j : ℕ) × (b : Label) × IsAt q.labels j b
      × (((i : ℕ) × (a : Label) × IsAt q.labels i a × ((i < j) × (a.name ≡ b.name))) × (at ≡ b.place)))
      (λ k q is. first_of_all q.labels (λ j b at. ((i : ℕ) × (a : Label) × IsAt q.labels i a
      × ((i < j) × (a.name ≡ b.name))) × (at ≡ b.place))
      (λ j b at_b. this_place ((i : ℕ) × (a : Label) × IsAt q.labels i a × ((i < j) × (a.name ≡ b.name))) b.place
      (some_at q.labels (λ i a. (i < j) × (a.name ≡ b.name))
      (λ i a at. both_of (decided_below i j) (is_name a.name b.name))))))
      (λ at (k, q, is, (j, b, at_b, ((i, a, at_a, (lt, name)), same))).
      (k, q, i, j, a, b, is, at_a, at_b, lt, name, same))
      (λ at (k, q, i, j, a, b, is, at_a, at_b, lt, name, same).
      (k, q, is, (j, b, at_b, ((i, a, at_a, (lt, name)), same))))

  module _ (sound : IsSound p) where
    -- a label that the process lacks
    abbrev Astray : Process → Form → Type 0
    Astray q y = (l : List ℕ) × (label_of y.kind ≡ Some l) × All (λ (x : Label). x.name ≢ l) q.labels

    pub rule28 : First (E28 p)
    rule28 = same_places (first_of_all p.processes (λ k q at. (f : ℕ) × (y : Form) × IsAt p.forms f y
        × ((StandsIn p q.forms f y × Astray q y) × (at ≡ y.place)))
        (λ k q is. first_of_all p.forms (λ f y at. (StandsIn p q.forms f y × Astray q y) × (at ≡ y.place))
        (λ f y at_f. this_place (StandsIn p q.forms f y × Astray q y) y.place
        (both_of (stands_in p sound q.forms f y at_f)
        (label_named y.kind (λ l. All (λ (x : Label). x.name ≢ l) q.labels)
        (λ l. holds_of_all (λ (x : Label). x.name ≢ l) (λ x. not_so (is_name x.name l)) q.labels))))))
        (λ at (k, q, is, (f, y, at_f, ((stands, (l, label, none)), same))).
        (k, q, f, y, l, is, stands, label, none, same))
        (λ at (k, q, f, y, l, is, stands, label, none, same).
        (k, q, is, (f, y, stands.3, ((stands, (l, label, none)), same))))

    pub rule30 : First (E30 p)
    rule30 = same_places (first_of_all p.forms (λ f y at. (StandsIn p p.always f y × (is_transfer y.kind ≡ true))
        × (at ≡ y.place))
        (λ f y is. this_place (StandsIn p p.always f y × (is_transfer y.kind ≡ true)) y.place
        (both_of (stands_in p sound p.always f y is) (is_true (is_transfer y.kind)))))
        (λ at (f, y, is, ((stands, moves), same)). (f, y, stands, moves, same))
        (λ at (f, y, stands, moves, same). (f, y, stands.3, ((stands, moves), same)))

    pub rule31 : First (E31 p)
    rule31 = same_places (first_of_all p.processes (λ k q at. (q.depth ≡ 0)
        × ((f : ℕ) × (y : Form) × IsAt p.forms f y × ((StandsIn p q.forms f y × (uses_stack y.kind ≡ true))
        × (at ≡ y.place))))
        (λ k q is. where_so (is_number q.depth 0) (first_of_all p.forms
        (λ f y at. (StandsIn p q.forms f y × (uses_stack y.kind ≡ true)) × (at ≡ y.place))
        (λ f y at_f. this_place (StandsIn p q.forms f y × (uses_stack y.kind ≡ true)) y.place
        (both_of (stands_in p sound q.forms f y at_f) (is_true (uses_stack y.kind)))))))
        (λ at (k, q, is, (none, (f, y, at_f, ((stands, stack), same)))). (k, q, f, y, is, none, stands, stack, same))
        (λ at (k, q, f, y, is, none, stands, stack, same). (
          k,
          q,
          is,
          (none, (f, y, stands.3, ((stands, stack), same))),
        ))

    pub rule32 : First (E32 p)
    rule32 = same_places (first_of_all p.processes (λ k q at. (f : ℕ) × (y : Form) × IsAt p.forms f y
        × (((r : ℕ) × Contains q.forms r × IsLater p r f y) × (at ≡ y.place)))
        (λ k q is. first_of_all p.forms (λ f y at. ((r : ℕ) × Contains q.forms r × IsLater p r f y) × (at ≡ y.place))
        (λ f y at_f. this_place ((r : ℕ) × Contains q.forms r × IsLater p r f y) y.place
        (some_in q.forms (λ r. IsLater p r f y) (λ r root. is_later p sound r f y at_f)))))
        (λ at (k, q, is, (f, y, at_f, ((r, root, later), same))). (k, q, r, f, y, is, root, later, same))
        (λ at (k, q, r, f, y, is, root, later, same). (k, q, is, (f, y, standing later, ((r, root, later), same))))
      where
        standing : {r f : ℕ} {y : Form} → IsLater p r f y → IsAt p.forms f y
        standing (
          c,
          y,
          x,
          forms,
          i,
          j,
          a,
          g,
          h,
          under,
          at_c,
          seq,
          at_i,
          at_j,
          lt,
          under_a,
          under_b,
          at_a,
          at_b,
          moves,
          also,
        ) = at_b

  module _ (chains : (a b : ℕ) → Decided (Chain p a b)) where
    -- a definition of this name reads itself through a chain
    abbrev Closed : List ℕ → Type 0
    Closed x = (d : ℕ) × (z : Def) × IsAt p.defs d z × ((z.name ≡ x) × Chain p d d)

    set_closed : (kind : FormKind) → Decided ((x : List ℕ) × (there : Place) × (v : ℕ) × (kind ≡ Set x there v)
        × Closed x)
    set_closed (Set x place v) = same_claim (some_at p.defs (λ d z. (z.name ≡ x) × Chain p d d)
        (λ d z at. both_of (is_name z.name x) (chains d d)))
        (λ h. (x, place, v, refl, h)) (λ (y, there, w, is, h). let e : x ≡ y = cc in subst (λ n. Closed n) (sym e) h)
    set_closed (Cond bs) = inr (λ (y, there, w, is, h). absurd (cc))
    set_closed (Par fs) = inr (λ (y, there, w, is, h). absurd (cc))
    set_closed (Go l) = inr (λ (y, there, w, is, h). absurd (cc))
    set_closed (Call l) = inr (λ (y, there, w, is, h). absurd (cc))
    set_closed Return = inr (λ (y, there, w, is, h). absurd (cc))

    pub rule33 : First (E33 p)
    rule33 = same_places (first_of_all p.forms (λ f y at.
        ((x : List ℕ) × (there : Place) × (v : ℕ) × (y.kind ≡ Set x there v) × Closed x) × (at ≡ y.place))
        (λ f y is. this_place ((x : List ℕ) × (there : Place) × (v : ℕ) × (y.kind ≡ Set x there v) × Closed x) y.place
        (set_closed y.kind)))
        (λ at (f, y, is, ((x, there, v, kind, (d, z, at_d, (name, chain))), same)).
        (f, y, x, there, v, d, z, is, kind, at_d, name, chain, same))
        (λ at (f, y, x, there, v, d, z, is, kind, at_d, name, chain, same).
        (f, y, is, ((x, there, v, kind, (d, z, at_d, (name, chain))), same)))

  pub rule34 : First (E34 p)
  rule34 = where_so (holds_of_all (λ (d : Def). is_reset d ≡ false) (λ d. is_false (is_reset d)) p.defs)
      (either_place
      (same_places (first_of_all p.defs (λ d x at. (is_stored x.what ≡ true) × (at ≡ x.place))
      (λ d x is. this_place (is_stored x.what ≡ true) x.place (is_true (is_stored x.what))))
      (λ at (d, x, is, (stored, same)). (d, x, is, stored, same))
      (λ at (d, x, is, stored, same). (d, x, is, (stored, same))))
      (first_of_all p.processes (λ k q at. at ≡ q.place) (λ k q is. same_places
      (this_place (Unit {0}) q.place (inl tt)) (λ at (u, same). same) (λ at same. (tt, same)))))

  pub rule35 : First (E35 p)
  rule35 = same_places (this_place ((w : What) × Contains supplies w × All (λ (d : Def). d.what ≢ w) p.defs) p.place
      (some_in supplies (λ w. All (λ (d : Def). d.what ≢ w) p.defs)
      (λ w c. holds_of_all (λ (d : Def). d.what ≢ w) (λ d. not_so (is_supply_at c d.what)) p.defs)))
      (λ at ((w, c, none), same). (w, c, none, same)) (λ at (w, c, none, same). ((w, c, none), same))
    where
      of_supply : {v : What} (w : What) → Some v ≡ Some w → is_supply v ≡ true → is_supply w ≡ true
      of_supply {v} w at h = subst (λ x. is_supply x ≡ true) (same_Some v w at) h

      all_supplies : (k : ℕ) (w : What) → IsAt supplies k w → is_supply w ≡ true
      all_supplies zero w at = of_supply w at refl
      all_supplies (suc zero) w at = of_supply w at refl
      all_supplies (suc (suc zero)) w at = of_supply w at refl
      all_supplies (suc (suc (suc zero))) w at = of_supply w at refl
      all_supplies (suc (suc (suc (suc zero)))) w at = of_supply w at refl
      all_supplies (suc (suc (suc (suc (suc k))))) w at = absurd (none-some w at)

      is_supply_at : {w : What} → Contains supplies w → (v : What) → Decided (v ≡ w)
      is_supply_at {w} c v = let (k, at) = get_from_contains supplies w c in
          same_claim (same_supply w v) (λ h. sym h.1) (λ e. (all_supplies k w at, sym e))

  pub rule36 : First (E36 p)
  rule36 = same_places (first_of_all p.processes (λ k q at. (q.forms ≡ []) × (at ≡ q.place))
      (λ k q is. this_place (q.forms ≡ []) q.place (is_empty q.forms)))
      (λ at (k, q, is, (none, same)). (k, q, is, none, same)) (λ at (k, q, is, none, same). (k, q, is, (none, same)))
    where
      is_empty : (xs : List ℕ) → Decided (xs ≡ [])
      is_empty [] = inl refl
      is_empty (x ∷ xs) = inr (λ e. absurd (cc))

  pub rule40 : First (E40 p)
  rule40 = same_places (first_of_all (namings p) (λ k n at. (NAMING_LIMIT < namings_up_to p n.place) × (at ≡ n.place))
      (λ k n is. this_place (NAMING_LIMIT < namings_up_to p n.place) n.place
      (decided_below NAMING_LIMIT (namings_up_to p n.place))))
      (λ at (k, n, is, (many, same)). (k, n, is, many, same)) (λ at (k, n, is, many, same). (k, n, is, (many, same)))

  pub rule41 : First (E41 p)
  rule41 = first_of_entry p.processes PROCESS_LIMIT (λ q at. at ≡ q.place)
      (λ q is. same_places (this_place (Unit {0}) q.place (inl tt)) (λ at (u, same). same) (λ at same. (tt, same)))

  pub rule42 : First (E42 p)
  rule42 = same_places (first_of_all p.processes (λ k q at. (f : ℕ) × IsAt q.forms FORM_LIMIT f
      × ((y : Form) × IsAt p.forms f y × (at ≡ y.place)))
      (λ k q is. first_of_entry q.forms FORM_LIMIT (λ f at. (y : Form) × IsAt p.forms f y × (at ≡ y.place))
      (λ f at_f. first_of_entry p.forms f (λ y at. at ≡ y.place)
      (λ y form. same_places (this_place (Unit {0}) y.place (inl tt)) (λ at (u, same). same)
      (λ at same. (tt, same))))))
      (λ at (k, q, is, (f, at_f, (y, form, same))). (k, q, f, y, is, at_f, form, same))
      (λ at (k, q, f, y, is, at_f, form, same). (k, q, is, (f, at_f, (y, form, same))))

  pub rule43 : First (E43 p)
  rule43 = same_places (first_of_all p.processes (λ k q at. (DEPTH_LIMIT < q.depth) × (at ≡ q.depth_at))
      (λ k q is. this_place (DEPTH_LIMIT < q.depth) q.depth_at (decided_below DEPTH_LIMIT q.depth)))
      (λ at (k, q, is, (deep, same)). (k, q, is, deep, same)) (λ at (k, q, is, deep, same). (k, q, is, (deep, same)))

  pub rule44 : First (E44 p)
  rule44 = this_place (WEIGHT_LIMIT < weight p) p.place (decided_below WEIGHT_LIMIT (weight p))

  pub rule45 : First (E45 p)
  rule45 = this_place (EXPR_LIMIT < length p.exprs) p.place (decided_below EXPR_LIMIT (length p.exprs))
