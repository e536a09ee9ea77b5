-- How many `setq` there are of each definition.
use Rattle.std.proofs.Common.{◌≡◌, inl, inr, ℕ, ◌+◌, ◌<◌, ◌≤◌, List, refl, sym, ◌∙◌, ap, subst, arith}
use Rattle.std.proofs.Common.{length, get_or, take, replicate, true, false, slice_set, slice_index}
use Rattle.std.specs.List.{count_by}
use Rattle.std.proofs.lemmas.Bool.{cases_lt, cases_eq, cases_Bool, true≢false, false≢true}
use Rattle.std.proofs.lemmas.List.{get_or-set_same, get_or-set_other, get_or_past, length-set, length-replicate}
use Rattle.std.proofs.lemmas.List.Sums.{count_by_more_yes, count_by_more_no}
use Rattle.std.proofs.lemmas.Option.{get_or_from_slice_get}
use Rattle.mp_base.specs.declared.refusal.Place.{Place}
use Rattle.mp_base.proofs.Lists.{take_whole}
use Rattle.mp_base.proofs.Entries.{zeros_at, within, value}
use Rattle.mp_program.specs.declared.program.FormKind.{FormKind}
use Rattle.mp_program.specs.declared.program.FormKind.TheVariants.{Set, Cond, Par, Go, Call, Return}
use Rattle.mp_program.specs.declared.program.What.{What}
use Rattle.mp_program.specs.declared.program.What.TheVariants.{Power, Ground, Phia, Phib, Phic}
use Rattle.mp_program.specs.declared.program.Def.{Def}
use Rattle.mp_program.specs.declared.program.Form.{Form}
use Rattle.mp_program.specs.declared.program.Program.{Program}
use Rattle.mp_program.specs.Names.{is_same, index_of, is_supply}
use Rattle.mp_program.specs.Weight.{is_set_of, sets_of, def_weight}
use Rattle.mp_base.specs.Entries.{IsAt}
use Rattle.mp_program.proofs.Definitions.{is_same_of, named as index_named, same_is}
use Rattle.mp_rules.specs.Naming.{OwnNames}
use Rattle.mp_weight.specs.Weighing.{AreSetCounts, counted}

pub none_counted : (p : Program) (counts : List ℕ) → counts ≡ replicate (length p.defs) 0 → AreSetCounts p 0 counts
none_counted p counts e = record {
  size = ap length e ∙ length-replicate {A = ℕ} (length p.defs) 0;
  bound = λ k. omega (arith, ap (λ xs. get_or xs k 0) e ∙ zeros_at (length p.defs) k);
  each = λ d x at other. ap (λ xs. get_or xs d 0) e ∙ zeros_at (length p.defs) d;
}

-- a form that is no `setq`
other_counted : (p : Program) (n : ℕ) (y : Form) (counts : List ℕ) → AreSetCounts p n counts → IsAt p.forms n y
    → ((x : List ℕ) → is_set_of x y.kind ≡ false) → AreSetCounts p (n + 1) counts
other_counted p n y counts h at_n none = record {
  size = h.size;
  bound = λ k. omega (arith, h.bound k);
  each = λ d z at named. h.each d z at named
      ∙ sym (count_by_more_no (λ (f : Form). is_set_of z.name f.kind) p.forms n y (within p.forms n at_n)
      (ap (λ (f : Form). is_set_of z.name f.kind) (get_or_from_slice_get p.forms n y y at_n) ∙ none z.name));
}

-- a `setq` of the definition at t
set_counted : (p : Program) (n t : ℕ) (y : Form) (x : List ℕ) (at : Place) (v : ℕ) (counts : List ℕ) → OwnNames p
    → AreSetCounts p n counts → IsAt p.forms n y → y.kind ≡ Set x at v
    → t ≡ index_of p.defs x → AreSetCounts p (n + 1) (slice_set counts t (slice_index counts t + 1))
set_counted p n t y x at v counts own h at_n kind target = record {
  size = length-set counts t (slice_index counts t + 1) ∙ h.size;
  bound = bounds;
  each = counts_each;
}
  where
    new : List ℕ
    new = slice_set counts t (slice_index counts t + 1)

    bounds : (k : ℕ) → slice_index (slice_set counts t (slice_index counts t + 1)) k ≤ n + 1
    bounds k = elim (cases_eq k t) [
      | inl e ↦ elim (cases_lt t (length counts)) [
        | inl tl ↦
            omega (
              arith,
              ap (λ i. slice_index (slice_set counts t (slice_index counts t + 1)) i) e
                  ∙ get_or-set_same counts t (slice_index counts t + 1) 0 tl,
              h.bound t,
            )
        | inr ge ↦
            omega (
              arith,
              get_or_past (slice_set counts t (slice_index counts t + 1)) k 0
                  (omega (arith, ge, e, length-set counts t (slice_index counts t + 1))),
            )
      ]
      | inr ne ↦ omega (arith, get_or-set_other counts t k (slice_index counts t + 1) 0 ne, h.bound k)
    ]

    test : (z : Def) → is_set_of z.name (get_or p.forms n y).kind ≡ is_same x z.name
    test z = ap (λ (f : Form). is_set_of z.name f.kind) (get_or_from_slice_get p.forms n y y at_n)
        ∙ ap (is_set_of z.name) kind

    counts_each : (d : ℕ) (z : Def) → IsAt p.defs d z → is_supply z.what ≡ false
        → slice_index (slice_set counts t (slice_index counts t + 1)) d
        ≡ count_by (λ (f : Form). is_set_of z.name f.kind) (take (n + 1) p.forms)
    counts_each d z at_d named = elim (cases_Bool (is_same x z.name)) [
      | inl same ↦
          let here : t ≡ d = target ∙ ap (index_of p.defs) (same_is x z.name same) ∙ own d z at_d named in
          let dl : d < length counts = omega (arith, within p.defs d at_d, h.size) in
          ap (λ i. slice_index (slice_set counts i (slice_index counts i + 1)) d) here
          ∙ get_or-set_same counts d (slice_index counts d + 1) 0 dl
          ∙ ap (λ k. k + 1) (h.each d z at_d named)
          ∙ sym (count_by_more_yes (λ (f : Form). is_set_of z.name f.kind) p.forms n y (within p.forms n at_n)
          (test z ∙ same))
      | inr other ↦
          get_or-set_other counts t d (slice_index counts t + 1) 0 (λ e. apart d z at_d other (e ∙ target))
          ∙ h.each d z at_d named
          ∙ sym (count_by_more_no (λ (f : Form). is_set_of z.name f.kind) p.forms n y (within p.forms n at_n)
          (test z ∙ other))
    ]
      where
        apart : (d : ℕ) (z : Def) → IsAt p.defs d z → is_same x z.name ≡ false → d ≡ index_of p.defs x → ⊥
        apart d z at_d other e =
            let there : IsAt p.defs (index_of p.defs x) z = subst (λ i. IsAt p.defs i z) e at_d in
            let same = index_named p.defs x z (within p.defs (index_of p.defs x) there)
            (value p.defs (index_of p.defs x) there) in
            true≢false (sym (is_same_of x z.name (sym same)) ∙ other)

pub form_counted : (p : Program) (n t : ℕ) (y : Form) (counts : List ℕ) → OwnNames p → AreSetCounts p n counts
    → IsAt p.forms n y
    → ((x : List ℕ) (at : Place) (v : ℕ) → y.kind ≡ Set x at v → t ≡ index_of p.defs x)
    → AreSetCounts p (n + 1) (counted y.kind t counts)
form_counted p n t y counts own h at target = by_kind y.kind refl
  where
    none : (k : FormKind) → y.kind ≡ k → ((x : List ℕ) → is_set_of x k ≡ false) → AreSetCounts p (n + 1) counts
    none k e f = other_counted p n y counts h at (λ x. ap (is_set_of x) e ∙ f x)

    by_kind : (k : FormKind) → y.kind ≡ k → AreSetCounts p (n + 1) (counted k t counts)
    by_kind (Set x place v) e = set_counted p n t y x place v counts own h at e (target x place v e)
    by_kind (Cond bs) e = none (Cond bs) e (λ x. refl)
    by_kind (Par fs) e = none (Par fs) e (λ x. refl)
    by_kind (Go l) e = none (Go l) e (λ x. refl)
    by_kind (Call l) e = none (Call l) e (λ x. refl)
    by_kind Return e = none Return e (λ x. refl)

-- a supply weighs nothing
supply_weight : (w : What) (s t : ℕ) → is_supply w ≡ true → def_weight w s ≡ def_weight w t
supply_weight Power s t h = refl
supply_weight Ground s t h = refl
supply_weight Phia s t h = refl
supply_weight Phib s t h = refl
supply_weight Phic s t h = refl
supply_weight _ s t h = absurd (false≢true h)

pub def_term : (p : Program) (counts : List ℕ) (d : ℕ) (x : Def) → AreSetCounts p (length p.forms) counts
    → IsAt p.defs d x
    → def_weight x.what (slice_index counts d) ≡ def_weight x.what (sets_of p x.name)
def_term p counts d x h at = elim (cases_Bool (is_supply x.what)) [
  | inl supply ↦ supply_weight x.what (slice_index counts d) (sets_of p x.name) supply
  | inr named ↦
      ap (def_weight x.what)
      (h.each d x at named ∙ ap (count_by (λ (f : Form). is_set_of x.name f.kind)) (take_whole p.forms))
]
