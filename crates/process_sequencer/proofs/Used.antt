-- What a `setq` sets, has a transfer.
use Rattle.std.proofs.Common.{
  ◌≡◌,
  inl,
  inr,
  ◌∙◌,
  ℕ,
  zero,
  suc,
  ◌<◌,
  List,
  [],
  ◌∷◌,
  Bool,
  true,
  false,
  cond,
  refl,
  sym,
  ap,
  arith,
}
use Rattle.std.specs.Prelude.{Contains}
use Rattle.std.specs.List.{count_by}
use Rattle.std.proofs.lemmas.List.Sums.{sum_by-cons}
use Rattle.std.proofs.lemmas.Option.{none-some, same_Some}
use Rattle.mp_base.specs.declared.refusal.Place.{Place}
use Rattle.mp_base.proofs.Induction.{by_test}
use Rattle.mp_program.specs.declared.program.FormKind.TheVariants.{Set}
use Rattle.mp_program.specs.declared.program.What.{What}
use Rattle.mp_program.specs.declared.program.What.TheVariants.{
  Power,
  Ground,
  Phia,
  Phib,
  Phic,
  Constant,
  Register,
  Flag,
  Port,
  Signal,
}
use Rattle.mp_program.specs.declared.program.Way.TheVariants.{Input, Output, Internal}
use Rattle.mp_program.specs.declared.program.Def.{Def}
use Rattle.mp_program.specs.declared.program.Form.{Form}
use Rattle.mp_program.specs.declared.program.Program.{Program}
use Rattle.mp_program.specs.Names.{index_of, is_supply}
use Rattle.mp_program.specs.Weight.{is_set_of}
use Rattle.mp_program.proofs.Definitions.{named, is_same_of}
use Rattle.mp_rules.specs.Breaking.{IsUnbroken}
use Rattle.mp_base.specs.Entries.{IsAt}
use Rattle.mp_rules.specs.Naming.{OwnNames}
use Rattle.mp_rules.specs.Rules.{E21, is_unset}
use Rattle.mp_base.proofs.Entries.{contains_from_get, read_of}
use Rattle.process_plan.specs.Bill.{set_bill, IsUsed}
use Rattle.process_plan.proofs.Keeping.{keeps_22, keeps_27}
use Rattle.process_plan.proofs.Uses.{used_def}

abbrev bit : Bool → ℕ
bit b = cond b 1 0

-- what passes a test is counted
some_counted : (test : Form → Bool) (ys : List Form) (f : ℕ) (y : Form) → IsAt ys f y → test y ≡ true
    → 0 < count_by test ys
some_counted test [] f y at passes = absurd (none-some y at)
some_counted test (z ∷ zs) zero y at passes =
    let more = sum_by-cons (λ (x : Form). cond (test x) 1 0) z zs in
    let here : bit (test z) ≡ 1 = ap bit (ap test (same_Some z y at) ∙ passes) in
    omega (arith, more, here)
some_counted test (z ∷ zs) (suc f) y at passes =
    let more = sum_by-cons (λ (x : Form). cond (test x) 1 0) z zs in
    let rest = some_counted test zs f y at passes in
    omega (arith, more, rest)

set_there : (w : What) → is_supply w ≡ false → is_unset w ≡ false → 0 < set_bill w
set_there Power plain settable = absurd (cc)
set_there Ground plain settable = absurd (cc)
set_there Phia plain settable = absurd (cc)
set_there Phib plain settable = absurd (cc)
set_there Phic plain settable = absurd (cc)
set_there (Constant n) plain settable = absurd (cc)
set_there Register plain settable = omega arith
set_there Flag plain settable = omega arith
set_there (Port Input) plain settable = absurd (cc)
set_there (Port Output) plain settable = omega arith
set_there (Port Internal) plain settable = omega arith
set_there (Signal Input) plain settable = absurd (cc)
set_there (Signal Output) plain settable = omega arith
set_there (Signal Internal) plain settable = omega arith

module _ (p : Program) (unbroken : IsUnbroken p) (own : OwnNames p) where
  keeps_21 : (at : Place) → E21 p at → ⊥
  keeps_21 at broken = unbroken 21 at (inr (inl (refl, broken)))

  -- a definition that a `setq` sets is used
  pub set_used : (f : ℕ) (y : Form) (x : List ℕ) (at : Place) (value : ℕ) → IsAt p.forms f y → y.kind ≡ Set x at value
      → (d : Def) × Contains p.defs d × IsUsed p d
  set_used f y x at value at_y kind =
      let (d, at_d, plain) = used_def p own keeps_21 (keeps_22 p unbroken) x at (inr (f, y, value, at_y, kind)) in
      let first = read_of p.defs (index_of p.defs x) d at_d in
      let name : d.name ≡ x = named p.defs x d first.0 first.1 in
      let counted : is_set_of d.name y.kind ≡ true =
      ap (is_set_of d.name) kind ∙ is_same_of x d.name (sym name) in
      let settable : is_unset d.what ≡ false = by_test (is_unset d.what)
      (λ no. absurd (keeps_27 p unbroken at
      (f, y, x, value, index_of p.defs x, d, at_y, kind, at_d, name, no)))
      (λ yes. yes) in (
        d,
        contains_from_get p.defs (index_of p.defs x) d at_d,
        (
          set_there d.what plain settable,
          some_counted (λ (z : Form). is_set_of d.name z.kind) p.forms f y at_y counted,
        ),
      )
