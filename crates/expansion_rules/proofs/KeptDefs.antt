-- Rules of definitions in an expansion: it has those that are written but for the functions.
use Rattle.std.proofs.Common.{◌≡◌, ◌∙◌, ◌⊎◌, inl, inr, ℕ, List, ◌∷◌, ◌++◌, true, false, refl, sym, ap, subst}
use Rattle.std.proofs.Common.{arith, length, map, cond}
use Rattle.std.specs.Prelude.{not, filter, Option, Some, codes, nat_le}
use Rattle.std.specs.List.{flat_map}
use Rattle.std.proofs.lemmas.Bool.{and_from}
use Rattle.std.proofs.lemmas.Option.{none-some, same_Some}
use Rattle.std.proofs.lemmas.Slice.Eq.{bytes_eq-Decides}
use Rattle.mp_base.specs.declared.refusal.Place.{Place}
use Rattle.mp_base.specs.Entries.{IsAt}
use Rattle.mp_base.proofs.Entries.{all_at, all_from}
use Rattle.mp_base.proofs.Contents.{contains_map}
use Rattle.mp_base.proofs.Induction.{by_test}
use Rattle.mp_program.specs.Names as plain_names
use Rattle.mp_program.specs.Names.{is_same}
use Rattle.mp_program.specs.declared.program.Pin.{Pin}
use Rattle.mp_program.specs.declared.program.Process.{Process}
use Rattle.mp_program.specs.declared.program.Way.TheVariants as ways
use Rattle.mp_program.specs.declared.program.What as plain_what
use Rattle.mp_program.specs.declared.program.What.TheVariants as plain_whats
use Rattle.mp_program.specs.declared.program.Def as plain_def
use Rattle.mp_program.specs.declared.program.Program as plain
use Rattle.mp_rules.specs.Naming as plain_naming
use Rattle.mp_rules.specs.Naming.{Naming, process_naming}
use Rattle.mp_rules.specs.Rules as plain_rules
use Rattle.mp_written.specs.declared.program.What.{What}
use Rattle.mp_written.specs.declared.program.What.TheVariants as whats
use Rattle.mp_written.specs.declared.program.Def.{Def}
use Rattle.mp_written.specs.declared.program.Program.{Program}
use Rattle.mp_written.specs.Kinds.{is_supply, is_stored, is_unset, is_input_signal}
use Rattle.mp_written.specs.Functions.{plain_what_of, plain_def as plain_def_of, plain_defs}
use Rattle.mp_written.specs.Expansion.{IsExpansion}
use Rattle.written_rules.specs.Naming.{namings, def_naming}
use Rattle.written_rules.specs.Rules as rules
use Rattle.expansion_rules.proofs.Sublists.{Sub, none, skip, keep, index, belongs, rises, Same, all_same, both, fewer, Kept, skips, one_index}
use Rattle.expansion_rules.proofs.Sublists.{kept, is_kept}
use Rattle.expansion_rules.proofs.KeptForms.{target_at}

-- ---- what a definition was

abbrev pub written : plain_what.What → What
written plain_whats.Power = whats.Power
written plain_whats.Ground = whats.Ground
written plain_whats.Phia = whats.Phia
written plain_whats.Phib = whats.Phib
written plain_whats.Phic = whats.Phic
written (plain_whats.Constant c) = whats.Constant c
written plain_whats.Register = whats.Register
written plain_whats.Flag = whats.Flag
written (plain_whats.Port way) = whats.Port way
written (plain_whats.Signal way) = whats.Signal way

abbrev pub plain_of : Def → Option plain_def.Def
plain_of d = plain_def_of d (plain_what_of d.what)

-- x is d, which is no function
pub record IsPlain (x : plain_def.Def) (d : Def) : Type 0 where
  pub place : x.place ≡ d.place
  pub name : x.name ≡ d.name
  pub pins : x.pins ≡ d.pins
  pub what : written x.what ≡ d.what

plain_is : (x : plain_def.Def) (d : Def) (k : What) → d.what ≡ k → plain_def_of d (plain_what_of k) ≡ Some x → IsPlain x d
plain_is x d whats.Power is e = subst (λ y. IsPlain y d) (same_Some _ x e)
    (record { place = refl; name = refl; pins = refl; what = sym is })
plain_is x d whats.Ground is e = subst (λ y. IsPlain y d) (same_Some _ x e)
    (record { place = refl; name = refl; pins = refl; what = sym is })
plain_is x d whats.Phia is e = subst (λ y. IsPlain y d) (same_Some _ x e)
    (record { place = refl; name = refl; pins = refl; what = sym is })
plain_is x d whats.Phib is e = subst (λ y. IsPlain y d) (same_Some _ x e)
    (record { place = refl; name = refl; pins = refl; what = sym is })
plain_is x d whats.Phic is e = subst (λ y. IsPlain y d) (same_Some _ x e)
    (record { place = refl; name = refl; pins = refl; what = sym is })
plain_is x d (whats.Constant c) is e = subst (λ y. IsPlain y d) (same_Some _ x e)
    (record { place = refl; name = refl; pins = refl; what = sym is })
plain_is x d whats.Register is e = subst (λ y. IsPlain y d) (same_Some _ x e)
    (record { place = refl; name = refl; pins = refl; what = sym is })
plain_is x d whats.Flag is e = subst (λ y. IsPlain y d) (same_Some _ x e)
    (record { place = refl; name = refl; pins = refl; what = sym is })
plain_is x d (whats.Port way) is e = subst (λ y. IsPlain y d) (same_Some _ x e)
    (record { place = refl; name = refl; pins = refl; what = sym is })
plain_is x d (whats.Signal way) is e = subst (λ y. IsPlain y d) (same_Some _ x e)
    (record { place = refl; name = refl; pins = refl; what = sym is })
plain_is x d (whats.Function args body) is e = absurd (none-some x e)

-- a definition that is written so is kept
plain_made : (d : Def) (k : plain_what.What) → d.what ≡ written k → (x : plain_def.Def) × (plain_of d ≡ Some x) × (x.what ≡ k)
plain_made d k is = (made, ap (λ o. plain_def_of d o) (ap plain_what_of is ∙ as_was k), refl)
  where
    made : plain_def.Def
    made = record { place = d.place; name = d.name; what = k; pins = d.pins }

    as_was : (l : plain_what.What) → plain_what_of (written l) ≡ Some l
    as_was plain_whats.Power = refl
    as_was plain_whats.Ground = refl
    as_was plain_whats.Phia = refl
    as_was plain_whats.Phib = refl
    as_was plain_whats.Phic = refl
    as_was (plain_whats.Constant c) = refl
    as_was plain_whats.Register = refl
    as_was plain_whats.Flag = refl
    as_was (plain_whats.Port way) = refl
    as_was (plain_whats.Signal way) = refl

pub supply_was : (k : plain_what.What) → is_supply (written k) ≡ plain_names.is_supply k
supply_was plain_whats.Power = refl
supply_was plain_whats.Ground = refl
supply_was plain_whats.Phia = refl
supply_was plain_whats.Phib = refl
supply_was plain_whats.Phic = refl
supply_was (plain_whats.Constant c) = refl
supply_was plain_whats.Register = refl
supply_was plain_whats.Flag = refl
supply_was (plain_whats.Port way) = refl
supply_was (plain_whats.Signal way) = refl

stored_was : (k : plain_what.What) → is_stored (written k) ≡ plain_names.is_stored k
stored_was plain_whats.Power = refl
stored_was plain_whats.Ground = refl
stored_was plain_whats.Phia = refl
stored_was plain_whats.Phib = refl
stored_was plain_whats.Phic = refl
stored_was (plain_whats.Constant c) = refl
stored_was plain_whats.Register = refl
stored_was plain_whats.Flag = refl
stored_was (plain_whats.Port way) = refl
stored_was (plain_whats.Signal way) = refl

unset_was : (k : plain_what.What) → is_unset (written k) ≡ plain_rules.is_unset k
unset_was plain_whats.Power = refl
unset_was plain_whats.Ground = refl
unset_was plain_whats.Phia = refl
unset_was plain_whats.Phib = refl
unset_was plain_whats.Phic = refl
unset_was (plain_whats.Constant c) = refl
unset_was plain_whats.Register = refl
unset_was plain_whats.Flag = refl
unset_was (plain_whats.Port ways.Input) = refl
unset_was (plain_whats.Port ways.Output) = refl
unset_was (plain_whats.Port ways.Internal) = refl
unset_was (plain_whats.Signal ways.Input) = refl
unset_was (plain_whats.Signal ways.Output) = refl
unset_was (plain_whats.Signal ways.Internal) = refl

-- ---- the lists

abbrev pub defs_kept : (w : Program) → Sub (Kept plain_of) (plain_defs w) w.defs
defs_kept w = kept plain_of w.defs

-- names, in the same order
abbrev plain_names_of : List plain_def.Def → List Naming
plain_names_of xs = map plain_naming.def_naming (filter (λ (x : plain_def.Def). not (plain_names.is_supply x.what)) xs)

abbrev names_of : List Def → List Naming
names_of ds = map def_naming (filter (λ (d : Def). not (is_supply d.what)) ds)

plain_without : (x : plain_def.Def) (xs : List plain_def.Def) → plain_names.is_supply x.what ≡ true
    → plain_names_of (x ∷ xs) ≡ plain_names_of xs
plain_without x xs h =
    let rest = filter (λ (y : plain_def.Def). not (plain_names.is_supply y.what)) xs in
    ap (λ b. map plain_naming.def_naming (cond (not b) (x ∷ rest) rest)) h

plain_with : (x : plain_def.Def) (xs : List plain_def.Def) → plain_names.is_supply x.what ≡ false
    → plain_names_of (x ∷ xs) ≡ plain_naming.def_naming x ∷ plain_names_of xs
plain_with x xs h =
    let rest = filter (λ (y : plain_def.Def). not (plain_names.is_supply y.what)) xs in
    ap (λ b. map plain_naming.def_naming (cond (not b) (x ∷ rest) rest)) h

without : (d : Def) (ds : List Def) → is_supply d.what ≡ true → names_of (d ∷ ds) ≡ names_of ds
without d ds h =
    let rest = filter (λ (y : Def). not (is_supply y.what)) ds in ap (λ b. map def_naming (cond (not b) (d ∷ rest) rest)) h

with_it : (d : Def) (ds : List Def) → is_supply d.what ≡ false → names_of (d ∷ ds) ≡ def_naming d ∷ names_of ds
with_it d ds h =
    let rest = filter (λ (y : Def). not (is_supply y.what)) ds in ap (λ b. map def_naming (cond (not b) (d ∷ rest) rest)) h

same_naming : (x : plain_def.Def) (d : Def) → IsPlain x d → plain_naming.def_naming x ≡ def_naming d
same_naming x d i =
    let at : Place → Naming = λ place. record { place = place; name = x.name } in
    let named : List ℕ → Naming = λ name. record { place = d.place; name = name } in
    ap at i.place ∙ ap named i.name

names_kept : (xs : List plain_def.Def) (ds : List Def) → Sub (Kept plain_of) xs ds
    → Sub Same (plain_names_of xs) (names_of ds)
names_kept _ _ none = none
names_kept _ _ (skip {xs = xs} {ys = ds} d s) = by_test (is_supply d.what)
    (λ yes. subst (λ ns. Sub Same (plain_names_of xs) ns) (sym (without d ds yes)) (names_kept xs ds s))
    (λ no. subst (λ ns. Sub Same (plain_names_of xs) ns) (sym (with_it d ds no)) (skip (def_naming d) (names_kept xs ds s)))
names_kept _ _ (keep {xs = xs} {ys = ds} x d r s) =
    let i = plain_is x d d.what refl r in
    let same : is_supply d.what ≡ plain_names.is_supply x.what = sym (ap is_supply i.what) ∙ supply_was x.what in
    by_test (plain_names.is_supply x.what)
    (λ yes. subst (λ ns. Sub Same ns (names_of (d ∷ ds))) (sym (plain_without x xs yes))
    (subst (λ ns. Sub Same (plain_names_of xs) ns) (sym (without d ds (same ∙ yes))) (names_kept xs ds s)))
    (λ no. subst (λ ns. Sub Same ns (names_of (d ∷ ds))) (sym (plain_with x xs no))
    (subst (λ ns. Sub Same (plain_naming.def_naming x ∷ plain_names_of xs) ns) (sym (with_it d ds (same ∙ no)))
    (keep (plain_naming.def_naming x) (def_naming d) (same_naming x d i) (names_kept xs ds s))))

pins_kept : (xs : List plain_def.Def) (ds : List Def) → Sub (Kept plain_of) xs ds
    → Sub Same (flat_map (λ (x : plain_def.Def). x.pins) xs) (flat_map (λ (d : Def). d.pins) ds)
pins_kept _ _ none = none
pins_kept _ _ (skip {xs = xs} {ys = ds} d s) =
    skips Same (flat_map (λ (x : plain_def.Def). x.pins) xs) d.pins (flat_map (λ (e : Def). e.pins) ds) (pins_kept xs ds s)
pins_kept _ _ (keep {xs = xs} {ys = ds} x d r s) =
    let i = plain_is x d d.what refl r in
    both Same x.pins (flat_map (λ (y : plain_def.Def). y.pins) xs) d.pins (flat_map (λ (e : Def). e.pins) ds)
    (subst (λ ps. Sub Same ps d.pins) (sym i.pins) (all_same d.pins)) (pins_kept xs ds s)

signal_is : (k : What) → is_input_signal k ≡ true → k ≡ whats.Signal ways.Input
signal_is (whats.Signal ways.Input) h = refl
signal_is (whats.Signal ways.Output) h = absurd (cc)
signal_is (whats.Signal ways.Internal) h = absurd (cc)
signal_is whats.Power h = absurd (cc)
signal_is whats.Ground h = absurd (cc)
signal_is whats.Phia h = absurd (cc)
signal_is whats.Phib h = absurd (cc)
signal_is whats.Phic h = absurd (cc)
signal_is (whats.Constant c) h = absurd (cc)
signal_is whats.Register h = absurd (cc)
signal_is whats.Flag h = absurd (cc)
signal_is (whats.Port way) h = absurd (cc)
signal_is (whats.Function args body) h = absurd (cc)

-- ---- the rules

module _ (w : Program) (p : plain.Program) (expands : IsExpansion w p) where
  -- a definition as it is written
  pub def_at : (d : ℕ) (x : plain_def.Def) → IsAt p.defs d x
      → (y : Def) × IsAt w.defs (index (Kept plain_of) (plain_defs w) w.defs (defs_kept w) d) y × IsPlain x y
  def_at d x at =
      let (y, there, kept_it) = belongs (Kept plain_of) (plain_defs w) w.defs (defs_kept w) d x
      (subst (λ ds. IsAt ds d x) expands.defs at) in
      (y, there, plain_is x y y.what refl kept_it)

  -- a definition that isn't a function is one of the expansion
  pub made_at : (i : ℕ) (d : Def) (k : plain_what.What) → IsAt w.defs i d → d.what ≡ written k
      → (j : ℕ) × (x : plain_def.Def) × IsAt p.defs j x × IsPlain x d × (x.what ≡ k)
  made_at i d k at is =
      let (x, made, what) = plain_made d k is in
      let (j, there) = is_kept plain_of w.defs i d x at made in
      (j, x, subst (λ ds. IsAt ds j x) (sym expands.defs) there, plain_is x d d.what refl made, what)

  all_names : Sub Same (plain_naming.namings p) (namings w)
  all_names =
      let e : plain_naming.namings p ≡ plain_names_of (plain_defs w) ++ map process_naming w.processes =
      ap (λ ds. plain_names_of ds ++ map process_naming p.processes) expands.defs
      ∙ ap (λ qs. plain_names_of (plain_defs w) ++ map process_naming qs) expands.processes in
      subst (λ ns. Sub Same ns (namings w)) (sym e)
      (both Same (plain_names_of (plain_defs w)) (map process_naming w.processes) (names_of w.defs)
      (map process_naming w.processes) (names_kept (plain_defs w) w.defs (defs_kept w))
      (all_same (map process_naming w.processes)))

  abbrev name_index : ℕ → ℕ
  name_index k = index Same (plain_naming.namings p) (namings w) all_names k

  name_at : (k : ℕ) (n : Naming) → IsAt (plain_naming.namings p) k n → IsAt (namings w) (name_index k) n
  name_at k n at = let (m, there, same) = belongs Same (plain_naming.namings p) (namings w) all_names k n at in
      subst (λ l. IsAt (namings w) (name_index k) l) (sym same) there

  pub keeps20 : (at : Place) → plain_rules.E20 p at → rules.E20 w at
  keeps20 at (inl (k, n, is, place, inl reserved)) = inl (name_index k, n, name_at k n is, place, inl reserved)
  keeps20 at (inl (k, n, is, place, inr (j, m, other, differs, same, le))) =
      inl (
        name_index k,
        n,
        name_at k n is,
        place,
        inr (
          name_index j,
          m,
          name_at j m other,
          (λ e. differs (one_index Same (plain_naming.namings p) (namings w) all_names j k e)),
          same,
          le,
        ),
      )
  keeps20 at (inr (j, k, a, b, ja, kb, lt, supply, same, place)) =
      let (c, jc, ac) = def_at j a ja in
      let (d, kd, bd) = def_at k b kb in
      inr (
        _,
        _,
        c,
        d,
        jc,
        kd,
        rises (Kept plain_of) (plain_defs w) w.defs (defs_kept w) j k lt,
        sym (ap is_supply ac.what) ∙ supply_was a.what ∙ supply,
        sym ac.what ∙ ap written same ∙ bd.what,
        place ∙ bd.place,
      )

  all_pins : Sub Same (plain_rules.pins p) (rules.pins w)
  all_pins = subst (λ ds. Sub Same (flat_map (λ (x : plain_def.Def). x.pins) ds) (rules.pins w)) (sym expands.defs)
      (pins_kept (plain_defs w) w.defs (defs_kept w))

  pin_at : (k : ℕ) (n : Pin) → IsAt (plain_rules.pins p) k n
      → IsAt (rules.pins w) (index Same (plain_rules.pins p) (rules.pins w) all_pins k) n
  pin_at k n at = let (m, there, same) = belongs Same (plain_rules.pins p) (rules.pins w) all_pins k n at in
      subst (λ l. IsAt (rules.pins w) (index Same (plain_rules.pins p) (rules.pins w) all_pins k) l) (sym same) there

  pub keeps25 : (at : Place) → plain_rules.E25 p at → rules.E25 w at
  keeps25 at (j, k, a, b, ja, kb, lt, same, place) =
      (_, _, a, b, pin_at j a ja, pin_at k b kb, rises Same (plain_rules.pins p) (rules.pins w) all_pins j k lt, same, place)

  pub keeps26 : (at : Place) → plain_rules.E26 p at → rules.E26 w at
  keeps26 at (d, x, first, is, port, uneven, pin, place) =
      let (y, there, i) = def_at d x is in (
        _,
        y,
        first,
        there,
        elim port [
          | inl input ↦ inl (sym i.what ∙ ap written input)
          | inr output ↦ inr (sym i.what ∙ ap written output)
        ],
        (λ even. uneven (ap length i.pins ∙ even ∙ sym expands.width)),
        subst (λ ps. IsAt ps 0 first) i.pins pin,
        place,
      )

  pub keeps27 : (at : Place) → plain_rules.E27 p at → rules.E27 w at
  keeps27 at (f, y, x, v, d, z, form, set, def, name, unset) =
      let (c, there, i) = def_at d z def in
      let (u, value, is, was) = target_at w p expands f y x at v form set in
      (x, (f, u, value, is, was), (_, c, there, sym i.name ∙ name, sym (ap is_unset i.what) ∙ unset_was z.what ∙ unset))

  pub keeps34 : (at : Place) → plain_rules.E34 p at → rules.E34 w at
  keeps34 at (no_reset, what) = (never, stored what)
    where
      never : (i : ℕ) × (d : Def) × IsAt w.defs i d × (d.name ≡ codes "reset") × (is_input_signal d.what ≡ true) → ⊥
      never (i, d, is, name, signal) =
          let (j, x, there, plain_d, same) = made_at i d (plain_whats.Signal ways.Input) is (signal_is d.what signal) in
          let not_it = all_at (λ (y : plain_def.Def). plain_names.is_reset y ≡ false) p.defs j x no_reset there in
          let it : plain_names.is_reset x ≡ true =
          and_from (is_same x.name (codes "reset")) (plain_names.is_input_signal x.what)
          ((bytes_eq-Decides x.name (codes "reset")).1 (plain_d.name ∙ name)) (ap plain_names.is_input_signal same) in
          let bad : true ≡ false = sym it ∙ not_it in cc

      stored : ((d : ℕ) × (x : plain_def.Def) × IsAt p.defs d x × (plain_names.is_stored x.what ≡ true) × (at ≡ x.place))
          ⊎ ((k : ℕ) × (q : Process) × IsAt p.processes k q × (at ≡ q.place))
          → ((d : ℕ) × (x : Def) × IsAt w.defs d x × (is_stored x.what ≡ true) × (at ≡ x.place))
          ⊎ ((k : ℕ) × (q : Process) × IsAt w.processes k q × (at ≡ q.place))
      stored (inl (d, x, is, lasts, place)) =
          let (y, there, i) = def_at d x is in
          inl (_, y, there, sym (ap is_stored i.what) ∙ stored_was x.what ∙ lasts, place ∙ i.place)
      stored (inr (k, q, is, place)) = inr (k, q, subst (λ qs. IsAt qs k q) expands.processes is, place)

  pub keeps35 : (at : Place) → plain_rules.E35 p at → rules.E35 w at
  keeps35 at (k, c, no_def, place) = (
    written k,
    contains_map written plain_naming.supplies k c,
    all_from (λ (d : Def). d.what ≡ written k → ⊥) w.defs (λ i d is e.
        (let (j, x, there, plain_d, same) = made_at i d k is e in
        all_at (λ (y : plain_def.Def). y.what ≡ k → ⊥) p.defs j x no_def there same)),
    place ∙ expands.place,
  )

  pub keeps40 : (at : Place) → plain_rules.E40 p at → rules.E40 w at
  keeps40 at (k, n, is, over, place) =
      let less = fewer (λ (m : Naming). nat_le (m.place).offset (n.place).offset) (plain_naming.namings p) (namings w)
      all_names in
      (name_index k, n, name_at k n is, omega (arith, less, over), place)
