-- A program as it is written and its frame break most rules at the same places.
use Rattle.std.proofs.Common.{◌≡◌, ◌∙◌, ◌⊎◌, inl, inr, ℕ, zero, suc, List, [], ◌∷◌, ◌++◌, refl, sym, ap, subst, length}
use Rattle.std.proofs.Common.{true, false, arith, map, cond}
use Rattle.std.specs.Prelude.{◌↔◌, ◌<◌, not, filter, Contains, codes, nat_le, count_by}
use Rattle.std.specs.List.{flat_map}
use Rattle.std.proofs.lemmas.Slice.Eq.{bytes_eq-Decides}
use Rattle.std.proofs.lemmas.Bool.{and_parts, and_from}
use Rattle.mp_base.specs.declared.refusal.Place.{Place}
use Rattle.mp_base.specs.declared.op.Op.TheVariants.{Bit}
use Rattle.mp_base.specs.Entries.{IsAt}
use Rattle.mp_base.proofs.Entries.{get_map, map_get, all_at, all_from}
use Rattle.mp_base.proofs.Induction.{by_test}
use Rattle.mp_base.proofs.Numbers.{power_positive}
use Rattle.mp_program.specs.Names as plain_names
use Rattle.mp_program.specs.Names.{is_same}
use Rattle.mp_program.specs.declared.program.Form.{Form}
use Rattle.mp_program.specs.declared.program.Way.TheVariants as ways
use Rattle.mp_program.specs.declared.program.What as plain_what
use Rattle.mp_program.specs.declared.program.What.TheVariants as plain_whats
use Rattle.mp_program.specs.declared.program.ExprKind.TheVariants as plains
use Rattle.mp_program.specs.declared.program.Def as plain_def
use Rattle.mp_program.specs.declared.program.Program as plain
use Rattle.mp_rules.specs.Naming as plain_naming
use Rattle.mp_rules.specs.Standing as plain_standing
use Rattle.mp_rules.specs.Rules as plain_rules
use Rattle.mp_rules.specs.declared.limits.TheConstants.{NAMING_LIMIT}
use Rattle.mp_written.specs.declared.program.ExprKind.{ExprKind}
use Rattle.mp_written.specs.declared.program.ExprKind.TheVariants.{Number, Named, True, False, Apply, Use}
use Rattle.mp_written.specs.declared.program.What.{What}
use Rattle.mp_written.specs.declared.program.What.TheVariants as whats
use Rattle.mp_written.specs.declared.program.Def.{Def}
use Rattle.mp_written.specs.declared.program.Program.{Program}
use Rattle.mp_written.specs.Kinds.{is_supply, is_function, is_stored, is_unset, is_input_signal}
use Rattle.written_rules.specs.Naming.{namings, def_naming}
use Rattle.written_rules.specs.Standing as standing
use Rattle.written_rules.specs.Rules as rules
use Rattle.written_frame.specs.Frame.{frame_kind, frame_expr, frame_what, frame_def, IsFrame}
use Rattle.written_frame.specs.SameRules.{HaveSameRules}
use Rattle.written_frame.proofs.Frames.{frame, frame_is, one_frame, supply_same}
use Rattle.written_frame.proofs.SameReads.{e33_back, e33_there}

-- ---- what definitions are

-- what a definition of the frame was, but for functions
abbrev written : plain_what.What → What
written plain_whats.Power = whats.Power
written plain_whats.Ground = whats.Ground
written plain_whats.Phia = whats.Phia
written plain_whats.Phib = whats.Phib
written plain_whats.Phic = whats.Phic
written (plain_whats.Constant c) = whats.Constant c
written plain_whats.Register = whats.Register
written plain_whats.Flag = whats.Flag
written (plain_whats.Port way) = whats.Port way
written (plain_whats.Signal way) = whats.Signal way

-- a function is a constant 0, and all else is as it was
function_or_same : (k : What) → (frame_what k ≡ plain_whats.Constant 0) ⊎ (written (frame_what k) ≡ k)
function_or_same whats.Power = inr refl
function_or_same whats.Ground = inr refl
function_or_same whats.Phia = inr refl
function_or_same whats.Phib = inr refl
function_or_same whats.Phic = inr refl
function_or_same (whats.Constant c) = inr refl
function_or_same whats.Register = inr refl
function_or_same whats.Flag = inr refl
function_or_same (whats.Port way) = inr refl
function_or_same (whats.Signal way) = inr refl
function_or_same (whats.Function args body) = inl refl

-- what is no constant is as it was
same_what : (k l : What) → (frame_what k ≡ plain_whats.Constant 0 → ⊥) → written (frame_what l) ≡ l
    → frame_what k ≡ frame_what l → k ≡ l
same_what k l other as_was e = elim (function_or_same k) [
  | inl constant ↦ absurd (other constant)
  | inr same ↦ sym same ∙ ap written e ∙ as_was
]

constant_back : (k : What) (c : ℕ) → frame_what k ≡ plain_whats.Constant c → (c ≡ 0) ⊎ (k ≡ whats.Constant c)
constant_back k c e = elim (function_or_same k) [
  | inl constant ↦ inl (let same : plain_whats.Constant c ≡ plain_whats.Constant 0 = sym e ∙ constant in cc)
  | inr same ↦ inr (sym same ∙ ap written e)
]

stored_same : (k : What) → plain_names.is_stored (frame_what k) ≡ is_stored k
stored_same whats.Power = refl
stored_same whats.Ground = refl
stored_same whats.Phia = refl
stored_same whats.Phib = refl
stored_same whats.Phic = refl
stored_same (whats.Constant c) = refl
stored_same whats.Register = refl
stored_same whats.Flag = refl
stored_same (whats.Port way) = refl
stored_same (whats.Signal way) = refl
stored_same (whats.Function args body) = refl

input_signal_same : (k : What) → plain_names.is_input_signal (frame_what k) ≡ is_input_signal k
input_signal_same whats.Power = refl
input_signal_same whats.Ground = refl
input_signal_same whats.Phia = refl
input_signal_same whats.Phib = refl
input_signal_same whats.Phic = refl
input_signal_same (whats.Constant c) = refl
input_signal_same whats.Register = refl
input_signal_same whats.Flag = refl
input_signal_same (whats.Port way) = refl
input_signal_same (whats.Signal ways.Input) = refl
input_signal_same (whats.Signal ways.Output) = refl
input_signal_same (whats.Signal ways.Internal) = refl
input_signal_same (whats.Function args body) = refl

-- nothing sets a function, in the frame
unset_same : (k : What) → plain_rules.is_unset (frame_what k) ≡ true → (is_unset k ≡ true) ⊎ (is_function k ≡ true)
unset_same (whats.Constant c) h = inl refl
unset_same (whats.Port ways.Input) h = inl refl
unset_same (whats.Port ways.Output) h = inl h
unset_same (whats.Port ways.Internal) h = inl h
unset_same (whats.Signal ways.Input) h = inl refl
unset_same (whats.Signal ways.Output) h = inl h
unset_same (whats.Signal ways.Internal) h = inl h
unset_same (whats.Function args body) h = inr refl
unset_same whats.Power h = inl h
unset_same whats.Ground h = inl h
unset_same whats.Phia h = inl h
unset_same whats.Phib h = inl h
unset_same whats.Phic h = inl h
unset_same whats.Register h = inl h
unset_same whats.Flag h = inl h

unset_frame : (k : What) → is_unset k ≡ true → plain_rules.is_unset (frame_what k) ≡ true
unset_frame (whats.Constant c) h = refl
unset_frame (whats.Port ways.Input) h = refl
unset_frame (whats.Port ways.Output) h = h
unset_frame (whats.Port ways.Internal) h = h
unset_frame (whats.Signal ways.Input) h = refl
unset_frame (whats.Signal ways.Output) h = h
unset_frame (whats.Signal ways.Internal) h = h
unset_frame (whats.Function args body) h = refl
unset_frame whats.Power h = h
unset_frame whats.Ground h = h
unset_frame whats.Phia h = h
unset_frame whats.Phib h = h
unset_frame whats.Phic h = h
unset_frame whats.Register h = h
unset_frame whats.Flag h = h

-- ---- what expressions are

number_back : (k : ExprKind) (n : ℕ) → frame_kind k ≡ plains.Number n → k ≡ Number n
number_back (Number m) n e = let same : m ≡ n = cc in ap Number same
number_back (Named x) n e = absurd (cc)
number_back True n e = absurd (cc)
number_back False n e = absurd (cc)
number_back (Apply op k os) n e = absurd (cc)
number_back (Use at x os) n e = absurd (cc)

bit_back : (k : ExprKind) (j : ℕ) (args : List ℕ) → frame_kind k ≡ plains.Apply Bit j args → k ≡ Apply Bit j args
bit_back (Number m) j args e = absurd (cc)
bit_back (Named x) j args e = absurd (cc)
bit_back True j args e = absurd (cc)
bit_back False j args e = absurd (cc)
bit_back (Apply op k os) j args e =
    let o : op ≡ Bit = cc in let i : k ≡ j = cc in let l : os ≡ args = cc in
    ap (λ p. Apply p k os) o ∙ ap (λ n. Apply Bit n os) i ∙ ap (λ ys. Apply Bit j ys) l
bit_back (Use at x os) j args e = absurd (cc)

-- ---- names and pins

def_names : (ds : List Def) → map plain_naming.def_naming (filter (λ (d : plain_def.Def). not (plain_names.is_supply d.what))
    (map frame_def ds)) ≡ map def_naming (filter (λ (d : Def). not (is_supply d.what)) ds)
def_names [] = refl
def_names (d ∷ ds) =
    let rest = filter (λ (x : plain_def.Def). not (plain_names.is_supply x.what)) (map frame_def ds) in
    let more = filter (λ (x : Def). not (is_supply x.what)) ds in
    ap (λ b. map plain_naming.def_naming (cond (not b) (frame_def d ∷ rest) rest)) (supply_same d.what)
    ∙ by_test (is_supply d.what)
    (λ yes. ap (λ b. map plain_naming.def_naming (cond (not b) (frame_def d ∷ rest) rest)) yes ∙ def_names ds
    ∙ sym (ap (λ b. map def_naming (cond (not b) (d ∷ more) more)) yes))
    (λ no. ap (λ b. map plain_naming.def_naming (cond (not b) (frame_def d ∷ rest) rest)) no
    ∙ ap (λ ys. def_naming d ∷ ys) (def_names ds)
    ∙ sym (ap (λ b. map def_naming (cond (not b) (d ∷ more) more)) no))

pub namings_same : (w : Program) → plain_naming.namings (frame w) ≡ namings w
namings_same w = ap (λ ns. ns ++ map plain_naming.process_naming w.processes) (def_names w.defs)

all_pins : (ds : List Def) → flat_map (λ (d : plain_def.Def). d.pins) (map frame_def ds) ≡ flat_map (λ (d : Def). d.pins) ds
all_pins [] = refl
all_pins (d ∷ ds) = ap (λ ps. d.pins ++ ps) (all_pins ds)

-- ---- what stands in what

module _ (w : Program) where
  under_back : {f g : ℕ} → plain_standing.Under (frame w) f g → standing.Under w.forms f g
  under_back plain_standing.itself = standing.itself
  under_back (plain_standing.deeper y at in_it below) = standing.deeper y at in_it (under_back below)

  under_there : {f g : ℕ} → standing.Under w.forms f g → plain_standing.Under (frame w) f g
  under_there standing.itself = plain_standing.itself
  under_there (standing.deeper y at in_it below) = plain_standing.deeper y at in_it (under_there below)

  stands_back : (fs : List ℕ) (f : ℕ) (y : Form) → plain_standing.StandsIn (frame w) fs f y → standing.StandsIn w fs f y
  stands_back fs f y (r, c, under, at) = (r, c, under_back under, at)

  stands_there : (fs : List ℕ) (f : ℕ) (y : Form) → standing.StandsIn w fs f y → plain_standing.StandsIn (frame w) fs f y
  stands_there fs f y (r, c, under, at) = (r, c, under_there under, at)

  later_back : (f b : ℕ) (z : Form) → plain_standing.IsLater (frame w) f b z → standing.IsLater w f b z
  later_back f b z (c, y, x, fs, i, j, a, g, h, uc, at, s, ag, ah, lt, ua, ub, ax, bz, tx, tz) =
      (c, y, x, fs, i, j, a, g, h, under_back uc, at, s, ag, ah, lt, under_back ua, under_back ub, ax, bz, tx, tz)

  later_there : (f b : ℕ) (z : Form) → standing.IsLater w f b z → plain_standing.IsLater (frame w) f b z
  later_there f b z (c, y, x, fs, i, j, a, g, h, uc, at, s, ag, ah, lt, ua, ub, ax, bz, tx, tz) =
      (c, y, x, fs, i, j, a, g, h, under_there uc, at, s, ag, ah, lt, under_there ua, under_there ub, ax, bz, tx, tz)

  -- ---- the rules

  supply_back : (a b : What) → plain_names.is_supply (frame_what a) ≡ true → frame_what a ≡ frame_what b → a ≡ b
  supply_back a b supply e = elim (function_or_same b) [
    | inl constant ↦ absurd (let bad : plain_names.is_supply (plain_whats.Constant 0) ≡ true =
        subst (λ k. plain_names.is_supply k ≡ true) (e ∙ constant) supply in cc)
    | inr same ↦ same_what a b (λ constant.
        (let bad : plain_names.is_supply (plain_whats.Constant 0) ≡ true =
        subst (λ k. plain_names.is_supply k ≡ true) constant supply in cc)) same e
  ]

  e20 : (at : Place) → plain_rules.E20 (frame w) at ↔ rules.E20 w at
  e20 at = (back, there)
    where
      names : plain_naming.namings (frame w) ≡ namings w
      names = namings_same w

      back : plain_rules.E20 (frame w) at → rules.E20 w at
      back (inl (k, n, is, place, inl reserved)) = inl (k, n, subst (λ ns. IsAt ns k n) names is, place, inl reserved)
      back (inl (k, n, is, place, inr (j, m, other, differs, same, le))) =
          inl (
            k,
            n,
            subst (λ ns. IsAt ns k n) names is,
            place,
            inr (j, m, subst (λ ns. IsAt ns j m) names other, differs, same, le),
          )
      back (inr (j, k, a, b, ja, kb, lt, supply, same, place)) =
          let (c, jc, ca) = get_map frame_def w.defs j a ja in
          let (d, kd, db) = get_map frame_def w.defs k b kb in
          let first : plain_names.is_supply (frame_what c.what) ≡ true =
          ap (λ (z : plain_def.Def). plain_names.is_supply z.what) ca ∙ supply in
          let what : frame_what c.what ≡ frame_what d.what =
          ap (λ (z : plain_def.Def). z.what) ca ∙ same ∙ sym (ap (λ (z : plain_def.Def). z.what) db) in
          inr (
            j,
            k,
            c,
            d,
            jc,
            kd,
            lt,
            sym (supply_same c.what) ∙ first,
            supply_back c.what d.what first what,
            place ∙ sym (ap (λ (z : plain_def.Def). z.place) db),
          )

      there : rules.E20 w at → plain_rules.E20 (frame w) at
      there (inl (k, n, is, place, inl reserved)) = inl (k, n, subst (λ ns. IsAt ns k n) (sym names) is, place, inl reserved)
      there (inl (k, n, is, place, inr (j, m, other, differs, same, le))) =
          inl (
            k,
            n,
            subst (λ ns. IsAt ns k n) (sym names) is,
            place,
            inr (j, m, subst (λ ns. IsAt ns j m) (sym names) other, differs, same, le),
          )
      there (inr (j, k, a, b, ja, kb, lt, supply, same, place)) =
          inr (
            j,
            k,
            frame_def a,
            frame_def b,
            map_get frame_def w.defs j a ja,
            map_get frame_def w.defs k b kb,
            lt,
            supply_same a.what ∙ supply,
            ap frame_what same,
            place,
          )

  e23 : (at : Place) → plain_rules.E23 (frame w) at ↔ rules.E23 w at
  e23 at = (back, there)
    where
      back : plain_rules.E23 (frame w) at → rules.E23 w at
      back (inl (d, x, c, is, what, wide, place)) =
          let (y, dy, yx) = get_map frame_def w.defs d x is in
          elim (constant_back y.what c (ap (λ (z : plain_def.Def). z.what) yx ∙ what)) [
            | inl none ↦ absurd (let p = power_positive w.width in omega (arith, none, wide, p))
            | inr same ↦ inl (d, y, c, dy, same, wide, place ∙ sym (ap (λ (z : plain_def.Def). z.place) yx))
          ]
      back (inr (e, x, n, is, kind, wide, place)) =
          let (y, ey, yx) = get_map frame_expr w.exprs e x is in
          inr (e, y, n, ey, number_back y.kind n (ap (λ z. z.kind) yx ∙ kind), wide, place ∙ sym (ap (λ z. z.place) yx))

      there : rules.E23 w at → plain_rules.E23 (frame w) at
      there (inl (d, x, c, is, what, wide, place)) =
          inl (d, frame_def x, c, map_get frame_def w.defs d x is, ap frame_what what, wide, place)
      there (inr (e, x, n, is, kind, wide, place)) =
          inr (e, frame_expr x, n, map_get frame_expr w.exprs e x is, ap frame_kind kind, wide, place)

  e24 : (at : Place) → plain_rules.E24 (frame w) at ↔ rules.E24 w at
  e24 at = (back, there)
    where
      back : plain_rules.E24 (frame w) at → rules.E24 w at
      back (e, x, k, args, is, kind, past, place) =
          let (y, ey, yx) = get_map frame_expr w.exprs e x is in (
            e,
            y,
            k,
            args,
            ey,
            bit_back y.kind k args (ap (λ z. z.kind) yx ∙ kind),
            past,
            place ∙ sym (ap (λ z. z.place) yx),
          )

      there : rules.E24 w at → plain_rules.E24 (frame w) at
      there (e, x, k, args, is, kind, past, place) =
          (e, frame_expr x, k, args, map_get frame_expr w.exprs e x is, ap frame_kind kind, past, place)

  e25 : (at : Place) → plain_rules.E25 (frame w) at ↔ rules.E25 w at
  e25 at = (back, there)
    where
      pins : plain_rules.pins (frame w) ≡ rules.pins w
      pins = all_pins w.defs

      back : plain_rules.E25 (frame w) at → rules.E25 w at
      back (j, k, a, b, ja, kb, lt, same, place) =
          (j, k, a, b, subst (λ ps. IsAt ps j a) pins ja, subst (λ ps. IsAt ps k b) pins kb, lt, same, place)

      there : rules.E25 w at → plain_rules.E25 (frame w) at
      there (j, k, a, b, ja, kb, lt, same, place) =
          (j, k, a, b, subst (λ ps. IsAt ps j a) (sym pins) ja, subst (λ ps. IsAt ps k b) (sym pins) kb, lt, same, place)

  e26 : (at : Place) → plain_rules.E26 (frame w) at ↔ rules.E26 w at
  e26 at = (back, there)
    where
      back : plain_rules.E26 (frame w) at → rules.E26 w at
      back (d, x, first, is, port, uneven, pin, place) =
          let (y, dy, yx) = get_map frame_def w.defs d x is in
          let same : frame_what y.what ≡ x.what = ap (λ (z : plain_def.Def). z.what) yx in
          let pins = ap (λ (z : plain_def.Def). z.pins) yx in (
            d,
            y,
            first,
            dy,
            elim port [
              | inl input ↦ inl (same_what y.what (whats.Port ways.Input)
                  (λ constant. (let bad : plain_whats.Port ways.Input ≡ plain_whats.Constant 0 =
                  sym (same ∙ input) ∙ constant in cc)) refl (same ∙ input))
              | inr output ↦ inr (same_what y.what (whats.Port ways.Output)
                  (λ constant. (let bad : plain_whats.Port ways.Output ≡ plain_whats.Constant 0 =
                  sym (same ∙ output) ∙ constant in cc)) refl (same ∙ output))
            ],
            (λ even. uneven (sym (ap length pins) ∙ even)),
            subst (λ ps. IsAt ps 0 first) (sym pins) pin,
            place,
          )

      there : rules.E26 w at → plain_rules.E26 (frame w) at
      there (d, x, first, is, inl input, uneven, pin, place) =
          (d, frame_def x, first, map_get frame_def w.defs d x is, inl (ap frame_what input), uneven, pin, place)
      there (d, x, first, is, inr output, uneven, pin, place) =
          (d, frame_def x, first, map_get frame_def w.defs d x is, inr (ap frame_what output), uneven, pin, place)

  e27 : (at : Place) → plain_rules.E27 (frame w) at → rules.E27 w at ⊎ rules.E22 w at
  e27 at (f, y, x, v, d, z, is, set, def, name, unset) =
      let (c, dc, cz) = get_map frame_def w.defs d z def in
      let same : frame_what c.what ≡ z.what = ap (λ (u : plain_def.Def). u.what) cz in
      let named : c.name ≡ x = ap (λ (u : plain_def.Def). u.name) cz ∙ name in
      elim (unset_same c.what (ap plain_rules.is_unset same ∙ unset)) [
        | inl input ↦ inl (x, (f, y, v, is, set), (d, c, dc, named, input))
        | inr function ↦ inr (inr (inr (x, (f, y, v, is, set), inl (d, c, dc, named, function))))
      ]

  e27_frame : (at : Place) → rules.E27 w at → plain_rules.E27 (frame w) at
  e27_frame at (x, (f, y, v, is, set), (d, c, def, named, unset)) =
      (f, y, x, v, d, frame_def c, is, set, map_get frame_def w.defs d c def, named, unset_frame c.what unset)

  e28 : (at : Place) → plain_rules.E28 (frame w) at ↔ rules.E28 w at
  e28 at = (
    (λ (k, q, f, y, l, is, stands, label, unknown, place).
        (k, q, f, y, l, is, stands_back q.forms f y stands, label, unknown, place)),
    (λ (k, q, f, y, l, is, stands, label, unknown, place).
        (k, q, f, y, l, is, stands_there q.forms f y stands, label, unknown, place)),
  )

  e30 : (at : Place) → plain_rules.E30 (frame w) at ↔ rules.E30 w at
  e30 at = (
    (λ (f, y, stands, transfer, place). (f, y, stands_back w.always f y stands, transfer, place)),
    (λ (f, y, stands, transfer, place). (f, y, stands_there w.always f y stands, transfer, place)),
  )

  e31 : (at : Place) → plain_rules.E31 (frame w) at ↔ rules.E31 w at
  e31 at = (
    (λ (k, q, f, y, is, none, stands, stack, place). (k, q, f, y, is, none, stands_back q.forms f y stands, stack, place)),
    (λ (k, q, f, y, is, none, stands, stack, place). (k, q, f, y, is, none, stands_there q.forms f y stands, stack, place)),
  )

  e32 : (at : Place) → plain_rules.E32 (frame w) at ↔ rules.E32 w at
  e32 at = (
    (λ (k, q, r, f, y, is, c, later, place). (k, q, r, f, y, is, c, later_back r f y later, place)),
    (λ (k, q, r, f, y, is, c, later, place). (k, q, r, f, y, is, c, later_there r f y later, place)),
  )

  e34 : (at : Place) → plain_rules.E34 (frame w) at ↔ rules.E34 w at
  e34 at = (back, there)
    where
      back : plain_rules.E34 (frame w) at → rules.E34 w at
      back (none, what) = (no_reset, stored what)
        where
          no_reset : (d : ℕ) × (y : Def) × IsAt w.defs d y × (y.name ≡ codes "reset") × (is_input_signal y.what ≡ true) → ⊥
          no_reset (d, y, is, name, signal) =
              let not_it = all_at (λ (x : plain_def.Def). plain_names.is_reset x ≡ false) (map frame_def w.defs) d (frame_def y)
              none (map_get frame_def w.defs d y is) in
              let it : plain_names.is_reset (frame_def y) ≡ true =
              and_from (is_same y.name (codes "reset")) (plain_names.is_input_signal (frame_what y.what))
              ((bytes_eq-Decides y.name (codes "reset")).1 name) (input_signal_same y.what ∙ signal) in
              let bad : true ≡ false = sym it ∙ not_it in cc

          stored : ((d : ℕ) × (x : plain_def.Def) × IsAt (map frame_def w.defs) d x × (plain_names.is_stored x.what ≡ true)
              × (at ≡ x.place)) ⊎ ((k : ℕ) × (q : _) × IsAt w.processes k q × (at ≡ q.place))
              → ((d : ℕ) × (x : Def) × IsAt w.defs d x × (is_stored x.what ≡ true) × (at ≡ x.place))
              ⊎ ((k : ℕ) × (q : _) × IsAt w.processes k q × (at ≡ q.place))
          stored (inl (d, x, is, kept, place)) =
              let (y, dy, yx) = get_map frame_def w.defs d x is in
              inl (
                d,
                y,
                dy,
                sym (stored_same y.what) ∙ ap (λ (z : plain_def.Def). plain_names.is_stored z.what) yx ∙ kept,
                place ∙ sym (ap (λ (z : plain_def.Def). z.place) yx),
              )
          stored (inr process) = inr process

      there : rules.E34 w at → plain_rules.E34 (frame w) at
      there (none, what) = (
        all_from (λ (x : plain_def.Def). plain_names.is_reset x ≡ false) (map frame_def w.defs) no_reset,
        stored what,
      )
        where
          no_reset : (d : ℕ) (x : plain_def.Def) → IsAt (map frame_def w.defs) d x → plain_names.is_reset x ≡ false
          no_reset d x is =
              let (y, dy, yx) = get_map frame_def w.defs d x is in
              by_test (plain_names.is_reset x)
              (λ yes. (let two = and_parts (is_same y.name (codes "reset")) (plain_names.is_input_signal (frame_what y.what))
              (ap plain_names.is_reset yx ∙ yes) in
              absurd (none (
                d,
                y,
                dy,
                (bytes_eq-Decides y.name (codes "reset")).0 two.0,
                sym (input_signal_same y.what) ∙ two.1,
              ))))
              (λ no. no)

          stored : ((d : ℕ) × (x : Def) × IsAt w.defs d x × (is_stored x.what ≡ true) × (at ≡ x.place))
              ⊎ ((k : ℕ) × (q : _) × IsAt w.processes k q × (at ≡ q.place))
              → ((d : ℕ) × (x : plain_def.Def) × IsAt (map frame_def w.defs) d x × (plain_names.is_stored x.what ≡ true)
              × (at ≡ x.place)) ⊎ ((k : ℕ) × (q : _) × IsAt w.processes k q × (at ≡ q.place))
          stored (inl (d, x, is, kept, place)) =
              inl (d, frame_def x, map_get frame_def w.defs d x is, stored_same x.what ∙ kept, place)
          stored (inr process) = inr process

  e35 : (at : Place) → plain_rules.E35 (frame w) at ↔ rules.E35 w at
  e35 at = (back, there)
    where
      is_supply_of : (k : plain_what.What) → Contains plain_naming.supplies k
          → (what : What) × Contains rules.supplies what × (frame_what what ≡ k)
      is_supply_of k (zero, lt, is) = (whats.Power, (0, omega arith, refl), is)
      is_supply_of k (suc zero, lt, is) = (whats.Ground, (1, omega arith, refl), is)
      is_supply_of k (suc (suc zero), lt, is) = (whats.Phia, (2, omega arith, refl), is)
      is_supply_of k (suc (suc (suc zero)), lt, is) = (whats.Phib, (3, omega arith, refl), is)
      is_supply_of k (suc (suc (suc (suc zero))), lt, is) = (whats.Phic, (4, omega arith, refl), is)
      is_supply_of k (suc (suc (suc (suc (suc i)))), lt, is) = absurd (omega (arith, lt))

      is_frame_of : (what : What) → Contains rules.supplies what
          → Contains plain_naming.supplies (frame_what what) × (plain_names.is_supply (frame_what what) ≡ true)
      is_frame_of what (zero, lt, is) = ((0, omega arith, ap frame_what is), sym (ap (λ k. plain_names.is_supply (frame_what k)) is))
      is_frame_of what (suc zero, lt, is) =
          ((1, omega arith, ap frame_what is), sym (ap (λ k. plain_names.is_supply (frame_what k)) is))
      is_frame_of what (suc (suc zero), lt, is) =
          ((2, omega arith, ap frame_what is), sym (ap (λ k. plain_names.is_supply (frame_what k)) is))
      is_frame_of what (suc (suc (suc zero)), lt, is) =
          ((3, omega arith, ap frame_what is), sym (ap (λ k. plain_names.is_supply (frame_what k)) is))
      is_frame_of what (suc (suc (suc (suc zero))), lt, is) =
          ((4, omega arith, ap frame_what is), sym (ap (λ k. plain_names.is_supply (frame_what k)) is))
      is_frame_of what (suc (suc (suc (suc (suc i)))), lt, is) = absurd (omega (arith, lt))

      back : plain_rules.E35 (frame w) at → rules.E35 w at
      back (k, c, none, place) =
          let (what, in_them, same) = is_supply_of k c in (
            what,
            in_them,
            all_from (λ (d : Def). d.what ≡ what → ⊥) w.defs (λ i d is e.
                all_at (λ (d : plain_def.Def). d.what ≡ k → ⊥) (map frame_def w.defs) i (frame_def d) none
                (map_get frame_def w.defs i d is) (ap frame_what e ∙ same)),
            place,
          )

      there : rules.E35 w at → plain_rules.E35 (frame w) at
      there (what, c, none, place) =
          let (in_them, supply) = is_frame_of what c in (
            frame_what what,
            in_them,
            all_from (λ (d : plain_def.Def). d.what ≡ frame_what what → ⊥) (map frame_def w.defs)
                (λ i x is e. (let (y, iy, yx) = get_map frame_def w.defs i x is in
                all_at (λ (d : Def). d.what ≡ what → ⊥) w.defs i y none iy
                (sym (supply_back what y.what supply (sym (ap (λ (z : plain_def.Def). z.what) yx ∙ e)))))),
            place,
          )

  e40 : (at : Place) → plain_rules.E40 (frame w) at ↔ rules.E40 w at
  e40 at = (
    (λ (k, n, is, over, place). (
      k,
      n,
      subst (λ ns. IsAt ns k n) (namings_same w) is,
      subst (λ ns. NAMING_LIMIT < count_by (λ (m : plain_naming.Naming). nat_le (m.place).offset (n.place).offset) ns)
          (namings_same w) over,
      place,
    )),
    (λ (k, n, is, over, place). (
      k,
      n,
      subst (λ ns. IsAt ns k n) (sym (namings_same w)) is,
      subst (λ ns. NAMING_LIMIT < count_by (λ (m : plain_naming.Naming). nat_le (m.place).offset (n.place).offset) ns)
          (sym (namings_same w)) over,
      place,
    )),
  )

  have_same : HaveSameRules w (frame w)
  have_same = record {
    e20 = e20;
    e23 = e23;
    e24 = e24;
    e25 = e25;
    e26 = e26;
    e27 = e27;
    e27_frame = e27_frame;
    e28 = e28;
    e29 = λ at. (λ h. h, λ h. h);
    e30 = e30;
    e31 = e31;
    e32 = e32;
    e33 = λ at. (e33_back w (frame w) (frame_is w) at, e33_there w (frame w) (frame_is w) at);
    e34 = e34;
    e35 = e35;
    e36 = λ at. (λ h. h, λ h. h);
    e40 = e40;
    e41 = λ at. (λ h. h, λ h. h);
    e42 = λ at. (λ h. h, λ h. h);
    e43 = λ at. (λ h. h, λ h. h);
  }

pub same_rules : (w : Program) (s : plain.Program) → IsFrame w s → HaveSameRules w s
same_rules w s f = subst (HaveSameRules w) (sym (one_frame w s f)) (have_same w)
