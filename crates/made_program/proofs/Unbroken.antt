-- A made program breaks no rule.
use Rattle.std.proofs.Common.{◌≡◌, ◌≢◌, ◌⊎◌, ℕ, zero, suc, ◌<◌, ◌≤◌, List, [], Bool, true, false, refl, sym, ◌∙◌, ap}
use Rattle.std.proofs.Common.{subst, inl, inr, length, arith, lit<}
use Rattle.std.specs.Prelude.{not, ◌&&◌, ◌||◌, ◌==◌, slice_index_or, nat_le, Some}
use Rattle.std.specs.List.{list_any, flat_map}
use Rattle.std.proofs.lemmas.Bool.{cases_lt, eq-eqb, eqb-true}
use Rattle.std.proofs.lemmas.Option.{none-some, same_Some}
use Rattle.std.proofs.lemmas.List.Sums.{count_by-le-length}
use Rattle.mp_base.specs.declared.refusal.Place.{Place}
use Rattle.mp_program.specs.declared.program.FormKind.{FormKind}
use Rattle.mp_program.specs.declared.program.FormKind.TheVariants.{Set, Cond, Par, Go, Call, Return}
use Rattle.mp_program.specs.declared.program.What.{What}
use Rattle.mp_program.specs.declared.program.What.TheVariants.{Power, Ground, Phia, Phib, Phic, Constant, Port}
use Rattle.mp_program.specs.declared.program.Way.TheVariants.{Input, Output}
use Rattle.mp_program.specs.declared.program.Pin.{Pin}
use Rattle.mp_program.specs.declared.program.Def.{Def}
use Rattle.mp_program.specs.declared.program.Expr.{Expr}
use Rattle.mp_program.specs.declared.program.Form.{Form}
use Rattle.mp_program.specs.declared.program.Process.{Process}
use Rattle.mp_program.specs.declared.program.Program.{Program}
use Rattle.mp_program.specs.Names.{is_same, is_supply, is_reset}
use Rattle.mp_program.proofs.Definitions.{same_is, is_same_of}
use Rattle.mp_base.specs.Entries.{IsAt}
use Rattle.mp_rules.specs.Naming.{Naming, namings, is_reserved, supplies}
use Rattle.mp_rules.specs.Rules.{pins, is_unset, namings_up_to, E20, E21, E22, E23, E24, E25, E26, E27, E28, E29, E30}
use Rattle.mp_rules.specs.Rules.{E31, E32, E33, E34, E35, E36, E40, E41, E42, E43, E44, E45}
use Rattle.mp_rules.specs.declared.limits.TheConstants.{PROCESS_LIMIT}
use Rattle.mp_rules.specs.Sorts.{Sort, IsWord, operand_sort, expr_sort, name_sort, IsWanted}
use Rattle.mp_rules.specs.Standing.{is_transfer}
use Rattle.mp_rules.specs.Breaking.{IsUnbroken}
use Rattle.made_program.specs.Made.{IsMade, defs_of}
use Rattle.made_program.proofs.Lists.{passes, passes_in, one_passes, apart, clash}
use Rattle.made_program.proofs.Tests.{named_of, namings_are, is_word, word_only, names_one, target_named}
use Rattle.made_program.proofs.Tests.{operands_are_words, is_no_number, is_no_bit, is_set, target_is_word}
use Rattle.made_program.proofs.Tests.{target_is_set}
use Rattle.made_program.proofs.Tests.{exprs_named, exprs_words, exprs_operands, exprs_numbers, exprs_bits, forms_set}
use Rattle.made_program.proofs.Tests.{forms_named, forms_words, forms_unset}
use Rattle.made_program.proofs.Reading.{no_chain}
use Rattle.made_program.proofs.Weighing.{is_light, expr_count}

-- ---- names

abbrev same_name : Naming → Naming → Bool
same_name a b = is_same a.name b.name

two_names : (p : Program) (m : IsMade p) (j k : ℕ) (a b : Naming) → IsAt (namings p) j a → IsAt (namings p) k b → j < k
    → a.name ≡ b.name → ⊥
two_names p m j k a b at_j at_k less same =
    let in_list : (i : ℕ) (n : Naming) → IsAt (namings p) i n → IsAt (named_of m.at) i n =
    λ i n h. subst (λ ns. IsAt ns i n) (namings_are p m) h in
    clash (is_same a.name b.name) (is_same_of a.name b.name same)
    (apart same_name (named_of m.at) j k a b refl less (in_list j a at_j) (in_list k b at_k))

-- a name that is used is one of the program's
used : (p : Program) (m : IsMade p) (x : List ℕ) → list_any (λ (n : Naming). is_same n.name x) (named_of m.at) ≡ true
    → ((k : ℕ) (n : Naming) → IsAt (namings p) k n → n.name ≢ x) → ⊥
used p m x any none =
    let r = one_passes (λ (n : Naming). is_same n.name x) (named_of m.at) any in
    none r.0 r.1 (subst (λ ns. IsAt ns r.0 r.1) (sym (namings_are p m)) r.2) (same_is (r.1).name x r.3)

-- which supply a definition is of
abbrev code : What → ℕ
code Power = 1
code Ground = 2
code Phia = 3
code Phib = 4
code Phic = 5
code _ = 0

abbrev same_supply : Def → Def → Bool
same_supply a b = is_supply a.what && (code a.what == code b.what)

no_E20 : (p : Program) (m : IsMade p) (at : Place) → E20 p at → ⊥
no_E20 p m at (inl (k, n, is, place, inl reserved)) =
    let ok = passes_in (λ (n : Naming). not (is_reserved n.name)) (namings p) (named_of m.at) k n
    (namings_are p m) refl is in
    clash (not (is_reserved n.name)) ok (ap not reserved)
no_E20 p m at (inl (k, n, is, place, inr (j, o, is_j, other, same, le))) = elim (cases_lt j k) [
  | inl less ↦ two_names p m j k o n is_j is less same
  | inr more ↦ elim (cases_lt k j) [
    | inl less ↦ two_names p m k j n o is is_j less (sym same)
    | inr least ↦ other (omega (arith, more, least))
  ]
]
no_E20 p m at (inr (j, k, a, b, is_a, is_b, less, supply, same, place)) =
    let in_list : (i : ℕ) (d : Def) → IsAt p.defs i d → IsAt (defs_of m.at) i d =
    λ i d h. subst (λ ds. IsAt ds i d) m.defs h in
    clash (same_supply a b)
    (ap (λ c. c && (code a.what == code b.what)) supply ∙ eq-eqb (code a.what) (code b.what) (ap code same))
    (apart same_supply (defs_of m.at) j k a b refl less (in_list j a is_a) (in_list k b is_b))

no_E21 : (p : Program) (m : IsMade p) (at : Place) → E21 p at → ⊥
no_E21 p m at (x, inl (e, y, is, named, place), none) =
    let ok = passes (λ (y : Expr). names_one (named_of m.at) y.kind) p.exprs e y (exprs_named p m) is in
    used p m x (sym (ap (names_one (named_of m.at)) named) ∙ ok) none
no_E21 p m at (x, inr (f, y, v, is, set), none) =
    let ok = passes (λ (y : Form). target_named (named_of m.at) y.kind) p.forms f y (forms_named p m) is in
    used p m x (sym (ap (target_named (named_of m.at)) set) ∙ ok) none

-- ---- words and bits

expr_is_word : (p : Program) (m : IsMade p) (e : ℕ) (x : Expr) (t : Sort) → IsAt p.exprs e x
    → expr_sort p.defs x.kind ≡ Some t → t ≡ IsWord
expr_is_word p m e x t is sort =
    let ok = passes (λ (x : Expr). is_word (expr_sort (defs_of m.at) x.kind)) p.exprs e x (exprs_words p m) is in
    same_Some t IsWord (sym sort ∙ ap (λ ds. expr_sort ds x.kind) m.defs
    ∙ word_only (expr_sort (defs_of m.at) x.kind) ok)

wanted_is_word : (p : Program) (m : IsMade p) (e : ℕ) (s : Sort) → IsWanted p e (Some s) → s ≡ IsWord
wanted_is_word p m e s (inl (i, x, op, k, args, is, apply, contains, same)) =
    let ok = passes (λ (x : Expr). operands_are_words x.kind) p.exprs i x (exprs_operands p m) is in
    same_Some s IsWord (same ∙ word_only (Some (operand_sort op)) (sym (ap operands_are_words apply) ∙ ok))
wanted_is_word p m e s (inr (inl (f, y, bs, is, branches, contains, same))) =
    clash (is_set y.kind) (passes (λ (y : Form). is_set y.kind) p.forms f y (forms_set p m) is) (ap is_set branches)
wanted_is_word p m e s (inr (inr (f, y, x, place, is, set, same))) =
    let ok = passes (λ (y : Form). target_is_word (defs_of m.at) y.kind) p.forms f y (forms_words p m) is in
    same_Some s IsWord (same ∙ ap (λ ds. name_sort ds x) m.defs
    ∙ word_only (name_sort (defs_of m.at) x) (sym (ap (target_is_word (defs_of m.at)) set) ∙ ok))

no_process : (p : Program) (m : IsMade p) (k : ℕ) (q : Process) → IsAt p.processes k q → ⊥
no_process p m k q is = none-some q (subst (λ qs. IsAt qs k q) m.processes is)

no_E22 : (p : Program) (m : IsMade p) (at : Place) → E22 p at → ⊥
no_E22 p m at (inl (e, x, s, t, is, wanted, sort, other, place)) =
    other (wanted_is_word p m e s wanted ∙ sym (expr_is_word p m e x t is sort))
no_E22 p m at (inr (k, q, is, uses)) = no_process p m k q is

abbrev is_constant : What → Bool
is_constant (Constant c) = true
is_constant _ = false

no_E23 : (p : Program) (m : IsMade p) (at : Place) → E23 p at → ⊥
no_E23 p m at (inl (d, x, c, is, constant, big, place)) =
    clash (not (is_constant x.what))
    (passes_in (λ (x : Def). not (is_constant x.what)) p.defs (defs_of m.at) d x m.defs refl is)
    (ap (λ w. not (is_constant w)) constant)
no_E23 p m at (inr (e, x, n, is, number, big, place)) =
    clash (is_no_number x.kind) (passes (λ (x : Expr). is_no_number x.kind) p.exprs e x (exprs_numbers p m) is)
    (ap is_no_number number)

no_E24 : (p : Program) (m : IsMade p) (at : Place) → E24 p at → ⊥
no_E24 p m at (e, x, k, args, is, bit, past, place) =
    clash (is_no_bit x.kind) (passes (λ (x : Expr). is_no_bit x.kind) p.exprs e x (exprs_bits p m) is)
    (ap is_no_bit bit)

-- ---- pins

abbrev same_pin : Pin → Pin → Bool
same_pin a b = a.number == b.number

no_E25 : (p : Program) (m : IsMade p) (at : Place) → E25 p at → ⊥
no_E25 p m at (j, k, a, b, is_a, is_b, less, same, place) =
    let all : pins p ≡ flat_map (λ (d : Def). d.pins) (defs_of m.at) = ap (flat_map (λ (d : Def). d.pins)) m.defs in
    let in_list : (i : ℕ) (n : Pin) → IsAt (pins p) i n → IsAt (flat_map (λ (d : Def). d.pins) (defs_of m.at)) i n =
    λ i n h. subst (λ ns. IsAt ns i n) all h in
    clash (same_pin a b) (eq-eqb a.number b.number same)
    (apart same_pin (flat_map (λ (d : Def). d.pins) (defs_of m.at)) j k a b refl less (in_list j a is_a)
    (in_list k b is_b))

abbrev is_port_pad : What → Bool
is_port_pad (Port Input) = true
is_port_pad (Port Output) = true
is_port_pad _ = false

port_pad : (w : What) → (w ≡ Port Input) ⊎ (w ≡ Port Output) → is_port_pad w ≡ true
port_pad w (inl h) = ap is_port_pad h
port_pad w (inr h) = ap is_port_pad h

no_E26 : (p : Program) (m : IsMade p) (at : Place) → E26 p at → ⊥
no_E26 p m at (d, x, first, is, port, other, first_is, place) =
    let ok = passes_in (λ (x : Def). not (is_port_pad x.what) || (length x.pins == 16)) p.defs
    (defs_of m.at) d x m.defs refl is in
    other (eqb-true (length x.pins) 16 (sym (ap (λ b. not b || (length x.pins == 16)) (port_pad x.what port)) ∙ ok)
    ∙ sym m.width)

no_E27 : (p : Program) (m : IsMade p) (at : Place) → E27 p at → ⊥
no_E27 p m at (f, y, x, v, d, z, is, set, is_d, name, unset) =
    let ok = passes (λ (y : Form). target_is_set (defs_of m.at) y.kind) p.forms f y (forms_unset p m) is in
    let all = sym (ap (target_is_set (defs_of m.at)) set) ∙ ok in
    clash (not (is_same z.name x && is_unset z.what))
    (passes_in (λ (z : Def). not (is_same z.name x && is_unset z.what)) p.defs (defs_of m.at) d z m.defs all is_d)
    (ap (λ b. not (b && is_unset z.what)) (is_same_of z.name x name) ∙ ap not unset)

-- ---- processes

no_E28 : (p : Program) (m : IsMade p) (at : Place) → E28 p at → ⊥
no_E28 p m at h = no_process p m h.0 h.1 h.5

no_E29 : (p : Program) (m : IsMade p) (at : Place) → E29 p at → ⊥
no_E29 p m at h = no_process p m h.0 h.1 h.6

set_goes_nowhere : (k : FormKind) → is_set k ≡ true → is_transfer k ≡ false
set_goes_nowhere (Set x at v) h = refl
set_goes_nowhere (Cond bs) h = refl
set_goes_nowhere (Par fs) h = refl
set_goes_nowhere (Go l) h = absurd (cc)
set_goes_nowhere (Call l) h = absurd (cc)
set_goes_nowhere Return h = absurd (cc)

no_E30 : (p : Program) (m : IsMade p) (at : Place) → E30 p at → ⊥
no_E30 p m at (f, y, stands, transfer, place) =
    clash (is_transfer y.kind) transfer
    (set_goes_nowhere y.kind (passes (λ (y : Form). is_set y.kind) p.forms f y (forms_set p m) stands.3))

no_E31 : (p : Program) (m : IsMade p) (at : Place) → E31 p at → ⊥
no_E31 p m at h = no_process p m h.0 h.1 h.4

no_E32 : (p : Program) (m : IsMade p) (at : Place) → E32 p at → ⊥
no_E32 p m at h = no_process p m h.0 h.1 h.5

no_E33 : (p : Program) (m : IsMade p) (at : Place) → E33 p at → ⊥
no_E33 p m at (f, y, x, set_at, v, d, z, is, set, is_d, name, chain, place) = no_chain p m d d chain

no_def : (at : ℕ → Place) → Def
no_def at = record { place = at 0; name = []; what = Power; pins = [] }

no_E34 : (p : Program) (m : IsMade p) (at : Place) → E34 p at → ⊥
no_E34 p m at (none, stored) =
    let all = subst (λ (ds : List Def). (k : ℕ) (d : Def) → k < length ds
    → is_reset (slice_index_or ds k d) ≡ false) m.defs none in
    let h : true ≡ false = all 5 (no_def m.at) (lit< tt) in
    cc

-- ---- supplies

supply_at : (at : ℕ → Place) (k : ℕ) → k < 5 → (d : Def) (w : What) → (slice_index_or (defs_of at) k d).what
    ≡ slice_index_or supplies k w
supply_at at zero h d w = refl
supply_at at (suc zero) h d w = refl
supply_at at (suc (suc zero)) h d w = refl
supply_at at (suc (suc (suc zero))) h d w = refl
supply_at at (suc (suc (suc (suc zero)))) h d w = refl
supply_at at (suc (suc (suc (suc (suc k))))) h d w = absurd (omega (arith, h))

no_E35 : (p : Program) (m : IsMade p) (at : Place) → E35 p at → ⊥
no_E35 p m at (w, (k, less, is), none, place) =
    let d : Def = no_def m.at in
    let long : k < length p.defs = omega (arith, less, ap length m.defs) in
    none k d long (ap (λ (ds : List Def). (slice_index_or ds k d).what) m.defs ∙ supply_at m.at k less d w ∙ is)

no_E36 : (p : Program) (m : IsMade p) (at : Place) → E36 p at → ⊥
no_E36 p m at h = no_process p m h.0 h.1 h.2

-- ---- limits

no_E40 : (p : Program) (m : IsMade p) (at : Place) → E40 p at → ⊥
no_E40 p m at (k, n, is, many, place) =
    let few : namings_up_to p n.place ≤ length (namings p) =
    count_by-le-length (λ (o : Naming). nat_le (o.place).offset (n.place).offset) (namings p) in
    let long : length (namings p) ≡ 16 = ap length (namings_are p m) in
    absurd (omega (arith, many, few, long))

no_E41 : (p : Program) (m : IsMade p) (at : Place) → E41 p at → ⊥
no_E41 p m at (q, is, place) = no_process p m PROCESS_LIMIT q is

no_E42 : (p : Program) (m : IsMade p) (at : Place) → E42 p at → ⊥
no_E42 p m at h = no_process p m h.0 h.1 h.4

no_E43 : (p : Program) (m : IsMade p) (at : Place) → E43 p at → ⊥
no_E43 p m at h = no_process p m h.0 h.1 h.2

no_E44 : (p : Program) (m : IsMade p) (at : Place) → E44 p at → ⊥
no_E44 p m at (heavy, place) = let light = is_light p m in absurd (omega (arith, heavy, light))

no_E45 : (p : Program) (m : IsMade p) (at : Place) → E45 p at → ⊥
no_E45 p m at (many, place) = let few = expr_count p m in absurd (omega (arith, many, few))

-- ---- all rules

pub made_is_unbroken : (p : Program) → IsMade p → IsUnbroken p
made_is_unbroken p m k at (inl h) = no_E20 p m at h.1
made_is_unbroken p m k at (inr (inl h)) = no_E21 p m at h.1
made_is_unbroken p m k at (inr (inr (inl h))) = no_E22 p m at h.1
made_is_unbroken p m k at (inr (inr (inr (inl h)))) = no_E23 p m at h.1
made_is_unbroken p m k at (inr (inr (inr (inr (inl h))))) = no_E24 p m at h.1
made_is_unbroken p m k at (inr (inr (inr (inr (inr (inl h)))))) = no_E25 p m at h.1
made_is_unbroken p m k at (inr (inr (inr (inr (inr (inr (inl h))))))) = no_E26 p m at h.1
made_is_unbroken p m k at (inr (inr (inr (inr (inr (inr (inr (inl h)))))))) = no_E27 p m at h.1
made_is_unbroken p m k at (inr (inr (inr (inr (inr (inr (inr (inr (inl h))))))))) = no_E28 p m at h.1
made_is_unbroken p m k at (inr (inr (inr (inr (inr (inr (inr (inr (inr (inl h)))))))))) = no_E29 p m at h.1
made_is_unbroken p m k at (inr (inr (inr (inr (inr (inr (inr (inr (inr (inr (inl h))))))))))) = no_E30 p m at h.1
made_is_unbroken p m k at (inr (inr (inr (inr (inr (inr (inr (inr (inr (inr (inr (inl h)))))))))))) = no_E31 p m at h.1
made_is_unbroken p m k at (inr (inr (inr (inr (inr (inr (inr (inr (inr (inr (inr (inr (inl h))))))))))))) =
    no_E32 p m at h.1
made_is_unbroken p m k at (inr (inr (inr (inr (inr (inr (inr (inr (inr (inr (inr (inr (inr (inl h)))))))))))))) =
    no_E33 p m at h.1
made_is_unbroken p m k at (inr (inr (inr (inr (inr (inr (inr (inr (inr (inr (inr (inr (inr (inr (inl h))))))))))))))) =
    no_E34 p m at h.1
made_is_unbroken p m k at
    (inr (inr (inr (inr (inr (inr (inr (inr (inr (inr (inr (inr (inr (inr (inr (inl h)))))))))))))))) =
    no_E35 p m at h.1
made_is_unbroken p m k at
    (inr (inr (inr (inr (inr (inr (inr (inr (inr (inr (inr (inr (inr (inr (inr (inr (inl h))))))))))))))))) =
    no_E36 p m at h.1
made_is_unbroken p m k at
    (inr (inr (inr (inr (inr (inr (inr (inr (inr (inr (inr (inr (inr (inr (inr (inr (inr (inl h)))))))))))))))))) =
    no_E40 p m at h.1
made_is_unbroken p m k at
    (inr (inr (inr (inr (inr
    (inr (inr (inr (inr (inr (inr (inr (inr (inr (inr (inr (inr (inr (inl h))))))))))))))))))) = no_E41 p m at h.1
made_is_unbroken p m k at
    (inr (inr (inr (inr (inr
    (inr (inr (inr (inr (inr (inr (inr (inr (inr (inr (inr (inr (inr (inr (inl h)))))))))))))))))))) = no_E42 p m at h.1
made_is_unbroken p m k at
    (inr (inr (inr (inr (inr
    (inr (inr (inr (inr (inr (inr (inr (inr (inr (inr (inr (inr (inr (inr (inr (inl h))))))))))))))))))))) =
    no_E43 p m at h.1
made_is_unbroken p m k at
    (inr (inr (inr (inr (inr
    (inr (inr (inr (inr (inr (inr (inr (inr (inr (inr (inr (inr (inr (inr (inr (inr (inl h)))))))))))))))))))))) =
    no_E44 p m at h.1
made_is_unbroken p m k at
    (inr (inr (inr (inr (inr
    (inr (inr (inr (inr (inr (inr (inr (inr (inr (inr (inr (inr (inr (inr (inr (inr (inr h)))))))))))))))))))))) =
    no_E45 p m at h.1
