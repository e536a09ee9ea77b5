-- The values of definitions of each kind.
use Rattle.std.proofs.Common.{◌≡◌, ℕ, ◌≤◌, List, true, false, refl, sym, ◌∙◌, ap, get_or, length, map}
use Rattle.std.specs.Prelude.{slice_index}
use Rattle.std.proofs.lemmas.List.{get_or-map}
use Rattle.mp_base.proofs.Induction.{by_test}
use Rattle.mp_program.specs.declared.program.What.{What}
use Rattle.mp_program.specs.declared.program.What.TheVariants.{Power, Ground, Phia, Phib, Phic, Constant, Register}
use Rattle.mp_program.specs.declared.program.What.TheVariants.{Flag, Port, Signal}
use Rattle.mp_program.specs.declared.program.Way.TheVariants.{Input, Output, Internal}
use Rattle.mp_program.specs.declared.program.Def.{Def}
use Rattle.mp_program.specs.declared.program.Program.{Program}
use Rattle.mp_program.specs.Names.{is_driven, is_input, is_stored, pad_number}
use Rattle.mp_program.specs.State.{State}
use Rattle.mp_program.specs.Environment.{what_value, IsEnvironment}
use Rattle.mp_base.proofs.Entries.{read_of}
use Rattle.form_effects.specs.Linked.{indices_where}
use Rattle.program_clock.specs.Settled.{HasInputs, HasStored, LeavesOthers, IsSteady, IsGiven}
use Rattle.program_clock.proofs.Placing.{WrittenTo, written_all}

what_value-input : (w : What) (s g d : ℕ) → is_input w ≡ true → what_value w s g d ≡ g
what_value-input Power s g d h = absurd (cc)
what_value-input Ground s g d h = absurd (cc)
what_value-input Phia s g d h = absurd (cc)
what_value-input Phib s g d h = absurd (cc)
what_value-input Phic s g d h = absurd (cc)
what_value-input (Constant n) s g d h = absurd (cc)
what_value-input Register s g d h = absurd (cc)
what_value-input Flag s g d h = absurd (cc)
what_value-input (Port Input) s g d h = refl
what_value-input (Port Output) s g d h = absurd (cc)
what_value-input (Port Internal) s g d h = absurd (cc)
what_value-input (Signal Input) s g d h = refl
what_value-input (Signal Output) s g d h = absurd (cc)
what_value-input (Signal Internal) s g d h = absurd (cc)

what_value-stored : (w : What) (s g d : ℕ) → is_stored w ≡ true → what_value w s g d ≡ s
what_value-stored Power s g d h = absurd (cc)
what_value-stored Ground s g d h = absurd (cc)
what_value-stored Phia s g d h = absurd (cc)
what_value-stored Phib s g d h = absurd (cc)
what_value-stored Phic s g d h = absurd (cc)
what_value-stored (Constant n) s g d h = absurd (cc)
what_value-stored Register s g d h = refl
what_value-stored Flag s g d h = refl
what_value-stored (Port Input) s g d h = absurd (cc)
what_value-stored (Port Output) s g d h = absurd (cc)
what_value-stored (Port Internal) s g d h = absurd (cc)
what_value-stored (Signal Input) s g d h = absurd (cc)
what_value-stored (Signal Output) s g d h = absurd (cc)
what_value-stored (Signal Internal) s g d h = absurd (cc)

what_value-fixed : (w : What) (s g d : ℕ) → is_driven w ≡ false → is_input w ≡ false → is_stored w ≡ false
    → what_value w s g d ≡ what_value w 0 0 0
what_value-fixed Power s g d a b c = refl
what_value-fixed Ground s g d a b c = refl
what_value-fixed Phia s g d a b c = refl
what_value-fixed Phib s g d a b c = refl
what_value-fixed Phic s g d a b c = refl
what_value-fixed (Constant n) s g d a b c = refl
what_value-fixed Register s g d a b c = absurd (cc)
what_value-fixed Flag s g d a b c = absurd (cc)
what_value-fixed (Port Input) s g d a b c = absurd (cc)
what_value-fixed (Port Output) s g d a b c = absurd (cc)
what_value-fixed (Port Internal) s g d a b c = absurd (cc)
what_value-fixed (Signal Input) s g d a b c = absurd (cc)
what_value-fixed (Signal Output) s g d a b c = absurd (cc)
what_value-fixed (Signal Internal) s g d a b c = absurd (cc)

-- inputs, what is stored, and what never changes: all that is not driven
pub given_all : (defs : List Def) (stored inputs before between after : List ℕ) → IsSteady defs before
    → HasInputs defs inputs between → LeavesOthers is_input defs before between
    → HasStored defs stored after → LeavesOthers is_stored defs between after
    → IsGiven defs stored inputs after
given_all defs stored inputs before between after steady taken left held kept d x at still =
    let s : ℕ = get_or stored d 0 in
    let g : ℕ = get_or inputs (pad_number defs d) 0 in
    by_test (is_stored x.what)
    (λ here. held d x at here ∙ sym (what_value-stored x.what s g 0 here))
    (λ other. kept d x at other ∙ by_test (is_input x.what)
    (λ here. taken d x at here ∙ sym (what_value-input x.what s g 0 here))
    (λ none. left d x at none ∙ steady d x at still none other
    ∙ sym (what_value-fixed x.what s g 0 still none other)))

-- an environment has the values that never change
pub steady_env : (p : Program) (st : State) (inputs env : List ℕ) → IsEnvironment p st inputs env → IsSteady p.defs env
steady_env p st inputs env is d x at still none other =
    is.values d x at ∙ what_value-fixed x.what _ _ _ still none other

-- what is written of the kinds alone is steady
pub steady_fixed : (defs : List Def) (env : List ℕ) → env ≡ map (λ (x : Def). what_value x.what 0 0 0) defs
    → IsSteady defs env
steady_fixed defs env made d x at still none other = let (lt, is) = read_of defs d x at in
    ap (λ zs. get_or zs d 0) made ∙ get_or-map (λ (y : Def). what_value y.what 0 0 0) defs d x 0 lt
    ∙ ap (λ (y : Def). what_value y.what 0 0 0) (sym is)

pub has_inputs : (defs : List Def) (list inputs old now : List ℕ) (k : ℕ) → list ≡ indices_where is_input defs
    → length list ≤ k → WrittenTo is_input defs now old (slice_index inputs) k → HasInputs defs inputs now
has_inputs defs list inputs old now k are over so_far d x at test =
    let w = written_all is_input defs old (slice_index inputs) list now k are over so_far d x at test in
    w.3 ∙ ap (slice_index inputs) (sym w.2)

-- what is stored for the definition at an index of those that are stored
abbrev pub stored_value : List Def → List ℕ → ℕ → ℕ
stored_value defs stored j = slice_index stored (get_or (indices_where is_stored defs) j 0)

pub has_stored : (defs : List Def) (list stored old now : List ℕ) (k : ℕ) → list ≡ indices_where is_stored defs
    → length list ≤ k → WrittenTo is_stored defs now old (stored_value defs stored) k → HasStored defs stored now
has_stored defs list stored old now k are over so_far d x at test =
    let w = written_all is_stored defs old (stored_value defs stored) list now k are over so_far d x at test in
    w.3 ∙ ap (slice_index stored) w.1
