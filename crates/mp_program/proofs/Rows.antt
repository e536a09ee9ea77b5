-- Small programs by hand: the definitions give what they should.
use Rattle.std.proofs.Common.{◌≡◌, ℕ, zero, suc, List, [], ◌∷◌, ◌++◌, ◌+◌, refl, length}
use Rattle.std.specs.Prelude.{replicate, codes}
use Rattle.mp_base.specs.declared.refusal.Place.{Place}
use Rattle.mp_base.specs.declared.op.Op.TheVariants.{Not}
use Rattle.mp_program.specs.declared.program.ExprKind.{ExprKind}
use Rattle.mp_program.specs.declared.program.ExprKind.TheVariants.{Number, Named, True, Apply}
use Rattle.mp_program.specs.declared.program.FormKind.{FormKind}
use Rattle.mp_program.specs.declared.program.FormKind.TheVariants.{Set, Cond, Par, Call, Return}
use Rattle.mp_program.specs.declared.program.What.{What}
use Rattle.mp_program.specs.declared.program.What.TheVariants.{Power, Ground, Phia, Phib, Phic, Register, Port, Signal}
use Rattle.mp_program.specs.declared.program.Way.TheVariants.{Input, Output}
use Rattle.mp_program.specs.declared.program.Def.{Def}
use Rattle.mp_program.specs.declared.program.Expr.{Expr}
use Rattle.mp_program.specs.declared.program.Form.{Form}
use Rattle.mp_program.specs.declared.program.Program.{Program}
use Rattle.mp_program.specs.Pads.{input_pads, output_pads}
use Rattle.mp_program.specs.State.{State, zero_state}
use Rattle.mp_program.specs.Environment.{def_value}
use Rattle.mp_program.specs.Step.{next_state, outputs_of}
use Rattle.mp_program.specs.Weight.{weight}

abbrev nowhere : Place
nowhere = record { offset = 0; line = 1; column = 1 }

abbrev def : List ℕ → What → Def
def x w = record { place = nowhere; name = x; what = w; pins = [] }

abbrev expr : ExprKind → Expr
expr k = record { place = nowhere; kind = k }

abbrev form : FormKind → Form
form k = record { place = nowhere; kind = k }

abbrev supplies : List Def
supplies = def [] Power ∷ def [] Ground ∷ def [] Phia ∷ def [] Phib ∷ def [] Phic ∷ []

abbrev def_values : Program → State → List ℕ → List ℕ → ℕ → List Def → List ℕ
def_values p st inputs env d [] = []
def_values p st inputs env d (x ∷ xs) = def_value p st inputs env d x ∷ def_values p st inputs env (d + 1) xs

-- rounds of the equations, from all values 0
abbrev rounds : ℕ → Program → State → List ℕ → List ℕ
rounds zero p st inputs = replicate (length p.defs) 0
rounds (suc n) p st inputs = def_values p st inputs (rounds n p st inputs) 0 p.defs

-- the outputs, where the environment is reached in four rounds
abbrev outputs_from : Program → State → List (List ℕ) → List (List ℕ)
outputs_from p st [] = []
outputs_from p st (i ∷ is) =
    outputs_of p.defs (rounds 4 p st i) ∷ outputs_from p (next_state p st i (rounds 4 p st i)) is

-- y is not a
abbrev inverter : Program
inverter = record {
  place = nowhere;
  name = codes "inverter";
  width = 1;
  defs = supplies ++ def (codes "a") (Signal Input) ∷ def (codes "y") (Signal Output) ∷ [];
  exprs = expr (Apply Not 0 (1 ∷ [])) ∷ expr (Named (codes "a")) ∷ [];
  forms = form (Set (codes "y") nowhere 0) ∷ [];
  always = 0 ∷ [];
  processes = [];
  fits = refl;
  tree = refl;
}

inverter_outputs : outputs_from inverter (zero_state inverter) ((0 ∷ []) ∷ (1 ∷ []) ∷ []) ≡ (1 ∷ []) ∷ (0 ∷ []) ∷ []
inverter_outputs = refl

inverter_inputs : input_pads inverter ≡ (codes "a", 0) ∷ []
inverter_inputs = refl

inverter_weight : weight inverter ≡ 10
inverter_weight = refl

-- two processes write 5 and 10 to r in each clock
abbrev two_writers : Program
two_writers = record {
  place = nowhere;
  name = codes "x";
  width = 4;
  defs = supplies ++ def (codes "reset") (Signal Input) ∷ def (codes "r") Register ∷ def (codes "q") (Port Output) ∷ [];
  exprs = expr (Named (codes "r")) ∷ expr (Number 5) ∷ expr (Number 10) ∷ [];
  forms = form (Set (codes "q") nowhere 0) ∷ form (Set (codes "r") nowhere 1) ∷ form (Set (codes "r") nowhere 2) ∷ [];
  always = 0 ∷ [];
  processes = record { place = nowhere; name = codes "p"; depth = 0; depth_at = nowhere; labels = []; forms = 1 ∷ [] }
      ∷ record { place = nowhere; name = codes "s"; depth = 0; depth_at = nowhere; labels = []; forms = 2 ∷ [] } ∷ [];
  fits = refl;
  tree = refl;
}

two_writers_pads : output_pads two_writers ≡ (codes "q", 4) ∷ []
two_writers_pads = refl

two_writers_outputs : outputs_from two_writers (zero_state two_writers) ((1 ∷ []) ∷ (0 ∷ []) ∷ (0 ∷ []) ∷ [])
    ≡ (0 ∷ []) ∷ (0 ∷ []) ∷ (15 ∷ []) ∷ []
two_writers_outputs = refl

-- (process p 1 (par (setq q 0) (call f)) (setq q 1) f (par (setq q 2) (call g)) (par (setq q 3) (return)) g (par (setq
-- q 4) (return)))
abbrev nested_calls : Program
nested_calls = record {
  place = nowhere;
  name = codes "x";
  width = 3;
  defs = supplies ++ def (codes "reset") (Signal Input) ∷ def (codes "q") (Port Output) ∷ [];
  exprs = expr (Number 0) ∷ expr (Number 1) ∷ expr (Number 2) ∷ expr (Number 3) ∷ expr (Number 4) ∷ [];
  forms = form (Par (1 ∷ 2 ∷ [])) ∷ form (Set (codes "q") nowhere 0) ∷ form (Call (codes "f"))
      ∷ form (Set (codes "q") nowhere 1)
      ∷ form (Par (5 ∷ 6 ∷ [])) ∷ form (Set (codes "q") nowhere 2) ∷ form (Call (codes "g"))
      ∷ form (Par (8 ∷ 9 ∷ [])) ∷ form (Set (codes "q") nowhere 3) ∷ form Return
      ∷ form (Par (11 ∷ 12 ∷ [])) ∷ form (Set (codes "q") nowhere 4) ∷ form Return ∷ [];
  always = [];
  processes = record {
    place = nowhere;
    name = codes "p";
    depth = 1;
    depth_at = nowhere;
    labels = record { place = nowhere; name = codes "f"; before = 2 }
        ∷ record { place = nowhere; name = codes "g"; before = 4 } ∷ [];
    forms = 0 ∷ 3 ∷ 4 ∷ 7 ∷ 10 ∷ [];
  } ∷ [];
  fits = refl;
  tree = refl;
}

-- the stack has one place, so the return from f goes to place 0
nested_calls_outputs : outputs_from nested_calls (zero_state nested_calls)
    ((1 ∷ []) ∷ (0 ∷ []) ∷ (0 ∷ []) ∷ (0 ∷ []) ∷ (0 ∷ []) ∷ (0 ∷ []) ∷ [])
    ≡ (0 ∷ []) ∷ (0 ∷ []) ∷ (2 ∷ []) ∷ (4 ∷ []) ∷ (3 ∷ []) ∷ (0 ∷ []) ∷ []
nested_calls_outputs = refl

-- (always (setq p n) (cond (e (setq q 5) (setq n 3)) (t (setq q 1))))
abbrev guarded : Program
guarded = record {
  place = nowhere;
  name = codes "x";
  width = 4;
  defs = supplies ++ def (codes "reset") (Signal Input) ∷ def (codes "e") (Signal Input) ∷ def (codes "n") Register
      ∷ def (codes "q") (Port Output) ∷ def (codes "p") (Port Output) ∷ [];
  exprs = expr (Named (codes "n")) ∷ expr (Named (codes "e")) ∷ expr (Number 5) ∷ expr (Number 3) ∷ expr True
      ∷ expr (Number 1) ∷ [];
  forms = form (Set (codes "p") nowhere 0)
      ∷ form (Cond (record { guard = 1; body = 2 ∷ 3 ∷ [] } ∷ record { guard = 4; body = 4 ∷ [] } ∷ []))
      ∷ form (Set (codes "q") nowhere 2) ∷ form (Set (codes "n") nowhere 3) ∷ form (Set (codes "q") nowhere 5) ∷ [];
  always = 0 ∷ 1 ∷ [];
  processes = [];
  fits = refl;
  tree = refl;
}

-- n is read as it was, and keeps what was written to it
guarded_outputs : outputs_from guarded (zero_state guarded)
    ((1 ∷ 0 ∷ []) ∷ (0 ∷ 1 ∷ []) ∷ (0 ∷ 0 ∷ []) ∷ (1 ∷ 0 ∷ []) ∷ (0 ∷ 0 ∷ []) ∷ [])
    ≡ (1 ∷ 0 ∷ []) ∷ (5 ∷ 0 ∷ []) ∷ (1 ∷ 3 ∷ []) ∷ (1 ∷ 3 ∷ []) ∷ (1 ∷ 0 ∷ []) ∷ []
guarded_outputs = refl
