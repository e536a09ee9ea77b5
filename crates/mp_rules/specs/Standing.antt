-- Which forms stand in which, and the transfers among them.
use Rattle.std.specs.Prelude.{◌≡◌, ℕ, ◌<◌, List, [], ◌∷◌, Bool, true, false, Option, Some, None, map, Contains}
use Rattle.mp_program.specs.declared.program.FormKind.{FormKind}
use Rattle.mp_program.specs.declared.program.FormKind.TheVariants.{Cond, Par, Go, Call, Return}
use Rattle.mp_program.specs.declared.program.Branch.{Branch}
use Rattle.mp_program.specs.declared.program.Form.{Form}
use Rattle.mp_program.specs.declared.program.Program.{Program}
use Rattle.mp_program.specs.Weight.{inner}
use Rattle.mp_base.specs.Entries.{IsAt}

-- form g is form f, or stands in it
pub data Under (p : Program) : ℕ → ℕ → Type 0 where
  itself : {f : ℕ} → Under p f f
  deeper : {f g h : ℕ} → (y : Form) → IsAt p.forms f y → Contains (inner y.kind) g → Under p g h → Under p f h

-- form f, which is y, stands in one of these forms or is one
abbrev pub StandsIn : Program → List ℕ → ℕ → Form → Type 0
StandsIn p forms f y = (r : ℕ) × Contains forms r × Under p r f × IsAt p.forms f y

-- `go`, `call` or `return`
abbrev pub is_transfer : FormKind → Bool
is_transfer (Go l) = true
is_transfer (Call l) = true
is_transfer Return = true
is_transfer _ = false

abbrev pub uses_stack : FormKind → Bool
uses_stack (Call l) = true
uses_stack Return = true
uses_stack _ = false

-- the label that a `go` or `call` names
abbrev pub label_of : FormKind → Option (List ℕ)
label_of (Go l) = Some l
label_of (Call l) = Some l
label_of _ = None

-- the lists of forms in a form that are active together: those of a `par`, and those of each branch of a `cond`
abbrev pub sequences : FormKind → List (List ℕ)
sequences (Par forms) = forms ∷ []
sequences (Cond branches) = map (λ (b : Branch). b.body) branches
sequences _ = []

-- the form b, which is z, is a transfer that stands in form f behind another that isn't in another branch of one and
-- the same `cond`: a sequence has them in two of its forms
abbrev pub IsLater : Program → ℕ → ℕ → Form → Type 0
IsLater p f b z = (c : ℕ) × (y x : Form) × (forms : List ℕ) × (i j a g h : ℕ) × Under p f c × IsAt p.forms c y
    × Contains (sequences y.kind) forms
    × IsAt forms i g × IsAt forms j h × (i < j) × Under p g a × Under p h b × IsAt p.forms a x × IsAt p.forms b z
    × (is_transfer x.kind ≡ true) × (is_transfer z.kind ≡ true)
