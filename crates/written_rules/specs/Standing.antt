-- Which forms of a program as it is written stand in which, and the transfers among them.
use Rattle.std.specs.Prelude.{◌≡◌, ℕ, ◌<◌, List, true, Contains}
use Rattle.mp_base.specs.Entries.{IsAt}
use Rattle.mp_program.specs.Tree.{inner}
use Rattle.mp_program.specs.declared.program.Form.{Form}
use Rattle.mp_rules.specs.Standing.{is_transfer, sequences}
use Rattle.mp_written.specs.declared.program.Program.{Program}

-- form g is form f, or stands in it
pub data Under (forms : List Form) : ℕ → ℕ → Type 0 where
  itself : {f : ℕ} → Under forms f f
  deeper : {f g h : ℕ} → (y : Form) → IsAt forms f y → Contains (inner y.kind) g → Under forms g h → Under forms f h

-- form f, which is y, stands in one of these forms or is one
abbrev pub StandsIn : Program → List ℕ → ℕ → Form → Type 0
StandsIn w forms f y = (r : ℕ) × Contains forms r × Under w.forms r f × IsAt w.forms f y

-- the form b, which is z, is a transfer that stands in form f behind another that isn't in another branch of one and
-- the same `cond`: a sequence has them in two of its forms
abbrev pub IsLater : Program → ℕ → ℕ → Form → Type 0
IsLater w f b z = (c : ℕ) × (y x : Form) × (forms : List ℕ) × (i j a g h : ℕ) × Under w.forms f c × IsAt w.forms c y
    × Contains (sequences y.kind) forms
    × IsAt forms i g × IsAt forms j h × (i < j) × Under w.forms g a × Under w.forms h b × IsAt w.forms a x
    × IsAt w.forms b z × (is_transfer x.kind ≡ true) × (is_transfer z.kind ≡ true)
