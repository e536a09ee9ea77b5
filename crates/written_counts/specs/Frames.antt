-- What a program weighs beside its expressions.
use Rattle.std.specs.Prelude.{ℕ, ◌+◌}
use Rattle.std.specs.List.{sum_by}
use Rattle.mp_program.specs.declared.program.Def.{Def}
use Rattle.mp_program.specs.declared.program.Form.{Form}
use Rattle.mp_program.specs.declared.program.Program.{Program}
use Rattle.mp_program.specs.Weight.{def_weight, sets_of, form_weight, process_weight}

-- definitions, forms and processes
abbrev pub weight_beside : Program → ℕ
weight_beside p =
    sum_by (λ (d : Def). def_weight d.what (sets_of p d.name)) p.defs
    + sum_by (λ (f : Form). form_weight f.kind) p.forms
    + sum_by (process_weight p) p.processes
