-- What definitions are of one kind and another, for all crates above.
use Rattle.std.specs.List.{list_all}
use Rattle.std.proofs.Common.{◌≡◌, true, length, refl}
use Rattle.std.proofs.lemmas.Bool.{and_parts}
use Rattle.std.specs.Prelude.{nat_le, ◌&&◌, nat_lt}
use Rattle.mp_program.specs.declared.program.Program.{Program}
use Rattle.mp_program.specs.Fits.{def_fits, is_symbol, exprs_fit, forms_fit, process_fits}
use Rattle.mp_program.specs.declared.program.What.{What}
use Rattle.mp_program.specs.Names.{is_input_signal, is_input}
use Rattle.mp_program.specs.declared.program.What.TheVariants as whats
use Rattle.mp_program.specs.declared.program.Way.TheVariants as ways

pub defs_fit : (p : Program) → list_all def_fits p.defs ≡ true
defs_fit p =
    let e = length p.exprs in
    let n = length p.forms in
    let t0 =
    and_parts
    (nat_le 1 p.width && nat_le p.width 64 && is_symbol p.name && list_all def_fits p.defs && exprs_fit e 0 p.exprs
    && forms_fit e n 0 p.forms && list_all (λ f. nat_lt f n) p.always) (list_all (process_fits n) p.processes) p.fits in
    let t1 =
    and_parts
    (nat_le 1 p.width && nat_le p.width 64 && is_symbol p.name && list_all def_fits p.defs && exprs_fit e 0 p.exprs
    && forms_fit e n 0 p.forms) (list_all (λ f. nat_lt f n) p.always) t0.0 in
    let t2 =
    and_parts
    (nat_le 1 p.width && nat_le p.width 64 && is_symbol p.name && list_all def_fits p.defs && exprs_fit e 0 p.exprs)
    (forms_fit e n 0 p.forms) t1.0 in
    let t3 =
    and_parts (nat_le 1 p.width && nat_le p.width 64 && is_symbol p.name && list_all def_fits p.defs)
    (exprs_fit e 0 p.exprs) t2.0 in
    (and_parts (nat_le 1 p.width && nat_le p.width 64 && is_symbol p.name) (list_all def_fits p.defs) t3.0).1

pub input_signal : (w : What) → is_input_signal w ≡ true → is_input w ≡ true
input_signal whats.Power h = absurd (cc)
input_signal whats.Ground h = absurd (cc)
input_signal whats.Phia h = absurd (cc)
input_signal whats.Phib h = absurd (cc)
input_signal whats.Phic h = absurd (cc)
input_signal (whats.Constant c) h = absurd (cc)
input_signal whats.Register h = absurd (cc)
input_signal whats.Flag h = absurd (cc)
input_signal (whats.Port way) h = absurd (cc)
input_signal (whats.Signal ways.Input) h = refl
input_signal (whats.Signal ways.Output) h = absurd (cc)
input_signal (whats.Signal ways.Internal) h = absurd (cc)
