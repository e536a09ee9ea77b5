-- A program that breaks no rule has pads.
use Rattle.std.proofs.Common.{◌≡◌, ◌≤◌, Bool, List, map, inl, refl, arith}
use Rattle.std.specs.Prelude.{filter}
use Rattle.std.proofs.lemmas.Simd.{map-map}
use Rattle.mp_base.specs.declared.refusal.Place.{Place}
use Rattle.mp_base.specs.declared.pad.Pad.{Pad}
use Rattle.mp_base.specs.declared.pad.Pads.{Pads}
use Rattle.mp_program.specs.declared.program.Def.{Def}
use Rattle.mp_program.specs.declared.program.Program.{Program}
use Rattle.mp_program.specs.declared.program.What.{What}
use Rattle.mp_program.specs.declared.program.What.TheVariants.{Port}
use Rattle.mp_program.specs.Names.{is_input, is_output}
use Rattle.mp_program.specs.Pads.{ArePadsOf, face, pad_width}
use Rattle.mp_rules.specs.Breaking.{IsUnbroken}
use Rattle.mp_rules.specs.Rules.{E20}
use Rattle.mp_rules.proofs.Own.{own}
use Rattle.mp_checker.proofs.Padded.{faces, pad_names, width_fits}

module _ (p : Program) where
  narrow : (what : What) → pad_width p.width what ≤ 64
  narrow (Port way) = let fits = width_fits p in omega (arith, fits)
  narrow _ = omega arith

  abbrev pad_of : Def → Pad
  pad_of d = record { name = d.name; width = pad_width p.width d.what; narrow = narrow d.what }

  abbrev pads_for : (What → Bool) → List Pad
  pads_for kind = map pad_of (filter (λ (x : Def). kind x.what) p.defs)

  faces_for : (kind : What → Bool) → map face (pads_for kind) ≡ faces kind p.width p.defs
  faces_for kind = map-map face pad_of (filter (λ (x : Def). kind x.what) p.defs)

  pub some_pads : IsUnbroken p → (pads : Pads) × ArePadsOf p pads
  some_pads unbroken =
      let kept : (at : Place) → E20 p at → ⊥ = λ at e. unbroken 20 at (inl (refl, e)) in (
        record {
          inputs = pads_for is_input;
          outputs = pads_for is_output;
          named = pad_names p (own p kept) kept (pads_for is_input) (pads_for is_output) (faces_for is_input)
              (faces_for is_output);
        },
        record { inputs = faces_for is_input; outputs = faces_for is_output },
      )
