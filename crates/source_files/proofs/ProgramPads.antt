-- A program that breaks no rule has at most 256 inputs and at most 256 outputs.
use Rattle.std.proofs.Common.{◌≡◌, ◌≤◌, List, [], ◌∷◌, Bool, true, false, cond, refl, ap, inl, inr, length}
use Rattle.std.proofs.Common.{map, arith}
use Rattle.std.specs.Prelude.{not, filter}
use Rattle.std.proofs.lemmas.List.{length-map, length-append}
use Rattle.mp_base.specs.declared.refusal.Place.{Place}
use Rattle.mp_base.specs.declared.pad.Pads.{Pads}
use Rattle.mp_program.specs.declared.program.Def.{Def}
use Rattle.mp_program.specs.declared.program.Program.{Program}
use Rattle.mp_program.specs.declared.program.What.{What}
use Rattle.mp_program.specs.declared.program.What.TheVariants.{Power, Ground, Phia, Phib, Phic, Constant, Register}
use Rattle.mp_program.specs.declared.program.What.TheVariants.{Flag, Port, Signal}
use Rattle.mp_program.specs.Names.{is_input, is_output, is_supply}
use Rattle.mp_program.specs.Pads.{ArePadsOf, Face, face, pad_width}
use Rattle.mp_rules.specs.Naming.{namings, def_naming, process_naming}
use Rattle.mp_rules.specs.Rules.{E40}
use Rattle.mp_rules.specs.Breaking.{IsUnbroken}

pub keeps_40 : (p : Program) → IsUnbroken p → (at : Place) → E40 p at → ⊥
keeps_40 p unbroken at e =
    unbroken 40 at (inr (inr
    (inr (inr (inr (inr (inr (inr (inr (inr (inr (inr (inr (inr (inr (inr (inr (inl (refl, e)))))))))))))))))))

input_named : (w : What) → is_input w ≡ true → not (is_supply w) ≡ true
input_named Power h = absurd (cc)
input_named Ground h = absurd (cc)
input_named Phia h = absurd (cc)
input_named Phib h = absurd (cc)
input_named Phic h = absurd (cc)
input_named (Constant c) h = refl
input_named Register h = refl
input_named Flag h = refl
input_named (Port way) h = refl
input_named (Signal way) h = refl

output_named : (w : What) → is_output w ≡ true → not (is_supply w) ≡ true
output_named Power h = absurd (cc)
output_named Ground h = absurd (cc)
output_named Phia h = absurd (cc)
output_named Phib h = absurd (cc)
output_named Phic h = absurd (cc)
output_named (Constant c) h = refl
output_named Register h = refl
output_named Flag h = refl
output_named (Port way) h = refl
output_named (Signal way) h = refl

-- definitions of a kind that is named, and the namings of a program
module _ (kind : What → Bool) (is_named : (w : What) → kind w ≡ true → not (is_supply w) ≡ true) where
  fewer : (ds : List Def)
      → length (filter (λ (x : Def). kind x.what) ds) ≤ length (filter (λ (x : Def). not (is_supply x.what)) ds)
  fewer [] = omega arith
  fewer (d ∷ ds) = by (kind d.what) (not (is_supply d.what)) (is_named d.what) (fewer ds)
    where
      by : (i n : Bool) → (i ≡ true → n ≡ true)
          → length (filter (λ (x : Def). kind x.what) ds) ≤ length (filter (λ (x : Def). not (is_supply x.what)) ds)
          → length (cond i (d ∷ filter (λ (x : Def). kind x.what) ds) (filter (λ (x : Def). kind x.what) ds))
          ≤ length (cond n (d ∷ filter (λ (x : Def). not (is_supply x.what)) ds)
          (filter (λ (x : Def). not (is_supply x.what)) ds))
      by true true implies rest = omega (arith, rest)
      by true false implies rest = absurd (let e = implies refl in cc)
      by false true implies rest = omega (arith, rest)
      by false false implies rest = rest

  few : (p : Program) (faces : List Face) → length (namings p) ≤ 256
      → faces ≡ map (λ (x : Def). (x.name, pad_width p.width x.what)) (filter (λ (x : Def). kind x.what) p.defs)
      → length faces ≤ 256
  few p faces small are =
      let same = ap length are in
      let made : length (map (λ (x : Def). let f : Face = (x.name, pad_width p.width x.what) in f)
      (filter (λ (x : Def). kind x.what) p.defs))
      ≡ length (filter (λ (x : Def). kind x.what) p.defs) =
      length-map {B = Face} (filter (λ (x : Def). kind x.what) p.defs)
      (λ (x : Def). (x.name, pad_width p.width x.what)) in
      let less = fewer p.defs in
      let all = length-append (map def_naming (filter (λ (x : Def). not (is_supply x.what)) p.defs))
      (map process_naming p.processes) in
      let named = length-map (filter (λ (x : Def). not (is_supply x.what)) p.defs) def_naming in
      omega (arith, same, made, less, all, named, small)

pub few_inputs : (p : Program) (pads : Pads) → ArePadsOf p pads → length (namings p) ≤ 256 → length pads.inputs ≤ 256
few_inputs p pads padded small =
    let many = length-map pads.inputs face in
    let most = few is_input input_named p (map face pads.inputs) small padded.inputs in
    omega (arith, many, most)

pub few_outputs : (p : Program) (pads : Pads) → ArePadsOf p pads → length (namings p) ≤ 256
    → length pads.outputs ≤ 256
few_outputs p pads padded small =
    let many = length-map pads.outputs face in
    let most = few is_output output_named p (map face pads.outputs) small padded.outputs in
    omega (arith, many, most)
