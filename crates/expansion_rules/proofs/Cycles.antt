-- Where no definition reads itself through a chain as written, none does in the expansion.
use Rattle.std.proofs.Common.{◌≡◌, ◌∙◌, ℕ, List, refl, ap, subst, true}
use Rattle.mp_base.specs.declared.refusal.Place.{Place}
use Rattle.mp_base.specs.Entries.{IsAt}
use Rattle.mp_base.proofs.Entries.{get_map}
use Rattle.mp_program.specs.Names as plain_names
use Rattle.mp_program.specs.declared.program.FormKind.{FormKind}
use Rattle.mp_program.specs.declared.program.FormKind.TheVariants.{Set, Cond, Par, Go, Call, Return}
use Rattle.mp_program.specs.declared.program.Form.{Form}
use Rattle.mp_program.specs.declared.program.Def as plain_def
use Rattle.mp_program.specs.declared.program.Program as plain
use Rattle.mp_written.specs.declared.program.Program.{Program}
use Rattle.mp_written.specs.Functions.{plain_what_of}
use Rattle.mp_written.specs.Expansion.{IsExpansion, moved, moved_form, start}
use Rattle.expansion_laws.specs.Lawful.{IsLawfulProgram}
use Rattle.expansion_laws.proofs.Readers.{InNoBody}
use Rattle.expansion_laws.proofs.Chains.{def_at, origin, chain_written, name_kept}
use Rattle.mp_rules.specs.Rules as plain_rules
use Rattle.written_rules.specs.Rules.{E33}

set_back : (go : ℕ → ℕ) (k : FormKind) (x : List ℕ) (at : Place) (v : ℕ) → moved go k ≡ Set x at v → (u : ℕ) × (k ≡ Set x at u)
set_back go (Set y there u) x at v e =
    let name : y ≡ x = cc in let place : there ≡ at = cc in
    (u, ap (λ n. Set n there u) name ∙ ap (λ a. Set x a u) place)
set_back go (Cond bs) x at v e = absurd (cc)
set_back go (Par fs) x at v e = absurd (cc)
set_back go (Go l) x at v e = absurd (cc)
set_back go (Call l) x at v e = absurd (cc)
set_back go Return x at v e = absurd (cc)

pub expansion_keeps33 : (w : Program) (p : plain.Program) → IsLawfulProgram w → IsExpansion w p
    → ((d : ℕ) (x : plain_def.Def) → IsAt p.defs d x → plain_names.is_driven x.what ≡ true → InNoBody w x.name)
    → ((at : Place) → ¬ E33 w at) → (at : Place) → ¬ plain_rules.E33 p at
expansion_keeps33 w p law expands free keeps at (f, y, x, there, v, d, z, form, kind, def, name, chain, is) =
    let (z2, zat, zis) = def_at w.defs d z (subst (λ ds. IsAt ds d z) expands.defs def) in
    let (y2, yat, yis) = get_map (moved_form (start w)) w.forms f y (subst (λ fs. IsAt fs f y) expands.forms form) in
    let (u, set) = set_back (start w) y2.kind x there v (ap (λ (q : Form). q.kind) yis ∙ kind) in
    keeps y2.place (
      f,
      y2,
      x,
      there,
      u,
      origin w.defs d,
      z2,
      yat,
      set,
      zat,
      name_kept z2 z (plain_what_of z2.what) zis ∙ name,
      chain_written w p law expands free d d chain,
      refl,
    )
