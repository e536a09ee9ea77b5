-- Functions have names of their own, where no name is repeated.
use Rattle.std.proofs.Common.{◌≡◌, ◌∙◌, ℕ, false, refl, sym, ap, subst, Some, map}
use Rattle.std.proofs.lemmas.Option.{none-some, same_Some}
use Rattle.mp_base.specs.declared.refusal.Place.{Place}
use Rattle.mp_base.specs.Entries.{IsAt}
use Rattle.mp_base.proofs.Entries.{map_get, one_entry}
use Rattle.mp_program.specs.Names.{index_of}
use Rattle.mp_rules.proofs.Own.{own}
use Rattle.mp_written.specs.declared.program.What.{What}
use Rattle.mp_written.specs.declared.program.What.TheVariants as whats
use Rattle.mp_written.specs.declared.program.Def.{Def}
use Rattle.mp_written.specs.declared.program.Program.{Program}
use Rattle.mp_written.specs.Kinds.{is_supply}
use Rattle.mp_written.specs.Functions.{Function, functions, function_of}
use Rattle.mp_written.proofs.Soundness.{kept_from}
use Rattle.written_frame.specs.Frame.{frame_def}
use Rattle.written_frame.proofs.Frames.{frame, frame_is, supply_same}
use Rattle.written_frame.proofs.SameRules.{same_rules}
use Rattle.written_rules.specs.Rules.{E20}

-- a function has the name of its definition, which is no supply
pub function_named : (d : Def) (k : What) (f : Function) → function_of d k ≡ Some f
    → (f.name ≡ d.name) × (is_supply k ≡ false)
function_named d (whats.Function args body) f is = (
  ap (λ (g : Function). g.name) (sym (same_Some (record {
    place = d.place;
    name = d.name;
    args = args;
    body = body;
  }) f is)),
  refl,
)
function_named d whats.Power f is = absurd (none-some f is)
function_named d whats.Ground f is = absurd (none-some f is)
function_named d whats.Phia f is = absurd (none-some f is)
function_named d whats.Phib f is = absurd (none-some f is)
function_named d whats.Phic f is = absurd (none-some f is)
function_named d (whats.Constant c) f is = absurd (none-some f is)
function_named d whats.Register f is = absurd (none-some f is)
function_named d whats.Flag f is = absurd (none-some f is)
function_named d (whats.Port way) f is = absurd (none-some f is)
function_named d (whats.Signal way) f is = absurd (none-some f is)

pub one_function : (w : Program) → ((at : Place) → ¬ E20 w at) → (i j : ℕ) (f g : Function) → IsAt (functions w) i f
    → IsAt (functions w) j g → f.name ≡ g.name → f ≡ g
one_function w apart i j f g fi gj same =
    let owns = own (frame w) (λ there bad. apart there (((same_rules w (frame w) (frame_is w)).e20 there).0 bad)) in
    let (k, d, dk, df) = kept_from (λ (y : Def). function_of y y.what) w.defs i f fi in
    let (l, c, cl, cg) = kept_from (λ (y : Def). function_of y y.what) w.defs j g gj in
    let (dname, dplain) = function_named d d.what f df in
    let (cname, cplain) = function_named c c.what g cg in
    let first = owns k (frame_def d) (map_get frame_def w.defs k d dk) (supply_same d.what ∙ dplain) in
    let second = owns l (frame_def c) (map_get frame_def w.defs l c cl) (supply_same c.what ∙ cplain) in
    let index = sym first ∙ ap (index_of (map frame_def w.defs)) (sym dname ∙ same ∙ cname) ∙ second in
    let one = one_entry w.defs l d c (subst (λ n. IsAt w.defs n d) index dk) cl in
    same_Some f g (sym df ∙ ap (λ (y : Def). function_of y y.what) one ∙ cg)
