-- Each rule is broken at the place of something in the program.
use Rattle.std.proofs.Common.{◌≡◌, ℕ, zero, suc, List, [], ◌∷◌, refl, sym, ◌∙◌, ap, subst, inl, inr, Option, Some, None}
use Rattle.std.specs.List.{filter_map, cons_option}
use Rattle.std.proofs.lemmas.Option.{none-some, same_Some}
use Rattle.mp_base.specs.declared.refusal.Place.{Place}
use Rattle.mp_base.specs.Entries.{IsAt}
use Rattle.mp_base.proofs.Entries.{get_map}
use Rattle.mp_program.specs.declared.program.Pin.{Pin}
use Rattle.mp_program.specs.declared.program.Form.{Form}
use Rattle.mp_program.specs.declared.program.Process.{Process}
use Rattle.mp_program.specs.declared.program.Def as plain_def
use Rattle.mp_program.specs.declared.program.Expr as plain_expr
use Rattle.mp_program.specs.declared.program.Program as plain
use Rattle.mp_rules.specs.Breaking as plain_breaking
use Rattle.mp_rules.specs.Places as plain_places
use Rattle.mp_written.specs.declared.program.What.{What}
use Rattle.mp_written.specs.declared.program.What.TheVariants as whats
use Rattle.mp_written.specs.declared.program.Def.{Def}
use Rattle.mp_written.specs.declared.program.Program.{Program}
use Rattle.mp_written.specs.Functions.{Function, function_of, functions}
use Rattle.written_frame.specs.Frame.{IsFrame, frame_def, frame_expr}
use Rattle.written_frame.specs.SameRules.{HaveSameRules}
use Rattle.written_rules.specs.Breaking.{Breaks}
use Rattle.written_verdict.specs.Places.{HasPlace}

-- an entry of what is left of a list
at_filter_map : {X Y : Type 0} (g : X → Option Y) (xs : List X) (k : ℕ) (y : Y) → IsAt (filter_map g xs) k y
    → (j : ℕ) × (x : X) × IsAt xs j x × (g x ≡ Some y)
at_filter_map g [] k y at = absurd (none-some y at)
at_filter_map {X} {Y} g (x ∷ xs) k y at = kept (λ i. at_filter_map g xs i y) (g x) refl k at
  where
    later : (j : ℕ) × (z : X) × IsAt xs j z × (g z ≡ Some y) → (j : ℕ) × (z : X) × IsAt (x ∷ xs) j z × (g z ≡ Some y)
    later (j, z, at, e) = (suc j, z, at, e)

    kept : ((i : ℕ) → IsAt (filter_map g xs) i y → (j : ℕ) × (z : X) × IsAt xs j z × (g z ≡ Some y)) → (o : Option Y)
        → g x ≡ o
        → (i : ℕ) → IsAt (cons_option o (filter_map g xs)) i y → (j : ℕ) × (z : X) × IsAt (x ∷ xs) j z × (g z ≡ Some y)
    kept rest None e i found = later (rest i found)
    kept rest (Some z) e zero found = (0, x, refl, e ∙ found)
    kept rest (Some z) e (suc i) found = later (rest i found)

-- a function is a definition
is_function : (d : Def) (k : What) (f : Function) → function_of d k ≡ Some f
    → (k ≡ whats.Function f.args f.body) × (f.place ≡ d.place)
is_function d (whats.Function args body) f e =
    let own : Function = record { place = d.place; name = d.name; args = args; body = body } in
    let same : own ≡ f = same_Some own f e in
    (ap (λ (g : Function). whats.Function g.args g.body) same, sym (ap Function.place same))
is_function d whats.Power f e = absurd (none-some f e)
is_function d whats.Ground f e = absurd (none-some f e)
is_function d whats.Phia f e = absurd (none-some f e)
is_function d whats.Phib f e = absurd (none-some f e)
is_function d whats.Phic f e = absurd (none-some f e)
is_function d (whats.Constant c) f e = absurd (none-some f e)
is_function d whats.Register f e = absurd (none-some f e)
is_function d whats.Flag f e = absurd (none-some f e)
is_function d (whats.Port way) f e = absurd (none-some f e)
is_function d (whats.Signal way) f e = absurd (none-some f e)

function_def : (w : Program) (k : ℕ) (f : Function) → IsAt (functions w) k f
    → (d : ℕ) × (x : Def) × IsAt w.defs d x × (x.what ≡ whats.Function f.args f.body) × (f.place ≡ x.place)
function_def w k f at =
    let (d, x, there, e) = at_filter_map (λ (z : Def). function_of z z.what) w.defs k f at in
    let is = is_function x x.what f e in
    (d, x, there, is.0, is.1)

at_place : (w : Program) (at there : Place) → at ≡ there → HasPlace w there → HasPlace w at
at_place w at there same h = subst (HasPlace w) (sym same) h

-- what stands in the frame stands in the program
from_frame : (w : Program) (s : plain.Program) → IsFrame w s → (at : Place) → plain_places.HasPlace s at → HasPlace w at
from_frame w s framed at plain_places.HasPlace.program = at_place w s.place w.place framed.place HasPlace.program
from_frame w s framed at (plain_places.HasPlace.definition d x there) =
    let (z, own, same) = get_map frame_def w.defs d x (subst (λ xs. IsAt xs d x) framed.defs there) in
    at_place w x.place z.place (sym (ap plain_def.Def.place same)) (HasPlace.definition d z own)
from_frame w s framed at (plain_places.HasPlace.pin d k x y there found) =
    let (z, own, same) = get_map frame_def w.defs d x (subst (λ xs. IsAt xs d x) framed.defs there) in
    HasPlace.pin d k z y own (subst (λ (ps : List Pin). IsAt ps k y) (sym (ap plain_def.Def.pins same)) found)
from_frame w s framed at (plain_places.HasPlace.expression e x there) =
    let (z, own, same) = get_map frame_expr w.exprs e x (subst (λ xs. IsAt xs e x) framed.exprs there) in
    at_place w x.place z.place (sym (ap plain_expr.Expr.place same)) (HasPlace.expression e z own)
from_frame w s framed at (plain_places.HasPlace.form f x there) =
    HasPlace.form f x (subst (λ (xs : List Form). IsAt xs f x) framed.forms there)
from_frame w s framed at (plain_places.HasPlace.target f x name _ v there kind) =
    HasPlace.target f x name at v (subst (λ (xs : List Form). IsAt xs f x) framed.forms there) kind
from_frame w s framed at (plain_places.HasPlace.process k q there) =
    HasPlace.process k q (subst (λ (qs : List Process). IsAt qs k q) framed.processes there)
from_frame w s framed at (plain_places.HasPlace.label k j q x there found) =
    HasPlace.label k j q x (subst (λ (qs : List Process). IsAt qs k q) framed.processes there) found
from_frame w s framed at (plain_places.HasPlace.depth k q there) =
    HasPlace.depth k q (subst (λ (qs : List Process). IsAt qs k q) framed.processes there)

module _ (w : Program) (s : plain.Program) (framed : IsFrame w s) (same_rules : HaveSameRules w s)
    (placed : (k : ℕ) (at : Place) → plain_breaking.Breaks s k at → plain_places.HasPlace s at) where
  of_frame : (k : ℕ) (at : Place) → plain_breaking.Breaks s k at → HasPlace w at
  of_frame k at broken = from_frame w s framed at (placed k at broken)

  pub broken_place : (k : ℕ) (at : Place) → Breaks w k at → HasPlace w at
  broken_place number at
      (inl (rule, broken)) =
      of_frame 20 at (inl (refl, (same_rules.e20 at).1 broken))
  broken_place number at
      (inr (inl (rule, inl (e, x, (y, is, kind, same), none, free)))) =
      at_place w at y.place same (HasPlace.expression e y is)
  broken_place number at
      (inr (inl (rule, inr (inl (x, (f, y, v, is, kind), none))))) =
      HasPlace.target f y x at v is kind
  broken_place number at
      (inr (inl (rule, inr (inr (e, y, x, os, is, kind, none))))) =
      HasPlace.head e y at x os is kind
  broken_place number at
      (inr (inr (inl (rule, inl (e, x, s, t, is, wanted, has, other, same))))) =
      at_place w at x.place same (HasPlace.expression e x is)
  broken_place number at
      (inr (inr (inl (rule, inr (inl (e, x, (y, is, kind, same), free, none)))))) =
      at_place w at y.place same (HasPlace.expression e y is)
  broken_place number at
      (inr (inr (inl (rule, inr (inr (x, (f, y, v, is, kind), none)))))) =
      HasPlace.target f y x at v is kind
  broken_place number at
      (inr (inr (inr (inl (rule, broken))))) =
      of_frame 23 at (inr (inr (inr (inl (refl, (same_rules.e23 at).1 broken)))))
  broken_place number at
      (inr (inr (inr (inr (inl (rule, broken)))))) =
      of_frame 24 at (inr (inr (inr (inr (inl (refl, (same_rules.e24 at).1 broken))))))
  broken_place number at
      (inr (inr (inr (inr (inr (inl (rule, broken))))))) =
      of_frame 25 at (inr (inr (inr (inr (inr (inl (refl, (same_rules.e25 at).1 broken)))))))
  broken_place number at
      (inr (inr (inr (inr (inr (inr (inl (rule, broken)))))))) =
      of_frame 26 at (inr (inr (inr (inr (inr (inr (inl (refl, (same_rules.e26 at).1 broken))))))))
  broken_place number at
      (inr (inr (inr (inr (inr (inr (inr (inl (rule, (x, (f, y, v, is, kind), set)))))))))) =
      HasPlace.target f y x at v is kind
  broken_place number at
      (inr (inr (inr (inr (inr (inr (inr (inr (inl (rule, broken)))))))))) =
      of_frame 28 at (inr (inr (inr (inr (inr (inr (inr (inr (inl (refl, (same_rules.e28 at).1 broken))))))))))
  broken_place number at
      (inr (inr (inr (inr (inr (inr (inr (inr (inr (inl (rule, broken))))))))))) =
      of_frame 29 at (inr (inr (inr (inr (inr (inr (inr (inr (inr (inl (refl, (same_rules.e29 at).1 broken)))))))))))
  broken_place number at
      (inr (inr (inr (inr (inr (inr (inr (inr (inr (inr (inl (rule, broken)))))))))))) =
      of_frame 30 at (inr (inr (inr (inr (inr (inr (inr (inr (inr (inr (inl (refl, (same_rules.e30 at).1 broken))))))))))))
  broken_place number at
      (inr (inr (inr (inr (inr (inr (inr (inr (inr (inr (inr (inl (rule, broken))))))))))))) =
      of_frame 31 at (inr (inr (inr (inr (inr (inr (inr (inr (inr (inr (inr (inl (refl, (same_rules.e31 at).1 broken)))))))))))))
  broken_place number at
      (inr (inr (inr (inr (inr (inr (inr (inr (inr (inr (inr (inr (inl (rule, broken)))))))))))))) =
      of_frame 32 at (inr (inr (inr (inr (inr (inr (inr (inr (inr (inr (inr (inr (inl (refl, (same_rules.e32 at).1 broken))))))))))))))
  broken_place number at
      (inr (inr (inr (inr (inr (inr (inr (inr (inr (inr (inr (inr (inr (inl (rule, broken))))))))))))))) =
      of_frame 33 at (inr (inr (inr (inr (inr (inr (inr (inr (inr (inr (inr (inr (inr (inl (refl, (same_rules.e33 at).1 broken)))))))))))))))
  broken_place number at
      (inr (inr (inr (inr (inr (inr (inr (inr (inr (inr (inr (inr (inr (inr (inl (rule, broken)))))))))))))))) =
      of_frame 34 at (inr (inr (inr (inr (inr (inr (inr (inr (inr (inr (inr (inr (inr (inr (inl (refl, (same_rules.e34 at).1 broken))))))))))))))))
  broken_place number at
      (inr (inr (inr (inr (inr (inr (inr (inr (inr (inr (inr (inr (inr (inr (inr (inl (rule, broken))))))))))))))))) =
      of_frame 35 at (inr (inr (inr (inr (inr (inr (inr (inr (inr (inr (inr (inr (inr (inr (inr (inl (refl, (same_rules.e35 at).1 broken)))))))))))))))))
  broken_place number at
      (inr (inr (inr (inr (inr (inr (inr (inr (inr (inr (inr (inr (inr (inr (inr (inr (inl (rule, broken)))))))))))))))))) =
      of_frame 36 at (inr (inr (inr (inr (inr (inr (inr (inr (inr (inr (inr (inr (inr (inr (inr (inr (inl (refl, (same_rules.e36 at).1 broken))))))))))))))))))
  broken_place number at
      (inr (inr (inr (inr (inr (inr (inr (inr (inr (inr (inr (inr (inr (inr (inr (inr (inr (inl (rule, (e, y, head, x, os, j, g, is, kind, may, other, same)))))))))))))))))))) =
      at_place w at y.place same (HasPlace.expression e y is)
  broken_place number at
      (inr (inr (inr (inr (inr (inr (inr (inr (inr (inr (inr (inr (inr (inr (inr (inr (inr (inr (inl (rule, inl (k, f, is, named, same))))))))))))))))))))) =
      let (d, x, there, what, place) = function_def w k f is in
      at_place w at x.place (same ∙ place) (HasPlace.definition d x there)
  broken_place number at
      (inr (inr (inr (inr (inr (inr (inr (inr (inr (inr (inr (inr (inr (inr (inr (inr (inr (inr (inl (rule, inr (k, f, i, a, is, here, same, taken))))))))))))))))))))) =
      let (d, x, there, what, place) = function_def w k f is in
      at_place w at a.place same (HasPlace.argument d i x f.args f.body a there what here)
  broken_place number at
      (inr (inr (inr (inr (inr (inr (inr (inr (inr (inr (inr (inr (inr (inr (inr (inr (inr (inr (inr (inl (rule, (k, f, e, x, inside, (y, is, kind, same), defined, free, variable, value)))))))))))))))))))))) =
      at_place w at y.place same (HasPlace.expression e y is)
  broken_place number at
      (inr (inr (inr (inr (inr (inr (inr (inr (inr (inr (inr (inr (inr (inr (inr (inr (inr (inr (inr (inr (inl (rule, broken)))))))))))))))))))))) =
      of_frame 40 at (inr (inr (inr (inr (inr (inr (inr (inr (inr (inr (inr (inr (inr (inr (inr (inr (inr (inl (refl, (same_rules.e40 at).1 broken)))))))))))))))))))
  broken_place number at
      (inr (inr (inr (inr (inr (inr (inr (inr (inr (inr (inr (inr (inr (inr (inr (inr (inr (inr (inr (inr (inr (inl (rule, broken))))))))))))))))))))))) =
      of_frame 41 at (inr (inr (inr (inr (inr (inr (inr (inr (inr (inr (inr (inr (inr (inr (inr (inr (inr (inr (inl (refl, (same_rules.e41 at).1 broken))))))))))))))))))))
  broken_place number at
      (inr (inr (inr (inr (inr (inr (inr (inr (inr (inr (inr (inr (inr (inr (inr (inr (inr (inr (inr (inr (inr (inr (inl (rule, broken)))))))))))))))))))))))) =
      of_frame 42 at (inr (inr (inr (inr (inr (inr (inr (inr (inr (inr (inr (inr (inr (inr (inr (inr (inr (inr (inr (inl (refl, (same_rules.e42 at).1 broken)))))))))))))))))))))
  broken_place number at
      (inr (inr (inr (inr (inr (inr (inr (inr (inr (inr (inr (inr (inr (inr (inr (inr (inr (inr (inr (inr (inr (inr (inr (inl (rule, broken))))))))))))))))))))))))) =
      of_frame 43 at (inr (inr (inr (inr (inr (inr (inr (inr (inr (inr (inr (inr (inr (inr (inr (inr (inr (inr (inr (inr (inl (refl, (same_rules.e43 at).1 broken))))))))))))))))))))))
  broken_place number at
      (inr (inr (inr (inr (inr (inr (inr (inr (inr (inr (inr (inr (inr (inr (inr (inr (inr (inr (inr (inr (inr (inr (inr (inr (inl (rule, (heavy, same))))))))))))))))))))))))))) =
      at_place w at w.place same HasPlace.program
  broken_place number at
      (inr (inr (inr (inr (inr (inr (inr (inr (inr (inr (inr (inr (inr (inr (inr (inr (inr (inr (inr (inr (inr (inr (inr (inr (inr (rule, (heavy, same))))))))))))))))))))))))))) =
      at_place w at w.place same HasPlace.program
