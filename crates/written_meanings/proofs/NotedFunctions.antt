-- What is noted of functions, once there is one more.
use Rattle.std.proofs.Common.{◌≡◌, ◌∙◌, inl, inr, ℕ, ◌+◌, List, [], ◌∷◌, ◌++◌, refl, sym, ap, subst, arith, map, length}
use Rattle.std.proofs.Common.{Option, Some, None}
use Rattle.std.specs.Option.{option_to_list}
use Rattle.std.specs.List.{filter_map, cons_option}
use Rattle.std.proofs.lemmas.List.{map-append, length-append}
use Rattle.std.proofs.lemmas.List.Elements.{filter_map-append}
use Rattle.mp_base.specs.Entries.{IsAt}
use Rattle.mp_base.proofs.Entries.{push_cases}
use Rattle.mp_written.specs.declared.program.Arg.{Arg}
use Rattle.mp_written.specs.declared.program.Def.{Def}
use Rattle.mp_written.specs.declared.program.What.{What}
use Rattle.mp_written.specs.declared.program.What.TheVariants as whats
use Rattle.mp_written.specs.Functions.{Function, function_of}
use Rattle.written_meanings.specs.declared.firsts.Firsts.{Firsts}
use Rattle.written_meanings.specs.declared.functions.Functions.{Functions}
use Rattle.written_meanings.specs.Firsts.{AreFirsts}
use Rattle.written_meanings.specs.Functions.{AreFunctions}
use Rattle.written_meanings.specs.Meanings.{body_of}

abbrev pub names : List Function → List (List ℕ)
names fs = map (λ (f : Function). f.name) fs

pub function_more : (fs : List Function) (f : Function) (t u : Functions) (a : Firsts) → AreFunctions fs t
    → AreFirsts (names fs ++ f.name ∷ []) u.numbers → u.bodies ≡ t.bodies ++ body_of f ∷ [] → u.args ≡ t.args ++ a ∷ []
    → AreFirsts (map (λ (b : Arg). b.name) f.args) a → AreFunctions (fs ++ f ∷ []) u
function_more fs f t u a are numbers bodies args known = record {
  numbers = subst (λ ns. AreFirsts ns u.numbers) (sym (map-append (λ (g : Function). g.name) fs (f ∷ []))) numbers;
  bodies = bodies ∙ ap (λ bs. bs ++ body_of f ∷ []) are.bodies ∙ sym (map-append body_of fs (f ∷ []));
  as_many = ap length args ∙ length-append t.args (a ∷ []) ∙ ap (λ n. n + 1) are.as_many
      ∙ sym (length-append fs (f ∷ []));
  args = λ k g b here at. elim (push_cases fs f k g here) [
    | inl old ↦ elim (push_cases t.args a k b (subst (λ xs. IsAt xs k b) args at)) [
      | inl before ↦ are.args k g b old.1 before.1
      | inr last ↦ absurd (let lt = old.0 in let is = last.0 in let size = are.as_many in omega (arith, lt, is, size))
    ]
    | inr new ↦ elim (push_cases t.args a k b (subst (λ xs. IsAt xs k b) args at)) [
      | inl before ↦ absurd (let lt = before.0 in let is = new.0 in let size = are.as_many in
          omega (arith, lt, is, size))
      | inr last ↦
          subst (λ (h : Function). AreFirsts (map (λ (c : Arg). c.name) h.args) b) new.1
          (subst (AreFirsts (map (λ (c : Arg). c.name) f.args)) last.1 known)
    ]
  ];
}

-- the functions among definitions, once there is one definition more
pub def_more : (ds : List Def) (d : Def) (o : Option Function) → function_of d d.what ≡ o
    → filter_map (λ (y : Def). function_of y y.what) (ds ++ d ∷ [])
    ≡ filter_map (λ (y : Def). function_of y y.what) ds ++ option_to_list o
def_more ds d o is = filter_map-append (λ (y : Def). function_of y y.what) ds (d ∷ [])
    ∙ ap (λ ys. filter_map (λ (y : Def). function_of y y.what) ds ++ ys) (turn (function_of d d.what)
    ∙ ap option_to_list is)
  where
    turn : (p : Option Function) → cons_option p [] ≡ option_to_list p
    turn None = refl
    turn (Some f) = refl

-- what is no function
pub no_function : (d : Def) (k : What) → ((args : List Arg) (body : ℕ) → k ≡ whats.Function args body → ⊥)
    → function_of d k ≡ None
no_function d (whats.Function args body) other = absurd (other args body refl)
no_function d _ other = refl
