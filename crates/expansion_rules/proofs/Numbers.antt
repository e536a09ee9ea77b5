-- In the expansion numbers fit the word, and indices of `bit` too, where they do as written.
use Rattle.std.proofs.Common.{◌≡◌, ◌∙◌, ◌⊎◌, inl, inr, ℕ, zero, suc, ◌≤◌, ◌^◌, List, [], ◌∷◌, refl, sym, ap, subst}
use Rattle.std.specs.Prelude.{take, Some, None, Option}
use Rattle.std.specs.List.{filter_map}
use Rattle.std.proofs.lemmas.Option.{none-some, same_Some}
use Rattle.mp_base.specs.declared.refusal.Place.{Place}
use Rattle.mp_base.specs.declared.op.Op.{Op}
use Rattle.mp_base.specs.declared.op.Op.TheVariants.{Bit}
use Rattle.mp_base.specs.Entries.{IsAt}
use Rattle.mp_program.specs.declared.program.ExprKind.TheVariants as plains
use Rattle.mp_program.specs.declared.program.What.TheVariants as plain_whats
use Rattle.mp_program.specs.declared.program.Def as plain_def
use Rattle.mp_program.specs.declared.program.Program as plain
use Rattle.mp_written.specs.declared.program.ExprKind.{ExprKind}
use Rattle.mp_written.specs.declared.program.ExprKind.TheVariants.{Number, Named, True, False, Apply, Use}
use Rattle.mp_written.specs.declared.program.What.{What}
use Rattle.mp_written.specs.declared.program.What.TheVariants as whats
use Rattle.mp_written.specs.declared.program.Def.{Def}
use Rattle.mp_written.specs.declared.program.Expr.{Expr}
use Rattle.mp_written.specs.declared.program.Program.{Program}
use Rattle.mp_written.specs.Functions.{functions, plain_what_of, plain_def as plain_def_of}
use Rattle.mp_written.specs.Laying.{laid_kind}
use Rattle.mp_written.specs.Expansion.{IsExpansion, all_pieces}
use Rattle.expansion_laws.specs.Lawful.{IsLawfulProgram}
use Rattle.expansion_laws.proofs.ClosedClaims.{FitsKind, free_fits}
use Rattle.expansion_laws.proofs.LeftKinds.{Kinds, all_kinds, kind_of}
use Rattle.mp_rules.specs.Rules as plain_rules
use Rattle.written_rules.specs.Rules.{E23, E24}

-- what is left is no use; its number fits a word of w bits, and its index of `bit` too
pub record HasRoom (w : ℕ) (k : ExprKind) : Type 0 where
  pub fit : FitsKind k
  pub number : (n : ℕ) → k ≡ Number n → 2 ^ w ≤ n → ⊥
  pub index : (j : ℕ) (os : List ℕ) → k ≡ Apply Bit j os → w ≤ j → ⊥

number_back : (k : ExprKind) (ts : List ℕ) (n : ℕ) → FitsKind k → laid_kind k ts ≡ plains.Number n → k ≡ Number n
number_back (Number m) ts n fit e = let same : m ≡ n = cc in ap Number same
number_back (Named x) ts n fit e = absurd (cc)
number_back True ts n fit e = absurd (cc)
number_back False ts n fit e = absurd (cc)
number_back (Apply op k os) ts n fit e = absurd (cc)
number_back (Use at x os) ts n fit e = absurd fit

index_back : (k : ExprKind) (ts : List ℕ) (op : Op) (j : ℕ) (args : List ℕ) → laid_kind k ts ≡ plains.Apply op j args
    → (os : List ℕ) × (k ≡ Apply op j os)
index_back (Number m) ts op j args e = absurd (cc)
index_back (Named x) ts op j args e = absurd (cc)
index_back True ts op j args e = absurd (cc)
index_back False ts op j args e = absurd (cc)
index_back (Apply o k os) ts op j args e =
    let same_op : o ≡ op = cc in let same : k ≡ j = cc in
    (os, ap (λ p. Apply p k os) same_op ∙ ap (λ i. Apply op i os) same)
index_back (Use at x os) ts op j args e = absurd (cc)

-- a definition of the expansion is one as written
abbrev plain_of : Def → Option plain_def.Def
plain_of y = plain_def_of y (plain_what_of y.what)

by_option : {X A : Type 0} (o : Option X) → (o ≡ None → A) → ((z : X) → o ≡ Some z → A) → A
by_option None f g = f refl
by_option (Some z) f g = g z refl

dropped : {X Y : Type 0} (f : X → Option Y) (x : X) (xs : List X) → f x ≡ None → filter_map f (x ∷ xs) ≡ filter_map f xs
dropped f x xs e = rw e refl

kept : {X Y : Type 0} (f : X → Option Y) (x : X) (xs : List X) (y : Y) → f x ≡ Some y
    → filter_map f (x ∷ xs) ≡ y ∷ filter_map f xs
kept f x xs y e = rw e refl

first_or_more : (y z : plain_def.Def) (ys : List plain_def.Def) (d : ℕ) → IsAt (y ∷ ys) d z
    → ((d ≡ 0) × (y ≡ z)) ⊎ ((j : ℕ) × IsAt ys j z)
first_or_more y z ys zero at = inl (refl, same_Some y z at)
first_or_more y z ys (suc j) at = inr (j, at)

abbrev Written : List Def → plain_def.Def → Type 0
Written ds x = (i : ℕ) × (y : Def) × IsAt ds i y × (plain_of y ≡ Some x)

further : (y : Def) (ys : List Def) (x : plain_def.Def) → Written ys x → Written (y ∷ ys) x
further y ys x (i, z, there, same) = (suc i, z, there, same)

pub def_from : (ds : List Def) (d : ℕ) (x : plain_def.Def) → IsAt (filter_map (λ (y : Def). plain_of y) ds) d x → Written ds x
def_from [] d x at = absurd (none-some x at)
def_from (y ∷ ys) d x at = by_option (plain_of y)
    (λ e. further y ys x (def_from ys d x (subst (λ zs. IsAt zs d x) (dropped (λ (z : Def). plain_of z) y ys e) at)))
    (λ z e. elim (first_or_more z x (filter_map (λ (u : Def). plain_of u) ys) d
    (subst (λ zs. IsAt zs d x) (kept (λ (u : Def). plain_of u) y ys z e) at)) [
      | inl h ↦ (0, y, refl, e ∙ ap Some h.1)
      | inr h ↦ further y ys x (def_from ys h.0 x h.1)
    ])

constant_back : (k : What) (d : Def) (x : plain_def.Def) (c : ℕ) → plain_def_of d (plain_what_of k) ≡ Some x
    → x.what ≡ plain_whats.Constant c → (k ≡ whats.Constant c) × (d.place ≡ x.place)
constant_back whats.Power d x c e is = absurd (let s = same_Some _ x e in cc)
constant_back whats.Ground d x c e is = absurd (let s = same_Some _ x e in cc)
constant_back whats.Phia d x c e is = absurd (let s = same_Some _ x e in cc)
constant_back whats.Phib d x c e is = absurd (let s = same_Some _ x e in cc)
constant_back whats.Phic d x c e is = absurd (let s = same_Some _ x e in cc)
constant_back (whats.Constant a) d x c e is =
    let s = same_Some _ x e in
    let what : plain_whats.Constant a ≡ plain_whats.Constant c = ap (λ (u : plain_def.Def). u.what) s ∙ is in
    let same : a ≡ c = cc in
    (ap whats.Constant same, ap (λ (u : plain_def.Def). u.place) s)
constant_back whats.Register d x c e is = absurd (let s = same_Some _ x e in cc)
constant_back whats.Flag d x c e is = absurd (let s = same_Some _ x e in cc)
constant_back (whats.Port way) d x c e is = absurd (let s = same_Some _ x e in cc)
constant_back (whats.Signal way) d x c e is = absurd (let s = same_Some _ x e in cc)
constant_back (whats.Function args body) d x c e is = absurd (none-some x e)

module _ (w : Program) (p : plain.Program) (law : IsLawfulProgram w) (expands : IsExpansion w p)
    (keeps23 : (at : Place) → ¬ E23 w at) (keeps24 : (at : Place) → ¬ E24 w at) where
  written_room : (e : ℕ) (x : Expr) → IsAt w.exprs e x → FitsKind x.kind → HasRoom w.width x.kind
  written_room e x at fits = record {
    fit = fits;
    number = λ n is le. keeps23 x.place (inr (e, x, n, at, is, le, refl));
    index = λ j os is le. keeps24 x.place (e, x, j, os, at, is, le, refl);
  }

  rooms : Kinds (HasRoom w.width) (all_pieces w)
  rooms = all_kinds (HasRoom w.width) w law
      (λ k f at e x under there fit free. written_room e x there (free_fits (take k (functions w)) f.args x.kind fit free))
      (λ t c e x under there fit free. written_room e x there (free_fits (functions w) [] x.kind fit free))

  pub expansion_keeps23 : (at : Place) → ¬ plain_rules.E23 p at
  expansion_keeps23 at (inl (d, x, c, there, is, over, place)) =
      let (i, y, written, same) = def_from w.defs d x (subst (λ ds. IsAt ds d x) expands.defs there) in
      let (what, here) = constant_back y.what y x c same is in
      keeps23 y.place (inl (i, y, c, written, what, subst (λ n. 2 ^ n ≤ c) expands.width over, refl))
  expansion_keeps23 at (inr (e, y, n, there, is, over, place)) =
      let (x, ts, room, kind) = kind_of (HasRoom w.width) w p expands rooms e y there in
      room.number n (number_back x.kind ts n room.fit (sym kind ∙ is)) (subst (λ k. 2 ^ k ≤ n) expands.width over)

  pub expansion_keeps24 : (at : Place) → ¬ plain_rules.E24 p at
  expansion_keeps24 at (e, y, k, args, there, is, over, place) =
      let (x, ts, room, kind) = kind_of (HasRoom w.width) w p expands rooms e y there in
      let (os, same) = index_back x.kind ts Bit k args (sym kind ∙ is) in
      room.index k os same (subst (λ n. n ≤ k) expands.width over)
