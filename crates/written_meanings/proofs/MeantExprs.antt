-- What the first expressions mean, once it is known of one more.
use Rattle.std.proofs.Common.{◌≡◌, ◌∙◌, inl, inr, ℕ, ◌+◌, List, [], ◌∷◌, ◌++◌, sym, ap, subst, subst₂, length}
use Rattle.std.proofs.Common.{Option}
use Rattle.std.proofs.lemmas.List.{length-append}
use Rattle.mp_base.specs.Entries.{IsAt}
use Rattle.mp_base.proofs.Entries.{push_cases, one_entry, within}
use Rattle.mp_written.specs.declared.program.Expr.{Expr}
use Rattle.mp_written.specs.declared.program.Program.{Program}
use Rattle.written_meanings.specs.declared.meanings.Meaning.{Meaning}
use Rattle.mp_written.specs.Functions.{functions}
use Rattle.written_meanings.specs.Meanings.{IsMeaning, IsOwner, argument, args_around, used, usable}
use Rattle.written_meanings.specs.Owners.{AreOwners}

-- the first n expressions mean this
pub record AreMeant (w : Program) (n : ℕ) (meanings : List Meaning) : Type 0 where
  pub size : length meanings ≡ n
  pub each : (e : ℕ) (x : Expr) (m : Meaning) → IsAt w.exprs e x → IsAt meanings e m → IsMeaning w e x m

pub meant_more : (w : Program) (n : ℕ) (x : Expr) (m : Meaning) (meanings : List Meaning) → IsAt w.exprs n x
    → IsMeaning w n x m → AreMeant w n meanings → AreMeant w (n + 1) (meanings ++ m ∷ [])
meant_more w n x m meanings at is are = record {
  size = length-append meanings (m ∷ []) ∙ ap (λ k. k + 1) are.size;
  each = λ e y p here there. elim (push_cases meanings m e p there) [
    | inl old ↦ are.each e y p here old.1
    | inr new ↦
        (let place = new.0 ∙ are.size in
        let same = one_entry w.exprs n x y at (subst (λ i. IsAt w.exprs i y) place here) in
        subst (λ i. IsMeaning w i y p) (sym place)
        (subst₂ (λ z q. IsMeaning w n z q) same new.1 is))
  ];
}

-- what an expression means, by its owner
pub meaning_known : (w : Program) (e : ℕ) (x : Expr) (m : Meaning) (o : Option ℕ) (owners : List (Option ℕ))
    → AreOwners w (length w.exprs) owners → IsAt w.exprs e x → IsAt owners e o → m.owner ≡ o
    → m.argument ≡ argument (args_around (functions w) o) x.kind → m.function ≡ used (usable (functions w) o) x.kind
    → IsMeaning w e x m
meaning_known w e x m o owners are at here owner argued using = record {
  owner = subst (IsOwner w e) (sym owner) (are.each e o here (λ b y is c. within w.exprs b is));
  argument = argued ∙ ap (λ p. argument (args_around (functions w) p) x.kind) (sym owner);
  function = using ∙ ap (λ p. used (usable (functions w) p) x.kind) (sym owner);
}
