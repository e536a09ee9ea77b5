-- What names mean, by the table of names.
use Rattle.std.proofs.Common.{◌≡◌, ℕ, suc, List, [], ◌∷◌, Bool, true, false, cond, refl, ap, ◌∙◌}
use Rattle.std.proofs.Common.{Option, Some, None, unwrap_or, map, length, slice_index}
use Rattle.std.specs.Option.{option_map}
use Rattle.std.proofs.lemmas.List.{length-map}
use Rattle.std.proofs.lemmas.Option.{get_or_from_slice_get}
use Rattle.mp_program.specs.declared.program.Def.{Def}
use Rattle.mp_program.specs.declared.program.Expr.{Expr}
use Rattle.mp_program.specs.declared.program.Form.{Form}
use Rattle.mp_program.specs.declared.program.Program.{Program}
use Rattle.mp_program.specs.Names.{is_same, index_of}
use Rattle.mp_base.specs.Entries.{IsAt}
use Rattle.mp_base.proofs.Entries.{map_get}
use Rattle.name_meanings.specs.declared.named.Named as known_names
use Rattle.name_meanings.specs.declared.table.NameTable.{NameTable}
use Rattle.name_meanings.specs.declared.meaning.Meanings.{Meanings}
use Rattle.name_meanings.specs.Named.{first_of}
use Rattle.name_meanings.specs.Table.{IsNameTable, index_in}
use Rattle.name_meanings.specs.Meant.{expr_meaning, target_meaning}
use Rattle.name_meanings.specs.Meaning.{AreMeanings}

map_at : {X : Type 0} (f : X → ℕ) (xs : List X) (k : ℕ) (x : X) → IsAt xs k x → slice_index (map f xs) k ≡ f x
map_at f xs k x at = get_or_from_slice_get (map f xs) k (f x) 0 (map_get f xs k x at)

index_first : (ds : List Def) (x : List ℕ) → unwrap_or (first_of ds x) (length ds) ≡ index_of ds x
index_first [] x = refl
index_first (d ∷ ds) x = turn (is_same d.name x) (first_of ds x) (index_first ds x)
  where
    turn : (b : Bool) (o : Option ℕ) → unwrap_or o (length ds) ≡ index_of ds x
        → unwrap_or (cond b (Some 0) (option_map suc o)) (suc (length ds)) ≡ cond b 0 (suc (index_of ds x))
    turn true o h = refl
    turn false None h = ap suc h
    turn false (Some k) h = ap suc h

index_told : (p : Program) (t : NameTable) (x : List ℕ) → IsNameTable p t → index_in t x ≡ index_of p.defs x
index_told p t x holds = ap (λ (n : known_names.Named). unwrap_or n.first t.defs) (holds.names x)
    ∙ ap (unwrap_or (first_of p.defs x)) holds.defs ∙ index_first p.defs x

pub are_meanings : (p : Program) (t : NameTable) (m : Meanings) → IsNameTable p t
    → m.exprs ≡ map (λ (x : Expr). expr_meaning t x.kind) p.exprs
    → m.targets ≡ map (λ (y : Form). target_meaning t y.kind) p.forms → AreMeanings p m
are_meanings p t m holds exprs targets = record {
  as_many_exprs = ap length exprs ∙ length-map p.exprs (λ (x : Expr). expr_meaning t x.kind);
  as_many_targets = ap length targets ∙ length-map p.forms (λ (y : Form). target_meaning t y.kind);
  exprs = λ e x name there is. ap (λ l. slice_index l e) exprs
      ∙ map_at (λ (x : Expr). expr_meaning t x.kind) p.exprs e x there
      ∙ ap (expr_meaning t) is ∙ index_told p t name holds;
  targets = λ f y name at v there is. ap (λ l. slice_index l f) targets
      ∙ map_at (λ (y : Form). target_meaning t y.kind) p.forms f y there
      ∙ ap (target_meaning t) is ∙ index_told p t name holds;
}
