-- A symbol has one name at most.
use Rattle.std.proofs.Common.{ℕ, ◌≡◌, refl, sym, ◌∙◌, ap, subst, List, [], ◌∷◌, ◌++◌, length, All, ◌<◌, Option, Some}
use Rattle.std.proofs.lemmas.List.Elements.{All-head}
use Rattle.cif_form.specs.declared.command.Command.{Command}
use Rattle.cif_form.specs.declared.command.Command.TheVariants.{Polygon, Box, Round, Wire, Layer as SetLayer, Start}
use Rattle.cif_form.specs.declared.command.Command.TheVariants.{Finish, Delete, Call, User, Comment}
use Rattle.cif_form.specs.declared.command.Item.{Item}
use Rattle.cif_form.specs.Labels.{IsSpace}
use Rattle.cif_form.specs.Names.{IsNameText, Names, IsSymbolName}
use Rattle.cif_form.proofs.OneLabel.{Heads, Word, one_spaced}

spaces_head : (t : List ℕ) → All IsSpace t → Heads (λ b. ¬ Word b) t
spaces_head [] h = tt
spaces_head (b ∷ bs) h = λ k. k (All-head IsSpace b bs h)

pub one_name_text : (n m text : List ℕ) → IsNameText n text → IsNameText m text → n ≡ m
one_name_text n m text (s, t1, e1, hs, (w, t2, e2, (g, k, hn), ht)) (
  s',
  t1',
  e1',
  hs',
  (
    w',
    t2',
    e2',
    (g', k', hn'),
    ht',
  ),
) =
    let whole : s ++ (w ++ t2) ≡ s' ++ (w' ++ t2') =
    ap (λ c. s ++ c) (sym e2) ∙ sym e1 ∙ e1' ∙ ap (λ c. s' ++ c) e2' in
    let word : (0 < length w) × All Word w = subst (λ c. (0 < length c) × All Word c) (sym g) (k, hn) in
    let word' : (0 < length w') × All Word w' = subst (λ c. (0 < length c) × All Word c) (sym g') (k', hn') in
    let c = one_spaced s s' w w' t2 t2' hs hs' word word' (spaces_head t2 ht) (spaces_head t2' ht') whole in
    sym g ∙ c.0 ∙ g'

pub one_naming : (c : Command) (n m : List ℕ) → Names c n → Names c m → n ≡ m
one_naming (User digit text) n m h k = one_name_text n m text h.1 k.1
one_naming (Box a b c d) n m h k = absurd h
one_naming (Wire w ps) n m h k = absurd h
one_naming (Polygon ps) n m h k = absurd h
one_naming (Round a b) n m h k = absurd h
one_naming (SetLayer name) n m h k = absurd h
one_naming (Start p a b) n m h k = absurd h
one_naming Finish n m h k = absurd h
one_naming (Delete p) n m h k = absurd h
one_naming (Call p ts) n m h k = absurd h
one_naming (Comment t) n m h k = absurd h

pub one_symbol_name : (is : List Item) (n m : Option (List ℕ)) → IsSymbolName is n → IsSymbolName is m → n ≡ m
one_symbol_name _ _ _ IsSymbolName.none IsSymbolName.none = refl
one_symbol_name _ _ _ (IsSymbolName.first {i = i} n h) (IsSymbolName.first m k) = ap Some (one_naming i.command n m h k)
one_symbol_name _ _ _ (IsSymbolName.first n h) (IsSymbolName.later k b) = absurd (k n h)
one_symbol_name _ _ _ (IsSymbolName.later h a) (IsSymbolName.first m k) = absurd (h m k)
one_symbol_name _ _ _ (IsSymbolName.later {is = is} {found = n} h a) (IsSymbolName.later {found = m} k b) =
    one_symbol_name is n m a b
