-- What commands draw is determined, up to how polygons are filled, and without polygons wholly.
use Rattle.std.proofs.Common.{ℕ, ◌≡◌, refl, sym, ◌∙◌, subst, List, [], ◌∷◌, Option, Some, None, map}
use Rattle.std.specs.Prelude.{filter, int_lt}
use Rattle.std.proofs.lemmas.List.Elements.{All-head, All-tail, All-cons, All-nil, All-filter}
use Rattle.lam_geom.specs.declared.layer.Layer.{Layer}
use Rattle.lam_geom.specs.declared.rect.Rect.{Rect}
use Rattle.cif_form.specs.declared.command.Command.TheVariants.{Finish, Start, Delete, Call, User, Comment}
use Rattle.cif_form.specs.declared.command.Command.TheVariants.{Layer as SetLayer}
use Rattle.cif_form.specs.declared.command.Command.{Command}
use Rattle.cif_form.specs.declared.command.Item.{Item}
use Rattle.cif_form.specs.Place.{Scale, unit, placed}
use Rattle.cif_form.specs.Expansion.{item_at, Definition, Draws, Expands}
use Rattle.cif_form.specs.Names.{IsSymbolName}
use Rattle.cif_form.specs.Laws.{IsNoPolygon, ExpansionIsUnique, PlainExpansionIsUnique}
use Rattle.cif_form.proofs.OneLabel.{one_layer}
use Rattle.cif_form.proofs.OnePlace.{one_motions}
use Rattle.cif_form.proofs.OneName.{one_symbol_name}
use Rattle.cif_form.proofs.OneWalk.{one_definition, one_body}
use Rattle.cif_form.proofs.Filling.{Same}
use Rattle.cif_form.proofs.Likeness.{IsLikeness, AnyCommand, squares, rectangles, Each, each_any, EachBody, standing}
use Rattle.cif_form.proofs.Likeness.{split_each}

module _ (Of : Command → Type 0) (Like : List Rect → List Rect → Type 0) (alike : IsLikeness Of Like) where
  -- this is true of the first command, and of the others
  head_each : (i : Item) (is : List Item) → Each Of (i ∷ is) → Of i.command
  head_each i is h = All-head (λ i. Of i.command) i is h

  tail_each : (i : Item) (is : List Item) → Each Of (i ∷ is) → Each Of is
  tail_each i is h = All-tail (λ i. Of i.command) i is h

  one_draws : (ds : List Definition) (s : Scale) (l : Option Layer) (is : List Item) (rs qs : List Rect)
      → EachBody Of ds
      → Each Of is → Draws ds s l is rs → Draws ds s l is qs → Like rs qs
  one_draws ds _ _ _ _ _ b c Draws.done Draws.done = alike.itself []
  one_draws ds _ _ _ _ _ b c (Draws.layer {s = s} {o = o} {is = is} {rs = rs} m name h d)
      (Draws.layer {rs = qs} n other k e) =
      one_draws ds s (Some m) is rs qs b (tail_each (item_at o (SetLayer name)) is c) d
      (subst (λ x. Draws ds s (Some x) is qs) (one_layer name n m k h) e)
  one_draws ds _ _ _ _ _ b c (Draws.shape {s = s} {l = l} {o = o} {is = is} {rs = rs} shape us h d)
      (Draws.shape {rs = qs} other vs k e) =
      alike.append us vs rs qs (alike.edges s l shape us vs (head_each (item_at o shape) is c) h k)
      (one_draws ds s (Some l) is rs qs b (tail_each (item_at o shape) is c) d e)
  one_draws ds _ _ _ _ _ b c (Draws.call {s = s} {l = l} {o = o} {is = is} {rs = rs} n ts f ms us a i g x d)
      (Draws.call {rs = qs} m us' f' ms' vs a' i' g' x' e) =
      let t : f' ≡ f = one_definition ds n f' f a' a in
      let u = one_draws ds f.scale None f.body us vs b (standing Of ds n f b a) x
      (subst (λ w. Draws ds w.scale None w.body vs) t x') in
      let w = alike.at (placed ms) (ms, λ r. refl) us vs u in
      let one = subst (λ z. Like (map (placed ms) us) (map (placed z) vs)) (one_motions s ts ms ms' g g') w in
      alike.append (map (placed ms) us) (map (placed ms') vs) rs qs one
      (one_draws ds s l is rs qs b (tail_each (item_at o (Call n ts)) is c) d e)
  one_draws ds _ _ _ _ _ b c (Draws.user {s = s} {l = l} {o = o} {is = is} {rs = rs} digit text d)
      (Draws.user {rs = qs} digit' text' e) =
      one_draws ds s l is rs qs b (tail_each (item_at o (User digit text)) is c) d e
  one_draws ds _ _ _ _ _ b c (Draws.comment {s = s} {l = l} {o = o} {is = is} {rs = rs} text d)
      (Draws.comment {rs = qs} text' e) =
      one_draws ds s l is rs qs b (tail_each (item_at o (Comment text)) is c) d e
  one_draws ds _ _ _ _ _ b c (Draws.shape shape rs h d) (Draws.layer n other k e) = absurd h
  one_draws ds _ _ _ _ _ b c (Draws.shape shape rs h d) (Draws.call n ts f ms inner a i g x e) = absurd h
  one_draws ds _ _ _ _ _ b c (Draws.shape shape rs h d) (Draws.user digit text e) = absurd h
  one_draws ds _ _ _ _ _ b c (Draws.shape shape rs h d) (Draws.comment text e) = absurd h
  one_draws ds _ _ _ _ _ b c (Draws.layer m name h d) (Draws.shape shape qs k e) = absurd k
  one_draws ds _ _ _ _ _ b c (Draws.call n ts f ms inner a i g x d) (Draws.shape shape qs k e) = absurd k
  one_draws ds _ _ _ _ _ b c (Draws.user digit text d) (Draws.shape shape qs k e) = absurd k
  one_draws ds _ _ _ _ _ b c (Draws.comment text d) (Draws.shape shape qs k e) = absurd k

  -- What a file draws is determined up to the likeness.
  one_expansion : (ds : List Definition) (l : Option Layer) (is : List Item) (rs qs : List Rect) → EachBody Of ds
      → Each Of is → Expands ds l is rs → Expands ds l is qs → Like rs qs
  one_expansion _ _ _ _ _ b c Expands.done Expands.done = alike.itself []
  one_expansion _ _ _ _ _ b c (Expands.layer {ds = ds} {o = o} {is = is} {rs = rs} m name h x)
      (Expands.layer {rs = qs} n other k y) =
      one_expansion ds (Some m) is rs qs b (tail_each (item_at o (SetLayer name)) is c) x
      (subst (λ a. Expands ds (Some a) is qs) (one_layer name n m k h) y)
  one_expansion _ _ _ _ _ b c (Expands.layer m name h x) (Expands.draw shape qs k d y) = absurd k
  one_expansion _ _ _ _ _ b c (Expands.draw shape qs k d y) (Expands.layer m name h x) = absurd k
  one_expansion _ _ _ _ _ b c (Expands.draw {ds = ds} {l = l} {o = o} {is = is} {rs = rs} shape us h d x)
      (Expands.draw {rs = qs} other vs k e y) =
      let here = All-cons (λ i. Of i.command) (item_at o shape) [] (head_each (item_at o shape) is c)
      (All-nil (λ i. Of i.command)) in
      alike.append us vs rs qs (one_draws ds unit l (item_at o shape ∷ []) us vs b here d e)
      (one_expansion ds l is rs qs b (tail_each (item_at o shape) is c) x y)
  one_expansion _ _ _ _ _ b c (Expands.draw shape us h d x) (Expands.define n a z name body js p i j e y) = absurd h
  one_expansion _ _ _ _ _ b c (Expands.draw shape us h d x) (Expands.delete n y) = absurd h
  one_expansion _ _ _ _ _ b c (Expands.define n a z name body js p i j e y) (Expands.draw shape us h d x) = absurd h
  one_expansion _ _ _ _ _ b c
      (Expands.define {ds = ds} {l = l} {o = o} {rest = rest} {rs = rs} n a z name body is p h j e x)
      (Expands.define {rs = qs} n' a' z' name' more js q k g f y) =
      let t = one_body more body js is q p k h (sym f ∙ e) in
      let u = one_symbol_name body name' name (subst (λ w. IsSymbolName w name') t.0 g) j in
      let made : Option (List ℕ) → List Item → Definition = λ name body. record {
        number = n;
        scale = record { a = a; b = z };
        name = name;
        body = body;
      } in
      let after = subst (Each Of) e (tail_each (item_at o (Start n a z)) rest c) in
      let parts = split_each Of body (item_at p Finish ∷ is) after in
      let bodies = All-cons (λ (d : Definition). Each Of d.body) (made name body) ds parts.0 b in
      one_expansion (made name body ∷ ds) l is rs qs bodies (tail_each (item_at p Finish) is parts.1) x
      (subst (λ i. Expands (made name body ∷ ds) l i qs) t.1
      (subst (λ w. Expands (made name w ∷ ds) l js qs) t.0 (subst (λ w. Expands (made w more ∷ ds) l js qs) u y)))
  one_expansion _ _ _ _ _ b c (Expands.delete n y) (Expands.draw shape us h d x) = absurd h
  one_expansion _ _ _ _ _ b c (Expands.delete {ds = ds} {l = l} {o = o} {is = is} {rs = rs} n x)
      (Expands.delete {rs = qs} m y) =
      one_expansion (filter (λ d. int_lt d.number n) ds) l is rs qs
      (All-filter (λ (d : Definition). int_lt d.number n) (λ d. Each Of d.body) ds b)
      (tail_each (item_at o (Delete n)) is c) x y

pub expansion_is_unique : ExpansionIsUnique
expansion_is_unique items rs qs x y =
    one_expansion AnyCommand Same squares [] None items rs qs (All-nil (λ d. Each AnyCommand d.body))
    (each_any items) x y

pub plain_expansion_is_unique : PlainExpansionIsUnique
plain_expansion_is_unique items rs qs plain x y =
    one_expansion IsNoPolygon (λ rs qs. rs ≡ qs) rectangles [] None items rs qs
    (All-nil (λ d. Each IsNoPolygon d.body)) plain x y
