-- How two drawings of the same commands are alike: they have the same squares, or are the same rectangles where no
-- command
-- is a polygon. What is said of commands is said of all that a file has.
use Rattle.std.proofs.Common.{◌≡◌, refl, sym, ◌∙◌, ap, List, [], ◌∷◌, ◌++◌, map, All}
use Rattle.std.specs.Prelude.{ℤ}
use Rattle.std.proofs.lemmas.List.Elements.{All-head, All-tail, All-cons, All-nil}
use Rattle.lam_geom.specs.declared.layer.Layer.{Layer}
use Rattle.lam_geom.specs.declared.rect.Rect.{Rect}
use Rattle.cif_form.specs.declared.command.Command.{Command}
use Rattle.cif_form.specs.declared.command.Command.TheVariants.{Polygon, Box, Round, Wire, Layer as SetLayer, Start}
use Rattle.cif_form.specs.declared.command.Command.TheVariants.{Finish, Delete, Call, User, Comment}
use Rattle.cif_form.specs.declared.command.Item.{Item}
use Rattle.cif_form.specs.Place.{Scale, segments, HasEdges}
use Rattle.cif_form.specs.Expansion.{Definition, Stands}
use Rattle.cif_form.specs.Laws.{IsNoPolygon}
use Rattle.cif_form.proofs.OnePlace.{one_box, one_wire}
use Rattle.cif_form.proofs.Filling.{Same, same_itself, same_append, same_edges, IsMoving, same_at}

-- `Like` is a likeness of drawings of commands of which `Of` is true
pub record IsLikeness (Of : Command → Type 0) (Like : List Rect → List Rect → Type 0) : Type 0 where
  pub itself : (rs : List Rect) → Like rs rs
  pub append : (rs qs ps os : List Rect) → Like rs qs → Like ps os → Like (rs ++ ps) (qs ++ os)
  pub edges : (s : Scale) (l : Layer) (c : Command) (rs qs : List Rect) → Of c → HasEdges s l c rs → HasEdges s l c qs
      → Like rs qs
  pub at : (place : Rect → Rect) → IsMoving place → (rs qs : List Rect) → Like rs qs
      → Like (map place rs) (map place qs)

abbrev pub AnyCommand : Command → Type 0
AnyCommand c = Unit {0}

pub squares : IsLikeness AnyCommand Same
squares = record {
  itself = same_itself;
  append = same_append;
  edges = λ s l c rs qs o h k. same_edges s l c rs qs h k;
  at = same_at;
}

plain_edges : (s : Scale) (l : Layer) (c : Command) (rs qs : List Rect) → IsNoPolygon c → HasEdges s l c rs
    → HasEdges s l c qs → rs ≡ qs
plain_edges s l (Box a b c d) rs qs o (r, e, h) (q, f, k) = e ∙ (λ i. one_box s l a b c d r q h k i ∷ []) ∙ sym f
plain_edges s l (Wire w ps) rs qs o h k = one_wire s l w (segments ps) rs qs h k
plain_edges s l (Polygon ps) rs qs o h k = absurd o
plain_edges s l (Round a b) rs qs o h k = absurd h
plain_edges s l (SetLayer name) rs qs o h k = absurd h
plain_edges s l (Start n a b) rs qs o h k = absurd h
plain_edges s l Finish rs qs o h k = absurd h
plain_edges s l (Delete n) rs qs o h k = absurd h
plain_edges s l (Call n ts) rs qs o h k = absurd h
plain_edges s l (User d t) rs qs o h k = absurd h
plain_edges s l (Comment t) rs qs o h k = absurd h

pub rectangles : IsLikeness IsNoPolygon (λ rs qs. rs ≡ qs)
rectangles = record {
  itself = λ rs. refl;
  append = λ rs qs ps os h k i. h i ++ k i;
  edges = plain_edges;
  at = λ place m rs qs h. ap (map place) h;
}

-- this is true of each command
abbrev pub Each : (Command → Type 0) → List Item → Type 0
Each Of is = All (λ i. Of i.command) is

pub each_any : (is : List Item) → Each AnyCommand is
each_any [] = All-nil (λ i. AnyCommand i.command)
each_any (i ∷ is) = All-cons (λ i. AnyCommand i.command) i is tt (each_any is)

-- it is true of each command of each definition
abbrev pub EachBody : (Command → Type 0) → List Definition → Type 0
EachBody Of ds = All (λ d. Each Of d.body) ds

pub standing : (Of : Command → Type 0) (ds : List Definition) (n : ℤ) (d : Definition) → EachBody Of ds → Stands ds n d
    → Each Of d.body
standing Of _ _ _ h (Stands.newest {d = d} {ds = ds} e) = All-head (λ d. Each Of d.body) d ds h
standing Of _ n d h (Stands.older {e = e} {ds = ds} k s) =
    standing Of ds n d (All-tail (λ d. Each Of d.body) e ds h) s

pub split_each : (Of : Command → Type 0) (is js : List Item) → Each Of (is ++ js) → Each Of is × Each Of js
split_each Of [] js h = (All-nil (λ i. Of i.command), h)
split_each Of (i ∷ is) js h =
    let rest = split_each Of is js (All-tail (λ i. Of i.command) i (is ++ js) h) in
    (All-cons (λ i. Of i.command) i is (All-head (λ i. Of i.command) i (is ++ js) h) rest.0, rest.1)
