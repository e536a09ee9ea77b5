-- At most one pull-up of a fabric is at a line.
use Rattle.std.proofs.Common.{◌≡◌, refl, sym, ◌∙◌, ap, subst}
use Rattle.std.specs.Prelude.{Contains}
use Rattle.std.proofs.lemmas.List.Elements.{All-contains}
use Rattle.tile_cells.specs.declared.tile.Tile.TheVariants.{PullUp}
use Rattle.fabric.specs.declared.thing.Side.TheVariants.{L}
use Rattle.fabric.specs.declared.thing.Line.{Line}
use Rattle.fabric.specs.declared.thing.Mark.{Mark}
use Rattle.fabric.specs.Plan.{Plan, EndsAt, IsFabric, IsMark, MarksApart, Stands, rows_of}
use Rattle.fabric.specs.Switches.{Net, LineOf, line}
use Rattle.array_form.proofs.Once.{line_once}

-- the mark stands at the top of the band in which the net, a line, ends
pub record IsTopOf (f : Plan) (n : Net) (m : Mark) : Type 0 where
  pub the_line : Line
  pub is : n ≡ line the_line
  pub column : the_line.column ≡ m.column
  pub band : the_line.last_band ≡ m.band
  pub row : m.row ≡ rows_of f m.band

pub top_of : (f : Plan) → IsFabric f → (n : Net) (m : Mark) → Contains f.marks m → m.tile ≡ PullUp → LineOf f m L n
    → IsTopOf f n m
top_of f lawful n m marked pull on =
    let stands : (m.row ≡ rows_of f m.band) × EndsAt f m.band m.column =
    subst (λ t. Stands f t m.band m.row m.column) pull (All-contains (IsMark f) f.marks m lawful.marks marked) in
    let (the_line, among, passes, last) = stands.1 in
    record {
      the_line = the_line;
      is = line_once f lawful m L n (line the_line) on
          (record { the_line = the_line; among = among; passes = passes; is = refl });
      column = passes.column;
      band = last;
      row = stands.0;
    }

one_line : (x y : Line) → line x ≡ line y → x ≡ y
one_line x y e = cc e

-- two marks do not stand there
pub one_top : (f : Plan) (n : Net) (m k : Mark) → IsTopOf f n m → IsTopOf f n k → MarksApart m k → ⊥
one_top f n m k here there apart =
    let one = one_line here.the_line there.the_line (sym here.is ∙ there.is) in
    let band = sym here.band ∙ ap (λ (l : Line). l.last_band) one ∙ there.band in
    apart band (here.row ∙ ap (rows_of f) band ∙ sym there.row)
    (sym here.column ∙ ap (λ (l : Line). l.column) one ∙ there.column)
