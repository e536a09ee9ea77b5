use Rattle.std.proofs.Common.{◌≡◌, ◌∙◌, ◌∷◌, ◌-◌, suc, refl, sym, ap, subst, arith, length, to_z, of_z, w64}
use Rattle.std.specs.Prelude.{slice_range}
use Rattle.std.proofs.lemmas.Int.{ints}
use Rattle.lam_geom.specs.declared.label.FlatLabel.{FlatLabel}
use Rattle.cif_form.specs.Labels.{Coordinate}
use Rattle.cif_flat.specs.Labelling.{IsNextWord}
use Rattle.cif_flat.proofs.Words.{IsLabelOf, label_words, words_label, the_name, the_x, the_y, the_across, the_up}
use Rattle.cif_flat.proofs.Words.{the_tail, coordinate_within}
use Rattle.cif_flat.proofs.Named.{word_sizes, word_behind}
use Rattle.cif_flat.proofs.label.label_of.Goals as goal

pub returns-in_default-next_word : goal.returns-in_default-next_word
returns-in_default-next_word c =
    λ l t. c.in_default-next_word.ensures.none l.name _
    (the_name c.args.text.now c.in-Some.rest.now c.in-Some.first.now c.in-Some.ensures.cases.0 l
    (label_words c.args.text.now l t))

pub returns-in_default-next_word-2 : goal.returns-in_default-next_word-2
returns-in_default-next_word-2 c =
    λ l t. c.in_default-next_word-2.ensures.none _ _
    (the_x c.args.text.now c.in-Some.rest.now c.in-Some.first.now c.in-Some.ensures.cases.0 l
    (label_words c.args.text.now l t) c.in-Some-next_word.name.now c.in-Some-next_word.behind.now
    c.in-Some-next_word.ensures.some)

pub returns-in_default-next_word-3 : goal.returns-in_default-next_word-3
returns-in_default-next_word-3 c =
    λ l t. c.in_default-next_word-3.ensures.none _ _
    (the_y c.args.text.now c.in-Some.rest.now c.in-Some.first.now c.in-Some.ensures.cases.0 l
    (label_words c.args.text.now l t) c.in-Some-next_word.name.now c.in-Some-next_word.behind.now
    c.in-Some-next_word.ensures.some c.in-Some-next_word-2.across.now c.in-Some-next_word-2.rest.now
    c.in-Some-next_word-2.ensures.some)

pub returns-in_default-coordinate : goal.returns-in_default-coordinate
returns-in_default-coordinate c =
    λ l t. c.in_default-coordinate.ensures.none l.x
    (the_across c.args.text.now c.in-Some.rest.now c.in-Some.first.now c.in-Some.ensures.cases.0 l
    (label_words c.args.text.now l t) c.in-Some-next_word.name.now c.in-Some-next_word.behind.now
    c.in-Some-next_word.ensures.some c.in-Some-next_word-2.across.now c.in-Some-next_word-2.rest.now
    c.in-Some-next_word-2.ensures.some)

pub returns-in_default-coordinate-2 : goal.returns-in_default-coordinate-2
returns-in_default-coordinate-2 c =
    λ l t. c.in_default-coordinate-2.ensures.none l.y
    (the_up c.args.text.now c.in-Some.rest.now c.in-Some.first.now c.in-Some.ensures.cases.0 l
    (label_words c.args.text.now l t) c.in-Some-next_word.name.now c.in-Some-next_word.behind.now
    c.in-Some-next_word.ensures.some c.in-Some-next_word-2.across.now c.in-Some-next_word-2.rest.now
    c.in-Some-next_word-2.ensures.some c.in-Some-next_word-3.up.now c.in-Some-next_word-3.rest.now
    c.in-Some-next_word-3.ensures.some)

pub returns-in_default-tail : goal.returns-in_default-tail
returns-in_default-tail c =
    λ l t. c.in_default-tail.ensures.none l.layer
    (the_tail c.args.text.now c.in-Some.rest.now c.in-Some.first.now c.in-Some.ensures.cases.0 l
    (label_words c.args.text.now l t) c.in-Some-next_word.name.now c.in-Some-next_word.behind.now
    c.in-Some-next_word.ensures.some c.in-Some-next_word-2.across.now c.in-Some-next_word-2.rest.now
    c.in-Some-next_word-2.ensures.some c.in-Some-next_word-3.up.now c.in-Some-next_word-3.rest.now
    c.in-Some-next_word-3.ensures.some)

pub returns : goal.returns
returns c =
    let n = c.in-Some-next_word in
    let u = c.in-Some-next_word-2 in
    let v = c.in-Some-next_word-3 in
    let x = c.in-Some-coordinate.x in
    let y = c.in-Some-coordinate-2.y in
    let cx = c.in-Some-coordinate.ensures.some in
    let cy = c.in-Some-coordinate-2.ensures.some in
    let bx = coordinate_within x u.across.now cx in
    let by = coordinate_within y v.up.now cy in
    let ex : to_z w64 (of_z w64 x) ≡ x = omega (arith, ints, bx.0, bx.1) in
    let ey : to_z w64 (of_z w64 y) ≡ y = omega (arith, ints, by.0, by.1) in
    let text = c.args.text.now in
    let body = c.in-Some.rest.now in
    let four : text ≡ 52 ∷ body = c.in-Some.ensures.cases.0 ∙ ap (λ b. b ∷ body) c.if-first-ne52.false in
    let sizes = word_sizes body n.name.now n.behind.now n.ensures.some in
    let long : length text ≡ suc (length body) = ap (λ t. length t) four in
    let end = length text - length n.behind.now in
    let start = length text - length n.behind.now - length n.name.now in
    let same : slice_range text start end ≡ n.name.now =
    ap (λ t. slice_range t start end) four
    ∙ word_behind 52 body n.name.now n.behind.now start end n.ensures.some (omega (arith, sizes, long))
    (omega (arith, sizes, long)) in
    let label : FlatLabel =
    record {
      offset = 0;
      name = slice_range text start end;
      x = to_z w64 (of_z w64 x);
      y = to_z w64 (of_z w64 y);
      layer = c.in-Some-tail.layer;
    } in
    let read : IsLabelOf text label = record {
      body = body;
      after_name = n.behind.now;
      across = u.across.now;
      after_x = u.rest.now;
      up = v.up.now;
      end = v.rest.now;
      four = four;
      name = subst (λ w. IsNextWord body w n.behind.now) (sym same) n.ensures.some;
      x_word = u.ensures.some;
      y_word = v.ensures.some;
      x = subst (λ z. Coordinate z u.across.now) (sym ex) cx;
      y = subst (λ z. Coordinate z v.up.now) (sym ey) cy;
      layer = c.in-Some-tail.ensures.some;
    } in
    (words_label text label read, refl)
