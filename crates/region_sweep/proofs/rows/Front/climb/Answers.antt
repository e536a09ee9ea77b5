-- Row by row.
use Rattle.std.proofs.Common.{ℕ, sym, ◌∙◌, subst, arith}
use Rattle.cover_tree.specs.Trees.{cover_of}
use Rattle.strip_rows.specs.Swept.{strips_of, IsSwept}
use Rattle.region_sweep.specs.Blocks.{painted, AreStacked}
use Rattle.region_sweep.specs.Rows.{AreAnswered}
use Rattle.region_sweep.proofs.Painting.{blank_below}
use Rattle.region_sweep.proofs.Rowwise.{nothing_raised, nothing_answered}
use Rattle.region_sweep.proofs.Rowwise.{still_answered, all_answered, rest_above, swept_first}
use Rattle.region_sweep.proofs.Rowwise.{same_grid}
use Rattle.region_sweep.proofs.rows.Front.climb.Goals as goal

pub loop-below-init : goal.loop-below-init
loop-below-init c =
    let law = c.colours_by_layers.ensures in
    let front = c.args.self.now in
    let mask = (cover_of front.tree).mask in
    let cells = c.args.size.cells in
    let rows = c.args.size.rows in
    let blocks = c.args.blocks.now in
    let stacked = c.requires.stacked in
    let blank = c.requires.blank in
    let swept = swept_first law mask cells rows blocks front.strips stacked blank.swept in
    let same = λ (x : ℕ). blank_below law mask cells rows blocks x stacked ∙ sym (blank.blank x) in
    record {
      to = record {
        up_to = record {
          of_mask = blank.bare.of_mask;
          wide = blank.bare.wide;
          are = nothing_raised mask cells blocks (cover_of front.tree) blank.bare;
          waiting = λ k l m. rest_above mask cells rows blocks stacked k m;
        };
        told = λ x l. blank_below law mask cells rows blocks x stacked ∙ sym (blank.told x);
        last = blank.row;
        wide = blank.wide;
        same = same;
        as_wide = blank.as_wide;
        swept = swept;
      };
      answers = c.answer-answered.ensures.answers (painted mask blocks) (record { swept = swept; same = same })
          (nothing_answered (painted mask blocks) (strips_of front.strips) c.args.spots.now c.args.found.now);
      waiting = c.answer-answered.ensures.waiting;
    }

pub step-requires-clause-stacked : goal.step-requires-clause-stacked
step-requires-clause-stacked c =
    let to = c.loop-below.invariant.to in
    let rows = c.args.size.rows in
    let blocks = c.args.blocks.now in (
      rows,
      subst (λ n. AreStacked (cover_of c.loop-below.self.tree).mask n rows blocks) (sym to.wide)
          (subst (λ m. AreStacked m c.args.size.cells rows blocks) (sym to.up_to.of_mask) c.requires.stacked),
    )

pub step-requires-clause-at : goal.step-requires-clause-at
step-requires-clause-at c =
    let to = c.loop-below.invariant.to in
    same_grid to.up_to.of_mask to.wide to

pub loop-below-preserved : goal.loop-below-preserved
loop-below-preserved c =
    let inv = c.loop-below.invariant in
    let colour = painted (cover_of c.args.self.now.tree).mask c.args.blocks.now in
    let to = same_grid (sym inv.to.up_to.of_mask) (sym inv.to.wide) c.in_ok-raised.ensures.at in
    record {
      to = to;
      answers = c.answer-answered-in-loop-below.ensures.answers colour
          (record { swept = to.swept; same = to.same })
          (still_answered colour (strips_of c.loop-below.self.strips) (strips_of c.step.new.self.strips)
          c.args.spots.now c.loop-below.answered c.loop-below.found c.in_ok-raised.ensures.numbers inv.answers);
      waiting = c.answer-answered-in-loop-below.ensures.waiting;
    }

pub returns-clause-swept : goal.returns-clause-swept
returns-clause-swept c =
    let inv = c.loop-below.invariant in
    let colour = painted (cover_of c.args.self.now.tree).mask c.args.blocks.now in
    subst (λ n. IsSwept colour n c.loop-below.self.strips)
    (let t = c.loop-below-test.false in let l = c.loop-below.auto.below-end in omega arith) inv.to.swept

pub returns-clause-answers : goal.returns-clause-answers
returns-clause-answers c =
    let inv = c.loop-below.invariant in
    let colour = painted (cover_of c.args.self.now.tree).mask c.args.blocks.now in
    let all =
    all_answered c.args.spots.now c.args.size.rows c.loop-below.below c.loop-below.answered c.requires.spots
    (let t = c.loop-below-test.false in let r = c.requires.rows in omega arith) inv.answers.within inv.waiting in
    subst (λ n. AreAnswered colour (strips_of c.loop-below.self.strips) c.args.spots.now n c.loop-below.found) all
    inv.answers
