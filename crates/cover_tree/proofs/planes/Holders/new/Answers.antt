use Rattle.std.proofs.Common.{◌≡◌, ◌∙◌, ◌%◌, ◌/◌, sym, ap, arith}
use Rattle.std.specs.Prelude.{bit_or, nat_lt}
use Rattle.cover_tree.specs.Nodes.{set_tops}
use Rattle.cover_tree.specs.Kinds.{index, union}
use Rattle.mp_base.specs.Apply.{truth}
use Rattle.cover_tree.proofs.Sets.{index_small}
use Rattle.cover_tree.proofs.Colours.{at_nd, at_np, at_nb, at_further, at_nm, known_bit, has_further}
use Rattle.cover_tree.proofs.planes.Holders.new.Goals as goal

-- src/planes.rt
pub returns : goal.returns
returns c = λ mask s.
    let k = c.args.known.bits in
    let n = s.bits in
    let i = index s in
    let l = index_small s in
    let first : bit_or k n / 1 % 2 ≡ bit_or k n % 2 = omega arith in
    let nd = rw c.has.ensures at (c.known_or.ensures i l) in
    let np = rw c.has-2.ensures at (c.known_or-2.ensures i l) in
    let nb = rw c.has-3.ensures at (c.known_or-3.ensures i l) in
    let other = rw c.has-4.ensures at (c.known_or-4.ensures i l) in
    let nm = rw c.has-5.ensures at (c.known_or-5.ensures i l) in
    record {
      nd = nd ∙ known_bit k n 0 _ (at_nd n) ∙ ap (λ m. truth (nat_lt 0 m)) first;
      np = np ∙ known_bit k n 1 _ (at_np n);
      nb = nb ∙ known_bit k n 2 _ (at_nb n);
      further = other ∙ known_bit k n 3 _ (at_further n)
          ∙ ap truth (sym (has_further mask (set_tops (union c.args.known s)) 0));
      nm = nm ∙ known_bit k n 4 _ (at_nm n);
    }
