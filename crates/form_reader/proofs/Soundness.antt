-- Forms that a text spells are sound.
use Rattle.std.proofs.Common.{◌≡◌, ℕ, List, refl, subst, length, arith}
use Rattle.std.specs.Prelude.{slice_index}
use Rattle.form_reader.specs.declared.forms.Forms.{Forms}
use Rattle.form_reader.specs.Sound.{IsSound}
use Rattle.form_reader.specs.Spelling.{Spelled, Spells}
use Rattle.form_reader.proofs.Nesting.{nested}
use Rattle.form_reader.proofs.Order.{Holds, cut, first_root, ordered}

pub sound : (text : List ℕ) (f : Forms) → Spells text f → IsSound f
sound text f spells =
    let o = ordered spells.items in
    record {
      behind = λ n j m is. o.behind n j m (omega arith) is.0 (is.1, is.2);
      one_list =
          λ a b i j m is it. o.one_list a b i j m (omega arith) is.0 (omega arith) it.0 (is.1, is.2) (it.1, it.2);
      one_place = λ a b i j m is it.
          let same : a ≡ b = o.one_list a b i j m (omega arith) is.0 (omega arith) it.0 (is.1, is.2) (it.1, it.2) in
          o.one_place b i j m (omega arith) it.0 (subst (λ z. Holds f.nodes z i m) same (is.1, is.2)) (it.1, it.2);
      shallow = λ n lt. nested text f 0 0 0 spells.to (length f.nodes) f.roots spells.items 64 refl n (omega arith) lt;
      first = λ r rs is. first_root
          (subst (λ z. Spelled text f.nodes 0 0 0 z spells.to (length f.nodes)) is spells.items);
      roots = λ k lt. (o.top k (slice_index f.roots k) (lt, refl)).1;
      apart = λ a b rs is.
          let two = subst (λ z. Spelled text f.nodes 0 0 0 z spells.to (length f.nodes)) is spells.items in
          let c = cut two in
          (omega (arith, first_root two, c.lt), λ n j m item lt. c.kept n j m (omega arith) lt (item.1, item.2));
      ascend = λ i j lt hi. o.ascend i j (omega arith) lt hi;
    }
