use Rattle.std.proofs.Common.{◌≡◌, ◌∙◌, ◌≤◌, ℕ, ℤ, List, Some, ap, arith, drop}
use Rattle.std.proofs.lemmas.Int.{ints}
use Rattle.cif_form.specs.Readers.{Reader, goes_on, and_then, gives, integer_from, then_separator, scale_under}
use Rattle.cif_reader.specs.Capped.{cut_number, cut_scale}
use Rattle.cif_reader.specs.Finding.{IsFound}
use Rattle.cif_reader.proofs.Readers.{both}
use Rattle.cif_reader.proofs.command.written_scale.Goals as goal

-- the one number and the other
both_found : (bytes : List ℕ) (at next end : ℕ) (a b over under : ℤ) → over ≡ a → under ≡ b
    → IsFound cut_number (then_separator integer_from (drop at bytes)) bytes at a next
    → IsFound cut_number (then_separator integer_from (drop next bytes)) bytes next b end
    → IsFound cut_scale (then_separator (and_then integer_from scale_under) (drop at bytes)) bytes at (over, under) end
both_found bytes at next end a b over under o u f g =
    let text = drop next bytes in
    let le = f.behind in
    let more = g.behind in
    let order : at ≤ end = omega (arith, le, more) in
    let last : ℤ → Reader (ℤ × ℤ) = gives (λ n. (f.exact, n)) in
    let first : then_separator (and_then integer_from scale_under) (drop at bytes) ≡ scale_under f.exact text =
    both integer_from scale_under (drop at bytes) ∙ ap (goes_on scale_under) f.found in
    let second : scale_under f.exact text ≡ Some ((f.exact, g.exact), drop end bytes) =
    both integer_from last text ∙ ap (goes_on last) g.found in
    record {
      exact = (f.exact, g.exact);
      found = first ∙ second;
      value_is = (λ i. ((o ∙ f.value_is) i, (u ∙ g.value_is) i));
      behind = order;
      within = g.within;
    }

pub returns : goal.returns
returns c =
    both_found c.args.bytes.now c.args.at c.in_ok-a.a.end c.in_ok-b.b.end c.in_ok-a.a.value c.in_ok-b.b.value _ _
    (omega (arith, ints)) (omega (arith, ints)) c.in_ok-a.ensures c.in_ok-b.ensures
