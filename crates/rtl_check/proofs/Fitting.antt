-- When an expression that applies an operator fits.
use Rattle.std.proofs.Common.{◌≡◌, ◌∙◌, ℕ, ◌<◌, List, Bool, sym, subst, get_or}
use Rattle.std.specs.Prelude.{◌↔◌, IsTrue, length, slice_index}
use Rattle.std.proofs.lemmas.List.{get_or_default}
use Rattle.std.proofs.lemmas.List.Elements.{Contains-get_or}
use Rattle.mp_base.specs.declared.op.Op.{Op}
use Rattle.rtl_form.specs.declared.rtl.Rtl.{Rtl}
use Rattle.rtl_form.specs.declared.rtl.RtlExpr.{RtlExpr}
use Rattle.rtl_form.specs.declared.rtl.RtlExpr.TheVariants.{Apply}
use Rattle.rtl_form.specs.Operands.{takes_words}
use Rattle.rtl_form.specs.Sound.{ExprFits, HasSort}
use Rattle.rtl_check.specs.Parts.{ApplyFits}

operand_at : (xs : List ℕ) (k a : ℕ) → k < length xs → get_or xs k a ≡ a → slice_index xs k ≡ a
operand_at xs k a lt is = get_or_default xs k 0 a lt ∙ is

pub apply_fits : (r : Rtl) (e : ℕ) (x : RtlExpr) (op : Op) (index : ℕ) (args : List ℕ) (b : Bool)
    → x ≡ Apply op index args → (IsTrue b ↔ ApplyFits r e op index args) → IsTrue b ↔ ExprFits r e x
apply_fits r e x op index args b is says =
    let P : RtlExpr → Type 0 = λ y. IsTrue b ↔ ExprFits r e y in
    subst P (sym is) (
      (λ h.
          let f = says.0 h in (
            f.taken,
            f.index_fits,
            λ a (k, lt, there).
                let Q : ℕ → Type 0 = λ n. (n < e) × HasSort r n (takes_words op) in
                let arg = (f.args_fit).each k lt in
                subst Q (operand_at args k a lt there) (arg.before, arg.sort),
          )),
      (λ all. says.1 (record {
        taken = all.0;
        index_fits = all.1;
        args_fit = record {
          each = λ k lt.
              let f = all.2 (slice_index args k) (Contains-get_or args k 0 lt) in record { before = f.0; sort = f.1 };
        };
      })),
    )
