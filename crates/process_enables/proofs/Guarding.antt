-- What the guards of branches cost, while forms get their enables.
use Rattle.std.proofs.Common.{
  ◌≡◌,
  ◌∙◌,
  ℕ,
  zero,
  suc,
  ◌+◌,
  ◌≤◌,
  List,
  [],
  ◌∷◌,
  Option,
  Some,
  None,
  refl,
  ap,
  arith,
  take,
}
use Rattle.std.proofs.lemmas.Option.{none-some, same_Some}
use Rattle.mp_program.specs.declared.program.Form.{Form}
use Rattle.mp_base.specs.Entries.{IsAt}
use Rattle.process_plan.specs.declared.enable.Enable.{Enable}
use Rattle.process_layout.specs.Counts.{guards_of}
use Rattle.process_enables.specs.Forms.{KeepsEnables}

-- the cost of one form and of others
guards_split : (y : Form) (ys : List Form) (e : Option Enable) (es : List (Option Enable))
    → guards_of (y ∷ ys) (e ∷ es) ≡ guards_of (y ∷ []) (e ∷ []) + guards_of ys es
guards_split y ys (Some x) es = omega arith
guards_split y ys None es = omega arith

rest_kept : (e d : Option Enable) (es ds : List (Option Enable)) → KeepsEnables (e ∷ es) (d ∷ ds) → KeepsEnables es ds
rest_kept e d es ds h = record {
  size = let s = h.size in omega (arith, s);
  kept = λ f o a at. h.kept (suc f) o a at;
}

-- forms that get enables cost no less
pub guards_kept : (ys : List Form) (es ds : List (Option Enable)) → KeepsEnables es ds
    → guards_of ys es ≤ guards_of ys ds
guards_kept [] es ds h = omega arith
guards_kept (y ∷ ys) [] ds h = omega arith
guards_kept (y ∷ ys) (e ∷ es) [] h = let s = h.size in absurd (omega (arith, s))
guards_kept (y ∷ ys) (e ∷ es) (d ∷ ds) h =
    let rest = guards_kept ys es ds (rest_kept e d es ds h) in
    let a = guards_split y ys e es in
    let b = guards_split y ys d ds in
    let one = first_kept e h in
    omega (arith, rest, a, b, one)
  where
    first_kept : (e : Option Enable) → KeepsEnables (e ∷ es) (d ∷ ds)
        → guards_of (y ∷ []) (e ∷ []) ≤ guards_of (y ∷ []) (d ∷ [])
    first_kept None h = omega arith
    first_kept (Some x) h =
        let is : d ≡ Some x = same_Some d (Some x) (h.kept 0 x.origin x.expr refl) in
        let same : guards_of (y ∷ []) (d ∷ []) ≡ guards_of (y ∷ []) (Some x ∷ []) =
        ap (λ t. guards_of (y ∷ []) (t ∷ [])) is in
        omega (arith, same)

-- the first forms and one more
pub guards_more : (ys : List Form) (es : List (Option Enable)) (i : ℕ) (y : Form) (e : Option Enable) → IsAt ys i y
    → IsAt es i e → guards_of (take i ys) es + guards_of (y ∷ []) (e ∷ []) ≤ guards_of (take (i + 1) ys) es
guards_more [] es i y e at at_e = absurd (none-some y at)
guards_more (z ∷ ys) [] i y e at at_e = absurd (none-some e at_e)
guards_more (z ∷ ys) (d ∷ es) zero y e at at_e =
    let split = guards_split z [] d es in
    let same : guards_of (z ∷ []) (d ∷ []) ≡ guards_of (y ∷ []) (e ∷ []) =
    ap (λ t. guards_of (t ∷ []) (d ∷ [])) (same_Some z y at)
    ∙ ap (λ t. guards_of (y ∷ []) (t ∷ [])) (same_Some d e at_e) in
    omega (arith, split, same)
guards_more (z ∷ ys) (d ∷ es) (suc i) y e at at_e =
    let rest = guards_more ys es i y e at at_e in
    let a = guards_split z (take i ys) d es in
    let b = guards_split z (take (i + 1) ys) d es in
    let n : suc i + 1 ≡ suc (i + 1) = omega arith in
    let c : guards_of (take (suc i + 1) (z ∷ ys)) (d ∷ es) ≡ guards_of (z ∷ take (i + 1) ys) (d ∷ es) =
    ap (λ m. guards_of (take m (z ∷ ys)) (d ∷ es)) n in
    omega (arith, rest, a, b, c)
