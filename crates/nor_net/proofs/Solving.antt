-- What every solution has, and that the least one is determined.
use Rattle.std.proofs.Common.{◌≡◌, ℕ, ◌<◌, zero, suc, Option, Some, None, Bool, true, false, cond, map}
use Rattle.std.proofs.Common.{refl, sym, ◌∙◌, ap, arith}
use Rattle.std.specs.Prelude.{MatchBool}
use Rattle.mp_base.specs.declared.value.Trit.{Trit}
use Rattle.mp_base.proofs.Values.{same_if_below}
use Rattle.nor_net.specs.Elements.{Spot, Element, Given, Nor, Latched, Joined, Low}
use Rattle.nor_net.specs.Settled.{Setting, gives, is_open, nor_value, IsSolution, IsSettled}
use Rattle.nor_net.specs.Laws.{OneInputDecides, BitsAreTold, Told, Precedes, IsTold, bit}
use Rattle.nor_net.proofs.Values.{any_one, nor_zero, nor_bits, map_same}

pub settled_once : (s : Setting) (v w : Spot → Trit) → IsSettled s v → IsSettled s w → v ≡ w
settled_once s v w f g = λ i n. same_if_below (v n) (w n) (f.least w g.solution n) (g.least v f.solution n) i

-- the value of a net by its element
pub at : (s : Setting) (v : Spot → Trit) → IsSolution s v → (n : Spot) (e : Element) → s.nets n ≡ Some e
    → v n ≡ gives s v n e
at s v sol n e is = sol n e is

pub one_decides : OneInputDecides
one_decides s v sol n m inputs is in' one = sol n (Nor inputs) is ∙ nor_zero (map v inputs) (any_one v inputs m in' one)

module _ (s : Setting) (t : Told) (h : (n : Spot) → t.inside n ≡ true → IsTold s t n (s.nets n)) (v : Spot → Trit)
    (sol : IsSolution s v) where
  abbrev Known : Spot → Type 0
  Known n = v n ≡ bit (t.bits n)

  by_element : (n : Spot) → ((m : Spot) → Precedes t n m → Known m) → (e : Element) → IsTold s t n (Some e)
      → v n ≡ gives s v n e → Known n
  by_element n before Given k e = e ∙ k
  by_element n before (Nor inputs) k e =
      let all : map v inputs ≡ map (λ m. bit (t.bits m)) inputs =
      map_same v (λ m. bit (t.bits m)) inputs
      (λ i d l. before (Rattle.std.specs.Prelude.slice_index_or inputs i d) (k.0 i d l)) in
      e ∙ ap nor_value all ∙ nor_bits t.bits inputs ∙ ap bit (sym k.1)
  by_element n before (Latched phase source) k e = by_phase (is_open s.phase phase) k e
    where
      by_phase : (b : Bool)
          → MatchBool b (Precedes t n source × (t.bits n ≡ t.bits source)) (s.before n ≡ bit (t.bits n))
          → v n ≡ cond b (v source) (s.before n) → Known n
      by_phase true k e = e ∙ before source k.0 ∙ ap bit (sym k.1)
      by_phase false k e = e ∙ k
  by_element n before (Joined other) k e = e ∙ before other k.0 ∙ ap bit (sym k.1)
  by_element n before Low k e = e ∙ ap bit (sym k)

  by_net : (n : Spot) → ((m : Spot) → Precedes t n m → Known m) → (o : Option Element) → s.nets n ≡ o → IsTold s t n o
      → Known n
  by_net n before None q k = absurd k
  by_net n before (Some e) q k = by_element n before e k (sol n e q)

  by_rank : (k : ℕ) (n : Spot) → t.rank n < k → t.inside n ≡ true → Known n
  by_rank zero n l in' = absurd (omega arith)
  by_rank (suc k) n l in' =
      by_net n (λ m p. by_rank k m (omega (arith, p.1)) p.0) (s.nets n) refl (h n in')

  pub known : (n : Spot) → t.inside n ≡ true → Known n
  known n in' = by_rank (suc (t.rank n)) n (omega arith) in'

pub bits_told : BitsAreTold
bits_told s t h v sol n in' = known s t h v sol n in'
