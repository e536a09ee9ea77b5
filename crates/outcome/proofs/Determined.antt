-- Stages have one first fault at most.
use Rattle.std.proofs.Common.{ℕ, List, [], refl, sym, ap, ◌∙◌, inl, inr, Option, Some, None, arith, unwrap_or}
use Rattle.std.specs.Option.{option_map}
use Rattle.mp_base.specs.declared.refusal.Broken.{Broken}
use Rattle.mp_base.proofs.Decisions.{IsDetermined}
use Rattle.outcome.specs.Order.{Fault, Stray, Breaks, Then, OfRule, OfLength, OfFile}

pub one_of_two : (P Q : Option Fault → Type 0) → IsDetermined P → IsDetermined Q → IsDetermined (Then P Q)
one_of_two P Q p q None None x y = refl
one_of_two P Q p q None (Some b) x (inl y) = p None (Some b) x.0 y
one_of_two P Q p q None (Some b) x (inr y) = q None (Some b) x.1 y.1
one_of_two P Q p q (Some a) None (inl x) y = p (Some a) None x y.0
one_of_two P Q p q (Some a) None (inr x) y = q (Some a) None x.1 y.1
one_of_two P Q p q (Some a) (Some b) (inl x) (inl y) = p (Some a) (Some b) x y
one_of_two P Q p q (Some a) (Some b) (inl x) (inr y) = let e = p (Some a) None x y.0 in cc
one_of_two P Q p q (Some a) (Some b) (inr x) (inl y) = let e = p None (Some b) x.0 y in cc
one_of_two P Q p q (Some a) (Some b) (inr x) (inr y) = q (Some a) (Some b) x.1 y.1

pub one_of_rule : (R : Option Broken → Type 0) → IsDetermined R → IsDetermined (OfRule R)
one_of_rule R r None None x y = refl
one_of_rule R r None (Some Stray) x y = absurd y
one_of_rule R r None (Some (Breaks b)) x y = let e = r None (Some b) x y in cc
one_of_rule R r (Some Stray) b x y = absurd x
one_of_rule R r (Some (Breaks a)) None x y = let e = r (Some a) None x y in cc
one_of_rule R r (Some (Breaks a)) (Some Stray) x y = absurd y
one_of_rule R r (Some (Breaks a)) (Some (Breaks b)) x y = ap (option_map Breaks) (r (Some a) (Some b) x y)

pub one_of_length : (limit : ℕ) (name : List ℕ) (content : Option (List ℕ)) → IsDetermined (OfLength limit name content)
one_of_length limit name None a b x y = x ∙ sym y
one_of_length limit name (Some bytes) None None x y = refl
one_of_length limit name (Some bytes) None (Some b) x y = absurd (omega arith)
one_of_length limit name (Some bytes) (Some a) None x y = absurd (omega arith)
one_of_length limit name (Some bytes) (Some a) (Some b) x y = ap Some (x.1 ∙ sym y.1)

pub one_of_file : (limit : ℕ) (Rules : List ℕ → Option Broken → Type 0) (name : List ℕ) (content : Option (List ℕ))
    → IsDetermined (Rules (unwrap_or content [])) → IsDetermined (OfFile limit Rules name content)
one_of_file limit Rules name content one = one_of_two _ _ (one_of_length limit name content) (one_of_rule _ one)
