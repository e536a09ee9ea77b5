-- The columns of casts, lifts and chains, for all crates above.
use Rattle.std.proofs.Common.{[], Bool, ℕ, List, ◌≡◌, Some, true, ◌+◌, ◌∷◌, cond, suc, inl, refl, inr}
use Rattle.std.proofs.Common.{arith, false, ◌==◌}
use Rattle.std.specs.Prelude.{slice_get}
use Rattle.mp_base.proofs.Members.{Member, member_append}
use Rattle.array_form.proofs.Listing.{same_from}
use Rattle.slice_form.specs.Path.{Cast, Lift, Carry}
use Rattle.slice_form.specs.Slices.{cast_columns, lift_columns_of, chain_starts}

-- a cast whose column is this
pub cast_of_column : (test : Cast → Bool) (at : ℕ) (cs : List Cast) (x : ℕ) → Member (cast_columns test at cs) x
    → (i : ℕ) × (c : Cast) × (slice_get cs i ≡ Some c) × (test c ≡ true) × (at + i ≡ x)
cast_of_column test at [] x m = absurd m
cast_of_column test at (a ∷ cs) x m =
    elim (member_append (cond (test a) (at ∷ []) []) (cast_columns test (suc at) cs) x m) [
      | inl k ↦ head (test a) refl k
      | inr k ↦ (let w = cast_of_column test (suc at) cs x k in
          (suc w.0, w.1, w.2, w.3, (let e = w.4 in let f : at + suc w.0 ≡ x = omega (arith, e) in f)))
    ]
  where
    head : (t : Bool) → test a ≡ t → Member (cond t (at ∷ []) []) x
        → (i : ℕ) × (c : Cast) × (slice_get (a ∷ cs) i ≡ Some c) × (test c ≡ true) × (at + i ≡ x)
    head true e (inl q) = (0, a, refl, e, (let f : at + 0 ≡ x = omega (arith, q) in f))
    head true e (inr q) = absurd q
    head false e q = absurd q

pub lift_of_column : (test : Lift → Bool) (at : ℕ) (cs : List Lift) (x : ℕ) → Member (lift_columns_of test at cs) x
    → (i : ℕ) × (c : Lift) × (slice_get cs i ≡ Some c) × (test c ≡ true) × (at + i ≡ x)
lift_of_column test at [] x m = absurd m
lift_of_column test at (a ∷ cs) x m =
    elim (member_append (cond (test a) (at ∷ []) []) (lift_columns_of test (suc at) cs) x m) [
      | inl k ↦ head (test a) refl k
      | inr k ↦ (let w = lift_of_column test (suc at) cs x k in
          (suc w.0, w.1, w.2, w.3, (let e = w.4 in let f : at + suc w.0 ≡ x = omega (arith, e) in f)))
    ]
  where
    head : (t : Bool) → test a ≡ t → Member (cond t (at ∷ []) []) x
        → (i : ℕ) × (c : Lift) × (slice_get (a ∷ cs) i ≡ Some c) × (test c ≡ true) × (at + i ≡ x)
    head true e (inl q) = (0, a, refl, e, (let f : at + 0 ≡ x = omega (arith, q) in f))
    head true e (inr q) = absurd q
    head false e q = absurd q

pub chain_of_column : (at : ℕ → ℕ) (n : ℕ) (cs : List Carry) (x : ℕ) → Member (chain_starts at n cs) x
    → (i : ℕ) × (c : Carry) × (slice_get cs i ≡ Some c) × (c.start ≡ n) × (at c.to ≡ x)
chain_of_column at n [] x m = absurd m
chain_of_column at n (a ∷ cs) x m =
    elim (member_append (cond (a.start == n) (at a.to ∷ []) []) (chain_starts at n cs) x m) [
      | inl h ↦ here (a.start == n) refl h
      | inr h ↦ (let w = chain_of_column at n cs x h in (suc w.0, w.1, w.2, w.3, w.4))
    ]
  where
    here : (t : Bool) → (a.start == n) ≡ t → Member (cond t (at a.to ∷ []) []) x
        → (i : ℕ) × (c : Carry) × (slice_get (a ∷ cs) i ≡ Some c) × (c.start ≡ n) × (at c.to ≡ x)
    here true e (inl s) = (0, a, refl, same_from a.start n e, s)
    here true e (inr z) = absurd z
    here false e h = absurd h
