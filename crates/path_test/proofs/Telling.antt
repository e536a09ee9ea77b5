-- What the tests of gates tell.
use Rattle.std.proofs.Common.{◌≡◌, zero, suc, ◌⊎◌, inl, inr, List, [], ◌∷◌, Bool, true, false, refl}
use Rattle.std.proofs.Common.{ap, subst, get_or, arith}
use Rattle.std.specs.Prelude.{All, Contains, ◌||◌, ◌==◌}
use Rattle.std.specs.List.{list_all, list_any}
use Rattle.std.proofs.lemmas.Bool.{false≢true}
use Rattle.std.proofs.lemmas.Bool.Decides.{nat_tests}
use Rattle.mp_base.proofs.Tests.{and_left, and_right}
use Rattle.nor_net.specs.declared.net.NetId.{NetId}
use Rattle.nor_net.proofs.Parts.{same_net}
use Rattle.path_reduce.specs.declared.images.Becomes.{Becomes}
use Rattle.path_reduce.specs.declared.images.Becomes.TheVariants.{Net, Low, High, LeftOut}
use Rattle.path_reduce.specs.Tables.{becomes_at}
use Rattle.path_test.specs.Becoming.{BecomeNets, is_among, is_high, is_low, is_net, stays}

module _ {A : Type 0} (test : A → Bool) where
  -- all pass
  pub all_pass : (xs : List A) → list_all test xs ≡ true → All (λ x. test x ≡ true) xs
  all_pass [] h k d l = absurd (omega arith)
  all_pass (x ∷ xs) h zero d l = and_left (test x) (list_all test xs) h
  all_pass (x ∷ xs) h (suc k) d l = all_pass xs (and_right (test x) (list_all test xs) h) k d (omega arith)

  -- some one passes
  pub one_passes : (xs : List A) → list_any test xs ≡ true → (x : A) × Contains xs x × (test x ≡ true)
  one_passes [] h = absurd (false≢true h)
  one_passes (x ∷ xs) h = by_head (test x) refl h (one_passes xs)
    where
      by_head : (b : Bool) → test x ≡ b → (b || list_any test xs) ≡ true
          → (list_any test xs ≡ true → (y : A) × Contains xs y × (test y ≡ true))
          → (y : A) × Contains (x ∷ xs) y × (test y ≡ true)
      by_head true e h again = (x, (0, omega arith, refl), e)
      by_head false e h again =
          let y = again h in
          let c = y.1 in (y.0, (suc c.0, (let m = c.1 in omega (arith, m)), c.2), y.2)

same_number : (j k : NetId) → (j.0 == k.0) ≡ true → j ≡ k
same_number j k e = same_net j k (let q : j.0 ≡ k.0 = grind (arith, nat_tests) in q)

pub net_is : (k : NetId) (b : Becomes) → is_net k b ≡ true → b ≡ Net k
net_is k (Net j) e = ap (λ n. Net n) (same_number j k e)
net_is k Low e = absurd (false≢true e)
net_is k High e = absurd (false≢true e)
net_is k LeftOut e = absurd (false≢true e)

pub low_is : (b : Becomes) → is_low b ≡ true → b ≡ Low
low_is Low e = refl
low_is (Net j) e = absurd (false≢true e)
low_is High e = absurd (false≢true e)
low_is LeftOut e = absurd (false≢true e)

pub high_is : (b : Becomes) → is_high b ≡ true → b ≡ High
high_is High e = refl
high_is (Net j) e = absurd (false≢true e)
high_is Low e = absurd (false≢true e)
high_is LeftOut e = absurd (false≢true e)

among_is : (others : List NetId) (b : Becomes) → is_among others b ≡ true
    → (b ≡ Low) ⊎ ((k : NetId) × (b ≡ Net k) × Contains others k)
among_is others Low e = inl refl
among_is others (Net k) e =
    let x = one_passes (λ (other : NetId). other.0 == k.0) others e in
    inr (k, refl, subst (Contains others) (same_number x.0 k x.2) x.1)
among_is others High e = absurd (false≢true e)
among_is others LeftOut e = absurd (false≢true e)

module _ (table : List Becomes) (inputs : List NetId) where
  pub nets_become : (others : List NetId)
      → list_all (λ (m : NetId). is_among others (becomes_at table m.0)) inputs ≡ true
      → list_all (λ (k : NetId). list_any (λ (m : NetId). is_net k (becomes_at table m.0)) inputs) others ≡ true
      → BecomeNets table inputs others
  nets_become others each only = record {
    each = λ k d l. among_is others (becomes_at table (get_or inputs k d).0)
        (all_pass (λ (m : NetId). is_among others (becomes_at table m.0)) inputs each k d l);
    only = λ k d l.
        let x = one_passes (λ (m : NetId). is_net (get_or others k d) (becomes_at table m.0)) inputs
        (all_pass (λ (k : NetId). list_any (λ (m : NetId). is_net k (becomes_at table m.0)) inputs) others only k d
        l) in
        (x.0, x.1, net_is (get_or others k d) (becomes_at table (x.0).0) x.2);
  }

  pub held_low : list_all (λ (m : NetId). stays (becomes_at table m.0)) inputs ≡ true
      → list_any (λ (m : NetId). is_high (becomes_at table m.0)) inputs ≡ true
      → All (λ (m : NetId). stays (becomes_at table m.0) ≡ true) inputs
      × ((m : NetId) × Contains inputs m × (becomes_at table m.0 ≡ High))
  held_low all some =
      let x = one_passes (λ (m : NetId). is_high (becomes_at table m.0)) inputs some in (
        all_pass (λ (m : NetId). stays (becomes_at table m.0)) inputs all,
        (x.0, x.1, high_is (becomes_at table (x.0).0) x.2),
      )

  pub all_low : list_all (λ (m : NetId). is_low (becomes_at table m.0)) inputs ≡ true
      → All (λ (m : NetId). becomes_at table m.0 ≡ Low) inputs
  all_low e k d l = low_is (becomes_at table (get_or inputs k d).0)
      (all_pass (λ (m : NetId). is_low (becomes_at table m.0)) inputs e k d l)
