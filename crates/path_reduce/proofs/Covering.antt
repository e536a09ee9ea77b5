-- Every path has finitely many nets.
use Rattle.std.proofs.Common.{◌≡◌, ℕ, ◌<◌, ◌≤◌, ◌+◌, zero, suc, ◌⊎◌, inl, inr, List, [], ◌∷◌, ◌++◌, Option, Some, None}
use Rattle.std.proofs.Common.{cond, length, refl, sym, ◌∙◌, ap, subst, arith}
use Rattle.std.specs.Prelude.{Contains, slice_get}
use Rattle.std.proofs.lemmas.Bool.{cases_lt, le-ltb, lt-ltb}
use Rattle.std.proofs.lemmas.Option.{none-some, slice_get_within}
use Rattle.std.proofs.lemmas.List.Elements.{Contains-append_left, Contains-append_right}
use Rattle.nor_net.specs.declared.net.Part.{Part}
use Rattle.nor_net.specs.Elements.{Spot}
use Rattle.nor_net.specs.Laws.{Covers}
use Rattle.path_form.specs.declared.path.DataPath.{DataPath}
use Rattle.path_form.specs.Nets.{control_part, slice_part, band_nets}
use Rattle.path_form.specs.Showing.{path_nets}

abbrev row : ℕ → ℕ → List Spot
row b zero = []
row b (suc n) = record { band = b; net = n } ∷ row b n

abbrev pub grid : ℕ → ℕ → List Spot
grid zero n = []
grid (suc b) n = row b n ++ grid b n

in_row : (b m n : ℕ) → m < n → Contains (row b n) (record { band = b; net = m })
in_row b m zero l = absurd (omega arith)
in_row b m (suc n) l = by_place (cases_lt m n) (in_row b m n)
  where
    by_place : (m < n) ⊎ (n ≤ m) → (m < n → Contains (row b n) (record { band = b; net = m }))
        → Contains (row b (suc n)) (record { band = b; net = m })
    by_place (inl h) again = let c = again h in (suc c.0, (let l = c.1 in omega (arith, l)), c.2)
    by_place (inr h) again = let e : n ≡ m = omega arith in (0, omega arith, λ i. record { band = b; net = e i })

in_grid : (b m bands nets : ℕ) → b < bands → m < nets → Contains (grid bands nets) (record { band = b; net = m })
in_grid b m zero nets l h = absurd (omega arith)
in_grid b m (suc bands) nets l h = by_place (cases_lt b bands) (λ k. in_grid b m bands nets k h)
  where
    by_place : (b < bands) ⊎ (bands ≤ b) → (b < bands → Contains (grid bands nets) (record { band = b; net = m }))
        → Contains (grid (suc bands) nets) (record { band = b; net = m })
    by_place (inl k) again = Contains-append_right (row bands nets) (grid bands nets) (record { band = b; net = m })
        (again k)
    by_place (inr k) again =
        let e : b ≡ bands = omega arith in
        Contains-append_left (row bands nets) (grid bands nets) (record { band = b; net = m })
        (subst (λ x. Contains (row x nets) (record { band = b; net = m })) e (in_row b m nets h))

module _ (p : DataPath) where
  abbrev pub most : ℕ
  most = length p.control + length p.slices.net

  pub covers : Covers (grid (suc p.width) most) (path_nets p)
  covers n e is = by_band n.band n.net is
    where
      by_band : (b m : ℕ) → band_nets p.width p.control p.slices p.casts p.lifts b m ≡ Some e
          → Contains (grid (suc p.width) most) (record { band = b; net = m })
      by_band zero m q = in_grid zero m (suc p.width) most (omega arith) (by_part (slice_get p.control m) refl q)
        where
          by_part : (o : Option Part) → slice_get p.control m ≡ o → control_part p.lifts m o ≡ Some e → m < most
          by_part None f q = absurd (none-some e q)
          by_part (Some part) f q = let l = slice_get_within p.control m part f in omega (arith, l)
      by_band (suc k) m q = by_slice (cases_lt k p.width)
        where
          by_part : (o : Option Part) → slice_get p.slices.net m ≡ o
              → slice_part p.width p.slices p.casts k m o ≡ Some e → m < most
          by_part None f q = absurd (none-some e q)
          by_part (Some part) f q = let l = slice_get_within p.slices.net m part f in omega (arith, l)

          by_slice : (k < p.width) ⊎ (p.width ≤ k) → Contains (grid (suc p.width) most)
              (record { band = suc k; net = m })
          by_slice (inl l) =
              in_grid (suc k) m (suc p.width) most (omega arith)
              (by_part (slice_get p.slices.net m) refl
              (sym (ap (λ b. cond b (slice_part p.width p.slices p.casts k m (slice_get p.slices.net m)) None)
              (lt-ltb k p.width l)) ∙ q))
          by_slice (inr g) =
              absurd (none-some e (sym (ap (λ b. cond b (slice_part p.width p.slices p.casts k m
              (slice_get p.slices.net m)) None) (le-ltb k p.width g)) ∙ q))
