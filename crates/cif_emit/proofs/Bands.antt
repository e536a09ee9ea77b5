-- Each fabric has bands in which its symbols are shared.
use Rattle.std.proofs.Common.{◌≡◌, ◌∙◌, ◌<◌, ◌≤◌, ℕ, List, [], ◌∷◌, length, get_or, drop, refl, sym, ap, subst, inl}
use Rattle.std.proofs.Common.{inr}
use Rattle.std.proofs.Common.{arith}
use Rattle.std.specs.Prelude.{All}
use Rattle.mp_base.proofs.Decisions.{Decided, both_of, decided_below, holds_of_all, is_number, is_within, same_claim}
use Rattle.slice_symbols.specs.declared.bands.Bands.{Bands}
use Rattle.cif_emit.specs.Emittable.{AreBandsAbove, CanShare, bands_above, far_band}

can_share : (lowest each : ℕ) (upper : List ℕ) → Decided (CanShare (lowest ∷ upper) lowest each upper)
can_share lowest each upper = same_claim
    (both_of (holds_of_all (λ other. other ≡ each) (λ other. is_number other each) upper)
    (both_of (is_within 2 (length upper)) (both_of (is_within (length upper) 64)
    (both_of (decided_below lowest 100_000) (decided_below each 5_000)))))
    (λ (alike, (several, (few, (low, lower)))). record {
      are = refl;
      alike = alike;
      several = several;
      few = few;
      low = low;
      lower = lower;
    })
    (λ can. (can.alike, (can.several, (can.few, (can.low, can.lower)))))

-- bands that can be shared are those behind the lowest, as high as the first of them
first_upper : (lowest each : ℕ) (more : List ℕ) (low all : ℕ) (upper : List ℕ)
    → CanShare (lowest ∷ each ∷ more) low all upper
    → CanShare (lowest ∷ each ∷ more) lowest each (each ∷ more)
first_upper lowest each more low all upper can =
    let behind : each ∷ more ≡ upper = ap (drop 1) can.are in
    let first : lowest ≡ low = ap (λ rows. get_or rows 0 0) can.are in
    let one : each ≡ all =
    ap (λ rows. get_or rows 0 0) behind ∙ can.alike 0 0 (let n = can.several in omega (arith, n)) in
    let low = can.low in
    let lower = can.lower in
    record {
      are = refl;
      alike = subst (λ rows. All (λ other. other ≡ each) rows) (sym behind) (λ k d lt. can.alike k d lt ∙ sym one);
      several = subst (λ rows. 2 ≤ length rows) (sym behind) can.several;
      few = subst (λ rows. length rows ≤ 64) (sym behind) can.few;
      low = subst (λ n. n < 100_000) (sym first) low;
      lower = subst (λ n. n < 5_000) (sym one) lower;
    }

pub bands_exist : (rows : List ℕ) → (bands : Bands) × AreBandsAbove rows bands
bands_exist [] = (far_band, inr ((λ lowest each upper can. (let e = can.are in cc)), refl))
bands_exist (only ∷ []) = (far_band, inr (none, refl))
  where
    none : (lowest each : ℕ) (upper : List ℕ) → CanShare (only ∷ []) lowest each upper → ⊥
    none lowest each upper can =
        let e = ap (λ rows. length (drop 1 rows)) can.are in
        let several = can.several in
        omega (arith, e, several)
bands_exist (lowest ∷ each ∷ more) = by (can_share lowest each (each ∷ more))
  where
    by : Decided (CanShare (lowest ∷ each ∷ more) lowest each (each ∷ more))
        → (bands : Bands) × AreBandsAbove (lowest ∷ each ∷ more) bands
    by (inl can) = (bands_above lowest each (length (each ∷ more)), inl (lowest, each, each ∷ more, can, refl))
    by (inr cannot) =
        (far_band, inr ((λ low all upper can. cannot (first_upper lowest each more low all upper can)), refl))
