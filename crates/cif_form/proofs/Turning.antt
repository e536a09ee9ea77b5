-- Turns are found again in their kinds and points.
use Rattle.std.proofs.Common.{◌≡◌, List, [], ◌∷◌, ◌++◌, refl, sym, ◌∙◌, ap, ap₂, subst, map, append-nil}
use Rattle.std.specs.List.{flat_map}
use Rattle.std.proofs.lemmas.Grind.{flat_map-append}
use Rattle.std.proofs.lemmas.List.{map-append}
use Rattle.lam_geom.specs.declared.place.Point.{Point}
use Rattle.cif_form.specs.declared.command.Turn.{Turn}
use Rattle.cif_form.specs.declared.command.Turn.TheVariants.{Move, MirrorX, MirrorY, Rotate}
use Rattle.cif_form.specs.declared.turns.TurnKind.{TurnKind}
use Rattle.cif_form.specs.Turning.{AreOf, kind_of, points_of, turns_of}

taken : (ts : List Turn) → turns_of (map kind_of ts) (flat_map points_of ts) ≡ ts
taken [] = refl
taken (Move p ∷ ts) = ap (λ xs. Move p ∷ xs) (taken ts)
taken (MirrorX ∷ ts) = ap (λ xs. MirrorX ∷ xs) (taken ts)
taken (MirrorY ∷ ts) = ap (λ xs. MirrorY ∷ xs) (taken ts)
taken (Rotate p ∷ ts) = ap (λ xs. Rotate p ∷ xs) (taken ts)

found : (ts : List Turn) (ks : List TurnKind) (ps : List Point) → AreOf ts ks ps → turns_of ks ps ≡ ts
found ts ks ps a = ap₂ turns_of a.kinds a.points ∙ taken ts

points_with : (ts : List Turn) (t : Turn) → flat_map points_of (ts ++ t ∷ []) ≡ flat_map points_of ts ++ points_of t
points_with ts t =
    flat_map-append points_of ts (t ∷ []) ∙ ap (λ xs. flat_map points_of ts ++ xs) (append-nil (points_of t))

more : (ts : List Turn) (ks new_ks : List TurnKind) (ps new_ps : List Point) (t : Turn) → AreOf ts ks ps
    → new_ks ≡ ks ++ kind_of t ∷ [] → new_ps ≡ ps ++ points_of t
    → AreOf (ts ++ t ∷ []) new_ks new_ps
more ts ks new_ks ps new_ps t a e f = record {
  kinds = e ∙ ap (λ xs. xs ++ kind_of t ∷ []) a.kinds ∙ sym (map-append kind_of ts (t ∷ []));
  points = f ∙ ap (λ xs. xs ++ points_of t) a.points ∙ sym (points_with ts t);
}

-- one more turn is one more kind, and its point if it has one
pub pushed : (ts : List Turn) (ks new_ks : List TurnKind) (ps new_ps : List Point) (t : Turn) → AreOf ts ks ps
    → new_ks ≡ ks ++ kind_of t ∷ [] → new_ps ≡ ps ++ points_of t
    → (turns_of new_ks new_ps ≡ ts ++ t ∷ []) × AreOf (turns_of new_ks new_ps) new_ks new_ps
pushed ts ks new_ks ps new_ps t a e f =
    let b = more ts ks new_ks ps new_ps t a e f in
    let same = found (ts ++ t ∷ []) new_ks new_ps b in
    (same, subst (λ xs. AreOf xs new_ks new_ps) (sym same) b)
