-- A path that another one is reduced to shows what that one shows.
use Rattle.std.proofs.Common.{◌≡◌, ℕ, ◌<◌, zero, suc, List, [], ◌∷◌, length, map, refl, sym, ◌∙◌, ap, subst, arith}
use Rattle.std.specs.Prelude.{true, slice_index_or}
use Rattle.std.specs.List.{AllZip}
use Rattle.std.proofs.lemmas.Option.{slice_get_within}
use Rattle.mp_base.specs.declared.value.Trit.{Trit}
use Rattle.mp_base.specs.declared.value.Trit.TheVariants.{X}
use Rattle.mp_base.specs.declared.pad.Pad.{Pad}
use Rattle.mp_base.specs.declared.pad.Pads.{Pads}
use Rattle.mp_base.proofs.Entries.{some_entry}
use Rattle.nor_net.specs.declared.net.NetId.{NetId}
use Rattle.nor_net.specs.Elements.{Spot, Nets}
use Rattle.nor_net.specs.Settled.{IsSolution}
use Rattle.nor_net.specs.Clock.{IsTraceBy}
use Rattle.rtl_form.specs.declared.rtl.Rtl.{Rtl}
use Rattle.path_form.specs.declared.path.DataPath.{DataPath}
use Rattle.path_form.specs.Showing.{path_nets, pad_spot, HasPadValues, ShowsTransfers}
use Rattle.path_reduce.specs.Reducing.{Image, is_kept, image_value, pulled, KeepsPads, Reduces, ReducedShows}
use Rattle.path_reduce.proofs.Pulling.{Agrees, trace}

module _ (image : Spot → Image) (pads : List Pad) (ids others : List NetId) (keeps : KeepsPads image pads ids others)
  where
    -- what the reduced path is given the path is given
    values_pulled : length others ≡ length pads → (values : List ℕ) (v : Spot → Trit)
        → HasPadValues pads others values v → HasPadValues pads ids values (pulled image v)
    values_pulled size values v h i pad id k is_pad is_id l =
        let within = slice_get_within pads i pad is_pad in
        let other = some_entry others i (omega (arith, size, within)) in
        ap (image_value v) (keeps i pad id other.0 k is_pad is_id other.1 l) ∙ h i pad other.0 k is_pad other.1 l

    all_pulled : length others ≡ length pads → (inputs : List (List ℕ)) (givens : List (Spot → Trit))
        → AllZip (HasPadValues pads others) inputs givens
        → AllZip (HasPadValues pads ids) inputs (map (pulled image) givens)
    all_pulled size [] [] z = tt
    all_pulled size [] (g ∷ gs) z = absurd z
    all_pulled size (i ∷ is) [] z = absurd z
    all_pulled size (i ∷ is) (g ∷ gs) z = (values_pulled size i g z.0, all_pulled size is gs z.1)

    -- what the path shows the reduced one shows
    values_shown : length ids ≡ length pads → (values : List ℕ) (v w : Spot → Trit)
        → ((n : Spot) → is_kept (image n) ≡ true → w n ≡ pulled image v n)
        → HasPadValues pads ids values w → HasPadValues pads others values v
    values_shown size values v w agree h i pad other k is_pad is_other l =
        let within = slice_get_within pads i pad is_pad in
        let id = some_entry ids i (omega (arith, size, within)) in
        let is = keeps i pad id.0 other k is_pad id.1 is_other l in
        sym (ap (image_value v) is) ∙ sym (agree (pad_spot pad id.0 k) (ap is_kept is)) ∙ h i pad id.0 k is_pad id.1 l

zip_long : {A B : Type 0} (P : A → B → Type 0) (xs : List A) (ys : List B) → AllZip P xs ys → length xs ≡ length ys
zip_long P [] [] z = refl
zip_long P [] (y ∷ ys) z = absurd z
zip_long P (x ∷ xs) [] z = absurd z
zip_long P (x ∷ xs) (y ∷ ys) z = let r = zip_long P xs ys z.1 in omega (arith, r)

trace_long : (nets : Nets) (before : Spot → Trit) (givens showns : List (Spot → Trit)) (after : Spot → Trit)
    → IsTraceBy IsSolution nets before givens showns after → length givens ≡ length showns
trace_long nets before [] [] after h = refl
trace_long nets before [] (s ∷ ss) after h = absurd h
trace_long nets before (g ∷ gs) [] after h = absurd h
trace_long nets before (g ∷ gs) (s ∷ ss) after h =
    let r = trace_long nets h.0 gs ss after h.2 in omega (arith, r)

zip_at : {A B : Type 0} (P : A → B → Type 0) (xs : List A) (ys : List B) (k : ℕ) (x : A) (y : B) → AllZip P xs ys
    → k < length xs → P (slice_index_or xs k x) (slice_index_or ys k y)
zip_at P [] ys k x y z l = absurd (omega arith)
zip_at P (a ∷ xs) [] k x y z l = absurd z
zip_at P (a ∷ xs) (b ∷ ys) zero x y z l = z.0
zip_at P (a ∷ xs) (b ∷ ys) (suc k) x y z l = zip_at P xs ys k x y z.1 (omega arith)

-- of paths with these pads
with_pads : (r : Rtl) (p q : DataPath) (image : Spot → Image) (red : Reduces p q image) (pads : Pads)
    → r.pads ≡ pads → p.pads ≡ pads → ShowsTransfers r p → ShowsTransfers r q
with_pads r p q image red pads is_r is_p shows inputs outputs fit t before givens showns after z l k lt settled =
    let ins = ap (λ (x : Pads). x.inputs) (is_p ∙ sym is_r) in
    let outs = ap (λ (x : Pads). x.outputs) (is_p ∙ sym is_r) in
    let keeps_in : KeepsPads image (r.pads).inputs p.inputs q.inputs = subst
    (λ x. KeepsPads image x p.inputs q.inputs) ins red.inputs in
    let keeps_out : KeepsPads image (r.pads).outputs p.outputs q.outputs = subst
    (λ x. KeepsPads image x p.outputs q.outputs) outs red.outputs in
    let size_in : length q.inputs ≡ length (r.pads).inputs =
    q.whole.entries_fit.0.0 ∙ ap (λ (x : Pads). length x.inputs) red.pads ∙ ap length ins in
    let size_out : length p.outputs ≡ length (r.pads).outputs = p.whole.entries_fit.1.0 ∙ ap length outs in
    let z' = all_pulled image (r.pads).inputs p.inputs q.inputs keeps_in size_in inputs givens z in
    let ours = trace p q image red before (pulled image before) givens showns after (λ n h. refl) l in
    let h = shows inputs outputs fit t (pulled image before) (map (pulled image) givens) ours.0 ours.1 z' ours.2 k lt
    settled in
    let long_in = zip_long (HasPadValues (r.pads).inputs q.inputs) inputs givens z in
    let long_out = trace_long (path_nets q) before givens showns after l in
    let agree = zip_at (Agrees p q image red) showns ours.0 k (λ n. X) (λ n. X) ours.3
    (omega (arith, lt, long_in, long_out)) in
    values_shown image (r.pads).outputs p.outputs q.outputs keeps_out size_out (slice_index_or outputs k [])
    (slice_index_or showns k (λ n. X)) (slice_index_or ours.0 k (λ n. X)) agree h

pub reduced_shows : ReducedShows
reduced_shows r p q image red same shows = with_pads r p q image red r.pads refl same shows
