-- An extracted network draws a net as a circuit.
use Rattle.std.proofs.Common.{◌≡◌, ◌∙◌, ℕ, suc, ◌+◌, ◌<◌, List, [], ◌∷◌, ◌++◌, length, map, refl, sym, ap, subst, arith}
use Rattle.std.specs.Prelude.{All, Contains, flat_map}
use Rattle.std.specs.List.{AllZip}
use Rattle.std.proofs.lemmas.List.{length-append, length-map}
use Rattle.std.proofs.lemmas.List.Elements.{All-contains}
use Rattle.mp_base.specs.declared.pad.Pad.{Pad}
use Rattle.mp_base.specs.declared.pad.Pads.{Pads}
use Rattle.switch_net.specs.declared.network.Tag.{Tag}
use Rattle.switch_net.specs.declared.network.Network.{Network}
use Rattle.switch_net.specs.Clock.{IsLabelled}
use Rattle.switch_net.specs.Pads.{bit_labels, chip_labels}
use Rattle.nor_net.specs.Elements.{Spot, Given, Nets}
use Rattle.drawn_nets.specs.Law.{IsKind, AreFed}
use Rattle.drawing.specs.Draws.{Point, OfNet}
use Rattle.drawing.specs.Carrying.{DrawingsCarryOver}
use Rattle.drawn_nets.specs.Circuits.{IsPadAt, DrawsCircuit}
use Rattle.chip_laws.specs.Laws.{points, AreRowsOf, IsExtracted, NetworksDrawCircuits}

-- lists in two parts
zip_parts : {X Y : Type 0} (R : X → Y → Type 0) (xs zs : List X) (ys ws : List Y) → length xs ≡ length ys
    → AllZip R (xs ++ zs) (ys ++ ws)
    → AllZip R xs ys × AllZip R zs ws
zip_parts R [] zs [] ws l h = (tt, h)
zip_parts R [] zs (y ∷ ys) ws l h = absurd (omega (arith, l))
zip_parts R (x ∷ xs) zs [] ws l h = absurd (omega (arith, l))
zip_parts R (x ∷ xs) zs (y ∷ ys) ws l h = let p = zip_parts R xs zs ys ws (omega (arith, l)) h.1 in ((h.0, p.0), p.1)

module _ (network : Network) (node : Point → ℕ) where
  -- the point has this label
  abbrev On : List ℕ → Point → Type 0
  On name at = IsLabelled network name (node at)

  of_nets : (names : List (List ℕ)) (nets : List Spot) → AllZip On names (map OfNet nets)
      → AllZip (λ name net. IsLabelled network name (node (OfNet net))) names nets
  of_nets [] [] h = tt
  of_nets [] (n ∷ ns) h = absurd h
  of_nets (x ∷ xs) [] h = absurd h
  of_nets (x ∷ xs) (n ∷ ns) h = (h.0, of_nets xs ns h.1)

  abbrev bits : List (List Spot) → List Point
  bits rows = flat_map (λ row. map OfNet row) rows

  same_length : (pads : List Pad) (rows : List (List Spot)) → AreRowsOf pads rows
      → length (flat_map bit_labels pads) ≡ length (bits rows)
  same_length [] [] z = refl
  same_length [] (r ∷ rs) z = absurd z
  same_length (p ∷ ps) [] z = absurd z
  same_length (p ∷ ps) (r ∷ rs) z =
      let a = length-append (bit_labels p) (flat_map bit_labels ps) in
      let b = length-append (map OfNet r) (bits rs) in
      let c = length-map r OfNet in
      let d = same_length ps rs z.1 in
      let e : length (bit_labels p) ≡ length r = z.0 in
      a ∙ (let s : length (bit_labels p) + length (flat_map bit_labels ps) ≡ length (map OfNet r) + length (bits rs) =
      omega (arith, c, d, e) in s) ∙ sym b

  in_rows : (pads : List Pad) (rows : List (List Spot)) → AreRowsOf pads rows
      → AllZip On (flat_map bit_labels pads) (bits rows) → AllZip (IsPadAt network node) pads rows
  in_rows [] [] z h = tt
  in_rows [] (r ∷ rs) z h = absurd z
  in_rows (p ∷ ps) [] z h = absurd z
  in_rows (p ∷ ps) (r ∷ rs) z h =
      let c = length-map r OfNet in
      let e : length (bit_labels p) ≡ length r = z.0 in
      let w = zip_parts On (bit_labels p) (flat_map bit_labels ps) (map OfNet r) (bits rs) (e ∙ sym c) h in
      (of_nets (bit_labels p) r w.0, in_rows ps rs z.1 w.1)

module _ (n m : Network) (pads : Pads) (net : Nets) (ins outs : List (List Spot)) (place : Point → ℕ)
    (e : IsExtracted n m pads net ins outs place) where
  abbrev node : Point → ℕ
  node p = (e.numbers).node_back (place p)

  tag_on : (at : Point) (t : Tag) → Contains n.tags t → (e.numbers).node t.node ≡ place at
      → IsLabelled n t.name (node at)
  tag_on at t c s =
      let lt = All-contains (λ (t : Tag). t.node < n.nodes) n.tags t n.tags_in c in
      (t, c, refl, sym ((e.numbers).nodes.there_back t.node lt) ∙ ap (e.numbers).node_back s)

  all_on : (ts : List Tag) → ((t : Tag) → Contains ts t → Contains n.tags t) → (ps : List Point)
      → AllZip (λ at (t : Tag). (e.numbers).node t.node ≡ place at) ps ts
      → AllZip (On n node) (map (λ (t : Tag). t.name) ts) ps
  all_on [] inside [] z = tt
  all_on [] inside (p ∷ ps) z = absurd z
  all_on (t ∷ ts) inside [] z = absurd z
  all_on (t ∷ ts) inside (p ∷ ps) z = (
    tag_on p t (inside t (0, omega arith, refl)) z.0,
    all_on ts (λ u c. inside u (suc c.0, (let l = c.1 in omega (arith, l)), c.2)) ps z.1,
  )

  named : AllZip (On n node) (chip_labels pads) (points ins outs)
  named = subst (λ names. AllZip (On n node) names (points ins outs)) e.names
      (all_on n.tags (λ t c. c) (points ins outs) e.on)

  module _ (law : DrawingsCarryOver) (is_net : AreFed net) (in_rows_of : AreRowsOf pads.inputs ins)
      (out_rows_of : AreRowsOf pads.outputs outs)
      (are : All (λ nets. All (λ k. IsKind net k Given) nets) ins)
      (all : (k : Spot) → IsKind net k Given → (nets : List Spot) × Contains ins nets × Contains nets k) where
    drawn : DrawsCircuit n pads net ins outs node
    drawn =
        let (power, (ground, (phia, (phib, (phic, of_pads))))) = named in
        let (of_inputs, of_outputs) = zip_parts (On n node) (flat_map bit_labels pads.inputs)
        (flat_map bit_labels pads.outputs) (bits n node ins) (bits n node outs)
        (same_length n node pads.inputs ins in_rows_of) of_pads in
        record {
          is_fed = is_net;
          draws = law n m e.numbers net place e.inside e.draws;
          ground = ground;
          power = power;
          phia = phia;
          phib = phib;
          phic = phic;
          inputs = in_rows n node pads.inputs ins in_rows_of of_inputs;
          outputs = in_rows n node pads.outputs outs out_rows_of of_outputs;
          are_inputs = are;
          all_inputs = all;
        }

pub networks_draw_circuits : DrawingsCarryOver → NetworksDrawCircuits
networks_draw_circuits law n m pads net ins outs place e is_net i o are all =
    drawn n m pads net ins outs place e law is_net i o are all
