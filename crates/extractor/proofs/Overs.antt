-- The node that a label names, from the nodes over its place.
use Rattle.std.proofs.Common.{◌≡◌, ℕ, ◌<◌, ◌≤◌, inl, inr, List, length, get_or, map, refl, sym, ◌∙◌, ap, subst, arith}
use Rattle.std.specs.Prelude.{Option, Some, None, MatchOption, slice_get}
use Rattle.std.proofs.lemmas.Bool.{cases_lt}
use Rattle.std.proofs.lemmas.Option.{slice_get-map, slice_get-get_or, slice_get_within, get_or_from_slice_get}
use Rattle.std.specs.Option.{option_map}
use Rattle.lam_geom.specs.declared.layer.Layer.{Layer}
use Rattle.lam_geom.specs.declared.layer.Layer.TheVariants.{ND, NP, NC, NM, NI, NB, NG}
use Rattle.lam_geom.specs.declared.label.FlatLabel.{FlatLabel}
use Rattle.lam_geom.specs.declared.rect.Rect.{Rect}
use Rattle.lam_geom.specs.Squares.{Square, rank, covered}
use Rattle.switch_net.specs.Conductors.{ConductsOn}
use Rattle.switch_net.specs.Drawn.{AreNodes, IsOfNode}
use Rattle.switch_net.specs.Labels.{Names, IsNamed, IsFirst}
use Rattle.mask_pieces.specs.Columns.{square_at}
use Rattle.mask_nodes.specs.Drawn.{AreNodesOver, IsNodeOver}
use Rattle.extractor.specs.declared.over.Over.{Over}
use Rattle.extractor.specs.Naming.{first_node, named_node, node_on, or_else, point_of}
use Rattle.extractor.proofs.Naming.{no_label}
use Rattle.extractor.proofs.Nodes.{conducts_there}

-- the label names a square of the node
pub record IsOnNode (shapes : List Rect) (nodes : List Square) (label : FlatLabel) (k : ℕ) : Type 0 where
  pub square : Square
  pub names : Names (covered shapes) label square
  pub node : IsOfNode (covered shapes) nodes k square

-- the node that a label names is this, if any
abbrev pub IsNodeNamed : List Rect → List Square → FlatLabel → Option ℕ → Type 0
IsNodeNamed shapes nodes label o =
    MatchOption o ((s : Square) → ¬ Names (covered shapes) label s) (IsOnNode shapes nodes label)

module _ (shapes : List Rect) (nodes : List Square) (are : AreNodes (covered shapes) nodes) (label : FlatLabel) where
  abbrev On : Layer → Type 0
  On l = ConductsOn (covered shapes) l label.x label.y

  abbrev Over_ : Layer → Option ℕ → Type 0
  Over_ l o = IsNodeOver shapes nodes l (point_of label) o

  -- the first layer that conducts, and its node
  record IsFirstNode (k : ℕ) : Type 0 where
    pub l : Layer
    pub first : IsFirst (covered shapes) label.x label.y l
    pub node : IsOfNode (covered shapes) nodes k (square_at l (point_of label))

  conducts : (l : Layer) (k : ℕ) → IsOfNode (covered shapes) nodes k (square_at l (point_of label)) → On l
  conducts l k h = conducts_there (covered shapes) nodes are k (square_at l (point_of label)) h

  above_metal : (m : Layer) → rank m < 0 → ¬ On m
  above_metal m l = absurd (omega arith)

  above_polysilicon : ¬ On NM → (m : Layer) → rank m < 1 → ¬ On m
  above_polysilicon a NM l = a
  above_polysilicon a NP l = absurd (omega arith)
  above_polysilicon a ND l = absurd (omega arith)
  above_polysilicon a NC l = λ h. h
  above_polysilicon a NI l = λ h. h
  above_polysilicon a NB l = λ h. h
  above_polysilicon a NG l = λ h. h

  above_diffusion : ¬ On NM → ¬ On NP → (m : Layer) → rank m < 2 → ¬ On m
  above_diffusion a b NM l = a
  above_diffusion a b NP l = b
  above_diffusion a b ND l = absurd (omega arith)
  above_diffusion a b NC l = λ h. h
  above_diffusion a b NI l = λ h. h
  above_diffusion a b NB l = λ h. h
  above_diffusion a b NG l = λ h. h

  nowhere : ¬ On NM → ¬ On NP → ¬ On ND → (m : Layer) → ¬ On m
  nowhere a b d NM = a
  nowhere a b d NP = b
  nowhere a b d ND = d
  nowhere a b d NC = λ h. h
  nowhere a b d NI = λ h. h
  nowhere a b d NB = λ h. h
  nowhere a b d NG = λ h. h

  first_is : (m p d : Option ℕ) → Over_ NM m → Over_ NP p → Over_ ND d
      → MatchOption (first_node (record { metal = m; polysilicon = p; diffusion = d }))
      ((l : Layer) → ¬ On l) IsFirstNode
  first_is (Some k) p d a b e = record { l = NM; first = (conducts NM k a, above_metal); node = a }
  first_is None (Some k) d a b e = record { l = NP; first = (conducts NP k b, above_polysilicon a); node = b }
  first_is None None (Some k) a b e = record { l = ND; first = (conducts ND k e, above_diffusion a b); node = e }
  first_is None None None a b e = nowhere a b e

  own_is : (over : Over) (l : Layer) → Over_ NM over.metal → Over_ NP over.polysilicon → Over_ ND over.diffusion
      → Over_ l (node_on over l)
  own_is over NM a b e = a
  own_is over NP a b e = b
  own_is over ND a b e = e
  own_is over NC a b e = λ h. h
  own_is over NI a b e = λ h. h
  own_is over NB a b e = λ h. h
  own_is over NG a b e = λ h. h

  on_named : (o : Option Layer) (l : Layer) → IsNamed (covered shapes) label.x label.y o l → On l
  on_named None l h = h.0
  on_named (Some m) l (inl h) = subst On (sym h.0) h.1
  on_named (Some m) l (inr h) = h.1.0

  -- a square that a label names conducts
  none_named : ((l : Layer) → ¬ On l) → (s : Square) → ¬ Names (covered shapes) label s
  none_named none s n = none s.layer (on_named label.layer s.layer n.layer)

  on_node : (l : Layer) (k : ℕ) → IsNamed (covered shapes) label.x label.y label.layer l
      → IsOfNode (covered shapes) nodes k (square_at l (point_of label))
      → IsOnNode shapes nodes label k
  on_node l k n h =
      record { square = square_at l (point_of label); names = record { x = refl; y = refl; layer = n }; node = h }

  is_named : (over : Over) → Over_ NM over.metal → Over_ NP over.polysilicon → Over_ ND over.diffusion
      → (lo : Option Layer) → label.layer ≡ lo → IsNodeNamed shapes nodes label (named_node over lo)
  is_named over a b e None is = by_first (first_node over) (first_is over.metal over.polysilicon over.diffusion a b e)
    where
      by_first : (o : Option ℕ) → MatchOption o ((l : Layer) → ¬ On l) IsFirstNode → IsNodeNamed shapes nodes label o
      by_first (Some k) f =
          on_node f.l k (subst (λ x. IsNamed (covered shapes) label.x label.y x f.l) (sym is) f.first) f.node
      by_first None f = none_named f
  is_named over a b e (Some m) is = by_own (node_on over m) (own_is over m a b e)
    where
      by_first : ¬ On m → (o : Option ℕ) → MatchOption o ((l : Layer) → ¬ On l) IsFirstNode
          → IsNodeNamed shapes nodes label o
      by_first absent (Some k) f =
          on_node f.l k
          (subst (λ x. IsNamed (covered shapes) label.x label.y x f.l) (sym is) (inr (absent, f.first))) f.node
      by_first absent None f = none_named f

      by_own : (o : Option ℕ) → Over_ m o → IsNodeNamed shapes nodes label (or_else o (first_node over))
      by_own (Some k) f =
          on_node m k
          (subst (λ x. IsNamed (covered shapes) label.x label.y x m) (sym is) (inl (refl, conducts m k f))) f
      by_own None f = by_first f (first_node over) (first_is over.metal over.polysilicon over.diffusion a b e)

  pub node_named : (over : Over) → Over_ NM over.metal → Over_ NP over.polysilicon → Over_ ND over.diffusion
      → IsNodeNamed shapes nodes label (named_node over label.layer)
  node_named over a b e = is_named over a b e label.layer refl

-- a column has an entry for each label
module _ (shapes : List Rect) (nodes : List Square) (labels : List FlatLabel) (l : Layer) (column : List (Option ℕ))
    (over : AreNodesOver shapes nodes l (map point_of labels) column) where
  pub entry : (n : ℕ) (label : FlatLabel) → slice_get labels n ≡ Some label
      → IsNodeOver shapes nodes l (point_of label) (get_or column n None)
  entry n label at =
      let none : Option ℕ = None in
      let w = over.each n (point_of label) (slice_get-map point_of labels n ∙ ap (option_map point_of) at) in
      subst (IsNodeOver shapes nodes l (point_of label)) (sym (get_or_from_slice_get column n w.0 none w.1)) w.2

  pub column_long : length labels ≤ length column
  column_long = elim (cases_lt (length column) (length labels)) [
    | inl k ↦ (
        let n : ℕ = length column in
        let at = slice_get-get_or labels n no_label k in
        let w = over.each n (point_of (get_or labels n no_label))
        (slice_get-map point_of labels n ∙ ap (option_map point_of) at) in
        let m = slice_get_within column n w.0 w.1 in
        absurd (omega arith)
        )
    | inr k ↦ k
  ]
