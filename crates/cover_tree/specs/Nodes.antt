-- Nodes of a tree: up to which row each of some layers covers a part as a whole, which of them did so in the row told
-- last, and a note. The layers are ND, NP, NB, NM and a further one.
use Rattle.std.specs.Prelude.{◌&&◌, ℕ, ◌/◌, ◌%◌, Bool, true, false, nat_lt, if◌then◌else◌}
use Rattle.lam_geom.specs.declared.layer.Layer.{Layer}
use Rattle.lam_geom.specs.declared.layer.Layer.TheVariants.{ND, NP, NC, NM, NI, NB, NG}
use Rattle.mask_runs.specs.declared.mask.Layers.{Layers}
use Rattle.cover_tree.specs.declared.layer_set.LayerSet.{LayerSet}
use Rattle.cover_tree.specs.declared.node.Node.{Node}
use Rattle.cover_tree.specs.declared.node.Tops.{Tops}
use Rattle.cover_tree.specs.declared.note.Note.{Note}

-- whether the layer is one of these, where the other one is the further layer
abbrev pub keeps : Layer → Layer → Bool
keeps ND _ = true
keeps NP _ = true
keeps NB _ = true
keeps NM _ = true
keeps NC NC = true
keeps NC _ = false
keeps NI NI = true
keeps NI _ = false
keeps NG NG = true
keeps NG _ = false

-- the top of the layer, which is 0 where it's none of these
abbrev pub layer_top : Layer → Layer → Tops → ℕ
layer_top ND further tops = tops.nd
layer_top NP further tops = tops.np
layer_top NB further tops = tops.nb
layer_top NM further tops = tops.nm
layer_top NC further tops = if keeps NC further then tops.further else 0
layer_top NI further tops = if keeps NI further then tops.further else 0
layer_top NG further tops = if keeps NG further then tops.further else 0

-- the layers whose tops lie above the row
abbrev pub above : Layer → Tops → ℕ → Layers
above further tops row = record {
  nd = nat_lt row tops.nd;
  np = nat_lt row tops.np;
  nc = keeps NC further && nat_lt row tops.further;
  nm = nat_lt row tops.nm;
  ni = keeps NI further && nat_lt row tops.further;
  nb = nat_lt row tops.nb;
  ng = keeps NG further && nat_lt row tops.further;
}

abbrev pub no_tops : Tops
no_tops = record { nd = 0; np = 0; nb = 0; further = 0; nm = 0 }

-- tops above row 0 for the layers of a set
abbrev pub set_tops : LayerSet → Tops
set_tops s = record {
  nd = s.bits % 2;
  np = s.bits / 2 % 2;
  nb = s.bits / 4 % 2;
  further = s.bits / 8 % 2;
  nm = s.bits / 16 % 2;
}

-- the layers of a set
abbrev pub layers_of : Layer → LayerSet → Layers
layers_of further s = above further (set_tops s) 0

abbrev pub no_layers : LayerSet
no_layers = record { bits = 0 }

abbrev pub stale : Note
stale = record { until = 0; kinds = record { bits = 0 } }

abbrev pub blank : Node
blank = record { tops = no_tops; told = no_layers; note = stale }
