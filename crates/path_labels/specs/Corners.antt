-- Labels in the corners of nets, with the heights of the ports of these nets.
use Rattle.std.specs.Prelude.{[], ◌∷◌, ◌++◌}
use Rattle.path_labels.specs.declared.corners.Corner.{Corner}
use Rattle.path_labels.specs.declared.corners.Corners.{Corners}

abbrev pub no_corners : Corners
no_corners = record { labels = []; heights = [] }

-- with one more behind the others
abbrev pub with_corner : Corners → Corner → Corners
with_corner corners corner = record {
  labels = corners.labels ++ corner.label ∷ [];
  heights = corners.heights ++ corner.height ∷ [];
}
