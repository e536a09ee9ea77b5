-- The classes of the pieces of a mask.
use Rattle.std.specs.Prelude.{◌≡◌, ℕ, ◌<◌, false, List, length, get_or, map, All}
use Rattle.lam_geom.specs.declared.rect.Rect.{Rect}
use Rattle.lam_geom.specs.Squares.{Square, Adjoin, covered}
use Rattle.switch_net.specs.Classes.{IsInClass}
use Rattle.switch_net.specs.Conductors.{IsChannelSquare}
use Rattle.switch_net.specs.Drawn.{AreNodes, AreRegions, IsOfNode}
use Rattle.mask_pieces.specs.declared.piece.Piece.{Piece}
use Rattle.piece_classes.specs.declared.numbering.Classes.{Classes}
use Rattle.mask_pieces.specs.Pieces.{conducts_at, HasConductor, HasChannel, ArePieces, first_conductor, first_channel}

-- the least squares of the classes
abbrev pub node_squares : List Piece → Classes → List Square
node_squares pieces nodes = map (first_conductor pieces) nodes.roots

abbrev pub channel_squares : List Piece → Classes → List Square
channel_squares pieces channels = map (first_channel pieces) channels.roots

-- the classes of the pieces' squares, and each square's class by the number of its piece
pub record AreClassed (shapes : List Rect) (pieces : List Piece) (nodes channels : Classes) : Type 0 where
  pub pieces_are : ArePieces shapes pieces
  pub as_many : length nodes.numbers ≡ length pieces
  pub as_many_channels : length channels.numbers ≡ length pieces
  pub has_channel : (k : ℕ) → k < length pieces → conducts_at pieces k ≡ false
      → HasChannel pieces k (first_channel pieces k)
  pub roots_are : All (λ k. HasChannel pieces k (first_channel pieces k)) channels.roots
  pub are_nodes : AreNodes (covered shapes) (node_squares pieces nodes)
  pub are_regions : AreRegions (covered shapes) (channel_squares pieces channels)
  pub node_of : (k : ℕ) (s : Square) → HasConductor pieces k s
      → IsOfNode (covered shapes) (node_squares pieces nodes) (get_or nodes.numbers k 0) s
  pub one_node : (n k : ℕ) (s : Square) → IsOfNode (covered shapes) (node_squares pieces nodes) n s
      → HasConductor pieces k s → n ≡ get_or nodes.numbers k 0
  pub channel_of : (k : ℕ) (s : Square) → HasChannel pieces k s
      → IsInClass (Adjoin (IsChannelSquare (covered shapes))) (channel_squares pieces channels)
      (get_or channels.numbers k 0) s
  pub one_channel : (n k : ℕ) (s : Square)
      → IsInClass (Adjoin (IsChannelSquare (covered shapes))) (channel_squares pieces channels) n s
      → HasChannel pieces k s → n ≡ get_or channels.numbers k 0
