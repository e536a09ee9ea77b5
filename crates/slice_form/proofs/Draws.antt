-- A fabric whose marks tie what a placed path ties draws the path's nets.
use Rattle.std.proofs.Common.{◌≡◌, ℕ, ◌<◌, ◌≤◌, Some, Bool, true, refl, sym, ◌∙◌}
use Rattle.std.specs.Prelude.{Contains, slice_get}
use Rattle.mp_base.proofs.Members.{member_contains, contains_member}
use Rattle.switch_net.specs.declared.network.Network.{Network}
use Rattle.fabric.specs.Plan.{Plan, IsFabric}
use Rattle.fabric.specs.Switches.{Net, power, AreSwitches}
use Rattle.nor_net.specs.declared.net.Part.TheVariants.{Input}
use Rattle.nor_net.specs.Elements.{Spot, Joined, Nets}
use Rattle.drawing.specs.Draws.{Point}
use Rattle.array_form.specs.Named.{IsNamed}
use Rattle.array_form.specs.Wires.{Wire, beat, row, to_power, root, hub}
use Rattle.array_form.proofs.Naming.{hub_number}
use Rattle.array_form.proofs.Drawn.{node, draws, inside, node_ground, node_power, node_phase, net_node}
use Rattle.slice_form.specs.Along.{DrawsAlong}
use Rattle.slice_form.specs.Path.{Path, parts, pads, AreNetsOf, IsPath}
use Rattle.slice_form.specs.PathWires.{Across, PathTie, InPath, across_root}
use Rattle.slice_form.proofs.Roots.{root_at, are_roots}
use Rattle.slice_form.proofs.Tapped.{rooted, hubs, switches}
use Rattle.array_form.specs.Named.{Tie}
use Rattle.array_form.specs.Lists.{Layout, net_of, Crossing, IsMadeOf}
use Rattle.array_form.proofs.Made.{named}
use Rattle.slice_form.specs.PathLists.{path_rows, path_columns, path_ties}
use Rattle.slice_form.proofs.Lists.{path_listed, path_in_list}
use Rattle.slice_form.proofs.Columns.{path_lists, lists_path}

pub path_draws : (p : Path) (stub : ℕ → ℕ → Bool) (nets : Nets) → AreNetsOf p nets → IsPath p
    → ((b n : ℕ) → b ≤ p.width → slice_get (parts p b) n ≡ Some Input → stub b n ≡ true → Contains (pads p b) n)
    → (rank : Spot → ℕ) → ((n m : Spot) → nets n ≡ Some (Joined m) → rank m < rank n)
    → (f : Plan) → IsFabric f → (net_of : Wire Across → Net)
    → IsNamed (Wire Across) (InPath p stub) (PathTie p stub) f net_of → net_of to_power ≡ power
    → (number : Net → ℕ) (network : Network) → AreSwitches f number network
    → (node_of : Point → ℕ) × DrawsAlong p stub net_of number network nets node_of
path_draws p stub nets are path stubs rank falls f lawful net_of named power_is number network switched =
    let root_of = root_at nets rank in
    let roots = are_roots nets rank falls in
    let rooted_ = rooted p stub nets are path stubs root_of rank roots in
    let hubs_ = hubs p stub nets are path stubs root_of rank roots in
    let switches_ = switches p stub nets are path stubs root_of rank roots in
    let root_ = root Across nets root_of (across_root p root_of) in (
      node (Wire Across) (InPath p stub) (PathTie p stub) f lawful net_of named root_
          (hub Across) rooted_ nets root_of rank roots hubs_ switches_ number network switched power_is,
      record {
        draws = draws (Wire Across) (InPath p stub) (PathTie p stub) f lawful net_of named root_
            (hub Across) rooted_ nets root_of rank roots hubs_ switches_ number network switched power_is;
        inside = inside (Wire Across) (InPath p stub) (PathTie p stub) f lawful net_of named root_
            (hub Across) rooted_ nets root_of rank roots hubs_ switches_ number network switched power_is;
        ground = node_ground (Wire Across) (InPath p stub) (PathTie p stub) f lawful net_of named root_
            (hub Across) rooted_ nets root_of rank roots hubs_ switches_ number network switched power_is;
        power = node_power (Wire Across) (InPath p stub) (PathTie p stub) f lawful net_of named root_
            (hub Across) rooted_ nets root_of rank roots hubs_ switches_ number network switched power_is;
        phases = node_phase (Wire Across) (InPath p stub) (PathTie p stub) f lawful net_of named root_
            (hub Across) rooted_ nets root_of rank roots hubs_ switches_ number network switched power_is;
        beats = λ b ph i. node_phase (Wire Across) (InPath p stub) (PathTie p stub) f lawful net_of named root_
            (hub Across) rooted_ nets root_of rank roots hubs_ switches_ number network switched power_is ph
            ∙ sym (hub_number (Wire Across) (InPath p stub) (PathTie p stub) f lawful net_of named rooted_.speaks root_
            (hub Across) rooted_ network.nodes number switched.nodes (beat b ph) i);
        rows = λ s i. sym (net_node (Wire Across) (InPath p stub) (PathTie p stub) f lawful net_of named root_
            (hub Across) rooted_ nets root_of rank roots hubs_ switches_ number network switched power_is
            (row s) s i refl);
      },
    )

-- A fabric that is made of a path's wires and ties draws its nets.
pub made_path_draws : (p : Path) (stub : ℕ → ℕ → Bool) (nets : Nets) → AreNetsOf p nets → IsPath p
    → ((b n : ℕ) → b ≤ p.width → slice_get (parts p b) n ≡ Some Input → stub b n ≡ true → Contains (pads p b) n)
    → (rank : Spot → ℕ) → ((n m : Spot) → nets n ≡ Some (Joined m) → rank m < rank n)
    → (f : Plan) → IsFabric f → (y : Layout Across) → IsMadeOf Across y (path_rows p) (path_columns p stub)
    (path_ties p stub) f
    → ((t : Tie (Wire Across)) → PathTie p stub t → Crossing Across y t)
    → (number : Net → ℕ) (network : Network) → AreSwitches f number network
    → (node_of : Point → ℕ) × DrawsAlong p stub (net_of Across y) number network nets node_of
made_path_draws p stub nets are path stubs rank falls f lawful y made crossing number network switched =
    path_draws p stub nets are path stubs rank falls f lawful (net_of Across y)
    (named Across y (path_rows p) (path_columns p stub) (path_ties p stub) f lawful made (InPath p stub)
    (PathTie p stub) (path_lists p stub) (lists_path p stub)
    (λ t h. member_contains (path_ties p stub) t (path_in_list p stub t h))
    (λ t h. path_listed p stub t (contains_member (path_ties p stub) t h))
    (rooted p stub nets are path stubs (root_at nets rank) rank (are_roots nets rank falls)).speaks crossing)
    refl number network switched
