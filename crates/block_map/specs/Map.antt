-- The map of a block: its entries, the map at the start, the one of a refused block, and a map with one entry written.
use Rattle.std.specs.Prelude.{List, [], ◌∷◌, ℕ, zero, suc, get_or, set, replicate}
use Rattle.pool.specs.declared.Node.{Node}
use Rattle.pool.specs.Node.{none}
use Rattle.block_map.specs.declared.RegisterMap.{RegisterMap}

abbrev pub node : ℕ → Node
node n = record { 0 = n }

-- the node of register r
abbrev pub node_of : RegisterMap → ℕ → ℕ
node_of m r = (get_or m.nodes r (node 0)).0

-- k nodes, from node r on
unfoldable pub nodes_from : ℕ → ℕ → List Node
nodes_from r zero = []
nodes_from r (suc k) = node r ∷ nodes_from (suc r) k

-- node r for register r
abbrev pub first_map : RegisterMap
first_map = record { nodes = nodes_from 0 32; count = 32 }

-- 32 times no node
abbrev pub no_map : RegisterMap
no_map = record { nodes = replicate 32 (node none); count = 0 }

-- n for register r
abbrev pub written : RegisterMap → (r n count : ℕ) → RegisterMap
written m r n count = record { nodes = set m.nodes r (node n); count = count }
