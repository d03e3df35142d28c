-- A block's answer in 34 words: entries 0 to 31 are the registers' nodes, 32 is the count, 33 the position; with the node of its saturation
-- bit as entry 34 if it has one.
use Rattle.std.specs.Prelude.{List, [], ◌∷◌, ◌++◌, ℕ, zero, suc}
use Rattle.block_map.specs.declared.RegisterMap.{RegisterMap}
use Rattle.block_map.specs.Map.{node_of}

-- the nodes of k registers, from register r on
unfoldable pub nodes_of : RegisterMap → ℕ → ℕ → List ℕ
nodes_of m r zero = []
nodes_of m r (suc k) = node_of m r ∷ nodes_of m (suc r) k

unfoldable pub answer_words : RegisterMap → (position : ℕ) → List ℕ
answer_words m position = nodes_of m 0 32 ++ (m.count ∷ position ∷ [])

abbrev pub flagged_words : RegisterMap → (position bit : ℕ) → List ℕ
flagged_words m position bit = answer_words m position ++ (bit ∷ [])
