-- How the contracts of the indexer and the prover's rounds name lists that come in threes. Assumes nothing.
use Rattle.std.specs.Prelude.{List, ℕ}
use Rattle.protocol.specs.Three.{Three}
use Rattle.protocol.specs.Index.{Index}
use Rattle.circuit.specs.IndexLists.{index_lists}

-- what there is for A, B, C
abbrev pub three_of : {T : Type 0} → T → T → T → Three T
three_of a b c = record { a = a; b = b; c = c }

-- the lent slices of the indexer, in order
abbrev pub twelve : List ℕ → List ℕ → List ℕ → List ℕ → List ℕ → List ℕ → List ℕ → List ℕ → List ℕ → List ℕ → List ℕ → List ℕ → Three (Index (List ℕ))
twelve a b c d e f g h i j k l = three_of (index_lists a b c d) (index_lists e f g h) (index_lists i j k l)
