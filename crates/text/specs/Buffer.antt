-- Text put into a buffer that is longer than it. Assumes nothing.
use Rattle.std.specs.Prelude.{List, ◌++◌, ℕ, ◌+◌, length, take, drop}

-- the buffer with the text from a place on; what stands before and after stays
unfoldable pub put : List ℕ → ℕ → List ℕ → List ℕ
put buffer at text = take at buffer ++ (text ++ drop (at + length text) buffer)
