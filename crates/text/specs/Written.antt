-- What it means that a text was put into a buffer. Assumes nothing.
use Rattle.std.specs.Prelude.{◌≡◌, List, ℕ, ◌+◌, ◌≤◌, length}
use Rattle.text.specs.Buffer.{put}

-- the text stands in the buffer from `at` on, and `place` is the place after it
pub record Written (before : List ℕ) (at : ℕ) (text : List ℕ) (place : ℕ) (after : List ℕ) : Type 0 where
  pub room : at + length text ≤ length before
  pub next : place ≡ at + length text
  pub result : after ≡ put before at text
