-- Words put into bytes one after the other: the bytes so far, and those of one word more. Assumes nothing.
use Rattle.std.proofs.Common.{◌≡◌, refl, sym, ap, ap₂, ◌∙◌, List, [], ◌∷◌, ◌++◌, append_assoc, ℕ, ◌+◌, ◌<◌, add-one, length, take, get_or, take-suc}
use Rattle.protocol.specs.Record.{word_bytes, bytes_of}
use Rattle.protocol.proofs.Words.{bytes_of_append}

-- one word more of a list
pub word_added : (l m ws start : List ℕ) (at i : ℕ) → i < length ws
    → take at l ≡ start ++ bytes_of (take i ws) → take (at + 4) m ≡ take at l ++ word_bytes (get_or ws i 0)
    → take (at + 4) m ≡ start ++ bytes_of (take (i + 1) ws)
unfolding bytes_of word_bytes
word_added l m ws start at i below before stored =
    let more : take (i + 1) ws ≡ take i ws ++ (get_or ws i 0 ∷ []) = ap (λ n. take n ws) (add-one i) ∙ take-suc ws i 0 below in
    let word : bytes_of (get_or ws i 0 ∷ []) ≡ word_bytes (get_or ws i 0) = refl in
    stored ∙ ap₂ ◌++◌ before (sym word) ∙ append_assoc start _ _
    ∙ ap (λ b. start ++ b) (sym (ap bytes_of more ∙ bytes_of_append (take i ws) (get_or ws i 0 ∷ [])))
