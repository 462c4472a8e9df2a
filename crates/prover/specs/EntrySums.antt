-- What a matrix's entries add up to, as the code takes them: in a column, and in all, where a value for each row, and one for each
-- column, come as lists. Assumes nothing.
use Rattle.std.specs.Prelude.{List, ℕ, eqb, get_or}
use Rattle.algebra.specs.Lists.{pick}
use Rattle.algebra.specs.Sum.{sum_list}
use Rattle.field.specs.Prime.{Prime}
use Rattle.field.specs.Element.{Elem, of, 𝟘, ◌⊗◌}
use Rattle.field.proofs.ElementLaws.{prime_ring}
use Rattle.protocol.specs.Circuit.{Entry}

-- the sum of value × the row's value over the entries in column j
unfoldable pub column_total : {q : Prime} → List (Elem q) → List Entry → ℕ → Elem q
column_total {q} rows entries j = sum_list (prime_ring q) (λ e. pick (eqb e.column j) (of e.value ⊗ get_or rows e.row 𝟘) 𝟘) entries

-- the sum of value × the row's value × the column's value over all entries
unfoldable pub entry_total : {q : Prime} → List (Elem q) → List (Elem q) → List Entry → Elem q
entry_total {q} rows columns entries =
    sum_list (prime_ring q) (λ e. of e.value ⊗ get_or rows e.row 𝟘 ⊗ get_or columns e.column 𝟘) entries
