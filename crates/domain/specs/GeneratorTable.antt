-- The eleven generators of the module's domains, kept as a table (document 01, "Field and domains"): entry k is the word of g_n
-- for n = 2^k. Assumes nothing.
use Rattle.std.specs.Prelude.{List, [], ◌∷◌, ℕ}

unfoldable pub generator_table : List ℕ
generator_table =
    1 ∷ 2013265920 ∷ 1728404513 ∷ 1592366214 ∷ 196396260 ∷ 760005850 ∷ 1721589904 ∷ 397765732 ∷ 1732600167 ∷ 1753498361
    ∷ 341742893 ∷ []
