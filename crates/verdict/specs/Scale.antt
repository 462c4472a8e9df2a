-- How the contracts of the check Matrix name v_R(α) v_C(β), which each a_M has as a factor. Assumes nothing.
use Rattle.std.specs.Prelude.{ℕ}
use Rattle.field.specs.Prime.{Prime}
use Rattle.field.specs.Element.{of, ◌⊗◌}
use Rattle.domain.specs.Domain.{vanishing}
use Rattle.protocol.specs.Circuit.{Sizes}

-- its word, from the words of α and β
abbrev pub scale_word : Prime → Sizes → ℕ → ℕ → ℕ
scale_word q s α β = (vanishing s.|R| (of {q = q} α) ⊗ vanishing s.|C| (of β)).word
